-- XML as it is written: values in quotes, tags and elements.
use Rattle.std.specs.Prelude.{ℕ, List, [], ◌∷◌, ◌++◌, ◌==◌, Option, Some, None, codes, if◌then◌else◌}

-- A byte as it stands in a value: `&`, `<`, `>`, the quote, and white space other than blanks as references.
unfoldable pub escape : ℕ → List ℕ
escape b =
    if b == 38 then codes "&amp;"
    else if b == 60 then codes "&lt;"
    else if b == 62 then codes "&gt;"
    else if b == 34 then codes "&quot;"
    else if b == 9 then codes "&#9;"
    else if b == 10 then codes "&#10;"
    else if b == 13 then codes "&#13;"
    else b ∷ []

unfoldable pub escaped : List ℕ → List ℕ
escaped [] = []
escaped (b ∷ bytes) = escape b ++ escaped bytes

-- an attribute behind a blank: its name, and the UTF-8 of its value
abbrev pub attribute_text : List ℕ → List ℕ → List ℕ
attribute_text name value = codes " " ++ name ++ codes "=\"" ++ escaped value ++ codes "\""

unfoldable pub attributes_text : List (List ℕ × List ℕ) → List ℕ
attributes_text [] = []
attributes_text (attribute ∷ more) = attribute_text attribute.0 attribute.1 ++ attributes_text more

-- a start tag, up to what ends it
unfoldable pub start_tag : List ℕ → List (List ℕ × List ℕ) → List ℕ
start_tag name attributes = codes "<" ++ name ++ attributes_text attributes

unfoldable pub end_tag : List ℕ → List ℕ
end_tag name = codes "</" ++ name ++ codes ">"

-- What follows the start tag of an element: its content and its end tag, or where it has none the end of its one tag.
abbrev pub tag_rest : List ℕ → Option (List ℕ) → List ℕ
tag_rest name None = codes "/>"
tag_rest name (Some content) = codes ">" ++ content ++ end_tag name

-- an element: its name, its attributes, and its content, or None where it is one tag
abbrev pub element : List ℕ → List (List ℕ × List ℕ) → Option (List ℕ) → List ℕ
element name attributes content = start_tag name attributes ++ tag_rest name content
