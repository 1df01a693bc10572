-- Tags and elements as they are written are well-formed, and so is what stands in them.
use Rattle.std.proofs.Common.{◌≡◌, ℕ, suc, ◌≤◌, inl, inr, Bool, true, false, List, [], ◌∷◌, ◌++◌, length, Some, None, refl, sym, ap, subst, ◌∙◌, append_assoc, lit≤}
use Rattle.std.specs.Prelude.{codes}
use Rattle.std.specs.Str.{IsUtf8, chars}
use Rattle.std.proofs.lemmas.List.{append-nil}
use Rattle.std.proofs.lemmas.Str.{IsUtf8-nil, IsUtf8-append, chars-nil}
use Rattle.envelope_grammar.specs.Bytes.{is_name_start, is_name_byte, every}
use Rattle.envelope_grammar.specs.Grammar.{◌▸◌, Space, begins, IsWord, SpellsName, SpellsEndName, SpellsOwn, tag_end, IsMixed}
use Rattle.envelope_grammar.specs.declared.tag.Attribute.{Attribute}
use Rattle.envelope_grammar.specs.declared.tag.Name.{Name}
use Rattle.envelope_grammar.specs.declared.tag.Tag.{Tag}
use Rattle.envelope_write.specs.Xml.{escaped, attribute_text, attributes_text, start_tag, end_tag, element}
use Rattle.envelope_write.specs.WellFormed.{SpellsLongAttribute, SpellsLongAttributes, SpellsLongTag, IsElement}
use Rattle.envelope_write.proofs.Values.{value_spelled, escaped_utf8, is_ascii, ascii_utf8}

-- ---- names

pub record IsName (bytes : List ℕ) : Type 0 where
  pub name : Name
  pub spelled : SpellsName name bytes
  pub utf8 : IsUtf8 bytes

pub local_name : (word : List ℕ) → begins is_name_start word ≡ true → every is_name_byte word ≡ true → length word ≤ 256 → every is_ascii word ≡ true → IsName word
local_name word start rest short utf8 = record {
  name = record { prefix = []; local = word };
  spelled = inl (refl, record { start = start; rest = rest; short = short }, refl);
  utf8 = ascii_utf8 word utf8;
}

pub prefixed_name : (prefix word : List ℕ) → IsWord prefix → IsWord word → every is_ascii (prefix ++ 58 ∷ word) ≡ true → IsName (prefix ++ 58 ∷ word)
prefixed_name prefix word p w utf8 = record {
  name = record { prefix = prefix; local = word };
  spelled = inr (p, w, refl);
  utf8 = ascii_utf8 (prefix ++ 58 ∷ word) utf8;
}

-- ---- attributes

abbrev pub IsFine : List ℕ × List ℕ → Type 0
IsFine attribute = IsName attribute.0 × IsUtf8 attribute.1

abbrev pub AreFine : List (List ℕ × List ℕ) → Type 0
AreFine [] = Unit {0}
AreFine (attribute ∷ more) = IsFine attribute × AreFine more

abbrev meant_by : (attributes : List (List ℕ × List ℕ)) → AreFine attributes → List Attribute
meant_by [] fine = []
meant_by (attribute ∷ more) fine = record { name = fine.0.0.name; value = chars attribute.1 } ∷ meant_by more fine.1

attribute_parts : (name value : List ℕ) → codes " " ++ name ++ codes "=\"" ++ value ++ codes "\"" ≡ 32 ∷ (name ++ (61 ∷ (34 ∷ value ++ (34 ∷ []))))
attribute_parts name value =
    ap (λ (l : List ℕ). 32 ∷ l) (append_assoc (name ++ codes "=\"") value (codes "\"") ∙ append_assoc name (codes "=\"") (value ++ codes "\""))

attribute_spelled : (attribute : List ℕ × List ℕ) (fine : IsFine attribute) →
    let meant : Attribute = record { name = fine.0.name; value = chars attribute.1 } in
    (Space ▸ SpellsLongAttribute meant) (attribute_text attribute.0 attribute.1)
attribute_spelled attribute fine = record {
  front = 32 ∷ [];
  back = attribute.0 ++ (61 ∷ (34 ∷ escaped attribute.1 ++ (34 ∷ [])));
  first = (lit≤ tt, refl);
  second = record {
    front = attribute.0;
    back = 61 ∷ (34 ∷ escaped attribute.1 ++ (34 ∷ []));
    first = fine.0.spelled;
    second = record { front = 61 ∷ []; back = 34 ∷ escaped attribute.1 ++ (34 ∷ []); first = refl; second = value_spelled attribute.1 fine.1; bytes_are = refl };
    bytes_are = refl;
  };
  bytes_are = attribute_parts attribute.0 (escaped attribute.1);
}

attributes_spelled : (attributes : List (List ℕ × List ℕ)) (fine : AreFine attributes) → SpellsLongAttributes (meant_by attributes fine) (attributes_text attributes)
unfolding attributes_text
attributes_spelled [] fine = refl
attributes_spelled (attribute ∷ more) fine = record {
  front = attribute_text attribute.0 attribute.1;
  back = attributes_text more;
  first = attribute_spelled attribute fine.0;
  second = attributes_spelled more fine.1;
  bytes_are = refl;
}

attributes_utf8 : (attributes : List (List ℕ × List ℕ)) → AreFine attributes → IsUtf8 (attributes_text attributes)
unfolding attributes_text
attributes_utf8 [] fine = IsUtf8-nil
attributes_utf8 (attribute ∷ more) fine =
    let blank : IsUtf8 (codes " ") = ascii_utf8 (codes " ") refl in
    let equals : IsUtf8 (codes "=\"") = ascii_utf8 (codes "=\"") refl in
    let quote : IsUtf8 (codes "\"") = ascii_utf8 (codes "\"") refl in
    let named : IsUtf8 (codes " " ++ attribute.0) = IsUtf8-append (codes " ") attribute.0 blank fine.0.0.utf8 in
    let opened : IsUtf8 (codes " " ++ attribute.0 ++ codes "=\"") = IsUtf8-append (codes " " ++ attribute.0) (codes "=\"") named equals in
    let valued : IsUtf8 (codes " " ++ attribute.0 ++ codes "=\"" ++ escaped attribute.1)
    = IsUtf8-append (codes " " ++ attribute.0 ++ codes "=\"") (escaped attribute.1) opened (escaped_utf8 attribute.1 fine.0.1) in
    let closed : IsUtf8 (attribute_text attribute.0 attribute.1)
    = IsUtf8-append (codes " " ++ attribute.0 ++ codes "=\"" ++ escaped attribute.1) (codes "\"") valued quote in
    IsUtf8-append (attribute_text attribute.0 attribute.1) (attributes_text more) closed (attributes_utf8 more fine.1)

-- ---- tags

tag_spelled : (name : List ℕ) (attributes : List (List ℕ × List ℕ)) (closed : Bool) (n : IsName name) (fine : AreFine attributes)
    → SpellsLongTag (record { name = n.name; attributes = meant_by attributes fine; closed = closed }) (start_tag name attributes ++ tag_end closed)
unfolding start_tag
tag_spelled name attributes closed n fine = record {
  front = 60 ∷ [];
  back = name ++ (attributes_text attributes ++ tag_end closed);
  first = refl;
  second = record {
    front = name;
    back = attributes_text attributes ++ tag_end closed;
    first = n.spelled;
    second = record { front = attributes_text attributes; back = tag_end closed; first = attributes_spelled attributes fine; second = refl; bytes_are = refl };
    bytes_are = refl;
  };
  bytes_are = ap (λ (l : List ℕ). 60 ∷ l) (append_assoc name (attributes_text attributes) (tag_end closed));
}

start_utf8 : (name : List ℕ) (attributes : List (List ℕ × List ℕ)) → IsName name → AreFine attributes → IsUtf8 (start_tag name attributes)
unfolding start_tag
start_utf8 name attributes n fine =
    IsUtf8-append (codes "<" ++ name) (attributes_text attributes)
    (IsUtf8-append (codes "<") name (ascii_utf8 (codes "<") refl) n.utf8) (attributes_utf8 attributes fine)

end_utf8 : (name : List ℕ) → IsName name → IsUtf8 (end_tag name)
unfolding end_tag
end_utf8 name n = IsUtf8-append (codes "</" ++ name) (codes ">") (IsUtf8-append (codes "</") name (ascii_utf8 (codes "</") refl) n.utf8) (ascii_utf8 (codes ">") refl)

-- ---- what stands in an element

-- what stands in an element of one level more, with the `</` behind it
pub record IsContent (levels : ℕ) (bytes : List ℕ) : Type 0 where
  pub mixed : IsMixed (IsElement levels) (bytes ++ codes "</")
  pub utf8 : IsUtf8 bytes

pub record IsChild (levels : ℕ) (bytes : List ℕ) : Type 0 where
  pub element : IsElement levels bytes
  pub utf8 : IsUtf8 bytes

no_text : SpellsOwn [] []
no_text = (refl, record { pieces = []; are = tt; spelled = refl; utf8 = IsUtf8-nil; meant = sym chars-nil })

pub text_content : (levels : ℕ) (text bytes : List ℕ) → SpellsOwn text bytes → IsUtf8 bytes → IsContent levels bytes
text_content levels text bytes own utf8 = record {
  mixed = record { texts = []; last = text; mixed = record { front = bytes; back = codes "</"; first = own; second = refl; bytes_are = refl } };
  utf8 = utf8;
}

pub no_content : (levels : ℕ) → IsContent levels []
no_content levels = text_content levels [] [] no_text IsUtf8-nil

pub more_content : (levels : ℕ) (bytes rest : List ℕ) → IsChild levels bytes → IsContent levels rest → IsContent levels (bytes ++ rest)
more_content levels bytes rest child content = record {
  mixed = record {
    texts = [] ∷ content.mixed.texts;
    last = content.mixed.last;
    mixed = record {
      front = bytes;
      back = rest ++ codes "</";
      first = record { front = []; back = bytes; first = no_text; second = child.element; bytes_are = refl };
      second = content.mixed.mixed;
      bytes_are = append_assoc bytes rest (codes "</");
    };
  };
  utf8 = IsUtf8-append bytes rest child.utf8 content.utf8;
}

pub one_child : (levels : ℕ) (bytes : List ℕ) → IsChild levels bytes → IsContent levels bytes
one_child levels bytes child = subst (IsContent levels) (append-nil bytes) (more_content levels bytes [] child (no_content levels))

-- ---- elements

abbrev tag_of : (name : List ℕ) (attributes : List (List ℕ × List ℕ)) → IsName name → AreFine attributes → Bool → Tag
tag_of name attributes n fine closed = record { name = n.name; attributes = meant_by attributes fine; closed = closed }

pub closed_element : (levels : ℕ) (name : List ℕ) (attributes : List (List ℕ × List ℕ)) → IsName name → AreFine attributes → IsChild (suc levels) (element name attributes None)
unfolding IsElement
closed_element levels name attributes n fine = record {
  element = record {
    tag = tag_of name attributes n fine true;
    spelled = record {
      front = start_tag name attributes ++ codes "/>";
      back = [];
      first = tag_spelled name attributes true n fine;
      second = inl (refl, refl);
      bytes_are = sym (append-nil (start_tag name attributes ++ codes "/>"));
    };
  };
  utf8 = IsUtf8-append (start_tag name attributes) (codes "/>") (start_utf8 name attributes n fine) (ascii_utf8 (codes "/>") refl);
}

end_spelled : (name : List ℕ) (n : IsName name) → SpellsEndName n.name (name ++ codes ">")
end_spelled name n = record {
  front = name;
  back = codes ">";
  first = n.spelled;
  second = record { front = []; back = codes ">"; first = refl; second = refl; bytes_are = refl };
  bytes_are = refl;
}

-- the parts of an element with content, as the grammar has them
parts : (start content name : List ℕ) → start ++ (codes ">" ++ content ++ (codes "</" ++ name ++ codes ">")) ≡ (start ++ codes ">") ++ ((content ++ codes "</") ++ (name ++ codes ">"))
parts start content name =
    ap (λ (l : List ℕ). start ++ (62 ∷ l)) (sym (append_assoc content (codes "</") (name ++ codes ">")))
    ∙ sym (append_assoc start (codes ">") ((content ++ codes "</") ++ (name ++ codes ">")))

pub open_element : (levels : ℕ) (name : List ℕ) (attributes : List (List ℕ × List ℕ)) (content : List ℕ) → IsName name → AreFine attributes → IsContent levels content
    → IsChild (suc levels) (element name attributes (Some content))
unfolding IsElement end_tag
open_element levels name attributes content n fine inside = record {
  element = record {
    tag = tag_of name attributes n fine false;
    spelled = record {
      front = start_tag name attributes ++ codes ">";
      back = (content ++ codes "</") ++ (name ++ codes ">");
      first = tag_spelled name attributes false n fine;
      second = inr (refl, record { front = content ++ codes "</"; back = name ++ codes ">"; first = inside.mixed; second = end_spelled name n; bytes_are = refl });
      bytes_are = parts (start_tag name attributes) content name;
    };
  };
  utf8 = IsUtf8-append (start_tag name attributes) (codes ">" ++ content ++ end_tag name) (start_utf8 name attributes n fine)
      (IsUtf8-append (codes ">" ++ content) (end_tag name) (IsUtf8-append (codes ">") content (ascii_utf8 (codes ">") refl) inside.utf8) (end_utf8 name n));
}
