-- Reading from left to right: the value at the front and the bytes behind it, where there is one.
use Rattle.std.specs.Prelude.{ℕ, zero, suc, Bool, true, false, ◌&&◌, ◌||◌, not, List, [], ◌∷◌, ◌++◌, ◌==◌, nat_le, length, take, drop, Option, Some, None, encode_utf8, codes, if◌then◌else◌}
use Rattle.std.specs.List.{concat}
use Rattle.std.specs.Str.{is_utf8, chars, bytes_eq}
use Rattle.envelope_grammar.specs.declared.tag.Name.{Name}
use Rattle.envelope_grammar.specs.declared.tag.Attribute.{Attribute}
use Rattle.envelope_grammar.specs.declared.tag.Tag.{Tag}
use Rattle.envelope_grammar.specs.declared.raw.Payload.{Payload}
use Rattle.envelope_grammar.specs.declared.raw.RawSub.{RawSub}
use Rattle.envelope_grammar.specs.declared.raw.RawRequest.{RawRequest}
use Rattle.envelope_grammar.specs.Bytes.{is_white, is_name_start, is_name_byte, run_len}
use Rattle.envelope_grammar.specs.Grammar.{begins, character_of, present}

infixl 10 ◌>>=◌
abbrev pub ◌>>=◌ : {A B : Type 0} → Option A → (A → Option B) → Option B
None >>= f = None
(Some x) >>= f = f x

-- behind white space
abbrev pub past_white : List ℕ → List ℕ
past_white bytes = drop (run_len is_white bytes) bytes

-- behind the byte that must stand there
abbrev pub past : ℕ → List ℕ → Option (List ℕ)
past b [] = None
past b (c ∷ bytes) = if c == b then Some bytes else None

unfoldable pub word_at : List ℕ → Option (List ℕ × List ℕ)
word_at bytes =
    let len = run_len is_name_byte bytes in
    if begins is_name_start bytes && nat_le len 256 then Some (take len bytes, drop len bytes) else None

abbrev pub name_from : List ℕ → List ℕ → Option (List ℕ) → Option (Name × List ℕ)
name_from word rest None = Some (record { prefix = []; local = word }, rest)
name_from word rest (Some behind) = word_at behind >>= λ second. Some (record { prefix = word; local = second.0 }, second.1)

unfoldable pub name_at : List ℕ → Option (Name × List ℕ)
name_at bytes = word_at bytes >>= λ first. name_from first.0 first.1 (past 58 first.1)

abbrev pub in_front : List ℕ → Option (List ℕ) → Option (List ℕ)
in_front bytes None = None
in_front bytes (Some more) = Some (bytes ++ more)

abbrev pub referred : Option ℕ → Option (List ℕ) → Option (List ℕ)
referred None more = None
referred (Some c) more = in_front (encode_utf8 c) more

-- What written bytes mean, as bytes. Behind a `&` the name so far is known.
unfoldable pub meaning : Option (List ℕ) → List ℕ → Option (List ℕ)
meaning None [] = Some []
meaning (Some name) [] = None
meaning None (b ∷ bytes) = if b == 38 then meaning (Some []) bytes else in_front (b ∷ []) (meaning None bytes)
meaning (Some name) (b ∷ bytes) = if b == 59 then referred (character_of name) (meaning None bytes) else meaning (Some (name ++ b ∷ [])) bytes

-- the character of a reference behind its `&`, and what stands behind its `;`
unfoldable pub reference_at : List ℕ → Option (ℕ × List ℕ)
reference_at bytes =
    let len = run_len (λ b. not (b == 59)) bytes in
    past 59 (drop len bytes) >>= λ behind. character_of (take len bytes) >>= λ c. Some (c, behind)

abbrev pub characters : List ℕ → Option (List ℕ)
characters bytes = if is_utf8 bytes then Some (chars bytes) else None

unfoldable pub text_of : List ℕ → Option (List ℕ)
text_of written = meaning None written >>= characters

abbrev pub before : {A : Type 0} → List ℕ → A → Option (A × List ℕ)
before rest x = Some (x, rest)

-- behind the opening quote
unfoldable pub value_until : ℕ → List ℕ → Option (List ℕ × List ℕ)
value_until quote bytes =
    let len = run_len (λ b. not (b == quote)) bytes in
    past quote (drop len bytes) >>= λ rest.
    if nat_le len 4096 && run_len (λ b. not (b == 60)) (take len bytes) == len then text_of (take len bytes) >>= before rest else None

unfoldable pub quoted_at : List ℕ → Option (List ℕ × List ℕ)
quoted_at [] = None
quoted_at (q ∷ bytes) = if q == 34 || q == 39 then value_until q bytes else None

unfoldable pub attribute_at : List ℕ → Option (Attribute × List ℕ)
attribute_at bytes =
    name_at bytes >>= λ name.
    past 61 (past_white name.1) >>= λ behind.
    quoted_at (past_white behind) >>= λ value.
    Some (record { name = name.0; value = value.0 }, value.1)

-- One thing more, or the end of a list.
pub data Step (V E : Type 0) : Type 0 where
  More : V → Step V E
  Last : E → Step V E

abbrev pub listed : {V E : Type 0} → (List ℕ → Option (List V × E × List ℕ)) → Step V E × List ℕ → Option (List V × E × List ℕ)
listed others (More v, rest) = others rest >>= λ x. Some (v ∷ x.0, x.1, x.2)
listed others (Last e, rest) = Some ([], e, rest)

-- The things one after the other up to the last step, in at most `count` steps.
unfoldable pub many : {V E : Type 0} → (List ℕ → Option (Step V E × List ℕ)) → ℕ → List ℕ → Option (List V × E × List ℕ)
many step zero bytes = None
many step (suc count) bytes = step bytes >>= listed (many step count)

abbrev pub all_of : {V E : Type 0} → (List ℕ → Option (Step V E × List ℕ)) → List ℕ → Option (List V × E × List ℕ)
all_of step bytes = many step (length bytes) bytes

abbrev pub is_tag_end : ℕ → Bool
is_tag_end b = b == 62 || b == 47

abbrev pub one_more : {V E : Type 0} → V × List ℕ → Option (Step V E × List ℕ)
one_more x = Some (More x.0, x.1)

-- White space and an attribute, or the white space before the end of the tag.
unfoldable pub attribute_step : List ℕ → Option (Step Attribute (Unit {0}) × List ℕ)
attribute_step bytes =
    if begins is_tag_end (past_white bytes) then Some (Last tt, past_white bytes)
    else if run_len is_white bytes == 0 then None
    else attribute_at (past_white bytes) >>= one_more

abbrev pub tag_end_from : List ℕ → Option (List ℕ) → Option (Bool × List ℕ)
tag_end_from bytes (Some rest) = Some (false, rest)
tag_end_from bytes None = past 47 bytes >>= λ behind. past 62 behind >>= λ rest. Some (true, rest)

unfoldable pub tag_end_at : List ℕ → Option (Bool × List ℕ)
tag_end_at bytes = tag_end_from bytes (past 62 bytes)

-- behind the `<` of a start tag
unfoldable pub tag_at : List ℕ → Option (Tag × List ℕ)
tag_at bytes =
    name_at bytes >>= λ name.
    all_of attribute_step name.1 >>= λ attributes.
    tag_end_at attributes.2 >>= λ end.
    Some (record { name = name.0; attributes = attributes.0; closed = end.0 }, end.1)

-- behind the `</` of an end tag
unfoldable pub end_tag_at : Name → List ℕ → Option (List ℕ)
end_tag_at name bytes =
    name_at bytes >>= λ found.
    if bytes_eq found.0.prefix name.prefix && bytes_eq found.0.local name.local then past 62 (past_white found.1) else None

-- ---- elements whose content is skipped

-- Characters up to the next tag.
unfoldable pub own_text_at : List ℕ → Option (List ℕ × List ℕ)
own_text_at bytes =
    let len = run_len (λ b. not (b == 60)) bytes in
    text_of (take len bytes) >>= before (drop len bytes)

abbrev pub inside_from : (Tag → List ℕ → Option (List ℕ)) → List ℕ → List ℕ → Option (List ℕ) → Option (Step (List ℕ) (List ℕ) × List ℕ)
inside_from skip text behind (Some rest) = Some (Last text, rest)
inside_from skip text behind None = tag_at behind >>= λ tag. skip tag.0 tag.1 >>= λ rest. Some (More text, rest)

-- Characters, and behind them an element that is skipped or the `</` of the end.
unfoldable pub inside_step : (Tag → List ℕ → Option (List ℕ)) → List ℕ → Option (Step (List ℕ) (List ℕ) × List ℕ)
inside_step skip bytes =
    own_text_at bytes >>= λ text.
    past 60 text.1 >>= λ behind.
    inside_from skip text.0 behind (past 47 behind)

-- What stands behind the content of an element, and the characters in it.
unfoldable pub content_at : (Tag → List ℕ → Option (List ℕ)) → List ℕ → Option (List ℕ × List ℕ)
content_at skip bytes = all_of (inside_step skip) bytes >>= λ inside. Some (concat inside.0 ++ inside.1, inside.2)

abbrev pub past_content : (Tag → List ℕ → Option (List ℕ)) → List ℕ → Option (List ℕ)
past_content skip bytes = all_of (inside_step skip) bytes >>= λ inside. Some inside.2

-- What stands behind the element of this tag, with at most so many levels.
unfoldable pub skipped : ℕ → Tag → List ℕ → Option (List ℕ)
skipped zero tag bytes = None
skipped (suc levels) tag bytes = if tag.closed then Some bytes else past_content (skipped levels) bytes >>= end_tag_at tag.name

-- ---- elements among white space

abbrev pub child_from : {V : Type 0} → (Tag → List ℕ → Option (V × List ℕ)) → List ℕ → Option (List ℕ) → Option (Step V (Unit {0}) × List ℕ)
child_from child behind (Some rest) = Some (Last tt, rest)
child_from child behind None = tag_at behind >>= λ tag. child tag.0 tag.1 >>= one_more

-- White space, and behind it an element or the `</` of the end.
unfoldable pub element_step : {V : Type 0} → (Tag → List ℕ → Option (V × List ℕ)) → List ℕ → Option (Step V (Unit {0}) × List ℕ)
element_step child bytes = past 60 (past_white bytes) >>= λ behind. child_from child behind (past 47 behind)

-- The elements in the element of this tag, and what stands behind it.
unfoldable pub elements : {V : Type 0} → (Tag → List ℕ → Option (V × List ℕ)) → Tag → List ℕ → Option (List V × List ℕ)
elements child tag bytes =
    if tag.closed then Some ([], bytes)
    else all_of (element_step child) bytes >>= λ inside. end_tag_at tag.name inside.2 >>= λ rest. Some (inside.0, rest)

abbrev pub is_named : List ℕ → Tag → Bool
is_named word tag = bytes_eq tag.name.local word

abbrev pub data_with : List Attribute → List ℕ → Payload
data_with attributes text = record { attributes = attributes; text = text }

unfoldable pub payload_of : Tag → List ℕ → Option (Payload × List ℕ)
payload_of tag bytes =
    if tag.closed then Some (data_with tag.attributes [], bytes)
    else content_at (skipped 16) bytes >>= λ content. end_tag_at tag.name content.1 >>= λ rest. Some (data_with tag.attributes content.0, rest)

-- An element in a SubRequest: its data, or one that is skipped.
unfoldable pub sub_child_of : Tag → List ℕ → Option (Option Payload × List ℕ)
sub_child_of tag bytes =
    if is_named (codes "SubRequestData") tag then payload_of tag bytes >>= (λ x. Some (Some x.0, x.1))
    else skipped 16 tag bytes >>= λ rest. Some (None, rest)

abbrev pub at_most_one : {V : Type 0} → List V → Option (Option V)
at_most_one [] = Some None
at_most_one (x ∷ []) = Some (Some x)
at_most_one (x ∷ y ∷ xs) = None

abbrev pub sub_with : List Attribute → List (Option Payload) × List ℕ → Option (RawSub × List ℕ)
sub_with attributes parts = at_most_one (present parts.0) >>= λ payload. Some (record { attributes = attributes; payload = payload }, parts.1)

unfoldable pub sub_of : Tag → List ℕ → Option (RawSub × List ℕ)
sub_of tag bytes = if is_named (codes "SubRequest") tag then elements sub_child_of tag bytes >>= sub_with tag.attributes else None

abbrev pub request_with : List Attribute → List RawSub × List ℕ → Option (RawRequest × List ℕ)
request_with attributes subs = Some (record { attributes = attributes; subs = subs.0 }, subs.1)

unfoldable pub request_of : Tag → List ℕ → Option (RawRequest × List ℕ)
request_of tag bytes = if is_named (codes "Request") tag then elements sub_of tag bytes >>= request_with tag.attributes else None

unfoldable pub collection_of : Tag → List ℕ → Option (List RawRequest × List ℕ)
collection_of tag bytes = if is_named (codes "RequestCollection") tag then elements request_of tag bytes else None

-- ---- the document

unfoldable pub open_at : List ℕ → Option (Tag × List ℕ)
open_at bytes = past 60 (past_white bytes) >>= tag_at

unfoldable pub close_at : Name → List ℕ → Option (List ℕ)
close_at name bytes = past 60 (past_white bytes) >>= λ behind. past 47 behind >>= end_tag_at name

-- An element of this name that holds what `inner` reads, among white space.
unfoldable pub holding : {V : Type 0} → List ℕ → (List ℕ → Option (V × List ℕ)) → Tag → List ℕ → Option (V × List ℕ)
holding word inner tag bytes =
    if is_named word tag && not tag.closed then inner bytes >>= (λ x. close_at tag.name x.1 >>= λ rest. Some (x.0, rest)) else None

abbrev pub no_child : Tag → List ℕ → Option (Unit {0} × List ℕ)
no_child tag bytes = None

abbrev pub version_of : Tag → List ℕ → Option (List ℕ)
version_of tag bytes = elements no_child tag bytes >>= λ x. Some x.1

abbrev pub body_from : Tag → List ℕ → Bool → Option (List RawRequest × List ℕ)
body_from tag bytes true = version_of tag bytes >>= λ rest. open_at rest >>= λ second. collection_of second.0 second.1
body_from tag bytes false = collection_of tag bytes

unfoldable pub body_at : List ℕ → Option (List RawRequest × List ℕ)
body_at bytes = open_at bytes >>= λ first. body_from first.0 first.1 (is_named (codes "RequestVersion") first.0)

unfoldable pub envelope_at : List ℕ → Option (List RawRequest × List ℕ)
envelope_at bytes = open_at bytes >>= λ body. holding (codes "Body") body_at body.0 body.1

abbrev pub whole : {V : Type 0} → V × List ℕ → Option V
whole x = if run_len is_white x.1 == length x.1 then Some x.0 else None

unfoldable pub document_at : List ℕ → Option (List RawRequest)
document_at bytes = open_at bytes >>= λ envelope. holding (codes "Envelope") envelope_at envelope.0 envelope.1 >>= whole
