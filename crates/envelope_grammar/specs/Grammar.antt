-- The grammar of a tag: which texts spell a value, as sets of byte lists.
use Rattle.std.specs.Prelude.{◌≡◌, ◌≢◌, ℕ, zero, suc, ◌+◌, ◌*◌, ◌-◌, ◌≤◌, ◌⊎◌, Bool, true, false, ◌||◌, not, List, [], ◌∷◌, ◌++◌, ◌==◌, nat_lt, length, Option, Some, None, encode_utf8, codes, if◌then◌else◌}
use Rattle.std.specs.List.{concat}
use Rattle.envelope_grammar.specs.declared.raw.Payload.{Payload}
use Rattle.envelope_grammar.specs.declared.raw.RawSub.{RawSub}
use Rattle.envelope_grammar.specs.declared.raw.RawRequest.{RawRequest}
use Rattle.std.specs.Str.{IsUtf8, chars, bytes_eq}
use Rattle.envelope_grammar.specs.declared.tag.Name.{Name}
use Rattle.envelope_grammar.specs.declared.tag.Attribute.{Attribute}
use Rattle.envelope_grammar.specs.declared.tag.Tag.{Tag}
use Rattle.envelope_grammar.specs.Bytes.{is_white, is_between, is_name_start, is_name_byte, every}

-- A text of the first language, and behind it one of the second.
pub record Then (P Q : List ℕ → Type 0) (bytes : List ℕ) : Type 0 where
  pub front : List ℕ
  pub back : List ℕ
  pub first : P front
  pub second : Q back
  pub bytes_are : bytes ≡ front ++ back

infixr 20 ◌▸◌
abbrev pub ◌▸◌ : (List ℕ → Type 0) → (List ℕ → Type 0) → List ℕ → Type 0
P ▸ Q = Then P Q

abbrev pub Is : List ℕ → List ℕ → Type 0
Is word bytes = bytes ≡ word

abbrev pub White : List ℕ → Type 0
White bytes = every is_white bytes ≡ true

-- at least one
abbrev pub Space : List ℕ → Type 0
Space bytes = (1 ≤ length bytes) × White bytes

abbrev pub begins : (ℕ → Bool) → List ℕ → Bool
begins passes [] = false
begins passes (b ∷ bytes) = passes b

pub record IsWord (word : List ℕ) : Type 0 where
  pub start : begins is_name_start word ≡ true
  pub rest : every is_name_byte word ≡ true
  pub short : length word ≤ 256

-- with or without a prefix
abbrev pub SpellsName : Name → List ℕ → Type 0
SpellsName name bytes =
    ((name.prefix ≡ []) × IsWord name.local × (bytes ≡ name.local))
    ⊎ (IsWord name.prefix × IsWord name.local × (bytes ≡ name.prefix ++ 58 ∷ name.local))

-- ---- values

abbrev pub digit_of : ℕ → ℕ
digit_of d =
    if is_between 48 57 d then d - 48
    else if is_between 65 70 d then d - 55
    else if is_between 97 102 d then d - 87
    else 16

-- the number that the digits mean, in a base, behind those that mean `high`
unfoldable pub number_of : ℕ → ℕ → List ℕ → Option ℕ
number_of base high [] = Some high
number_of base high (d ∷ digits) = if nat_lt (digit_of d) base then number_of base (high * base + digit_of d) digits else None

abbrev pub is_scalar : ℕ → Bool
is_scalar c = nat_lt c 0xD800 || is_between 0xE000 0x10FFFF c

abbrev pub scalar_of : Option ℕ → Option ℕ
scalar_of None = None
scalar_of (Some c) = if is_scalar c then Some c else None

-- the character that one or more digits name
abbrev pub numbered : ℕ → List ℕ → Option ℕ
numbered base [] = None
numbered base (d ∷ digits) = scalar_of (number_of base 0 (d ∷ digits))

-- decimal, or hexadecimal behind an `x`
abbrev pub numeric : List ℕ → Option ℕ
numeric [] = None
numeric (x ∷ digits) = if x == 120 then numbered 16 digits else numbered 10 (x ∷ digits)

-- behind a `#`
abbrev pub hashed : List ℕ → Option ℕ
hashed [] = None
hashed (h ∷ rest) = if h == 35 then numeric rest else None

-- the character that stands for what is between `&` and `;`
unfoldable pub character_of : List ℕ → Option ℕ
character_of name =
    if bytes_eq name (97 ∷ 109 ∷ 112 ∷ []) then Some 38
    else if bytes_eq name (108 ∷ 116 ∷ []) then Some 60
    else if bytes_eq name (103 ∷ 116 ∷ []) then Some 62
    else if bytes_eq name (113 ∷ 117 ∷ 111 ∷ 116 ∷ []) then Some 34
    else if bytes_eq name (97 ∷ 112 ∷ 111 ∷ 115 ∷ []) then Some 39
    else hashed name

-- a byte that stands for itself, or a reference with its character
pub data Piece : Type 0 where
  Plain : ℕ → Piece
  Reference : List ℕ → ℕ → Piece

abbrev pub IsPiece : Piece → Type 0
IsPiece (Plain b) = b ≢ 38
IsPiece (Reference name c) = (every (λ b. not (b == 59)) name ≡ true) × (character_of name ≡ Some c)

abbrev pub as_written : List Piece → List ℕ
as_written [] = []
as_written (Plain b ∷ pieces) = b ∷ as_written pieces
as_written (Reference name c ∷ pieces) = 38 ∷ name ++ (59 ∷ as_written pieces)

abbrev pub as_meant : List Piece → List ℕ
as_meant [] = []
as_meant (Plain b ∷ pieces) = b ∷ as_meant pieces
as_meant (Reference name c ∷ pieces) = encode_utf8 c ++ as_meant pieces

abbrev pub ArePieces : List Piece → Type 0
ArePieces [] = Unit {0}
ArePieces (p ∷ pieces) = IsPiece p × ArePieces pieces

-- Characters and references, which mean the characters of `value`.
pub record SpellsText (value written : List ℕ) : Type 0 where
  pub pieces : List Piece
  pub are : ArePieces pieces
  pub spelled : written ≡ as_written pieces
  pub utf8 : IsUtf8 (as_meant pieces)
  pub meant : value ≡ chars (as_meant pieces)

-- ---- tags

pub record SpellsQuoted (value bytes : List ℕ) : Type 0 where
  pub quote : ℕ
  pub written : List ℕ
  pub is_quote : (quote ≡ 34) ⊎ (quote ≡ 39)
  pub inside : every (λ b. not (b == quote)) written ≡ true
  pub no_tag : every (λ b. not (b == 60)) written ≡ true
  pub short : length written ≤ 4096
  pub text : SpellsText value written
  pub bytes_are : bytes ≡ quote ∷ written ++ (quote ∷ [])

abbrev pub SpellsAttribute : Attribute → List ℕ → Type 0
SpellsAttribute a = SpellsName a.name ▸ White ▸ Is (61 ∷ []) ▸ White ▸ SpellsQuoted a.value

-- Any number of things, and what ends them.
abbrev pub Several : {V E : Type 0} → (V → List ℕ → Type 0) → (E → List ℕ → Type 0) → List V → E → List ℕ → Type 0
Several Item End [] e = End e
Several Item End (v ∷ vs) e = Item v ▸ Several Item End vs e

-- attributes, each behind white space, and white space before the end of the tag
abbrev pub SpellsAttributes : List Attribute → List ℕ → Type 0
SpellsAttributes attributes = Several (λ a. Space ▸ SpellsAttribute a) (λ _. White) attributes (tt {0})

abbrev pub tag_end : Bool → List ℕ
tag_end true = 47 ∷ 62 ∷ []
tag_end false = 62 ∷ []

-- a start tag, which is a whole element where it is closed
abbrev pub SpellsTag : Tag → List ℕ → Type 0
SpellsTag tag = Is (60 ∷ []) ▸ SpellsName tag.name ▸ SpellsAttributes tag.attributes ▸ Is (tag_end tag.closed)

-- the end tag of this name, behind its `</`
abbrev pub SpellsEndName : Name → List ℕ → Type 0
SpellsEndName name = SpellsName name ▸ White ▸ Is (62 ∷ [])

-- ---- elements

-- an element: its start tag, and what belongs to it behind that
pub record Element (Behind : Tag → List ℕ → Type 0) (bytes : List ℕ) : Type 0 where
  pub tag : Tag
  pub spelled : (SpellsTag tag ▸ Behind tag) bytes

-- Behind the start tag: nothing where it is closed, else the content and the end tag. The content ends with the `</`.
abbrev pub Behind : (List ℕ → Type 0) → (List ℕ → Type 0) → Tag → List ℕ → Type 0
Behind Closed Content tag bytes = ((tag.closed ≡ true) × Closed bytes) ⊎ ((tag.closed ≡ false) × (Content ▸ SpellsEndName tag.name) bytes)

-- characters without a tag
abbrev pub SpellsOwn : List ℕ → List ℕ → Type 0
SpellsOwn text bytes = (every (λ b. not (b == 60)) bytes ≡ true) × SpellsText text bytes

-- elements with characters round them
abbrev pub SpellsMixed : (List ℕ → Type 0) → List (List ℕ) → List ℕ → List ℕ → Type 0
SpellsMixed Inner = Several (λ text. SpellsOwn text ▸ Inner) (λ text. SpellsOwn text ▸ Is (60 ∷ 47 ∷ []))

pub record IsMixed (Inner : List ℕ → Type 0) (bytes : List ℕ) : Type 0 where
  pub texts : List (List ℕ)
  pub last : List ℕ
  pub mixed : SpellsMixed Inner texts last bytes

-- what belongs to a skipped element of at most so many levels, behind its start tag
unfoldable pub IsSkippedBehind : ℕ → Tag → List ℕ → Type 0
IsSkippedBehind zero tag bytes = ⊥
IsSkippedBehind (suc levels) tag bytes = Behind (Is []) (IsMixed (Element (IsSkippedBehind levels))) tag bytes

-- the characters outside elements, which are skipped
pub record SpellsContent (text bytes : List ℕ) : Type 0 where
  pub texts : List (List ℕ)
  pub last : List ℕ
  pub mixed : SpellsMixed (Element (IsSkippedBehind 16)) texts last bytes
  pub text_is : text ≡ concat texts ++ last

-- elements among white space
abbrev pub SpellsChildren : {V : Type 0} → (V → Tag → List ℕ → Type 0) → List V → List ℕ → Type 0
SpellsChildren Child vs = Several (λ v. White ▸ Element (Child v)) (λ _. White ▸ Is (60 ∷ 47 ∷ [])) vs (tt {0})

-- Behind its start tag: these elements.
abbrev pub SpellsElements : {V : Type 0} → (V → Tag → List ℕ → Type 0) → List V → Tag → List ℕ → Type 0
SpellsElements Child vs = Behind (λ b. (vs ≡ []) × (b ≡ [])) (SpellsChildren Child vs)

abbrev pub IsNamed : List ℕ → Tag → Type 0
IsNamed word tag = tag.name.local ≡ word

abbrev pub SpellsPayload : Payload → Tag → List ℕ → Type 0
SpellsPayload payload tag bytes = (payload.attributes ≡ tag.attributes) × Behind (λ b. (payload.text ≡ []) × (b ≡ [])) (SpellsContent payload.text) tag bytes

-- in a SubRequest: its data, or an element that is skipped
abbrev pub SpellsSubChild : Option Payload → Tag → List ℕ → Type 0
SpellsSubChild (Some payload) tag bytes = IsNamed (codes "SubRequestData") tag × SpellsPayload payload tag bytes
SpellsSubChild None tag bytes = (¬ IsNamed (codes "SubRequestData") tag) × IsSkippedBehind 16 tag bytes

-- those that are there
abbrev pub present : {V : Type 0} → List (Option V) → List V
present [] = []
present (None ∷ xs) = present xs
present (Some x ∷ xs) = x ∷ present xs

abbrev pub AtMostOne : {V : Type 0} → List V → Option V → Type 0
AtMostOne vs None = vs ≡ []
AtMostOne vs (Some v) = vs ≡ v ∷ []

pub record SpellsSub (sub : RawSub) (tag : Tag) (bytes : List ℕ) : Type 0 where
  pub named : IsNamed (codes "SubRequest") tag
  pub attributes : sub.attributes ≡ tag.attributes
  pub parts : List (Option Payload)
  pub one : AtMostOne (present parts) sub.payload
  pub spelled : SpellsElements SpellsSubChild parts tag bytes

pub record SpellsRequest (request : RawRequest) (tag : Tag) (bytes : List ℕ) : Type 0 where
  pub named : IsNamed (codes "Request") tag
  pub attributes : request.attributes ≡ tag.attributes
  pub spelled : SpellsElements SpellsSub request.subs tag bytes

abbrev pub SpellsCollection : List RawRequest → Tag → List ℕ → Type 0
SpellsCollection requests tag bytes = IsNamed (codes "RequestCollection") tag × SpellsElements SpellsRequest requests tag bytes

-- ---- the document

-- what stands between the start tag of an element of this name and its end
pub record Holding (word : List ℕ) (Inner : List ℕ → Type 0) (tag : Tag) (bytes : List ℕ) : Type 0 where
  pub named : IsNamed word tag
  pub opened : tag.closed ≡ false
  pub spelled : (Inner ▸ White ▸ Is (60 ∷ 47 ∷ []) ▸ SpellsEndName tag.name) bytes

-- a RequestVersion, which holds only white space
abbrev pub SpellsVersion : Tag → List ℕ → Type 0
SpellsVersion tag bytes = IsNamed (codes "RequestVersion") tag × Behind (Is []) (White ▸ Is (60 ∷ 47 ∷ [])) tag bytes

-- in a Body: a RequestCollection, with or without a RequestVersion before it
abbrev pub SpellsBody : List RawRequest → List ℕ → Type 0
SpellsBody requests bytes =
    (White ▸ Element (SpellsCollection requests)) bytes
    ⊎ ((White ▸ Element SpellsVersion) ▸ White ▸ Element (SpellsCollection requests)) bytes

-- in an Envelope: a Body
abbrev pub SpellsEnvelope : List RawRequest → List ℕ → Type 0
SpellsEnvelope requests = White ▸ Element (Holding (codes "Body") (SpellsBody requests))

abbrev pub SpellsDocument : List RawRequest → List ℕ → Type 0
SpellsDocument requests = (White ▸ Element (Holding (codes "Envelope") (SpellsEnvelope requests))) ▸ White
