-- Well-formed XML: the grammar of envelopes, for elements with any names, and with values of any length.
use Rattle.std.specs.Prelude.{◌≡◌, ℕ, zero, suc, true, not, List, [], ◌∷◌, ◌++◌, ◌==◌}
use Rattle.std.specs.List.{AllByRecursion}
use Rattle.std.specs.Str.{IsUtf8, all_scalars}
use Rattle.doc_model.specs.declared.reply.Reply.{Reply}
use Rattle.doc_model.specs.declared.reply.Reply.TheVariants.{VersionList, Me}
use Rattle.doc_model.specs.declared.reply.Submitted.TheVariants.{Answered}
use Rattle.envelope_grammar.specs.Bytes.{every}
use Rattle.envelope_grammar.specs.Front.{Declaration}
use Rattle.envelope_grammar.specs.Grammar.{◌▸◌, Is, White, Space, SpellsName, SpellsText, Several, tag_end, Behind, IsMixed}
use Rattle.envelope_grammar.specs.declared.tag.Attribute.{Attribute}
use Rattle.envelope_grammar.specs.declared.tag.Tag.{Tag}
use Rattle.envelope_read.specs.declared.collection.Ask.{Ask}
use Rattle.envelope_read.specs.declared.outcome.Outcome.{Outcome}
use Rattle.envelope_read.specs.declared.outcome.Outcome.TheVariants.{Plain}

-- a value in quotes
pub record SpellsValue (value bytes : List ℕ) : Type 0 where
  pub written : List ℕ
  pub inside : every (λ b. not (b == 34)) written ≡ true
  pub no_tag : every (λ b. not (b == 60)) written ≡ true
  pub text : SpellsText value written
  pub bytes_are : bytes ≡ 34 ∷ written ++ (34 ∷ [])

abbrev pub SpellsLongAttribute : Attribute → List ℕ → Type 0
SpellsLongAttribute a = SpellsName a.name ▸ Is (61 ∷ []) ▸ SpellsValue a.value

abbrev pub SpellsLongAttributes : List Attribute → List ℕ → Type 0
SpellsLongAttributes attributes = Several (λ a. Space ▸ SpellsLongAttribute a) (λ _. White) attributes (tt {0})

-- a start tag, which is a whole element where it is closed
abbrev pub SpellsLongTag : Tag → List ℕ → Type 0
SpellsLongTag tag = Is (60 ∷ []) ▸ SpellsName tag.name ▸ SpellsLongAttributes tag.attributes ▸ Is (tag_end tag.closed)

-- an element: its start tag, and what belongs to it behind that
pub record LongElement (Rest : Tag → List ℕ → Type 0) (bytes : List ℕ) : Type 0 where
  pub tag : Tag
  pub spelled : (SpellsLongTag tag ▸ Rest tag) bytes

-- an element that has text and elements in it, at most so many levels
unfoldable pub IsElement : ℕ → List ℕ → Type 0
IsElement zero bytes = ⊥
IsElement (suc levels) bytes = LongElement (Behind (Is []) (IsMixed (IsElement levels))) bytes

-- A whole text in UTF-8: a declaration, and an element of at most 16 levels.
pub record IsWellFormed (text : List ℕ) : Type 0 where
  pub utf8 : IsUtf8 text
  pub spelled : (Declaration ▸ IsElement 16) text

-- ---- texts

-- the numbers are characters
abbrev pub IsText : List ℕ → Type 0
IsText text = all_scalars text ≡ true

-- the users that a reply or an outcome has with it are texts
abbrev pub HasReplyTexts : Reply → Type 0
HasReplyTexts (VersionList commits) = AllByRecursion (λ commit. IsText commit.user) commits
HasReplyTexts (Me user) = IsText user
HasReplyTexts reply = Unit {0}

abbrev pub HasTexts : Outcome → Type 0
HasTexts (Plain (Answered reply)) = HasReplyTexts reply
HasTexts outcome = Unit {0}

-- the addresses and tokens of an envelope are texts
abbrev pub AreTexts : List Ask → Type 0
AreTexts asks = AllByRecursion (λ ask. IsText ask.url × IsText ask.token × AllByRecursion (λ sub. IsText sub.token) ask.subs) asks
