-- Knowledge: the ranges of serial numbers that a client names (MS-FSSHTTPB 2.2.1.13). Types are hexadecimal.
use Rattle.std.specs.Prelude.{◌≡◌, ◌≢◌, ℕ, true, false, List, [], ◌∷◌}
use Rattle.compact_values.specs.Compact.{SpellsCompact}
use Rattle.compact_values.specs.Ids.{SpellsGuid, SpellsSerial}
use Rattle.compact_values.specs.Sequences.{◌▹◌}
use Rattle.compact_values.specs.declared.guid.Guid.{Guid}
use Rattle.compact_values.specs.declared.ids.Serial.{Serial}
use Rattle.compact_values.specs.declared.ids.Serial.TheVariants.{Null, Number}
use Rattle.stream_objects.specs.declared.tree.Tree.{Tree}
use Rattle.stream_objects.specs.declared.tree.Tree.TheViews.{out-Tree}
use Rattle.stream_objects.specs.Objects.{HasFields, One, kind_of}
use Rattle.stream_objects.specs.Gathering.{Gathers}
use Rattle.stream_objects.specs.declared.object_types.TheConstants.{CELL_KNOWLEDGE, CELL_KNOWLEDGE_ENTRY, CELL_KNOWLEDGE_RANGE, SPECIALIZED_KNOWLEDGE}
use Rattle.doc_model.specs.wire.ElementObjects.{NoFields}
use Rattle.doc_model.specs.declared.knowledge.Knowledge.{Knowledge}
use Rattle.doc_model.specs.declared.knowledge.Range.{Range}

-- the GUID of cell knowledge, 327a35f6-0761-4414-9686-51e900667a4d
abbrev pub cell_knowledge : ℕ
cell_knowledge = 0x327a35f607614414968651e900667a4d

-- 0F, cell knowledge range: 16 bytes GUID, compact from, compact to
abbrev pub RangeFields : List ℕ → Tree → Range → Type 0
RangeFields input tree r = HasFields false (SpellsGuid ▹ SpellsCompact ▹ SpellsCompact) input tree (r.guid, (r.from, r.to))

-- 17, cell knowledge entry: serial number
abbrev pub EntryFields : List ℕ → Tree → Serial → Type 0
EntryFields input tree s = HasFields false SpellsSerial input tree s

-- 44, compound, specialized knowledge: 16 bytes GUID
abbrev pub SpecializedFields : List ℕ → Tree → Guid → Type 0
SpecializedFields input tree guid = HasFields true SpellsGuid input tree guid

-- A serial number is a range of one, and null is none.
abbrev pub entry_ranges : Serial → List Range
entry_ranges Null = []
entry_ranges (Number guid value) = record { guid = guid; from = value; to = value } ∷ []

-- what a child of a 14 adds: 0F its range, 17 its serial number, others nothing
pub record AddsRanges (input : List ℕ) (t : Tree) (ranges : List Range) : Type 0 where
  pub range : kind_of t ≡ CELL_KNOWLEDGE_RANGE → (r : Range) × RangeFields input t r × (ranges ≡ r ∷ [])
  pub entry : kind_of t ≡ CELL_KNOWLEDGE_ENTRY → (s : Serial) × EntryFields input t s × (ranges ≡ entry_ranges s)
  pub other : kind_of t ≢ CELL_KNOWLEDGE_RANGE → kind_of t ≢ CELL_KNOWLEDGE_ENTRY → ranges ≡ []

-- 14, compound, cell knowledge
abbrev pub SaysCells : List ℕ → Tree → List Range → Type 0
SaysCells input t ranges = NoFields input t × Gathers (AddsRanges input) (out-Tree t).children ranges

-- What a child of a 10 adds: a 44 with the GUID of cell knowledge holds one 14. A 44 with another GUID is skipped.
pub record AddsCells (input : List ℕ) (t : Tree) (ranges : List Range) : Type 0 where
  pub specialized : kind_of t ≡ SPECIALIZED_KNOWLEDGE → (g : Guid) × SpecializedFields input t g × (g.number ≡ cell_knowledge → One CELL_KNOWLEDGE (SaysCells input) t ranges) × (g.number ≢ cell_knowledge → ranges ≡ [])
  pub other : kind_of t ≢ SPECIALIZED_KNOWLEDGE → ranges ≡ []

-- 10, compound, knowledge
abbrev pub SaysKnowledge : List ℕ → Tree → List Range → Type 0
SaysKnowledge input t ranges = NoFields input t × Gathers (AddsCells input) (out-Tree t).children ranges

abbrev pub IsKnowledge : List ℕ → Tree → Knowledge → Type 0
IsKnowledge input t knowledge = SaysKnowledge input t knowledge.ranges
