-- Values that are made of values: where the first of those begins that has no form.
use Rattle.std.specs.Prelude.{◌≡◌, ◌≢◌, ◌⊎◌, ℕ, zero, suc, ◌+◌, ◌-◌, ◌≤◌, ◌<◌, List, [], ◌∷◌, ◌++◌, length, drop, Result, Ok, Err, ◌↔◌}
use Rattle.std.specs.List.{AllByRecursion, flat_map}
use Rattle.compact_values.specs.Compact.{SpellsCompact}
use Rattle.compact_values.specs.Reading.{Reading, Value, Cut, Malformed, compact_at}
use Rattle.compact_values.specs.Ids.{SpellsExGuid, FitsExGuid, FitsCellId, exguid, cell_id}
use Rattle.compact_values.specs.IdReading.{exguid_at}
use Rattle.compact_values.specs.declared.ids.ExGuid.{ExGuid}
use Rattle.compact_values.specs.declared.ids.CellId.{CellId}
use Rattle.compact_values.specs.declared.fault.ValueFault.{ValueFault}
use Rattle.compact_values.specs.declared.fault.ValueFault.TheVariants.{Short, OutOfForm}

-- ---- where no value stands

-- However the bytes go on, no spelling stands at their front.
abbrev pub HasNoForm : {V : Type 0} → (V → List ℕ → Type 0) → List ℕ → Type 0
HasNoForm {V} Spells bytes = (v : V) (front rest more : List ℕ) → Spells v front → bytes ++ more ≢ front ++ rest

-- A value that is in no form itself is the first one without a form: `skipped` bytes stand before it.
abbrev pub LacksItself : {V : Type 0} → (V → List ℕ → Type 0) → List ℕ → ℕ → Type 0
LacksItself Spells bytes skipped = (skipped ≡ 0) × HasNoForm Spells bytes

-- A spelling stands at the front, and what is behind it lacks a form.
pub record LacksBehind {V : Type 0} (Spells : V → List ℕ → Type 0) (Lacks : V → List ℕ → ℕ → Type 0) (bytes : List ℕ) (skipped : ℕ) : Type 0 where
  pub value : V
  pub front : List ℕ
  pub rest : List ℕ
  pub inner : ℕ
  pub spelled : Spells value front
  pub bytes_are : bytes ≡ front ++ rest
  pub lacks : Lacks value rest inner
  pub place : skipped ≡ length front + inner

-- The first extended GUID of a cell id that has no form: the first half, or the second behind it.
abbrev pub LacksInCellId : List ℕ → ℕ → Type 0
LacksInCellId bytes skipped = LacksItself SpellsExGuid bytes skipped ⊎ LacksBehind SpellsExGuid (λ first. LacksItself SpellsExGuid) bytes skipped

-- Some spellings stand at the front, fewer than `count`, and the next item lacks a form.
pub record LacksInItems {V : Type 0} (InRange : V → Type 0) (spelling : V → List ℕ) (Lacks : List ℕ → ℕ → Type 0) (count : ℕ) (bytes : List ℕ) (skipped : ℕ) : Type 0 where
  pub before : List V
  pub rest : List ℕ
  pub inner : ℕ
  pub fewer : length before < count
  pub range : AllByRecursion InRange before
  pub bytes_are : bytes ≡ flat_map spelling before ++ rest
  pub lacks : Lacks rest inner
  pub place : skipped ≡ length (flat_map spelling before) + inner

-- The first value of an array that has no form: its count, or what an item lacks behind the ones before.
abbrev pub LacksInArray : {V : Type 0} → (V → Type 0) → (V → List ℕ) → (List ℕ → ℕ → Type 0) → List ℕ → ℕ → Type 0
LacksInArray InRange spelling Lacks bytes skipped =
    LacksItself SpellsCompact bytes skipped ⊎ LacksBehind SpellsCompact (λ count. LacksInItems InRange spelling Lacks count) bytes skipped

abbrev pub LacksInIds : List ℕ → ℕ → Type 0
LacksInIds = LacksInArray FitsExGuid exguid (LacksItself SpellsExGuid)

abbrev pub LacksInCells : List ℕ → ℕ → Type 0
LacksInCells = LacksInArray FitsCellId cell_id LacksInCellId

-- OutOfForm comes exactly where a value without a form is met, with the place of that value.
abbrev pub IsOutOfFormIn : {V : Type 0} → (List ℕ → ℕ → Type 0) → List ℕ → ℕ → Result (V × ℕ) ValueFault → Type 0
IsOutOfFormIn Lacks bytes at answer = (place : ℕ) → (answer ≡ Err (OutOfForm place)) ↔ ((at ≤ place) × Lacks (drop at bytes) (place - at))

-- OutOfForm comes, at some place, exactly where neither a spelling nor a part of one that the input cuts off begins at `at`.
abbrev pub IsRefusedAt : {V : Type 0} → (V → List ℕ → Type 0) → List ℕ → ℕ → Result (V × ℕ) ValueFault → Type 0
IsRefusedAt Spells bytes at answer = ((place : ℕ) × (answer ≡ Err (OutOfForm place))) ↔ HasNoForm Spells (drop at bytes)

-- ---- reading

-- a value and how many bytes it takes; or that the input ends inside it; or how many bytes stand before the first value without a form
pub data PartReading (V : Type 0) : Type 0 where
  Whole : V → ℕ → PartReading V
  Ends : PartReading V
  NoForm : ℕ → PartReading V

-- the answer of a reader that began at `at`, in an input of this length
abbrev pub answer_in : {V : Type 0} → ℕ → ℕ → PartReading V → Result (V × ℕ) ValueFault
answer_in len at (Whole value used) = Ok (value, at + used)
answer_in len at Ends = Err (Short len)
answer_in len at (NoForm skipped) = Err (OutOfForm (at + skipped))

-- a reading that forgets which part has no form
abbrev pub joined : {V : Type 0} → PartReading V → Reading V
joined (Whole v used) = Value v used
joined Ends = Cut
joined (NoForm skipped) = Malformed

-- a value without parts
abbrev pub single : {V : Type 0} → Reading V → PartReading V
single (Value value used) = Whole value used
single Cut = Ends
single Malformed = NoForm 0

abbrev pub second_half : ExGuid → ℕ → Reading ExGuid → PartReading CellId
second_half first used (Value second more) = Whole (record { first = first; second = second }) (used + more)
second_half first used Cut = Ends
second_half first used Malformed = NoForm used

abbrev pub both_halves : Reading ExGuid → List ℕ → PartReading CellId
both_halves (Value first used) bytes = second_half first used (exguid_at (drop used bytes))
both_halves Cut bytes = Ends
both_halves Malformed bytes = NoForm 0

unfoldable pub cell_id_at : List ℕ → PartReading CellId
cell_id_at bytes = both_halves (exguid_at bytes) bytes

-- one item more, and then what `next` reads behind it
abbrev pub item_and : {V : Type 0} → PartReading V → List V → ℕ → (List V → ℕ → PartReading (List V)) → PartReading (List V)
item_and (Whole v more) vs used next = next (vs ++ v ∷ []) more
item_and Ends vs used next = Ends
item_and (NoForm inner) vs used next = NoForm (used + inner)

-- so many items, behind others that take `used` bytes
abbrev pub items_at : {V : Type 0} → (List ℕ → PartReading V) → ℕ → List V → ℕ → List ℕ → PartReading (List V)
items_at read zero vs used bytes = Whole vs used
items_at read (suc n) vs used bytes = item_and (read bytes) vs used (λ more_vs more. items_at read n more_vs (used + more) (drop more bytes))

abbrev pub array_behind : {V : Type 0} → (List ℕ → PartReading V) → Reading ℕ → List ℕ → PartReading (List V)
array_behind read (Value count used) bytes = items_at read count [] used (drop used bytes)
array_behind read Cut bytes = Ends
array_behind read Malformed bytes = NoForm 0

abbrev pub array_at : {V : Type 0} → (List ℕ → PartReading V) → List ℕ → PartReading (List V)
array_at read bytes = array_behind read (compact_at bytes) bytes

unfoldable pub ids_at : List ℕ → PartReading (List ExGuid)
ids_at bytes = array_at (λ b. single (exguid_at b)) bytes

unfoldable pub cells_at : List ℕ → PartReading (List CellId)
cells_at bytes = array_at cell_id_at bytes
