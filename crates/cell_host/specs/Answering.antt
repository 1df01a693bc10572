-- What a run of `answer` does.
use Rattle.std.specs.Prelude.{◌≡◌, ◌⊎◌, ℕ, ◌<◌, ◌≤◌, List, length, drop, IfSome, None, Some}
use Rattle.std.specs.declared.option.Option.{Option}
use Rattle.std.specs.Option.{option_map}
use Rattle.std.specs.Io.KnownBytes.{Appends, Keeps, IsAtEnd}
use Rattle.compact_values.specs.declared.guid.Guid.{Guid}
use Rattle.host_edge.specs.Causes.{Rose}
use Rattle.host_edge.specs.Streams.{AppendsFront}
use Rattle.http_head.specs.declared.body.TheConstants.{BODY_LIMIT}
use Rattle.cell_host.specs.Answer.{IsAccepted, Answers}
use Rattle.cell_host.specs.Input.{TakesFront}
use Rattle.cell_host.specs.View.{View}
use Rattle.cell_host.specs.declared.status.Status.{Status}
use Rattle.cell_host.specs.declared.status.Status.TheVariants.{Done, Usage, ReadFault, WriteFault, Refused, NoMemory}

-- the statuses with which a run may end
abbrev pub MayEnd : Status → Type 0
MayEnd Usage = ⊥
MayEnd status = Unit {0}

-- the sink is left as it was, where a run ends so that nothing may be written
abbrev pub LeavesOut : Status → Option (List ℕ) → Option (List ℕ) → Type 0
LeavesOut Refused before now = Keeps before now
LeavesOut ReadFault before now = Keeps before now
LeavesOut NoMemory before now = Keeps before now
LeavesOut status before now = Unit {0}

-- the clock was asked this often
abbrev pub Asked : ℕ → Option (List ℕ) → Option (List ℕ) → Type 0
Asked times before now = now ≡ option_map (drop times) before

-- the clock was asked once, or not at all
abbrev pub AskedOnceAtMost : Option (List ℕ) → Option (List ℕ) → Type 0
AskedOnceAtMost before now = Asked 0 before now ⊎ Asked 1 before now

-- the clock was asked once if the input, where it is told, is not too long, else not at all
abbrev pub AskedByLength : Option (List ℕ) → Option (List ℕ) → Option (List ℕ) → Type 0
AskedByLength None before now = AskedOnceAtMost before now
AskedByLength (Some input) before now = (length input ≤ BODY_LIMIT → Asked 1 before now) × (BODY_LIMIT < length input → Asked 0 before now)

-- the clock was asked as often as a run asks that ends so: right after the input has ended, which the source had left
abbrev pub Asks : Status → Option (List ℕ) → Option (List ℕ) → Option (List ℕ) → Type 0
Asks Done left before now = Asked 1 before now
Asks WriteFault left before now = Asked 1 before now
Asks Refused left before now = AskedByLength left before now
Asks NoMemory left before now = AskedOnceAtMost before now
Asks status left before now = Asked 0 before now

-- the source tells what it has left, and this holds of it
abbrev pub IsToldAnd : Option (List ℕ) → (List ℕ → Type 0) → Type 0
IsToldAnd (Some input) P = P input
IsToldAnd None P = ⊥

-- the sink took the whole output
abbrev pub Writes : Guid → Option (List ℕ) → List ℕ → Option (List ℕ) → Option (List ℕ) → Type 0
Writes guid told input before now = (output : List ℕ) × Answers guid told input output × Appends before now output

-- the sink took nothing, or a front of the output
abbrev pub WritesFront : Guid → Option (List ℕ) → List ℕ → Option (List ℕ) → Option (List ℕ) → Type 0
WritesFront guid told input before now = Keeps before now ⊎ ((output : List ℕ) × Answers guid told input output × AppendsFront before now output)

-- a run of `answer` for this GUID, from one moment to another, that ends with this status
pub record Answering (guid : Guid) (before after : View) (status : Status) : Type 0 where
  pub statuses : MayEnd status
  -- with 0 the whole output went out, and the input was read to its end
  pub done : status ≡ Done → IfSome before.left (λ input. Writes guid before.told input before.held after.held)
  pub end : status ≡ Done → IsAtEnd after.left
  -- else a front of it, or nothing
  pub front : IfSome before.left (λ input. WritesFront guid before.told input before.held after.held)
  pub unwritten : LeavesOut status before.held after.held
  -- each other status has its cause
  pub read : status ≡ ReadFault → Rose before.read_faults after.read_faults
  pub write : status ≡ WriteFault → Rose before.write_faults after.write_faults
  pub refused : status ≡ Refused → IfSome before.left (λ input. ¬ IsAccepted input)
  -- what has a cause is answered so
  pub refuses : IsToldAnd before.left (λ input. ¬ IsAccepted input) → (status ≡ Refused) ⊎ (status ≡ ReadFault) ⊎ (status ≡ NoMemory)
  -- where nothing stands in the way, it is done
  pub complete : IsToldAnd before.left (λ input. IsAccepted input) → ¬ Rose before.read_faults after.read_faults
      → ¬ Rose before.write_faults after.write_faults → (status ≡ Done) ⊎ (status ≡ NoMemory)
  -- no fault was passed over
  pub unfailed : status ≡ Done → (after.read_faults ≡ before.read_faults) × (after.write_faults ≡ before.write_faults)
  -- the source gives up a front of so many bytes at most, and the clock is asked when the input has ended
  pub taken : TakesFront 25_165_825 before.left after.left before.taken after.taken
  pub asked : Asks status before.left before.told after.told
