-- Where the bytes of a journal fail first.
use Rattle.std.specs.Prelude.{◌≡◌, ◌⊎◌, ℕ, ◌+◌, List, [], ◌∷◌, ◌++◌, length, take, drop, nat_lt, ◌==◌, if◌then◌else◌, Some, None, Ok, Err, Result, ◌≤◌, ◌<◌, ◌^◌, get_or}
use Rattle.std.specs.declared.option.Option.{Option}
use Rattle.compact_values.specs.declared.guid.Guid.{Guid}
use Rattle.compact_values.specs.Reading.{number_of}
use Rattle.cell_journal.specs.Layout.{front, AreBodies, Image}

-- the eight bytes with which a journal begins
abbrev pub signature : List ℕ
signature = 0x01 ∷ 0x43 ∷ 0x45 ∷ 0x4C ∷ 0x4C ∷ 0x4A ∷ 0x4E ∷ 0x4C ∷ []

-- the first place from here on where the bytes are not these, or end too early
abbrev pub differs : ℕ → List ℕ → List ℕ → Option ℕ
differs place [] bytes = None
differs place (want ∷ wants) [] = Some place
differs place (want ∷ wants) (byte ∷ bytes) = if byte == want then differs (place + 1) wants bytes else Some place

-- the first of two faults
abbrev pub first_of : Option ℕ → Option ℕ → Option ℕ
first_of None later = later
first_of (Some place) later = Some place

-- what fails in the first 24 bytes
abbrev pub header_fault : List ℕ → Option ℕ
header_fault bytes = first_of (differs 0 signature bytes) (if nat_lt (length bytes) 24 then Some (length bytes) else None)

-- What stands at a gate: a body, the end of the list, or something that fails at a place.
pub data Step : Type 0 where
  Whole : List ℕ → Step
  Closed : Step
  Fails : ℕ → Step

abbrev pub measured_at : ℕ → List ℕ → Step
measured_at place bytes =
    if nat_lt (length bytes) 8 then Fails (place + length bytes)
    else let size = number_of (take 8 bytes) in
    if nat_lt size 1 then Fails place
    else if nat_lt 33554432 size then Fails place
    else if nat_lt (length bytes) (8 + size) then Fails (place + length bytes)
    else Whole (take size (drop 8 bytes))

-- what stands in the bytes from the gate at this place on
abbrev pub step_at : ℕ → List ℕ → Step
step_at place [] = Fails place
step_at place (gate ∷ rest) = if gate == 1 then measured_at (place + 1) rest else Closed

-- what a reader of the rest from this gate on found: how long a body, or the end
abbrev pub IsJudged : ℕ → List ℕ → Result (Option ℕ) ℕ → Type 0
IsJudged at rest (Ok None) = step_at at rest ≡ Closed
IsJudged at rest (Ok (Some size)) = (step_at at rest ≡ Whole (take size (drop 9 rest))) × (9 + size ≤ length rest)
IsJudged at rest (Err place) = step_at at rest ≡ Fails place

-- The bytes are a header and whole bodies, and then they fail at this place.
pub record FailsBehind (place : ℕ) (bytes : List ℕ) : Type 0 where
  pub guid : Guid
  pub bodies : List (List ℕ)
  pub rest : List ℕ
  pub fit : AreBodies bodies
  pub bytes_are : bytes ≡ front guid bodies ++ rest
  pub fails : step_at (length (front guid bodies)) rest ≡ Fails place

-- The first place where the bytes are no journal.
abbrev pub FailsAt : ℕ → List ℕ → Type 0
FailsAt place bytes = (header_fault bytes ≡ Some place) ⊎ FailsBehind place bytes

abbrev pub FailsSomewhere : List ℕ → Type 0
FailsSomewhere bytes = (place : ℕ) × FailsAt place bytes

-- The bytes are a journal of some GUID and some bodies.
abbrev pub IsJournal : List ℕ → Type 0
IsJournal bytes = (guid : Guid) × (bodies : List (List ℕ)) × (guid.number < 2 ^ 128) × Image guid bodies bytes

abbrev pub AreBytes : List ℕ → Type 0
AreBytes bytes = (i : ℕ) → get_or bytes i 0 < 256
