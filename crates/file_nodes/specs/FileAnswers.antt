-- What the reader of a file answers.
use Rattle.std.specs.Prelude.{◌≡◌, ◌≢◌, ℕ, ◌<◌, ◌≤◌, ◌⊎◌, List, length, Option, Some, None, Result, Ok, Err}
use Rattle.compact_values.specs.declared.ids.ExGuid.{ExGuid}
use Rattle.doc_model.specs.rules.FileObjects.{root_file}
use Rattle.doc_model.specs.rules.Limits.{most_file}
use Rattle.file_nodes.specs.FileWalks.{stored_objects, first_fault}
use Rattle.file_nodes.specs.declared.fault.NodeFault.{NodeFault}
use Rattle.file_nodes.specs.declared.fault.NodeFault.TheVariants.{Absent, TooHigh, NotANode, SizeDiffers, TooLarge, NoMemory}
use Rattle.file_nodes.specs.StoredObjects.{StoredObject}

-- the file that a root stands for, where it is defined
abbrev pub stored_file : List StoredObject → ExGuid → Option (List ℕ)
stored_file objects root = root_file (stored_objects objects) root

-- A file is defined exactly where a walk has no fault, and its length is the one that was found.
abbrev pub Agrees : Option (List ℕ) → Result ℕ NodeFault → Type 0
Agrees (Some file) (Ok size) = size ≡ length file
Agrees None (Err fault) = Unit {0}
Agrees (Some file) (Err fault) = ⊥
Agrees None (Ok size) = ⊥

-- This is the file, and it isn't too large.
abbrev pub IsFile : List StoredObject → ExGuid → List ℕ → Type 0
IsFile objects root file = (stored_file objects root ≡ Some file) × (length file ≤ most_file)

-- There is a file, and it is too large.
abbrev pub IsTooLarge : List StoredObject → ExGuid → Type 0
IsTooLarge objects root = (file : List ℕ) × (stored_file objects root ≡ Some file) × (most_file < length file)

-- What an answer says. A fault of the walk is the first one.
abbrev pub IsFileResult : List StoredObject → ExGuid → Result (List ℕ) NodeFault → Type 0
IsFileResult objects root (Ok file) = IsFile objects root file
IsFileResult objects root (Err (Absent id)) = first_fault objects root ≡ Some (Absent id)
IsFileResult objects root (Err TooHigh) = first_fault objects root ≡ Some TooHigh
IsFileResult objects root (Err (NotANode id)) = first_fault objects root ≡ Some (NotANode id)
IsFileResult objects root (Err (SizeDiffers said found)) = first_fault objects root ≡ Some (SizeDiffers said found)
IsFileResult objects root (Err TooLarge) = IsTooLarge objects root
IsFileResult objects root (Err NoMemory) = Unit {0}

-- The same of its length alone: how long the file is, or the fault for which there is none.
abbrev pub IsLengthResult : List StoredObject → ExGuid → Result ℕ NodeFault → Type 0
IsLengthResult objects root (Ok size) = (file : List ℕ) × IsFile objects root file × (size ≡ length file)
IsLengthResult objects root (Err fault) = IsFileResult objects root (Err fault)

-- The answer is this one, unless memory was wanting.
abbrev pub IsOrNoMemory : {A : Type 0} → Result A NodeFault → Result A NodeFault → Type 0
IsOrNoMemory answer this = (answer ≡ this) ⊎ (answer ≡ Err NoMemory)

-- The answer is this one exactly where the fact holds, want of memory aside.
abbrev pub Exactly : {A : Type 0} → Result A NodeFault → Result A NodeFault → Type 0 → Type 0
Exactly answer this Fact = (answer ≡ this → Fact) × (Fact → IsOrNoMemory answer this)

-- the length of what was answered
abbrev pub length_said : Result (List ℕ) NodeFault → Result ℕ NodeFault
length_said (Ok file) = Ok (length file)
length_said (Err fault) = Err fault

-- An answer that says the length is that of any answer that says the file, where memory suffices for both.
abbrev pub LengthOfTheFile : Type 0
LengthOfTheFile =
    (objects : List StoredObject) (root : ExGuid) (size : Result ℕ NodeFault) (file : Result (List ℕ) NodeFault) → IsLengthResult objects root size
    → IsFileResult objects root file → size ≢ Err NoMemory → file ≢ Err NoMemory → size ≡ length_said file
