-- How long the file at an index is, as it is answered.
use Rattle.std.specs.Prelude.{ℕ, nat_lt, if◌then◌else◌, List, length, Option, None, Some, Result, Ok, Err}
use Rattle.compact_values.specs.declared.fault.NoMemory.{NoMemory}
use Rattle.doc_model.specs.rules.Limits.{most_file}
use Rattle.file_nodes.specs.declared.fault.NodeFault.{NodeFault}
use Rattle.file_nodes.specs.declared.fault.NodeFault.TheVariants as faults
use Rattle.plain_core.specs.declared.file_length.FileLength.{FileLength}
use Rattle.plain_core.specs.declared.file_length.FileLength.TheVariants.{Undefined, TooLarge, Known}

-- what is answered for a file, where it is defined
abbrev pub length_of_file : Option (List ℕ) → FileLength
length_of_file None = Undefined
length_of_file (Some file) = if nat_lt most_file (length file) then TooLarge else Known (length file)

-- what is answered for the length of a root's file, or for the fault for which there is none
abbrev pub length_answered : Result ℕ NodeFault → Result FileLength NoMemory
length_answered (Ok size) = Ok (Known size)
length_answered (Err faults.NoMemory) = Err (record {})
length_answered (Err faults.TooLarge) = Ok TooLarge
length_answered (Err (faults.Absent id)) = Ok Undefined
length_answered (Err faults.TooHigh) = Ok Undefined
length_answered (Err (faults.NotANode id)) = Ok Undefined
length_answered (Err (faults.SizeDiffers said found)) = Ok Undefined
