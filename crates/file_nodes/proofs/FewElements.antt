-- The put of a file that is cut may be made.
use Rattle.std.proofs.Common.{◌≤◌, ◌+◌, arith}
use Rattle.std.proofs.lemmas.List.Elements.{All-from_recursion}
use Rattle.doc_model.specs.rules.Limits.{most_objects}
use Rattle.doc_model.specs.rules.Weights.{objects_written}
use Rattle.file_nodes.specs.ChunkLaws.{CutFileMayBePut}
use Rattle.file_nodes.specs.Chunks.{chunked}
use Rattle.file_nodes.proofs.ChunkLaws.{length-file_objects}

pub cut-file-may-be-put : CutFileMayBePut
cut-file-may-be-put bytes guid first short =
    let few = length-file_objects bytes guid (first + 6) short in
    let elements = (chunked bytes guid first).elements in (
      (omega arith, All-from_recursion (λ e. objects_written e ≤ most_objects) elements (omega arith, (omega arith, (omega arith, (omega arith, (omega arith, tt)))))),
      omega arith,
    )
