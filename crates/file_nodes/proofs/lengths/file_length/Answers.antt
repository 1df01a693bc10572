use Rattle.std.proofs.Common.{List, subst}
use Rattle.file_nodes.specs.FileAnswers.{IsLengthResult}
use Rattle.file_nodes.specs.StoredObjects.{StoredObject}
use Rattle.file_nodes.proofs.LengthLaws.{length-of}
use Rattle.file_nodes.proofs.lengths.file_length.Goals as goal

pub returns : goal.returns
returns c =
    subst (λ (l : List StoredObject). IsLengthResult l c.args.root.now c.stored_length.result) c.as_slice.ensures
    (length-of c.as_slice.result.now c.args.root.now c.stored_length.result c.stored_length.ensures)
