use Rattle.change_record.proofs.Pieces.{of_group, of_blob}
use Rattle.change_record.proofs.behind.behind_element.Goals as goal

pub returns-in-Group : goal.returns-in-Group
returns-in-Group c =
    let there = rw c.as_slice.ensures at c.behind_group.ensures in
    rw (of_group c.args.element.now c.in-Group.objects c.in-Group.is) at there

pub returns-in-Blob : goal.returns-in-Blob
returns-in-Blob c = rw (of_blob c.args.element.now c.in-Blob.content c.in-Blob.is) at c.behind_blob.ensures
