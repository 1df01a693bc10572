use Rattle.journaled_doc.proofs.Moments.{then_leaves, leaves_more}
use Rattle.journaled_doc.proofs.kept.Kept.keep.Goals as goal

pub returns-in-Ok-append-clause-any_moment : goal.returns-in-Ok-append-clause-any_moment
returns-in-Ok-append-clause-any_moment g c = λ calls is.
    let later = rw c.settle.ensures.guid at (c.append.ensures.any_moment calls (c.in-Ok.ensures.done calls is)) in
    then_leaves g.D.Disk.moment g.D.Disk.left_since _ _ _ _ _ (c.settle.ensures.any_moment calls is) (leaves_more g.D.Disk.moment g.D.Disk.left_since _ _ _ _ later (λ x left. (c.requires.keepable, left)))

pub returns-in-Err-append-clause-any_moment : goal.returns-in-Err-append-clause-any_moment
returns-in-Err-append-clause-any_moment g c = λ calls is.
    let later = rw c.settle.ensures.guid at (c.append.ensures.any_moment calls (c.in-Ok.ensures.done calls is)) in
    then_leaves g.D.Disk.moment g.D.Disk.left_since _ _ _ _ _ (c.settle.ensures.any_moment calls is) (leaves_more g.D.Disk.moment g.D.Disk.left_since _ _ _ _ later (λ x left. (c.requires.keepable, left)))
