use Rattle.doc_model.specs.rules.Reached.{named_along, enough}
use Rattle.doc_model.proofs.Once.{joining}
use Rattle.plain_core.specs.Cataloging.{listed}
use Rattle.plain_core.proofs.AlongBases.{Walks}
use Rattle.plain_core.proofs.links.name_along.Given as goal

-- what is named, and what is named from here on
abbrev pub invariant-loop-left : goal.invariant-loop-left
invariant-loop-left l =
    Walks (listed l.catalog) l.revisions.maps.now l.named l.left l.at
    (joining l.fn.named (named_along (listed l.fn.catalog) l.fn.revisions.maps.now (enough l.fn.revisions.maps.now) l.fn.revision))

abbrev pub decreases-loop-left : goal.decreases-loop-left
decreases-loop-left l = l.left
