use Rattle.std.proofs.Common.{◌≡◌, drop, flat_map, true}
use Rattle.doc_model.specs.rules.Reached.{named_along, enough, named_revisions}
use Rattle.doc_model.proofs.Once.{joining}
use Rattle.plain_core.specs.Cataloging.{listed}
use Rattle.plain_core.specs.Naming.{is_closed}
use Rattle.plain_core.proofs.links.name_revisions.Given as goal

-- what is named, and what the others name
abbrev pub invariant-loop-current : goal.invariant-loop-current
invariant-loop-current l =
    (joining l.named (flat_map (named_along (listed l.catalog) l.revisions.maps.now (enough l.revisions.maps.now)) (drop l.current-index l.currents))
    ≡ named_revisions (listed l.catalog) l.revisions.maps.now l.currents)
    × (is_closed (listed l.catalog) l.revisions.maps.now l.named ≡ true)
