use Rattle.std.proofs.Common.{◌≡◌, drop, flat_map}
use Rattle.doc_model.specs.rules.Reached.{each_once}
use Rattle.doc_model.proofs.Once.{joining}
use Rattle.plain_core.specs.Cataloging.{listed}
use Rattle.plain_core.specs.Naming.{groups_in}
use Rattle.plain_core.proofs.links.groups_of.Given as goal

-- what is there, and what is still to come
abbrev pub invariant-loop-target : goal.invariant-loop-target
invariant-loop-target l =
    joining l.groups (flat_map (groups_in (listed l.catalog)) (drop l.target-index l.targets)) ≡ each_once (flat_map (groups_in (listed l.catalog)) l.targets)
