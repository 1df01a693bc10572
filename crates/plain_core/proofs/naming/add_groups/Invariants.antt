use Rattle.std.proofs.Common.{◌≡◌, ◌++◌, drop, map}
use Rattle.doc_model.specs.rules.Reached.{group_name}
use Rattle.plain_core.specs.Cataloging.{listed}
use Rattle.plain_core.proofs.naming.add_groups.Given as goal

-- what is there, and what is still to be done
abbrev pub invariant-loop-group : goal.invariant-loop-group
invariant-loop-group l = l.all ++ map (group_name (listed l.catalog)) (drop l.group-index l.groups) ≡ l.fn.all ++ map (group_name (listed l.catalog)) l.groups
