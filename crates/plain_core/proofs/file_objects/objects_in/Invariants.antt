use Rattle.std.proofs.Common.{◌≡◌, ◌++◌, drop}
use Rattle.plain_core.specs.Cataloging.{listed}
use Rattle.plain_core.specs.Filing.{objects_in}
use Rattle.plain_core.proofs.file_objects.objects_in.Given as goal

-- what is there, and what is still to come
abbrev pub invariant-loop-group : goal.invariant-loop-group
invariant-loop-group l = l.all ++ objects_in (listed l.catalog) (drop l.group-index l.groups) ≡ objects_in (listed l.catalog) l.groups
