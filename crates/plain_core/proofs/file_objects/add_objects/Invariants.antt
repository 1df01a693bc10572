use Rattle.std.proofs.Common.{◌≡◌, ◌++◌, drop, map}
use Rattle.plain_core.specs.Cataloging.{listed}
use Rattle.plain_core.specs.Filing.{stored}
use Rattle.plain_core.proofs.file_objects.add_objects.Given as goal

-- what is there, and what is still to be done
abbrev pub invariant-loop-object : goal.invariant-loop-object
invariant-loop-object l =
    l.all ++ map (stored (listed l.catalog)) (drop l.object-index l.objects) ≡ l.fn.all ++ map (stored (listed l.catalog)) l.objects
