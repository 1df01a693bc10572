use Rattle.std.proofs.Common.{◌≡◌, ◌++◌, drop, map}
use Rattle.doc_model.specs.rules.Reached.{revision_name}
use Rattle.plain_core.specs.Cataloging.{listed}
use Rattle.plain_core.proofs.naming.add_revisions.Given as goal

-- what is there, and what is still to be done
abbrev pub invariant-loop-revision : goal.invariant-loop-revision
invariant-loop-revision l = l.all ++ map (revision_name (listed l.catalog) l.revisions.maps.now) (drop l.revision-index l.named) ≡ l.fn.all ++ map (revision_name (listed l.catalog) l.revisions.maps.now) l.named
