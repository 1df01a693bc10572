use Rattle.std.proofs.Common.{◌≡◌, drop, flat_map}
use Rattle.doc_model.specs.rules.Reached.{blobs_of, named_blobs}
use Rattle.doc_model.proofs.Once.{joining}
use Rattle.plain_core.specs.Cataloging.{listed}
use Rattle.plain_core.proofs.links.name_blobs.Given as goal

-- what is there, and what is still to come
abbrev pub invariant-loop-group : goal.invariant-loop-group
invariant-loop-group l = joining l.blobs (flat_map (blobs_of (listed l.catalog)) (drop l.group-index l.groups)) ≡ named_blobs (listed l.catalog) l.groups
