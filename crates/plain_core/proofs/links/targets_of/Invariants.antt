use Rattle.std.proofs.Common.{◌≡◌, drop, flat_map}
use Rattle.doc_model.specs.rules.Reached.{each_once, mapping_of}
use Rattle.doc_model.proofs.Once.{joining}
use Rattle.plain_core.specs.Naming.{targets_by}
use Rattle.plain_core.proofs.links.targets_of.Given as goal

-- what is there, and what is still to come
abbrev pub invariant-loop-revision : goal.invariant-loop-revision
invariant-loop-revision l =
    joining l.targets (flat_map (λ r. targets_by (mapping_of l.revisions.maps.now r)) (drop l.revision-index l.named))
    ≡ each_once (flat_map (λ r. targets_by (mapping_of l.revisions.maps.now r)) l.named)
