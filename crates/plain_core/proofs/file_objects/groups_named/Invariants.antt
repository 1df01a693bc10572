use Rattle.std.proofs.Common.{◌≡◌, drop, map, flat_map}
use Rattle.doc_model.proofs.Once.{joining}
use Rattle.plain_core.specs.Filing.{groups_named}
use Rattle.plain_core.specs.Sayings.{seen_manifest}
use Rattle.plain_core.proofs.file_objects.groups_named.Given as goal

-- what is there, and what is still to come
abbrev pub invariant-loop-manifest : goal.invariant-loop-manifest
invariant-loop-manifest l =
    joining l.groups (flat_map (λ m. m.groups) (map seen_manifest (drop l.manifest-index l.manifests))) ≡ groups_named (map seen_manifest l.manifests)
