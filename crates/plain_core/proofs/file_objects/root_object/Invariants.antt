use Rattle.std.proofs.Common.{◌≡◌, drop, map}
use Rattle.doc_model.specs.rules.Files.{root_object}
use Rattle.plain_core.specs.Sayings.{seen_manifest}
use Rattle.plain_core.proofs.file_objects.root_object.Given as goal

-- those before have no root
abbrev pub invariant-loop-manifest : goal.invariant-loop-manifest
invariant-loop-manifest l = root_object (map seen_manifest (drop l.manifest-index l.manifests)) ≡ root_object (map seen_manifest l.manifests)
