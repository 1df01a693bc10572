-- What the borrowed parts of an element say.
use Rattle.doc_model.specs.rules.Finding as finding
use Rattle.plain_core.specs.declared.sayings.Mappings.{Mappings}
use Rattle.plain_core.specs.declared.sayings.Manifest.{Manifest}

abbrev pub seen_mappings : Mappings → finding.Mappings
seen_mappings m = record { manifests = m.manifests.now; cells = m.cells.now; revisions = m.revisions.now }

abbrev pub seen_manifest : Manifest → finding.Manifest
seen_manifest m = record { base = m.base; roots = m.roots.now; groups = m.groups.now }
