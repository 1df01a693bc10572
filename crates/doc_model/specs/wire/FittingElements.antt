-- Elements and knowledge whose numbers are in the ranges of their fields, as all are that a program holds.
use Rattle.std.specs.Prelude.{◌<◌, ◌^◌, length}
use Rattle.std.specs.List.{AllByRecursion}
use Rattle.compact_values.specs.Ids.{FitsGuid, FitsExGuid, FitsCellId}
use Rattle.compact_values.specs.Items.{FitsItem, FitsArray, item}
use Rattle.doc_model.specs.wire.WrittenElements.{data_fields}
use Rattle.doc_model.specs.declared.element.Object.{Object}
use Rattle.doc_model.specs.declared.element.Content.{Content}
use Rattle.doc_model.specs.declared.element.Content.TheVariants.{Inline, Apart}
use Rattle.doc_model.specs.declared.element.Body.{Body}
use Rattle.doc_model.specs.declared.element.Body.TheVariants.{Index, Storage, Cell, Revision, Group, Blob}
use Rattle.doc_model.specs.declared.element.Element.{Element}
use Rattle.doc_model.specs.declared.element.NumberedElement.{NumberedElement}
use Rattle.doc_model.specs.declared.knowledge.Range.{Range}
use Rattle.doc_model.specs.wire.ElementRows.{manifest_mapping, cell_mapping, revision_mapping, manifest_root, revision_root}

abbrev pub FitsContent : Content → Type 0
FitsContent (Inline bytes) = FitsItem bytes
FitsContent (Apart blob) = FitsExGuid blob

-- The fields of its data are not longer than a length can tell.
pub record FitsObject (o : Object) : Type 0 where
  pub id : FitsExGuid o.id
  pub partition : o.partition < 2 ^ 64
  pub size : o.size < 2 ^ 64
  pub references : FitsArray FitsExGuid o.references
  pub cells : FitsArray FitsCellId o.cells
  pub content : FitsContent o.content
  pub short : length (data_fields o o.content) < 2 ^ 64

abbrev pub FitsBody : Body → Type 0
FitsBody (Index manifests cells revisions) = AllByRecursion manifest_mapping.fields.Fits manifests × AllByRecursion cell_mapping.fields.Fits cells × AllByRecursion revision_mapping.fields.Fits revisions
FitsBody (Storage schema roots) = FitsGuid schema × AllByRecursion manifest_root.fields.Fits roots
FitsBody (Cell current) = FitsExGuid current
FitsBody (Revision id base roots groups) = FitsExGuid id × FitsExGuid base × AllByRecursion revision_root.fields.Fits roots × AllByRecursion FitsExGuid groups
FitsBody (Group objects) = AllByRecursion FitsObject objects
FitsBody (Blob bytes) = length (item bytes) < 2 ^ 64

abbrev pub FitsElement : Element → Type 0
FitsElement e = FitsExGuid e.id × FitsBody e.body

abbrev pub FitsNumbered : NumberedElement → Type 0
FitsNumbered n = (n.serial < 2 ^ 64) × FitsElement n.element

abbrev pub FitsRange : Range → Type 0
FitsRange r = FitsGuid r.guid × (r.from < 2 ^ 64) × (r.to < 2 ^ 64)
