-- Tests whether two elements say the same.
use Rattle.std.specs.Prelude.{Bool, false, ◌&&◌, ◌==◌, bytes_eq}
use Rattle.std.specs.Cmp.Lexicographic.{pointwise}
use Rattle.compact_values.specs.SameIds.{same_guid, same_id, same_serial, same_cell}
use Rattle.doc_model.specs.declared.element.Body.{Body}
use Rattle.doc_model.specs.declared.element.Body.TheVariants.{Index, Storage, Cell, Revision, Group, Blob}
use Rattle.doc_model.specs.declared.element.ManifestMap.{ManifestMap}
use Rattle.doc_model.specs.declared.element.CellMap.{CellMap}
use Rattle.doc_model.specs.declared.element.RevisionMap.{RevisionMap}
use Rattle.doc_model.specs.declared.element.Root.{Root}
use Rattle.doc_model.specs.declared.element.RevisionRoot.{RevisionRoot}
use Rattle.doc_model.specs.declared.element.Object.{Object}
use Rattle.doc_model.specs.declared.element.Content.{Content}
use Rattle.doc_model.specs.declared.element.Content.TheVariants.{Inline, Apart}

abbrev pub same_manifest_map : ManifestMap → ManifestMap → Bool
same_manifest_map a b = same_id a.target b.target && same_serial a.serial b.serial

abbrev pub same_cell_map : CellMap → CellMap → Bool
same_cell_map a b = same_cell a.cell b.cell && same_id a.target b.target && same_serial a.serial b.serial

abbrev pub same_revision_map : RevisionMap → RevisionMap → Bool
same_revision_map a b = same_id a.revision b.revision && same_id a.target b.target && same_serial a.serial b.serial

abbrev pub same_root : Root → Root → Bool
same_root a b = same_id a.root b.root && same_cell a.cell b.cell

abbrev pub same_revision_root : RevisionRoot → RevisionRoot → Bool
same_revision_root a b = same_id a.root b.root && same_id a.object b.object

abbrev pub same_content : Content → Content → Bool
same_content (Inline b) (Inline c) = bytes_eq b c
same_content (Apart b) (Apart c) = same_id b c
same_content _ _ = false

abbrev pub same_object : Object → Object → Bool
same_object a b =
    same_id a.id b.id && (a.partition == b.partition) && (a.size == b.size) && pointwise same_id a.references b.references
    && pointwise same_cell a.cells b.cells && same_content a.content b.content

abbrev pub same_body : Body → Body → Bool
same_body (Index m c r) (Index n d s) = pointwise same_manifest_map m n && pointwise same_cell_map c d && pointwise same_revision_map r s
same_body (Storage s r) (Storage t q) = same_guid s t && pointwise same_root r q
same_body (Cell c) (Cell d) = same_id c d
same_body (Revision i b r g) (Revision j c s h) = same_id i j && same_id b c && pointwise same_revision_root r s && pointwise same_id g h
same_body (Group o) (Group p) = pointwise same_object o p
same_body (Blob b) (Blob c) = bytes_eq b c
same_body _ _ = false
