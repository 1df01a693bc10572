-- The regular object types are what the standard's tables say field by field: their fields are spelled one behind the other,
-- and written so.
use Rattle.std.proofs.Common.{◌≡◌, ℕ, false, List, ◌++◌, refl, sym, ap, append_assoc}
use Rattle.compact_values.specs.Both.{SpellsBoth}
use Rattle.compact_values.specs.Ids as ids
use Rattle.compact_values.specs.Ids.{SpellsGuid, SpellsExGuid, SpellsSerial, SpellsCellId}
use Rattle.compact_values.specs.declared.guid.Guid.{Guid}
use Rattle.compact_values.specs.declared.ids.ExGuid.{ExGuid}
use Rattle.stream_objects.specs.Objects.{HasFields, fields_of}
use Rattle.stream_objects.specs.Written.{simple_object}
use Rattle.stream_objects.specs.declared.tree.Tree.{Tree}
use Rattle.wire_kinds.specs.Kind.{Kind, Spells, ◌▹◌}
use Rattle.wire_kinds.specs.Code.{Code, ◌▸◌}
use Rattle.wire_kinds.specs.Code as codes
use Rattle.wire_kinds.specs.Pairs.{joined, parted}
use Rattle.wire_kinds.specs.Row.{IsOf, row_bytes, simple}
use Rattle.doc_model.specs.wire.ElementRows.{manifest_mapping, cell_mapping, revision_mapping, schema_guid, manifest_root, current_revision, revision_manifest, revision_root, group_reference}
use Rattle.doc_model.specs.declared.element.ManifestMap.{ManifestMap}
use Rattle.doc_model.specs.declared.element.CellMap.{CellMap}
use Rattle.doc_model.specs.declared.element.RevisionMap.{RevisionMap}
use Rattle.doc_model.specs.declared.element.Root.{Root}
use Rattle.doc_model.specs.declared.element.RevisionRoot.{RevisionRoot}

-- either of two facts follows from the other
abbrev Same : Type 0 → Type 0 → Type 0
Same A B = (A → B) × (B → A)

module _ (input : List ℕ) (t : Tree) where
  -- two fields, and three, each kind with how it is read
  two : {A B V : Type 0} (number : ℕ) {first : Kind A} {second : Kind B} (f : Code first) (g : Code second) (fields : V → A × B) (v : V)
      → Same (IsOf (simple number (first ▹ second) fields) input t v) (HasFields false (SpellsBoth (Spells first) (Spells second)) input t (fields v))
  two {A} {B} {V} number {first} {second} f g fields v = (
    λ h. record { mark = h.mark; fields = parted first second f.take g.take f.exact g.exact (fields v) (fields_of input t) (record { range = h.fields.range; bytes_are = h.fields.bytes_are }) },
    λ h. let s = joined first second f.take g.take f.exact g.exact (fields v) (fields_of input t) h.fields in record { mark = h.mark; fields = record { range = s.range; bytes_are = s.bytes_are } },
  )

  three : {A B C V : Type 0} (number : ℕ) {first : Kind A} {second : Kind B} {third : Kind C} (f : Code first) (g : Code second) (k : Code third) (fields : V → A × (B × C)) (v : V)
      → Same (IsOf (simple number (first ▹ second ▹ third) fields) input t v) (HasFields false (SpellsBoth (Spells first) (SpellsBoth (Spells second) (Spells third))) input t (fields v))
  three {A} {B} {C} {V} number {first} {second} {third} f g k fields v = (
    λ h.
        let s = parted first (second ▹ third) f.take (g ▸ k).take f.exact (g ▸ k).exact (fields v) (fields_of input t) (record { range = h.fields.range; bytes_are = h.fields.bytes_are }) in
        let b = parted second third g.take k.take g.exact k.exact (fields v).1 s.back s.second in
        record { mark = h.mark; fields = record { front = s.front; back = s.back; first = s.first; second = b; bytes_are = s.bytes_are } },
    λ h.
        let b = joined second third g.take k.take g.exact k.exact (fields v).1 h.fields.back h.fields.second in
        let s = joined first (second ▹ third) f.take (g ▸ k).take f.exact (g ▸ k).exact (fields v) (fields_of input t)
        (record { front = h.fields.front; back = h.fields.back; first = h.fields.first; second = b; bytes_are = h.fields.bytes_are }) in
        record { mark = h.mark; fields = record { range = s.range; bytes_are = s.bytes_are } },
  )

  -- ---- what an object of each type is

  pub manifest_mapping_is : (m : ManifestMap) → Same (IsOf manifest_mapping input t m) (HasFields false (SpellsBoth SpellsExGuid SpellsSerial) input t (m.target, m.serial))
  manifest_mapping_is m = two 0x11 codes.exguid codes.serial (λ (m : ManifestMap). (m.target, m.serial)) m

  pub cell_mapping_is : (m : CellMap) → Same (IsOf cell_mapping input t m) (HasFields false (SpellsBoth SpellsCellId (SpellsBoth SpellsExGuid SpellsSerial)) input t (m.cell, (m.target, m.serial)))
  cell_mapping_is m = three 0x0E codes.cell_id codes.exguid codes.serial (λ (m : CellMap). (m.cell, (m.target, m.serial))) m

  pub revision_mapping_is : (m : RevisionMap) → Same (IsOf revision_mapping input t m) (HasFields false (SpellsBoth SpellsExGuid (SpellsBoth SpellsExGuid SpellsSerial)) input t (m.revision, (m.target, m.serial)))
  revision_mapping_is m = three 0x0D codes.exguid codes.exguid codes.serial (λ (m : RevisionMap). (m.revision, (m.target, m.serial))) m

  pub schema_guid_is : (g : Guid) → Same (IsOf schema_guid input t g) (HasFields false SpellsGuid input t g)
  schema_guid_is g = (λ h. h, λ h. h)

  pub manifest_root_is : (r : Root) → Same (IsOf manifest_root input t r) (HasFields false (SpellsBoth SpellsExGuid SpellsCellId) input t (r.root, r.cell))
  manifest_root_is r = two 0x07 codes.exguid codes.cell_id (λ (r : Root). (r.root, r.cell)) r

  pub current_revision_is : (id : ExGuid) → Same (IsOf current_revision input t id) (HasFields false SpellsExGuid input t id)
  current_revision_is id = (λ h. h, λ h. h)

  pub revision_manifest_is : (ids : ExGuid × ExGuid) → Same (IsOf revision_manifest input t ids) (HasFields false (SpellsBoth SpellsExGuid SpellsExGuid) input t ids)
  revision_manifest_is ids = two 0x1A codes.exguid codes.exguid (λ (p : ExGuid × ExGuid). p) ids

  pub revision_root_is : (r : RevisionRoot) → Same (IsOf revision_root input t r) (HasFields false (SpellsBoth SpellsExGuid SpellsExGuid) input t (r.root, r.object))
  revision_root_is r = two 0x0A codes.exguid codes.exguid (λ (r : RevisionRoot). (r.root, r.object)) r

  pub group_reference_is : (id : ExGuid) → Same (IsOf group_reference input t id) (HasFields false SpellsExGuid input t id)
  group_reference_is id = (λ h. h, λ h. h)

-- ---- how each type is written

pub manifest_mapping_written : (m : ManifestMap) → row_bytes manifest_mapping m ≡ simple_object 0x11 (ids.exguid m.target ++ ids.serial m.serial)
unfolding row_bytes
manifest_mapping_written m = refl

pub cell_mapping_written : (m : CellMap) → row_bytes cell_mapping m ≡ simple_object 0x0E (ids.cell_id m.cell ++ ids.exguid m.target ++ ids.serial m.serial)
unfolding row_bytes
cell_mapping_written m = ap (simple_object 0x0E) (sym (append_assoc (ids.cell_id m.cell) (ids.exguid m.target) (ids.serial m.serial)))

pub revision_mapping_written : (m : RevisionMap) → row_bytes revision_mapping m ≡ simple_object 0x0D (ids.exguid m.revision ++ ids.exguid m.target ++ ids.serial m.serial)
unfolding row_bytes
revision_mapping_written m = ap (simple_object 0x0D) (sym (append_assoc (ids.exguid m.revision) (ids.exguid m.target) (ids.serial m.serial)))

pub schema_guid_written : (g : Guid) → row_bytes schema_guid g ≡ simple_object 0x0C (ids.guid_spelling g)
unfolding row_bytes
schema_guid_written g = refl

pub manifest_root_written : (r : Root) → row_bytes manifest_root r ≡ simple_object 0x07 (ids.exguid r.root ++ ids.cell_id r.cell)
unfolding row_bytes
manifest_root_written r = refl

pub current_revision_written : (id : ExGuid) → row_bytes current_revision id ≡ simple_object 0x0B (ids.exguid id)
unfolding row_bytes
current_revision_written id = refl

pub revision_manifest_written : (id base : ExGuid) → row_bytes revision_manifest (id, base) ≡ simple_object 0x1A (ids.exguid id ++ ids.exguid base)
unfolding row_bytes
revision_manifest_written id base = refl

pub revision_root_written : (r : RevisionRoot) → row_bytes revision_root r ≡ simple_object 0x0A (ids.exguid r.root ++ ids.exguid r.object)
unfolding row_bytes
revision_root_written r = refl

pub group_reference_written : (id : ExGuid) → row_bytes group_reference id ≡ simple_object 0x19 (ids.exguid id)
unfolding row_bytes
group_reference_written id = refl
