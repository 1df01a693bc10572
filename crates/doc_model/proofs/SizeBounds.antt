-- Bounds on how many bytes written values, objects and elements take.
use Rattle.std.proofs.Common.{◌≡◌, ℕ, ◌+◌, ◌-◌, ◌*◌, ◌^◌, ◌≤◌, min, ◌==◌, nat_le, nat_lt, Bool, true, false, cond, List, [], ◌∷◌, ◌++◌, length, arith}
use Rattle.std.specs.List.{flat_map}
use Rattle.std.proofs.lemmas.List.{length-append}
use Rattle.compact_values.specs.Compact.{compact}
use Rattle.compact_values.specs.Ids.{guid_spelling, exguid, serial, cell_id}
use Rattle.compact_values.specs.Items.{item, array}
use Rattle.compact_values.specs.declared.ids.ExGuid.{ExGuid}
use Rattle.compact_values.specs.declared.guid.Guid.{Guid}
use Rattle.compact_values.specs.declared.ids.Serial.TheVariants as serials
use Rattle.stream_objects.specs.Written.{simple_object, compound_object}
use Rattle.doc_model.specs.rules.Weights.{started_size, weight}
use Rattle.doc_model.specs.wire.WrittenElements.{declaration_kind, declaration_fields, declaration_bytes, data_kind, data_fields, data_bytes, declarations_bytes, datas_bytes, size_if_any, kind_number, body_bytes, element_bytes}
use Rattle.doc_model.specs.declared.element.ManifestMap.{ManifestMap}
use Rattle.doc_model.specs.declared.element.CellMap.{CellMap}
use Rattle.doc_model.specs.declared.element.RevisionMap.{RevisionMap}
use Rattle.doc_model.specs.declared.element.Root.{Root}
use Rattle.doc_model.specs.declared.element.RevisionRoot.{RevisionRoot}
use Rattle.doc_model.specs.declared.element.Body.TheVariants.{Index, Storage, Cell, Revision, Group}
use Rattle.doc_model.specs.declared.element.Object.{Object}
use Rattle.doc_model.specs.declared.element.Content.{Content}
use Rattle.doc_model.specs.declared.element.Content.TheVariants.{Inline, Apart}
use Rattle.doc_model.specs.declared.element.Element.{Element}
use Rattle.wire_kinds.specs.Row.{Row, row_bytes}
use Rattle.wire_kinds.specs.Short.{Short, short_compact, short_exguid, short_cell_id}
use Rattle.doc_model.specs.wire.ElementRows.{manifest_mapping, cell_mapping, revision_mapping, schema_guid, manifest_root, current_revision, revision_manifest, revision_root, group_reference}
use Rattle.doc_model.proofs.ShortRows.{short_manifest_mapping, short_cell_mapping, short_revision_mapping, short_manifest_root, short_current_revision, short_revision_manifest, short_revision_root, short_group_reference}
use Rattle.doc_model.proofs.SizeLemmas.{length_started, length_compound, length_three, length_declarations, length_datas, length_kind}

-- either list is short enough
shorter : (n : ℕ) (b : Bool) (x y : List ℕ) → length x ≤ n → length y ≤ n → length (cond b x y) ≤ n
shorter n true x y f g = f
shorter n false x y f g = g

-- ---- objects

few-started : (n : ℕ) → started_size n ≤ n + 13
few-started n = by (nat_le n 127) (nat_lt n 32767)
  where
    by : (a b : Bool) → cond a 2 (cond b 4 (4 + length (compact n))) + n ≤ n + 13
    by true b = omega arith
    by false true = omega arith
    by false false = omega (arith, short_compact n)

pub few-simple : (kind : ℕ) (fields : List ℕ) → kind ≤ 63 → length (simple_object kind fields) ≤ length fields + 13
few-simple kind fields k = omega (arith, length_started kind false fields k, few-started (length fields))

pub few-compound : (kind : ℕ) (fields children : List ℕ) → kind ≤ 63 → length (compound_object kind fields children) ≤ length fields + length children + 14
few-compound kind fields children k = omega (arith, length_compound kind fields children k, few-started (length fields))

-- many that are short
pub few-flat : {X : Type 0} (f : X → List ℕ) (n : ℕ) (xs : List X) → ((x : X) → length (f x) ≤ n) → length (flat_map f xs) ≤ n * length xs
few-flat {X} f n [] h = omega arith
few-flat {X} f n (x ∷ xs) h = omega (arith, length-append (f x) (flat_map f xs), h x, few-flat f n xs h)

-- the bytes that an object has with it
abbrev pub own_length : Content → ℕ
own_length (Inline bytes) = length bytes
own_length (Apart blob) = 0

few-if-any : (size : ℕ) → length (size_if_any size) ≤ 9
few-if-any size = shorter 9 (size == 0) [] (compact size) (omega arith) (short_compact size)

four : (a b c d : List ℕ) → length (a ++ b ++ c ++ d) ≡ length a + length b + length c + length d
four a b c d = omega (arith, length-append (a ++ b ++ c) d, length_three a b c)

few-declared : (o : Object) (c : Content) → length (declaration_fields o c) ≤ 78
few-declared o (Inline bytes) =
    let front = exguid o.id ++ compact o.partition ++ compact o.size ++ compact (length o.references) in
    omega (
      arith,
      length-append front (compact (length o.cells)),
      four (exguid o.id) (compact o.partition) (compact o.size) (compact (length o.references)),
      short_exguid o.id,
      short_compact o.partition,
      short_compact o.size,
      short_compact (length o.references),
      short_compact (length o.cells),
    )
few-declared o (Apart blob) =
    let front = exguid o.id ++ exguid blob ++ compact o.partition ++ size_if_any o.size in
    let middle = front ++ compact (length o.references) in
    omega (
      arith,
      length-append middle (compact (length o.cells)),
      length-append front (compact (length o.references)),
      four (exguid o.id) (exguid blob) (compact o.partition) (size_if_any o.size),
      short_exguid o.id,
      short_exguid blob,
      short_compact o.partition,
      few-if-any o.size,
      short_compact (length o.references),
      short_compact (length o.cells),
    )

declared_kind : (c : Content) → declaration_kind c ≤ 63
declared_kind (Inline bytes) = omega arith
declared_kind (Apart blob) = omega arith

pub few-declaration : (o : Object) → length (declaration_bytes o) ≤ 91
unfolding declaration_bytes
few-declaration o =
    omega (arith, few-simple (declaration_kind o.content) (declaration_fields o o.content) (declared_kind o.content), few-declared o o.content)

few-array : {X : Type 0} (f : X → List ℕ) (n : ℕ) (xs : List X) → ((x : X) → length (f x) ≤ n) → length (array f xs) ≤ n * length xs + 9
few-array {X} f n xs h = omega (arith, length-append (compact (length xs)) (flat_map f xs), short_compact (length xs), few-flat f n xs h)

pub few-item : (bytes : List ℕ) → length (item bytes) ≤ length bytes + 9
few-item bytes = omega (arith, length-append (compact (length bytes)) bytes, short_compact (length bytes))

few-fields : (o : Object) (c : Content) → length (data_fields o c) ≤ own_length c + 21 * length o.references + 42 * length o.cells + 39
few-fields o (Inline bytes) =
    omega (
      arith,
      length_three (array exguid o.references) (array cell_id o.cells) (item bytes),
      few-array exguid 21 o.references short_exguid,
      few-array cell_id 42 o.cells short_cell_id,
      few-item bytes,
    )
few-fields o (Apart blob) =
    omega (
      arith,
      length_three (array exguid o.references) (array cell_id o.cells) (exguid blob),
      few-array exguid 21 o.references short_exguid,
      few-array cell_id 42 o.cells short_cell_id,
      short_exguid blob,
    )

datas_kind : (c : Content) → data_kind c ≤ 63
datas_kind (Inline bytes) = omega arith
datas_kind (Apart blob) = omega arith

pub few-data : (o : Object) → length (data_bytes o) ≤ own_length o.content + 21 * length o.references + 42 * length o.cells + 52
unfolding data_bytes
few-data o = omega (arith, few-simple (data_kind o.content) (data_fields o o.content) (datas_kind o.content), few-fields o o.content)

-- ---- elements

pub few-weight : (e : Element) → weight e ≤ length (body_bytes e.body) + 37
unfolding weight element_bytes
few-weight e =
    let fields = exguid e.id ++ serial serials.Null ++ compact (kind_number e.body) in
    omega (
      arith,
      few-compound 0x01 fields (body_bytes e.body) (omega arith),
      length_three (exguid e.id) (serial serials.Null) (compact (kind_number e.body)),
      short_exguid e.id,
      length_kind e.body,
    )

few-row : {V : Type 0} (row : Row V) (n : ℕ) → row.number ≤ 63 → Short n row.fields → (v : V) → length (row_bytes row v) ≤ n + 13
unfolding row_bytes
few-row row n k short v = omega (arith, few-simple row.number (row.fields.bytes v) k, short v)

pub few-manifest-map : (m : ManifestMap) → length (row_bytes manifest_mapping m) ≤ 59
few-manifest-map = few-row manifest_mapping 46 (omega arith) short_manifest_mapping

pub few-cell-map : (m : CellMap) → length (row_bytes cell_mapping m) ≤ 101
few-cell-map = few-row cell_mapping 88 (omega arith) short_cell_mapping

pub few-revision-map : (m : RevisionMap) → length (row_bytes revision_mapping m) ≤ 80
few-revision-map = few-row revision_mapping 67 (omega arith) short_revision_mapping

pub few-schema : (g : Guid) → length (row_bytes schema_guid g) ≤ 18
unfolding row_bytes
few-schema g = omega (arith, length_started 0x0C false (guid_spelling g) (omega arith))

pub few-root : (r : Root) → length (row_bytes manifest_root r) ≤ 76
few-root = few-row manifest_root 63 (omega arith) short_manifest_root

pub few-current : (id : ExGuid) → length (row_bytes current_revision id) ≤ 34
few-current = few-row current_revision 21 (omega arith) short_current_revision

pub few-revision : (ids : ExGuid × ExGuid) → length (row_bytes revision_manifest ids) ≤ 55
few-revision = few-row revision_manifest 42 (omega arith) short_revision_manifest

pub few-revision-root : (r : RevisionRoot) → length (row_bytes revision_root r) ≤ 55
few-revision-root = few-row revision_root 42 (omega arith) short_revision_root

pub few-group-reference : (id : ExGuid) → length (row_bytes group_reference id) ≤ 34
few-group-reference = few-row group_reference 21 (omega arith) short_group_reference

-- What is counted up to the greatest number is the length, where the objects are few and short.
pub exact-rows : {V : Type 0} (row : Row V) (vs : List V) (size : ℕ) → ((v : V) → length (row_bytes row v) ≤ 101) → length vs ≤ 262144 → size ≡ min (length (flat_map (row_bytes row) vs)) (2 ^ 64 - 1)
    → size ≡ length (flat_map (row_bytes row) vs)
exact-rows row vs size short few e = omega (arith, few-flat (row_bytes row) 101 vs short, few, e)

pub exact-row : {V : Type 0} (row : Row V) (v : V) (size : ℕ) → length (row_bytes row v) ≤ 101 → size ≡ min (length (row_bytes row v)) (2 ^ 64 - 1) → size ≡ length (row_bytes row v)
exact-row row v size short e = omega (arith, short, e)

-- ---- bodies

pub few-in-index : (m : List ManifestMap) (c : List CellMap) (r : List RevisionMap) → length (body_bytes (Index m c r)) ≤ 59 * length m + 101 * length c + 80 * length r
unfolding body_bytes
few-in-index m c r =
    omega (
      arith,
      length_three (flat_map (row_bytes manifest_mapping) m) (flat_map (row_bytes cell_mapping) c) (flat_map (row_bytes revision_mapping) r),
      few-flat (row_bytes manifest_mapping) 59 m few-manifest-map,
      few-flat (row_bytes cell_mapping) 101 c few-cell-map,
      few-flat (row_bytes revision_mapping) 80 r few-revision-map,
    )

pub few-in-storage : (schema : Guid) (roots : List Root) → length (body_bytes (Storage schema roots)) ≤ 18 + 76 * length roots
unfolding body_bytes
few-in-storage schema roots =
    omega (arith, length-append (row_bytes schema_guid schema) (flat_map (row_bytes manifest_root) roots), few-schema schema, few-flat (row_bytes manifest_root) 76 roots few-root)

pub few-in-cell : (current : ExGuid) → length (body_bytes (Cell current)) ≤ 34
unfolding body_bytes
few-in-cell current = few-current current

pub few-in-revision : (id base : ExGuid) (roots : List RevisionRoot) (groups : List ExGuid) → length (body_bytes (Revision id base roots groups)) ≤ 55 + 55 * length roots + 34 * length groups
unfolding body_bytes
few-in-revision id base roots groups =
    omega (
      arith,
      length_three (row_bytes revision_manifest (id, base)) (flat_map (row_bytes revision_root) roots) (flat_map (row_bytes group_reference) groups),
      few-revision (id, base),
      few-flat (row_bytes revision_root) 55 roots few-revision-root,
      few-flat (row_bytes group_reference) 34 groups few-group-reference,
    )

pub length-in-group : (objects : List Object) → length (body_bytes (Group objects)) ≡ 6 + length (flat_map declaration_bytes objects) + length (flat_map data_bytes objects)
unfolding body_bytes
length-in-group objects =
    omega (arith, length-append (declarations_bytes objects) (datas_bytes objects), length_declarations objects, length_datas objects)
