-- Elements are written in hardly more bytes than they are read from: at most five for each four.
use Rattle.std.proofs.Common.{◌≡◌, ℕ, ◌*◌, ◌≤◌, Bool, false, cond, List, [], ◌∷◌, ◌++◌, length, ap, ◌∙◌, arith, length-append}
use Rattle.std.specs.List.{flat_map}
use Rattle.std.proofs.lemmas.List.Sums.{sum_by-cons}
use Rattle.compact_values.specs.Compact.{compact, SpellsCompact}
use Rattle.compact_values.specs.Ids.{exguid, serial, SpellsSerial}
use Rattle.compact_values.specs.Items.{item}
use Rattle.compact_values.specs.Sequences.{◌▹◌}
use Rattle.compact_values.specs.declared.ids.Serial.TheVariants as serials
use Rattle.stream_objects.specs.Objects.{Each, is_kind, children_of, fields_of}
use Rattle.stream_objects.specs.declared.tree.Tree.{Tree}
use Rattle.stream_objects.specs.declared.tree.Tree.TheViews.{out-Tree}
use Rattle.wire_kinds.specs.Row.{row_bytes}
use Rattle.wire_kinds.specs.Short.{short_exguid}
use Rattle.doc_model.specs.wire.ElementObjects.{BlobContent}
use Rattle.doc_model.specs.wire.ElementRows.{manifest_mapping, cell_mapping, revision_mapping, schema_guid, manifest_root, current_revision, revision_manifest, revision_root, group_reference}
use Rattle.doc_model.specs.wire.Elements.{SaysBody, IsElement, IsPackage}
use Rattle.doc_model.specs.rules.Weights.{started_size, weight, weight_of}
use Rattle.doc_model.specs.wire.WrittenElements.{declarations_bytes, datas_bytes, blob_bytes, kind_number, body_bytes, element_bytes}
use Rattle.doc_model.specs.declared.element.Body.{Body}
use Rattle.doc_model.specs.declared.element.Body.TheVariants.{Index, Storage, Cell, Revision, Group, Blob}
use Rattle.doc_model.specs.declared.element.Element.{Element}
use Rattle.doc_model.proofs.SizeLemmas.{length_started, length_compound, length_three, length_kind}
use Rattle.data_elements.proofs.Totals.{total, total-cons, total_filter, apart, apart_three, other_kind}
use Rattle.data_elements.proofs.SpelledSizes.{size, size_out}
use Rattle.data_elements.proofs.WrittenSizes.{own_size, row_size, each_size, two_more, two_for_few, compact_some, serial_some}
use Rattle.data_elements.proofs.GroupSizes.{both_long, named_long, compact_long, group_size}

module _ (input : List ℕ) where
  abbrev kids : Tree → List Tree
  kids t = (out-Tree t).children

  -- how many bytes some objects take
  abbrev sizes : List Tree → ℕ
  sizes ts = total (size input) ts

  only_child : (k : ℕ) (t child : Tree) → children_of k t ≡ child ∷ [] → sizes (children_of k t) ≡ size input child
  only_child k t child e = rw e (total-cons (size input) child [] ∙ omega arith)

  blob_size : (t : Tree) (bytes : List ℕ) → BlobContent input t bytes → length (blob_bytes bytes) ≤ size input t
  unfolding blob_bytes
  blob_size t bytes h =
      omega (arith, length_started 0x02 false (item bytes) (omega arith), own_size input t, ap (λ (b : List ℕ). started_size (length b)) h.fields.bytes_are)

  -- what an element holds
  body_size : (t : Tree) (kind : ℕ) (body : Body) → SaysBody input t kind body → 4 * length (body_bytes body) ≤ 5 * sizes (kids t)
  unfolding body_bytes
  body_size t kind (Index manifests cells revisions) h =
      omega (
        arith,
        length_three (flat_map (row_bytes manifest_mapping) manifests) (flat_map (row_bytes cell_mapping) cells) (flat_map (row_bytes revision_mapping) revisions),
        each_size input manifest_mapping (children_of 0x11 t) manifests (omega arith) h.1,
        each_size input cell_mapping (children_of 0x0E t) cells (omega arith) h.2,
        each_size input revision_mapping (children_of 0x0D t) revisions (omega arith) h.3,
        apart_three (size input) (is_kind 0x11) (is_kind 0x0E) (is_kind 0x0D) (other_kind 0x11 0x0E (λ e. omega (arith, e))) (other_kind 0x11 0x0D (λ e. omega (arith, e))) (other_kind 0x0E 0x0D (λ e. omega (arith, e))) (kids t),
      )
  body_size t kind (Storage schema roots) h =
      omega (
        arith,
        length-append (row_bytes schema_guid schema) (flat_map (row_bytes manifest_root) roots),
        row_size input schema_guid h.1.0 schema (omega arith) h.1.2,
        only_child 0x0C t h.1.0 h.1.1,
        each_size input manifest_root (children_of 0x07 t) roots (omega arith) h.2,
        apart (size input) (is_kind 0x0C) (is_kind 0x07) (other_kind 0x0C 0x07 (λ e. omega (arith, e))) (kids t),
      )
  body_size t kind (Cell current) h =
      omega (arith, row_size input current_revision h.1.0 current (omega arith) h.1.2, only_child 0x0B t h.1.0 h.1.1, total_filter (size input) (is_kind 0x0B) (kids t))
  body_size t kind (Revision id base roots groups) h =
      omega (
        arith,
        length_three (row_bytes revision_manifest (id, base)) (flat_map (row_bytes revision_root) roots) (flat_map (row_bytes group_reference) groups),
        row_size input revision_manifest h.1.0 (id, base) (omega arith) h.1.2,
        only_child 0x1A t h.1.0 h.1.1,
        each_size input revision_root (children_of 0x0A t) roots (omega arith) h.2,
        each_size input group_reference (children_of 0x19 t) groups (omega arith) h.3,
        apart_three (size input) (is_kind 0x1A) (is_kind 0x0A) (is_kind 0x19) (other_kind 0x1A 0x0A (λ e. omega (arith, e))) (other_kind 0x1A 0x19 (λ e. omega (arith, e))) (other_kind 0x0A 0x19 (λ e. omega (arith, e))) (kids t),
      )
  body_size t kind (Group objects) h =
      omega (
        arith,
        length-append (declarations_bytes objects) (datas_bytes objects),
        group_size input t objects h.1,
        only_child 0x1D t h.1.declarations h.1.one_declarations,
        only_child 0x1E t h.1.data_of h.1.one_data,
        apart (size input) (is_kind 0x1D) (is_kind 0x1E) (other_kind 0x1D 0x1E (λ e. omega (arith, e))) (kids t),
      )
  body_size t kind (Blob bytes) h = omega (arith, blob_size h.1.0 bytes h.1.2, only_child 0x02 t h.1.0 h.1.1, total_filter (size input) (is_kind 0x02) (kids t))

  element_size : (t : Tree) (e : Element) → IsElement input t e → 4 * weight e ≤ 5 * size input t
  unfolding weight element_bytes
  element_size t e h =
      let kind = h.1.0 in
      let s = h.1.1.fields in
      let u = s.second in
      let fields = exguid e.id ++ serial serials.Null ++ compact (kind_number e.body) in
      let written = length_three (exguid e.id) (serial serials.Null) (compact (kind_number e.body)) in
      let number = length_kind e.body in
      let few : length fields ≤ 127 = omega (arith, written, number, short_exguid e.id) in
      omega (
        arith,
        length_compound 0x01 fields (body_bytes e.body) (omega arith),
        two_for_few (length fields) few,
        written,
        number,
        named_long (SpellsSerial ▹ SpellsCompact) (e.id, (h.0, kind)) (fields_of input t) s,
        both_long SpellsSerial SpellsCompact (h.0, kind) s.back u,
        ap (λ (b : List ℕ). length b) u.first.bytes_are,
        serial_some h.0,
        compact_long kind u.back u.second,
        compact_some kind,
        size_out input t,
        two_more (length (fields_of input t)),
        ap {B = ℕ} (λ (b : Bool). cond b 1 0) h.1.1.mark,
        body_size t kind e.body h.1.2,
      )

  each_element : (ts : List Tree) (es : List Element) → Each (IsElement input) ts es → 4 * weight_of es ≤ 5 * sizes ts
  each_element [] [] h = omega arith
  each_element (t ∷ ts) (e ∷ es) h = omega (arith, element_size t e h.0, each_element ts es h.1, total-cons (size input) t ts, sum_by-cons weight e es)
  each_element [] (e ∷ es) h = absurd h
  each_element (t ∷ ts) [] h = absurd h

  pub package_size : (t : Tree) (es : List Element) → IsPackage input t es → 4 * weight_of es ≤ 5 * size input t
  package_size t es h = omega (arith, each_element (children_of 0x01 t) es h.1, total_filter (size input) (is_kind 0x01) (kids t), size_out input t)
