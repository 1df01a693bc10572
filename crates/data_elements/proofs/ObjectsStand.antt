-- The written objects of elements stand as objects in their forms.
use Rattle.std.proofs.Common.{◌≡◌, ℕ, suc, ◌+◌, ◌^◌, ◌<◌, ◌≤◌, inl, inr, false, List, ◌++◌, length, refl, ap, ◌∙◌, append_assoc, arith}
use Rattle.std.proofs.lemmas.List.{length-append, append-nil}
use Rattle.compact_values.specs.Compact.{compact, SpellsCompact}
use Rattle.compact_values.specs.Sequences.{◌▹◌}
use Rattle.compact_values.specs.Ids.{exguid, serial, cell_id, guid_spelling, FitsGuid, FitsExGuid, SpellsGuid, SpellsExGuid, SpellsSerial, SpellsCellId}
use Rattle.compact_values.specs.Items.{item, array, SpellsItem, SpellsIds, SpellsCells}
use Rattle.compact_values.specs.declared.guid.Guid.{Guid}
use Rattle.compact_values.specs.declared.ids.ExGuid.{ExGuid}
use Rattle.stream_objects.specs.Objects.{HasFields, kind_of}
use Rattle.stream_objects.specs.Written.{simple_object}
use Rattle.stream_objects.specs.declared.tree.Tree.{Tree}
use Rattle.stream_objects.proofs.Standing.{At, Whole, leaf, whole_map}
use Rattle.doc_model.specs.wire.ElementObjects.{ObjectDeclaration, BlobDeclaration, ObjectData, BlobReference, BlobContent}
use Rattle.doc_model.specs.wire.Knowledges.{RangeFields}
use Rattle.doc_model.specs.wire.FittingElements.{FitsContent, FitsObject, FitsRange}
use Rattle.doc_model.specs.wire.WrittenElements.{size_if_any, declaration_kind, declaration_fields, declaration_bytes, data_kind, data_fields, data_bytes, blob_bytes, range_bytes}
use Rattle.doc_model.specs.declared.element.Object.{Object}
use Rattle.doc_model.specs.declared.element.Content.{Content}
use Rattle.doc_model.specs.declared.element.Content.TheVariants.{Inline, Apart}
use Rattle.doc_model.specs.declared.knowledge.Range.{Range}
use Rattle.wire_kinds.specs.Row.{Row, IsOf, row_bytes}
use Rattle.wire_kinds.specs.RowLaws.{row_stands}
use Rattle.data_elements.proofs.Spelled.{id_spelled, serial_spelled, cell_spelled, guid_spelled, compact_spelled, id_short, serial_short, cell_short, compact_short, size_short, size_cases, pair, pair_as, assoc_five, assoc_six, length_three, length_five, length_six}

module _ (input : List ℕ) (n : ℕ) where
  -- an object of this type stands there, which is so
  abbrev pub LeafAt : ℕ → (Tree → Type 0) → List ℕ → ℕ → Type 0
  LeafAt kind Is bytes p = Whole input (suc n) (λ t. (kind_of t ≡ kind) × Is t) 1 p (p + length bytes)

  -- ---- regular objects

  -- one whose fields are short
  pub stands : {V : Type 0} (row : Row V) → row.number ≤ 63 → ((v : V) → length (row.fields.bytes v) ≤ 88) → (v : V) (p : ℕ) → row.fields.Fits v → At input p (row_bytes row v)
      → LeafAt row.number (λ t. IsOf row input t v) (row_bytes row v) p
  stands row small short v p f a = row_stands row (omega (arith, small)) input n p v f (omega (arith, short v)) a

  -- ---- blob and knowledge

  pub blob_stands : (bytes : List ℕ) (p : ℕ) → length (item bytes) < 2 ^ 64 → At input p (blob_bytes bytes) → LeafAt 0x02 (λ t. BlobContent input t bytes) (blob_bytes bytes) p
  unfolding blob_bytes
  blob_stands bytes p f a =
      leaf input n p 0x02 SpellsItem bytes (item bytes) (omega arith) f (record { range = omega (arith, f, length-append (compact (length bytes)) bytes); bytes_are = refl }) a

  pub range_stands : (r : Range) (p : ℕ) → FitsRange r → At input p (range_bytes r) → LeafAt 0x0F (λ t. RangeFields input t r) (range_bytes r) p
  unfolding range_bytes
  range_stands r p f a =
      let x = guid_spelling r.guid in
      let y = compact r.from in
      let z = compact r.to in
      leaf input n p 0x0F (SpellsGuid ▹ SpellsCompact ▹ SpellsCompact) (r.guid, (r.from, r.to)) (x ++ y ++ z) (omega arith) (omega (arith, length_three x y z, compact_short r.from, compact_short r.to))
      (
      pair_as SpellsGuid (SpellsCompact ▹ SpellsCompact) r.guid (r.from, r.to) x (y ++ z) (x ++ y ++ z) (append_assoc x y z) (guid_spelled r.guid f.0)
      (pair SpellsCompact SpellsCompact r.from r.to y z (compact_spelled r.from f.1) (compact_spelled r.to f.2))
      )
      a

  -- ---- objects of a group

  abbrev pub SaysDeclaration : Tree → Object → Content → Type 0
  SaysDeclaration t o (Inline bytes) = ObjectDeclaration input t o.id o.partition o.size
  SaysDeclaration t o (Apart blob) = BlobDeclaration input t o.id blob o.partition o.size

  abbrev pub SaysData : Tree → Object → Content → Type 0
  SaysData t o (Inline bytes) = ObjectData input t o.references o.cells bytes
  SaysData t o (Apart blob) = BlobReference input t o.references o.cells blob

  module _ (o : Object) (p : ℕ) (f : FitsObject o) where
    counts : (SpellsCompact ▹ SpellsCompact) (length o.references, length o.cells) (compact (length o.references) ++ compact (length o.cells))
    counts = pair SpellsCompact SpellsCompact (length o.references) (length o.cells) (compact (length o.references)) (compact (length o.cells)) (compact_spelled (length o.references) f.references.0) (compact_spelled (length o.cells) f.cells.0)

    object_declared : (bytes : List ℕ) → At input p (simple_object 0x18 (declaration_fields o (Inline bytes))) → LeafAt 0x18 (λ t. SaysDeclaration t o (Inline bytes)) (simple_object 0x18 (declaration_fields o (Inline bytes))) p
    object_declared bytes a =
        let x = exguid o.id in
        let y = compact o.partition in
        let z = compact o.size in
        let r = compact (length o.references) in
        let s = compact (length o.cells) in
        let Spells = SpellsExGuid ▹ SpellsCompact ▹ SpellsCompact ▹ SpellsCompact ▹ SpellsCompact in
        let v : ExGuid × (ℕ × (ℕ × (ℕ × ℕ))) = (o.id, (o.partition, (o.size, (length o.references, length o.cells)))) in
        let spelled = pair_as SpellsExGuid (SpellsCompact ▹ SpellsCompact ▹ SpellsCompact ▹ SpellsCompact) o.id (o.partition, (o.size, (length o.references, length o.cells))) x (y ++ (z ++ (r ++ s))) (x ++ y ++ z ++ r ++ s) (assoc_five x y z r s) (id_spelled o.id f.id)
        (
        pair SpellsCompact (SpellsCompact ▹ SpellsCompact ▹ SpellsCompact) o.partition (o.size, (length o.references, length o.cells)) y (z ++ (r ++ s)) (compact_spelled o.partition f.partition)
        (pair SpellsCompact (SpellsCompact ▹ SpellsCompact) o.size (length o.references, length o.cells) z (r ++ s) (compact_spelled o.size f.size) counts)
        ) in
        let short : length (x ++ y ++ z ++ r ++ s) < 2 ^ 64 = omega (arith, length_five x y z r s, id_short o.id, compact_short o.partition, compact_short o.size, compact_short (length o.references), compact_short (length o.cells)) in
        let w = leaf input n p 0x18 Spells v (x ++ y ++ z ++ r ++ s) (omega arith) short spelled a in
        whole_map input (suc n) 1 p (p + length (simple_object 0x18 (x ++ y ++ z ++ r ++ s))) (λ t. (kind_of t ≡ 0x18) × HasFields false Spells input t v) (λ t. (kind_of t ≡ 0x18) × SaysDeclaration t o (Inline bytes))
        (λ t h. (h.0, (length o.references, length o.cells, h.1))) w

    blob_declared : (blob : ExGuid) → FitsExGuid blob → At input p (simple_object 0x05 (declaration_fields o (Apart blob))) → LeafAt 0x05 (λ t. SaysDeclaration t o (Apart blob)) (simple_object 0x05 (declaration_fields o (Apart blob))) p
    blob_declared blob g a =
        let x = exguid o.id in
        let b = exguid blob in
        let y = compact o.partition in
        let z = size_if_any o.size in
        let r = compact (length o.references) in
        let s = compact (length o.cells) in
        let all = x ++ b ++ y ++ z ++ r ++ s in
        let short : length all < 2 ^ 64 = omega (arith, length_six x b y z r s, id_short o.id, id_short blob, compact_short o.partition, size_short o.size, compact_short (length o.references), compact_short (length o.cells)) in
        elim (size_cases o.size) [
          | inl none ↦
              let Spells = SpellsExGuid ▹ SpellsExGuid ▹ SpellsCompact ▹ SpellsCompact ▹ SpellsCompact in
              let v : ExGuid × (ExGuid × (ℕ × (ℕ × ℕ))) = (o.id, (blob, (o.partition, (length o.references, length o.cells)))) in
              let eq : all ≡ x ++ (b ++ (y ++ (r ++ s))) = ap (λ (l : List ℕ). x ++ b ++ y ++ l ++ r ++ s) none.1 ∙ ap (λ (l : List ℕ). l ++ r ++ s) (append-nil (x ++ b ++ y)) ∙ assoc_five x b y r s in
              let spelled = pair_as SpellsExGuid (SpellsExGuid ▹ SpellsCompact ▹ SpellsCompact ▹ SpellsCompact) o.id (blob, (o.partition, (length o.references, length o.cells))) x (b ++ (y ++ (r ++ s))) all eq (id_spelled o.id f.id)
              (
              pair SpellsExGuid (SpellsCompact ▹ SpellsCompact ▹ SpellsCompact) blob (o.partition, (length o.references, length o.cells)) b (y ++ (r ++ s)) (id_spelled blob g)
              (pair SpellsCompact (SpellsCompact ▹ SpellsCompact) o.partition (length o.references, length o.cells) y (r ++ s) (compact_spelled o.partition f.partition) counts)
              ) in
              whole_map input (suc n) 1 p (p + length (simple_object 0x05 all)) (λ t. (kind_of t ≡ 0x05) × HasFields false Spells input t v) (λ t. (kind_of t ≡ 0x05) × SaysDeclaration t o (Apart blob))
              (λ t h. (h.0, (length o.references, length o.cells, inr (none.0, h.1)))) (leaf input n p 0x05 Spells v all (omega arith) short spelled a)
          | inr some ↦
              let Spells = SpellsExGuid ▹ SpellsExGuid ▹ SpellsCompact ▹ SpellsCompact ▹ SpellsCompact ▹ SpellsCompact in
              let v : ExGuid × (ExGuid × (ℕ × (ℕ × (ℕ × ℕ)))) = (o.id, (blob, (o.partition, (o.size, (length o.references, length o.cells))))) in
              let c = compact o.size in
              let eq : all ≡ x ++ (b ++ (y ++ (c ++ (r ++ s)))) = ap (λ (l : List ℕ). x ++ b ++ y ++ l ++ r ++ s) some ∙ assoc_six x b y c r s in
              let spelled = pair_as SpellsExGuid (SpellsExGuid ▹ SpellsCompact ▹ SpellsCompact ▹ SpellsCompact ▹ SpellsCompact) o.id (blob, (o.partition, (o.size, (length o.references, length o.cells)))) x (b ++ (y ++ (c ++ (r ++ s)))) all eq (id_spelled o.id f.id)
              (
              pair SpellsExGuid (SpellsCompact ▹ SpellsCompact ▹ SpellsCompact ▹ SpellsCompact) blob (o.partition, (o.size, (length o.references, length o.cells))) b (y ++ (c ++ (r ++ s))) (id_spelled blob g)
              (
              pair SpellsCompact (SpellsCompact ▹ SpellsCompact ▹ SpellsCompact) o.partition (o.size, (length o.references, length o.cells)) y (c ++ (r ++ s)) (compact_spelled o.partition f.partition)
              (pair SpellsCompact (SpellsCompact ▹ SpellsCompact) o.size (length o.references, length o.cells) c (r ++ s) (compact_spelled o.size f.size) counts)
              )
              ) in
              whole_map input (suc n) 1 p (p + length (simple_object 0x05 all)) (λ t. (kind_of t ≡ 0x05) × HasFields false Spells input t v) (λ t. (kind_of t ≡ 0x05) × SaysDeclaration t o (Apart blob))
              (λ t h. (h.0, (length o.references, length o.cells, inl h.1))) (leaf input n p 0x05 Spells v all (omega arith) short spelled a)
        ]

    declared : (c : Content) → FitsContent c → At input p (simple_object (declaration_kind c) (declaration_fields o c))
        → LeafAt (declaration_kind c) (λ t. SaysDeclaration t o c) (simple_object (declaration_kind c) (declaration_fields o c)) p
    declared (Inline bytes) g a = object_declared bytes a
    declared (Apart blob) g a = blob_declared blob g a

    given : (c : Content) → FitsContent c → length (data_fields o c) < 2 ^ 64 → At input p (simple_object (data_kind c) (data_fields o c))
        → LeafAt (data_kind c) (λ t. SaysData t o c) (simple_object (data_kind c) (data_fields o c)) p
    given (Inline bytes) g short a =
        let x = array exguid o.references in
        let y = array cell_id o.cells in
        let z = item bytes in
        leaf input n p 0x16 (SpellsIds ▹ SpellsCells ▹ SpellsItem) (o.references, (o.cells, bytes)) (x ++ y ++ z) (omega arith) short
        (
        pair_as SpellsIds (SpellsCells ▹ SpellsItem) o.references (o.cells, bytes) x (y ++ z) (x ++ y ++ z) (append_assoc x y z) (record { range = f.references; bytes_are = refl })
        (pair SpellsCells SpellsItem o.cells bytes y z (record { range = f.cells; bytes_are = refl }) (record { range = g; bytes_are = refl }))
        )
        a
    given (Apart blob) g short a =
        let x = array exguid o.references in
        let y = array cell_id o.cells in
        let z = exguid blob in
        leaf input n p 0x1C (SpellsIds ▹ SpellsCells ▹ SpellsExGuid) (o.references, (o.cells, blob)) (x ++ y ++ z) (omega arith) short
        (
        pair_as SpellsIds (SpellsCells ▹ SpellsExGuid) o.references (o.cells, blob) x (y ++ z) (x ++ y ++ z) (append_assoc x y z) (record { range = f.references; bytes_are = refl })
        (pair SpellsCells SpellsExGuid o.cells blob y z (record { range = f.cells; bytes_are = refl }) (id_spelled blob g))
        )
        a

  pub declaration_stands : (o : Object) (p : ℕ) → FitsObject o → At input p (declaration_bytes o) → LeafAt (declaration_kind o.content) (λ t. SaysDeclaration t o o.content) (declaration_bytes o) p
  unfolding declaration_bytes
  declaration_stands o p f a = declared o p f o.content f.content a

  pub data_stands : (o : Object) (p : ℕ) → FitsObject o → At input p (data_bytes o) → LeafAt (data_kind o.content) (λ t. SaysData t o o.content) (data_bytes o) p
  unfolding data_bytes
  data_stands o p f a = given o p f o.content f.content f.short a
