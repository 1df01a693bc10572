-- The objects of a group are written in hardly more bytes than they are read from.
use Rattle.std.proofs.Common.{◌≡◌, ℕ, ◌+◌, ◌*◌, ◌≤◌, ◌||◌, ◌==◌, Bool, true, false, cond, List, [], ◌∷◌, ◌++◌, length, inl, inr, refl, sym, ap, ◌∙◌, arith, length-append, append_assoc}
use Rattle.std.specs.List.{flat_map}
use Rattle.compact_values.specs.Compact.{compact, SpellsCompact}
use Rattle.compact_values.specs.Both.{SpellsBoth}
use Rattle.compact_values.specs.Ids.{exguid, cell_id, SpellsExGuid}
use Rattle.compact_values.specs.Items.{item, array}
use Rattle.compact_values.specs.Sequences.{◌▹◌}
use Rattle.compact_values.specs.declared.ids.ExGuid.{ExGuid}
use Rattle.stream_objects.specs.Objects.{is_kind, fields_of}
use Rattle.stream_objects.specs.Written.{simple_object}
use Rattle.stream_objects.specs.declared.tree.Tree.{Tree}
use Rattle.stream_objects.specs.declared.tree.Tree.TheViews.{out-Tree}
use Rattle.wire_kinds.specs.Short.{short_compact, short_exguid}
use Rattle.doc_model.specs.wire.ElementObjects.{ObjectDeclaration, BlobDeclaration, ObjectData, BlobReference}
use Rattle.doc_model.specs.wire.Groups.{EachPair, SaysContent, SaysGroup, declarations_in, data_in}
use Rattle.doc_model.specs.rules.Weights.{started_size}
use Rattle.doc_model.specs.wire.WrittenElements.{size_if_any, declaration_kind, declaration_fields, declaration_bytes, data_kind, data_fields, data_bytes, declarations_bytes, datas_bytes}
use Rattle.doc_model.specs.declared.element.Content.{Content}
use Rattle.doc_model.specs.declared.element.Content.TheVariants.{Inline, Apart}
use Rattle.doc_model.specs.declared.element.Object.{Object}
use Rattle.doc_model.proofs.SizeLemmas.{length_started, length_three, length_declarations, length_datas}
use Rattle.data_elements.proofs.Totals.{total, total-cons, total_filter}
use Rattle.data_elements.proofs.SpelledSizes.{size, size_out}
use Rattle.data_elements.proofs.WrittenSizes.{own_size, two_more, two_for_few, compact_some, compact_low, exguid_some, cell_some, array_long}

-- ---- how long the fields of a declaration are

five : (a b c d e : List ℕ) → length (a ++ b ++ c ++ d ++ e) ≡ length a + length b + length c + length d + length e
five a b c d e = omega (arith, length-append (a ++ b ++ c ++ d) e, length-append (a ++ b ++ c) d, length_three a b c)

six : (a b c d e f : List ℕ) → length (a ++ b ++ c ++ d ++ e ++ f) ≡ length a + length b + length c + length d + length e + length f
six a b c d e f = omega (arith, length-append (a ++ b ++ c ++ d ++ e) f, five a b c d e)

pub both_long : {A B : Type 0} (First : A → List ℕ → Type 0) (Second : B → List ℕ → Type 0) (p : A × B) (bytes : List ℕ) (s : SpellsBoth First Second p bytes) → length bytes ≡ length s.front + length s.back
both_long {A} {B} First Second p bytes s = ap (λ (b : List ℕ). length b) s.bytes_are ∙ length-append s.front s.back

pub compact_long : (v : ℕ) (bytes : List ℕ) → SpellsCompact v bytes → length bytes ≡ length (compact v)
compact_long v bytes s = ap (λ (b : List ℕ). length b) s.bytes_are

id_long : (id : ExGuid) (bytes : List ℕ) → SpellsExGuid id bytes → length bytes ≡ length (exguid id)
id_long id bytes s = ap (λ (b : List ℕ). length b) s.bytes_are

-- two counts, whatever they are
counts_long : (p : ℕ × ℕ) (bytes : List ℕ) → (SpellsCompact ▹ SpellsCompact) p bytes → 2 ≤ length bytes
counts_long p bytes s =
    omega (arith, both_long SpellsCompact SpellsCompact p bytes s, compact_long p.0 s.front s.first, compact_long p.1 s.back s.second, compact_some p.0, compact_some p.1)

number_long : {B : Type 0} (Second : B → List ℕ → Type 0) (p : ℕ × B) (bytes : List ℕ) (s : (SpellsCompact ▹ Second) p bytes) → length bytes ≡ length (compact p.0) + length s.back
number_long {B} Second p bytes s = omega (arith, both_long SpellsCompact Second p bytes s, compact_long p.0 s.front s.first)

pub named_long : {B : Type 0} (Second : B → List ℕ → Type 0) (p : ExGuid × B) (bytes : List ℕ) (s : (SpellsExGuid ▹ Second) p bytes) → length bytes ≡ length (exguid p.0) + length s.back
named_long {B} Second p bytes s = omega (arith, both_long SpellsExGuid Second p bytes s, id_long p.0 s.front s.first)

-- ---- declarations and data

if_any_short : (size : ℕ) → length (size_if_any size) ≤ length (compact size)
if_any_short size = go (size == 0) where
  go : (b : Bool) → length (cond b [] (compact size)) ≤ length (compact size)
  go true = omega arith
  go false = omega arith

if_any_nothing : (size : ℕ) → size ≡ 0 → length (size_if_any size) ≡ 0
if_any_nothing size e = rw e refl

-- what is written of an object whose declaration had so many bytes of fields, beside its references and cells
module _ (input : List ℕ) (d e : Tree) where
  -- a declaration with few fields
  declared : (kind : ℕ) (fields : List ℕ) (n more : ℕ) → kind ≤ 63 → length fields ≤ 127 → 4 * length fields ≤ 4 * n + more → n ≤ length (fields_of input d)
      → 4 * length (simple_object kind fields) ≤ 4 * size input d + more
  declared kind fields n more small few long there =
      omega (arith, length_started kind false fields small, two_for_few (length fields) few, own_size input d, two_more (length (fields_of input d)), long, there)

  -- data that are written as they were read
  data_long : (kind : ℕ) (fields : List ℕ) → kind ≤ 63 → fields_of input e ≡ fields → length (simple_object kind fields) ≤ size input e
  data_long kind fields small is = omega (arith, length_started kind false fields small, own_size input e, ap (λ (b : List ℕ). started_size (length b)) is)

  lists_long : (o : Object) (c : Content) → length o.references + length o.cells ≤ length (data_fields o c)
  lists_long o (Inline bytes) =
      omega (arith, length_three (array exguid o.references) (array cell_id o.cells) (item bytes), array_long exguid exguid_some o.references, array_long cell_id cell_some o.cells)
  lists_long o (Apart blob) =
      omega (arith, length_three (array exguid o.references) (array cell_id o.cells) (exguid blob), array_long exguid exguid_some o.references, array_long cell_id cell_some o.cells)

  -- an object that has its bytes with it
  inline : (o : Object) (bytes : List ℕ) → ObjectDeclaration input d o.id o.partition o.size → ObjectData input e o.references o.cells bytes
      → 4 * (length (simple_object 0x18 (declaration_fields o (Inline bytes))) + length (simple_object 0x16 (data_fields o (Inline bytes)))) ≤ 5 * (size input d + size input e)
  inline o bytes h k =
      let s = h.2.fields in
      let t = s.second in
      let u = t.second in
      let r = length o.references in
      let c = length o.cells in
      let fields = declaration_fields o (Inline bytes) in
      let written = five (exguid o.id) (compact o.partition) (compact o.size) (compact r) (compact c) in
      let there = named_long (SpellsCompact ▹ SpellsCompact ▹ SpellsCompact ▹ SpellsCompact) (o.id, (o.partition, (o.size, (h.0, h.1)))) (fields_of input d) s in
      let more = number_long (SpellsCompact ▹ SpellsCompact ▹ SpellsCompact) (o.partition, (o.size, (h.0, h.1))) s.back t in
      let most = number_long (SpellsCompact ▹ SpellsCompact) (o.size, (h.0, h.1)) t.back u in
      let counts = counts_long (h.0, h.1) u.back u.second in
      let few : length fields ≤ 127 = omega (arith, written, short_exguid o.id, short_compact o.partition, short_compact o.size, short_compact r, short_compact c) in
      let first = declared 0x18 fields (length (exguid o.id) + length (compact o.partition) + length (compact o.size) + 2) (r + c) (omega arith) few (omega (arith, written, compact_low r, compact_low c)) (omega (arith, there, more, most, counts)) in
      let data_is : fields_of input e ≡ data_fields o (Inline bytes) = data_spelled o bytes k in
      omega (arith, first, data_long 0x16 (data_fields o (Inline bytes)) (omega arith) data_is, lists_long o (Inline bytes), own_size input e, two_more (length (fields_of input e)), ap (λ (b : List ℕ). length b) data_is)
    where
      data_spelled : (o : Object) (bytes : List ℕ) → ObjectData input e o.references o.cells bytes → fields_of input e ≡ data_fields o (Inline bytes)
      data_spelled o bytes k =
          let s = k.fields in
          let t = s.second in
          s.bytes_are ∙ ap (λ (l : List ℕ). l ++ s.back) s.first.bytes_are ∙ ap (λ (l : List ℕ). array exguid o.references ++ l) (t.bytes_are ∙ ap (λ (l : List ℕ). l ++ t.back) t.first.bytes_are ∙ ap (λ (l : List ℕ). array cell_id o.cells ++ l) t.second.bytes_are)
          ∙ sym (append_assoc (array exguid o.references) (array cell_id o.cells) (item bytes))

  reference_spelled : (o : Object) (blob : ExGuid) → BlobReference input e o.references o.cells blob → fields_of input e ≡ data_fields o (Apart blob)
  reference_spelled o blob k =
      let s = k.fields in
      let t = s.second in
      s.bytes_are ∙ ap (λ (l : List ℕ). l ++ s.back) s.first.bytes_are ∙ ap (λ (l : List ℕ). array exguid o.references ++ l) (t.bytes_are ∙ ap (λ (l : List ℕ). l ++ t.back) t.first.bytes_are ∙ ap (λ (l : List ℕ). array cell_id o.cells ++ l) t.second.bytes_are)
      ∙ sym (append_assoc (array exguid o.references) (array cell_id o.cells) (exguid blob))

  -- the fields of a blob's declaration take as many bytes as these, and two for the counts
  blob_fields : (o : Object) (blob : ExGuid) → BlobDeclaration input d o.id blob o.partition o.size
      → length (exguid o.id) + length (exguid blob) + length (compact o.partition) + length (size_if_any o.size) + 2 ≤ length (fields_of input d)
  blob_fields o blob h =
      let references = h.0 in
      let cells = h.1 in
      elim h.2 [
        | inl sized ↦
            let s = sized.fields in
            let t = s.second in
            let u = t.second in
            let v = u.second in
            omega (
              arith,
              named_long (SpellsExGuid ▹ SpellsCompact ▹ SpellsCompact ▹ SpellsCompact ▹ SpellsCompact) (o.id, (blob, (o.partition, (o.size, (references, cells))))) (fields_of input d) s,
              named_long (SpellsCompact ▹ SpellsCompact ▹ SpellsCompact ▹ SpellsCompact) (blob, (o.partition, (o.size, (references, cells)))) s.back t,
              number_long (SpellsCompact ▹ SpellsCompact ▹ SpellsCompact) (o.partition, (o.size, (references, cells))) t.back u,
              number_long (SpellsCompact ▹ SpellsCompact) (o.size, (references, cells)) u.back v,
              counts_long (references, cells) v.back v.second,
              if_any_short o.size,
            )
        | inr bare ↦
            let s = bare.1.fields in
            let t = s.second in
            let u = t.second in
            omega (
              arith,
              named_long (SpellsExGuid ▹ SpellsCompact ▹ SpellsCompact ▹ SpellsCompact) (o.id, (blob, (o.partition, (references, cells)))) (fields_of input d) s,
              named_long (SpellsCompact ▹ SpellsCompact ▹ SpellsCompact) (blob, (o.partition, (references, cells))) s.back t,
              number_long (SpellsCompact ▹ SpellsCompact) (o.partition, (references, cells)) t.back u,
              counts_long (references, cells) u.back u.second,
              if_any_nothing o.size bare.0,
            )
      ]

  -- an object whose bytes are in a blob
  outside : (o : Object) (blob : ExGuid) → BlobDeclaration input d o.id blob o.partition o.size → BlobReference input e o.references o.cells blob
      → 4 * (length (simple_object 0x05 (declaration_fields o (Apart blob))) + length (simple_object 0x1C (data_fields o (Apart blob)))) ≤ 5 * (size input d + size input e)
  outside o blob h k =
      let r = length o.references in
      let c = length o.cells in
      let fields = declaration_fields o (Apart blob) in
      let written = six (exguid o.id) (exguid blob) (compact o.partition) (size_if_any o.size) (compact r) (compact c) in
      let few : length fields ≤ 127 =
      omega (arith, written, short_exguid o.id, short_exguid blob, short_compact o.partition, if_any_short o.size, short_compact o.size, short_compact r, short_compact c)
      in
      let named = length (exguid o.id) + length (exguid blob) + length (compact o.partition) + length (size_if_any o.size) + 2 in
      let first = declared 0x05 fields named (r + c) (omega arith) few (omega (arith, written, compact_low r, compact_low c)) (blob_fields o blob h) in
      let data_is = reference_spelled o blob k in
      omega (arith, first, data_long 0x1C (data_fields o (Apart blob)) (omega arith) data_is, lists_long o (Apart blob), own_size input e, two_more (length (fields_of input e)), ap (λ (b : List ℕ). length b) data_is)

  by_content : (o : Object) (c : Content) → SaysContent input d e o c
      → 4 * (length (simple_object (declaration_kind c) (declaration_fields o c)) + length (simple_object (data_kind c) (data_fields o c))) ≤ 5 * (size input d + size input e)
  by_content o (Inline bytes) h = inline o bytes h.2 h.3
  by_content o (Apart blob) h = outside o blob h.2 h.3

  pair_size : (o : Object) → SaysContent input d e o o.content → 4 * (length (declaration_bytes o) + length (data_bytes o)) ≤ 5 * (size input d + size input e)
  unfolding declaration_bytes data_bytes
  pair_size o h = by_content o o.content h

-- ---- all of them

module _ (input : List ℕ) where
  pairs_size : (ds es : List Tree) (os : List Object) → EachPair (λ d e o. SaysContent input d e o o.content) ds es os
      → 4 * (length (flat_map declaration_bytes os) + length (flat_map data_bytes os)) ≤ 5 * (total (size input) ds + total (size input) es)
  pairs_size [] [] [] h = omega arith
  pairs_size (d ∷ ds) (e ∷ es) (o ∷ os) h =
      omega (
        arith,
        pair_size input d e o h.0,
        pairs_size ds es os h.1,
        total-cons (size input) d ds,
        total-cons (size input) e es,
        length-append (declaration_bytes o) (flat_map declaration_bytes os),
        length-append (data_bytes o) (flat_map data_bytes os),
      )
  pairs_size [] [] (o ∷ os) h = absurd h
  pairs_size [] (e ∷ es) os h = absurd h
  pairs_size (d ∷ ds) [] os h = absurd h
  pairs_size (d ∷ ds) (e ∷ es) [] h = absurd h

  -- a compound object takes three bytes beside what it holds
  pub holds_size : (t : Tree) → (out-Tree t).compound ≡ true → total (size input) (out-Tree t).children + 3 ≤ size input t
  holds_size t mark = omega (arith, size_out input t, two_more (length (fields_of input t)), ap {B = ℕ} (λ (b : Bool). cond b 1 0) mark)

  pub group_size : (t : Tree) (os : List Object) (g : SaysGroup input t os) → 4 * (length (declarations_bytes os) + length (datas_bytes os)) ≤ 5 * (size input g.declarations + size input g.data_of)
  group_size t os g =
      omega (
        arith,
        pairs_size (declarations_in g.declarations) (data_in g.data_of) os g.pairs,
        length_declarations os,
        length_datas os,
        total_filter (size input) (λ c. is_kind 0x18 c || is_kind 0x05 c) (out-Tree g.declarations).children,
        total_filter (size input) (λ c. is_kind 0x16 c || is_kind 0x1C c) (out-Tree g.data_of).children,
        holds_size g.declarations g.declarations_form.mark,
        holds_size g.data_of g.data_form.mark,
      )
