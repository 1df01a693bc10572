-- The written form of an element stands as an element that says it.
use Rattle.std.proofs.Common.{◌≡◌, ℕ, suc, ◌+◌, ◌^◌, ◌<◌, true, List, [], ◌∷◌, ◌++◌, length, map, sum, refl, sym, ap, subst, ◌∙◌, append_assoc, arith}
use Rattle.std.specs.Prelude.{◌==◌, ◌||◌, filter, Bool}
use Rattle.std.specs.List.{flat_map, sum_by, AllByRecursion}
use Rattle.compact_values.specs.Compact.{compact, SpellsCompact}
use Rattle.compact_values.specs.Sequences.{◌▹◌}
use Rattle.compact_values.specs.Ids.{exguid, serial, FitsExGuid, FitsSerial, SpellsExGuid, SpellsSerial}
use Rattle.compact_values.specs.declared.guid.Guid.{Guid}
use Rattle.compact_values.specs.declared.ids.ExGuid.{ExGuid}
use Rattle.compact_values.specs.declared.ids.Serial.{Serial}
use Rattle.stream_objects.specs.Objects.{Each, kind_of, is_kind}
use Rattle.stream_objects.specs.Trees.{Consecutive, IsObject, objects}
use Rattle.stream_objects.specs.Written.{started}
use Rattle.stream_objects.specs.declared.tree.Tree.{Tree}
use Rattle.stream_objects.specs.declared.tree.Tree.TheViews.{out-Tree}
use Rattle.stream_objects.proofs.Standing.{At, at_front, at_back, inside_at, Whole, all_stand, branch, each_all, filter_true, objects-one, ones}
use Rattle.doc_model.specs.wire.ElementObjects.{IsNothing, NoFields}
use Rattle.doc_model.specs.wire.Elements.{SaysBody, IsElementWith}
use Rattle.doc_model.specs.wire.Groups.{SaysContent, EachPair}
use Rattle.doc_model.specs.wire.FittingElements.{FitsObject, FitsBody, FitsElement}
use Rattle.doc_model.specs.rules.Weights.{objects_in, objects_written}
use Rattle.doc_model.specs.wire.WrittenElements.{declaration_kind, declaration_bytes, data_kind, data_bytes, declarations_bytes, datas_bytes, blob_bytes, kind_number, body_bytes, element_bytes}
use Rattle.doc_model.specs.declared.element.ManifestMap.{ManifestMap}
use Rattle.doc_model.specs.declared.element.CellMap.{CellMap}
use Rattle.doc_model.specs.declared.element.RevisionMap.{RevisionMap}
use Rattle.doc_model.specs.declared.element.Root.{Root}
use Rattle.doc_model.specs.declared.element.RevisionRoot.{RevisionRoot}
use Rattle.doc_model.specs.declared.element.Object.{Object}
use Rattle.doc_model.specs.declared.element.Content.{Content}
use Rattle.doc_model.specs.declared.element.Content.TheVariants.{Inline, Apart}
use Rattle.doc_model.specs.declared.element.Body.{Body}
use Rattle.doc_model.specs.declared.element.Body.TheVariants.{Index, Storage, Cell, Revision, Group, Blob}
use Rattle.doc_model.specs.declared.element.Element.{Element}
use Rattle.data_elements.proofs.Spelled.{id_spelled, serial_spelled, compact_spelled, id_short, serial_short, compact_short, pair, pair_as, length_three}
use Rattle.data_elements.proofs.Runs.{Of, single, two, three, one_of}
use Rattle.data_elements.proofs.ObjectsStand.{SaysDeclaration, SaysData, stands, blob_stands, declaration_stands, data_stands}
use Rattle.wire_kinds.specs.Row.{IsOf, row_bytes}
use Rattle.doc_model.specs.wire.ElementRows.{manifest_mapping, cell_mapping, revision_mapping, schema_guid, manifest_root, current_revision, revision_manifest, revision_root, group_reference}
use Rattle.doc_model.proofs.ShortRows.{short_manifest_mapping, short_cell_mapping, short_revision_mapping, short_schema_guid, short_manifest_root, short_current_revision, short_revision_manifest, short_revision_root, short_group_reference}

-- ---- pairs of declarations and data

pub each_pair : {V : Type 0} (P Q : Tree → V → Type 0) (R : Tree → Tree → V → Type 0) → ((d e : Tree) (v : V) → P d v → Q e v → R d e v) → (ds es : List Tree) (vs : List V) → Each P ds vs → Each Q es vs → EachPair R ds es vs
each_pair {V} P Q R f [] [] [] h k = tt
each_pair {V} P Q R f (d ∷ ds) (e ∷ es) (v ∷ vs) h k = (f d e v h.0 k.0, each_pair P Q R f ds es vs h.1 k.1)
each_pair {V} P Q R f [] es (v ∷ vs) h k = absurd h
each_pair {V} P Q R f (d ∷ ds) es [] h k = absurd h
each_pair {V} P Q R f [] (e ∷ es) [] h k = absurd k
each_pair {V} P Q R f (d ∷ ds) [] (v ∷ vs) h k = absurd k

kept_declaration : (t : Tree) (c : Content) → kind_of t ≡ declaration_kind c → (is_kind 0x18 t || is_kind 0x05 t) ≡ true
kept_declaration t (Inline bytes) e = ap (λ (k : ℕ). (k == 0x18) || (k == 0x05)) e
kept_declaration t (Apart blob) e = ap (λ (k : ℕ). (k == 0x18) || (k == 0x05)) e

kept_data : (t : Tree) (c : Content) → kind_of t ≡ data_kind c → (is_kind 0x16 t || is_kind 0x1C t) ≡ true
kept_data t (Inline bytes) e = ap (λ (k : ℕ). (k == 0x16) || (k == 0x1C)) e
kept_data t (Apart blob) e = ap (λ (k : ℕ). (k == 0x16) || (k == 0x1C)) e

kind_small : (body : Body) → kind_number body < 2 ^ 64
kind_small (Index manifests cells revisions) = omega arith
kind_small (Storage schema roots) = omega arith
kind_small (Cell current) = omega arith
kind_small (Revision id base roots groups) = omega arith
kind_small (Group objects) = omega arith
kind_small (Blob bytes) = omega arith

module _ (input : List ℕ) (n : ℕ) where
  -- The children of an element stand there, and make it say this.
  record BodyAt (body : Body) (from next : ℕ) : Type 0 where
    pub trees : List Tree
    pub standing : Consecutive (IsObject (suc (suc n)) input) trees from next
    pub says : (t : Tree) → (out-Tree t).children ≡ trees → SaysBody input t (kind_number body) body
    pub count_is : sum (map objects trees) ≡ objects_in body

  index_at : (ms : List ManifestMap) (cs : List CellMap) (rs : List RevisionMap) (p : ℕ) → FitsBody (Index ms cs rs) → At input p (body_bytes (Index ms cs rs)) → BodyAt (Index ms cs rs) p (p + length (body_bytes (Index ms cs rs)))
  unfolding body_bytes
  index_at ms cs rs p f a =
      let x = flat_map (row_bytes manifest_mapping) ms in
      let y = flat_map (row_bytes cell_mapping) cs in
      let z = flat_map (row_bytes revision_mapping) rs in
      let xy = at_front input p (x ++ y) z a in
      let ra = all_stand input (suc (suc n)) (Of 0x11 (IsOf manifest_mapping input)) manifest_mapping.fields.Fits (row_bytes manifest_mapping) (λ m. 1) (stands input (suc n) manifest_mapping (omega arith) (λ v. omega (arith, short_manifest_mapping v))) ms p f.0 (at_front input p x y xy) in
      let rb = all_stand input (suc (suc n)) (Of 0x0E (IsOf cell_mapping input)) cell_mapping.fields.Fits (row_bytes cell_mapping) (λ m. 1) (stands input (suc n) cell_mapping (omega arith) (λ v. omega (arith, short_cell_mapping v))) cs (p + length x) f.1 (at_back input p x y xy) in
      let rc = all_stand input (suc (suc n)) (Of 0x0D (IsOf revision_mapping input)) revision_mapping.fields.Fits (row_bytes revision_mapping) (λ m. 1) (stands input (suc n) revision_mapping (omega arith) (λ v. omega (arith, short_revision_mapping v))) rs (p + length (x ++ y)) f.2 (at_back input p (x ++ y) z a) in
      let all = three input (suc (suc n)) 0x11 0x0E 0x0D (IsOf manifest_mapping input) (IsOf cell_mapping input) (IsOf revision_mapping input) ms cs rs (sum_by (λ m. 1) ms) (sum_by (λ m. 1) cs) (sum_by (λ m. 1) rs) p x y z
      (λ e. absurd (omega arith)) (λ e. absurd (omega arith)) (λ e. absurd (omega arith)) ra rb rc in
      record {
        trees = all.trees;
        standing = all.standing;
        says = λ t e. (refl, all.first t e, all.second t e, all.third t e);
        count_is = omega (arith, all.count_is, ones ms, ones cs, ones rs);
      }

  storage_at : (schema : Guid) (rs : List Root) (p : ℕ) → FitsBody (Storage schema rs) → At input p (body_bytes (Storage schema rs)) → BodyAt (Storage schema rs) p (p + length (body_bytes (Storage schema rs)))
  unfolding body_bytes
  storage_at schema rs p f a =
      let x = row_bytes schema_guid schema in
      let y = flat_map (row_bytes manifest_root) rs in
      let ra = single input (suc (suc n)) (Of 0x0C (IsOf schema_guid input)) schema 1 p (p + length x) (stands input (suc n) schema_guid (omega arith) (λ v. omega (arith, short_schema_guid v)) schema p f.0 (at_front input p x y a)) in
      let rb = all_stand input (suc (suc n)) (Of 0x07 (IsOf manifest_root input)) manifest_root.fields.Fits (row_bytes manifest_root) (λ m. 1) (stands input (suc n) manifest_root (omega arith) (λ v. omega (arith, short_manifest_root v))) rs (p + length x) f.1 (at_back input p x y a) in
      let all = two input (suc (suc n)) 0x0C 0x07 (IsOf schema_guid input) (IsOf manifest_root input) (schema ∷ []) rs 1 (sum_by (λ m. 1) rs) p x y (λ e. absurd (omega arith)) ra rb in
      record {
        trees = all.trees;
        standing = all.standing;
        says = λ t e. (refl, one_of 0x0C (IsOf schema_guid input) schema t (all.first t e), all.second t e);
        count_is = omega (arith, all.count_is, ones rs);
      }

  cell_at : (current : ExGuid) (p : ℕ) → FitsBody (Cell current) → At input p (body_bytes (Cell current)) → BodyAt (Cell current) p (p + length (body_bytes (Cell current)))
  unfolding body_bytes
  cell_at current p f a =
      let x = row_bytes current_revision current in
      let w = stands input (suc n) current_revision (omega arith) (λ v. omega (arith, short_current_revision v)) current p f a in
      record {
        trees = w.tree ∷ [];
        standing = (p + length x, w.object, refl);
        says = λ t e. (refl, (w.tree, ap (filter (is_kind 0x0B)) e ∙ filter_true (is_kind 0x0B) (w.tree ∷ []) (ap (λ (k : ℕ). k == 0x0B) w.is.0, tt), w.is.1));
        count_is = objects-one w.tree ∙ w.count_is;
      }

  revision_at : (id base : ExGuid) (rs : List RevisionRoot) (gs : List ExGuid) (p : ℕ) → FitsBody (Revision id base rs gs) → At input p (body_bytes (Revision id base rs gs))
      → BodyAt (Revision id base rs gs) p (p + length (body_bytes (Revision id base rs gs)))
  unfolding body_bytes
  revision_at id base rs gs p f a =
      let x = row_bytes revision_manifest (id, base) in
      let y = flat_map (row_bytes revision_root) rs in
      let z = flat_map (row_bytes group_reference) gs in
      let xy = at_front input p (x ++ y) z a in
      let ra = single input (suc (suc n)) (Of 0x1A (IsOf revision_manifest input)) (id, base) 1 p (p + length x) (stands input (suc n) revision_manifest (omega arith) (λ v. omega (arith, short_revision_manifest v)) (id, base) p (f.0, f.1) (at_front input p x y xy)) in
      let rb = all_stand input (suc (suc n)) (Of 0x0A (IsOf revision_root input)) revision_root.fields.Fits (row_bytes revision_root) (λ m. 1) (stands input (suc n) revision_root (omega arith) (λ v. omega (arith, short_revision_root v))) rs (p + length x) f.2 (at_back input p x y xy) in
      let rc = all_stand input (suc (suc n)) (Of 0x19 (IsOf group_reference input)) FitsExGuid (row_bytes group_reference) (λ m. 1) (stands input (suc n) group_reference (omega arith) (λ v. omega (arith, short_group_reference v))) gs (p + length (x ++ y)) f.3 (at_back input p (x ++ y) z a) in
      let all = three input (suc (suc n)) 0x1A 0x0A 0x19 (IsOf revision_manifest input) (IsOf revision_root input) (IsOf group_reference input) ((id, base) ∷ []) rs gs 1 (sum_by (λ m. 1) rs) (sum_by (λ m. 1) gs) p x y z
      (λ e. absurd (omega arith)) (λ e. absurd (omega arith)) (λ e. absurd (omega arith)) ra rb rc in
      record {
        trees = all.trees;
        standing = all.standing;
        says = λ t e. (refl, one_of 0x1A (IsOf revision_manifest input) (id, base) t (all.first t e), all.second t e, all.third t e);
        count_is = omega (arith, all.count_is, ones rs, ones gs);
      }

  -- an object without fields whose children are these
  abbrev Holds : Tree → List Tree → Type 0
  Holds t ts = NoFields input t × ((out-Tree t).children ≡ ts)

  -- One half of a group stands there.
  record HalfAt (kind : ℕ) (Is : Tree → Object → Type 0) (os : List Object) (from next : ℕ) : Type 0 where
    pub trees : List Tree
    pub each : Each Is trees os
    pub whole : Whole input (suc (suc n)) (λ t. Of kind Holds t trees) (1 + length os) from next

  abbrev IsDeclaration : Tree → Object → Type 0
  IsDeclaration t o = (kind_of t ≡ declaration_kind o.content) × SaysDeclaration input n t o o.content

  abbrev IsData : Tree → Object → Type 0
  IsData t o = (kind_of t ≡ data_kind o.content) × SaysData input n t o o.content

  declarations_at : (os : List Object) (p : ℕ) → AllByRecursion FitsObject os → At input p (declarations_bytes os) → HalfAt 0x1D IsDeclaration os p (p + length (declarations_bytes os))
  unfolding declarations_bytes
  declarations_at os p f a =
      let x = flat_map declaration_bytes os in
      let q = p + length (started 0x1D true []) in
      let r = all_stand input (suc n) IsDeclaration FitsObject declaration_bytes (λ o. 1) (declaration_stands input n) os q f (inside_at input p 0x1D [] x a) in
      record {
        trees = r.trees;
        each = r.each;
        whole = branch input (suc n) p 0x1D IsNothing tt [] x r.trees (length os) (omega arith) (omega arith) refl a r.standing (r.count_is ∙ ones os) (λ t. Holds t r.trees) (λ t h e. (h, e));
      }

  datas_at : (os : List Object) (p : ℕ) → AllByRecursion FitsObject os → At input p (datas_bytes os) → HalfAt 0x1E IsData os p (p + length (datas_bytes os))
  unfolding datas_bytes
  datas_at os p f a =
      let x = flat_map data_bytes os in
      let q = p + length (started 0x1E true []) in
      let r = all_stand input (suc n) IsData FitsObject data_bytes (λ o. 1) (data_stands input n) os q f (inside_at input p 0x1E [] x a) in
      record {
        trees = r.trees;
        each = r.each;
        whole = branch input (suc n) p 0x1E IsNothing tt [] x r.trees (length os) (omega arith) (omega arith) refl a r.standing (r.count_is ∙ ones os) (λ t. Holds t r.trees) (λ t h e. (h, e));
      }

  says_content : (d e : Tree) (o : Object) (c : Content) → (kind_of d ≡ declaration_kind c) × SaysDeclaration input n d o c → (kind_of e ≡ data_kind c) × SaysData input n e o c → SaysContent input d e o c
  says_content d e o (Inline bytes) h k = (h.0, k.0, h.1, k.1)
  says_content d e o (Apart blob) h k = (h.0, k.0, h.1, k.1)

  group_at : (os : List Object) (p : ℕ) → FitsBody (Group os) → At input p (body_bytes (Group os)) → BodyAt (Group os) p (p + length (body_bytes (Group os)))
  unfolding body_bytes
  group_at os p f a =
      let x = declarations_bytes os in
      let y = datas_bytes os in
      let ha = declarations_at os p f (at_front input p x y a) in
      let hb = datas_at os (p + length x) f (at_back input p x y a) in
      let ra = single input (suc (suc n)) (Of 0x1D Holds) ha.trees (1 + length os) p (p + length x) ha.whole in
      let rb = single input (suc (suc n)) (Of 0x1E Holds) hb.trees (1 + length os) (p + length x) (p + length x + length y) hb.whole in
      let all = two input (suc (suc n)) 0x1D 0x1E Holds Holds (ha.trees ∷ []) (hb.trees ∷ []) (1 + length os) (1 + length os) p x y (λ e. absurd (omega arith)) ra rb in
      let keep_d : Tree → Bool = λ t. is_kind 0x18 t || is_kind 0x05 t in
      let keep_e : Tree → Bool = λ t. is_kind 0x16 t || is_kind 0x1C t in
      let all_d : filter keep_d ha.trees ≡ ha.trees = filter_true keep_d ha.trees (each_all IsDeclaration (λ t. keep_d t ≡ true) (λ t o h. kept_declaration t o.content h.0) ha.trees os ha.each) in
      let all_e : filter keep_e hb.trees ≡ hb.trees = filter_true keep_e hb.trees (each_all IsData (λ t. keep_e t ≡ true) (λ t o h. kept_data t o.content h.0) hb.trees os hb.each) in
      let pairs = each_pair IsDeclaration IsData (λ d e o. SaysContent input d e o o.content) (λ d e o h k. says_content d e o o.content h k) ha.trees hb.trees os ha.each hb.each in
      record {
        trees = all.trees;
        standing = all.standing;
        says = λ t e.
            let d = one_of 0x1D Holds ha.trees t (all.first t e) in
            let g = one_of 0x1E Holds hb.trees t (all.second t e) in
            let held_d = ap (filter keep_d) d.2.1 ∙ all_d in
            let held_e = ap (filter keep_e) g.2.1 ∙ all_e in (
              refl,
              record {
                declarations = d.0;
                data_of = g.0;
                one_declarations = d.1;
                one_data = g.1;
                declarations_form = d.2.0;
                data_form = g.2.0;
                pairs = subst (λ (l : List Tree). EachPair (λ u v o. SaysContent input u v o o.content) l (filter keep_e (out-Tree g.0).children) os) (sym held_d)
                    (subst (λ (l : List Tree). EachPair (λ u v o. SaysContent input u v o o.content) ha.trees l os) (sym held_e) pairs);
              },
            );
        count_is = omega (arith, all.count_is);
      }

  blob_at : (bytes : List ℕ) (p : ℕ) → FitsBody (Blob bytes) → At input p (body_bytes (Blob bytes)) → BodyAt (Blob bytes) p (p + length (body_bytes (Blob bytes)))
  unfolding body_bytes
  blob_at bytes p f a =
      let x = blob_bytes bytes in
      let w = blob_stands input (suc n) bytes p f a in
      record {
        trees = w.tree ∷ [];
        standing = (p + length x, w.object, refl);
        says = λ t e. (refl, (w.tree, ap (filter (is_kind 0x02)) e ∙ filter_true (is_kind 0x02) (w.tree ∷ []) (ap (λ (k : ℕ). k == 0x02) w.is.0, tt), w.is.1));
        count_is = objects-one w.tree ∙ w.count_is;
      }

  body_at : (body : Body) (p : ℕ) → FitsBody body → At input p (body_bytes body) → BodyAt body p (p + length (body_bytes body))
  body_at (Index ms cs rs) p f a = index_at ms cs rs p f a
  body_at (Storage schema rs) p f a = storage_at schema rs p f a
  body_at (Cell current) p f a = cell_at current p f a
  body_at (Revision id base rs gs) p f a = revision_at id base rs gs p f a
  body_at (Group os) p f a = group_at os p f a
  body_at (Blob bytes) p f a = blob_at bytes p f a

  -- an element with its serial number, wherever its bytes stand
  pub element_stands : (e : Element) (s : Serial) (p : ℕ) → FitsElement e → FitsSerial s → At input p (element_bytes e s)
      → Whole input (suc (suc (suc n))) (λ t. (kind_of t ≡ 0x01) × IsElementWith input t s e) (objects_written e) p (p + length (element_bytes e s))
  unfolding element_bytes
  element_stands e s p f g a =
      let x = exguid e.id in
      let y = serial s in
      let k = kind_number e.body in
      let z = compact k in
      let fields = x ++ y ++ z in
      let b = body_at e.body (p + length (started 0x01 true fields)) f.1 (inside_at input p 0x01 fields (body_bytes e.body) a) in
      let short : length fields < 2 ^ 64 = omega (arith, length_three x y z, id_short e.id, serial_short s, compact_short k) in
      let spelled = pair_as SpellsExGuid (SpellsSerial ▹ SpellsCompact) e.id (s, k) x (y ++ z) fields (append_assoc x y z) (id_spelled e.id f.0) (pair SpellsSerial SpellsCompact s k y z (serial_spelled s g) (compact_spelled k (kind_small e.body))) in
      branch input (suc (suc n)) p 0x01 (SpellsExGuid ▹ SpellsSerial ▹ SpellsCompact) (e.id, (s, k)) fields (body_bytes e.body) b.trees (objects_in e.body) (omega arith) short spelled a b.standing b.count_is (λ t. IsElementWith input t s e)
      (λ t h c. (k, h, b.says t c))
