-- The written form of a request stands as a request.
use Rattle.std.proofs.Common.{◌≡◌, ℕ, suc, ◌+◌, ◌^◌, ◌<◌, Bool, true, false, List, [], ◌∷◌, ◌++◌, length, map, sum, Option, Some, refl, sym, ap, subst, ◌∙◌, append_assoc, arith}
use Rattle.std.specs.Prelude.{filter, find, ◌==◌}
use Rattle.std.specs.List.{flat_map, sum_by, AllByRecursion}
use Rattle.std.proofs.lemmas.List.{append-nil, length-append}
use Rattle.compact_values.specs.Compact.{compact, SpellsCompact}
use Rattle.compact_values.specs.Ids.{exguid, FitsExGuid, SpellsExGuid}
use Rattle.compact_values.specs.Sequences.{◌▹◌, Begins, SpellsByte}
use Rattle.compact_values.specs.declared.ids.ExGuid.{ExGuid}
use Rattle.compact_values.specs.declared.ids.Serial.TheVariants as serials
use Rattle.stream_objects.specs.Objects.{HasFields, kind_of, is_kind}
use Rattle.stream_objects.specs.Trees.{Consecutive, EndsBehind, IsObject, objects}
use Rattle.stream_objects.specs.Written.{started, simple_object, compound_object}
use Rattle.stream_objects.specs.declared.tree.Tree.{Tree}
use Rattle.stream_objects.specs.declared.tree.Tree.TheViews.{out-Tree}
use Rattle.stream_objects.proofs.Standing.{At, at_front, at_back, inside_at, Whole, all_stand, leaf, branch, whole_map, objects-one, filter_all, filter_none, filter_two}
use Rattle.stream_objects.proofs.Unique.{objects-cons}
use Rattle.doc_model.specs.wire.ElementObjects.{IsNothing}
use Rattle.doc_model.specs.wire.Elements.{IsElement, IsPackage}
use Rattle.doc_model.specs.wire.Fronts.{HasVersions, HasSignature}
use Rattle.doc_model.specs.wire.Walks.{walk}
use Rattle.doc_model.specs.wire.Requests.{PutFields, AllocateFields, first_knowledge, IsKnown, Holds, IsSub, SaysRequest, IsRequest}
use Rattle.doc_model.specs.wire.FittingElements.{FitsElement}
use Rattle.doc_model.specs.wire.FittingRequests.{FitsWhat, FitsSub, objects_in, sub_objects, request_objects, FitsRequest}
use Rattle.doc_model.specs.rules.Weights.{objects_written}
use Rattle.doc_model.specs.wire.WrittenElements.{knowledge_bytes}
use Rattle.doc_model.specs.wire.WrittenRequests.{IsKindOf, query_bytes, put_bytes, allocate_bytes, held_bytes, sub_bytes, sent_bytes, sent_package_bytes, request_front, request_bytes}
use Rattle.doc_model.specs.declared.element.Element.{Element}
use Rattle.doc_model.specs.declared.request.CellRequest.{CellRequest}
use Rattle.doc_model.specs.declared.request.WireSub.{WireSub}
use Rattle.doc_model.specs.declared.request.WireKind.{WireKind}
use Rattle.doc_model.specs.declared.request.WireKind.TheVariants.{Access, Pull, Put, Draw, Unknown}
use Rattle.data_elements.proofs.ElementStands.{element_stands}
use Rattle.data_elements.proofs.PackageStands.{knowledge_stands}
use Rattle.data_elements.proofs.Runs.{Of, kinds_of, any_of, single, two, one_of}
use Rattle.data_elements.proofs.Spelled.{id_spelled, compact_spelled, id_short, compact_short, pair, pair_as, length_three}

-- what spells a value begins with it
begun : {V : Type 0} (Spells : V → List ℕ → Type 0) (v : V) (bytes : List ℕ) → Spells v bytes → Begins Spells v bytes
begun Spells v bytes s = record { front = bytes; rest = []; spelled = s; bytes_are = sym (append-nil bytes) }

-- ---- the first object of a walk

find_no : (test : Tree → Bool) (t : Tree) (ts : List Tree) → test t ≡ false → find test (t ∷ ts) ≡ find test ts
find_no test t ts e = rw e refl

find_yes : (test : Tree → Bool) (t : Tree) (ts : List Tree) → test t ≡ true → find test (t ∷ ts) ≡ Some t
find_yes test t ts e = rw e refl

of_kind : (k : ℕ) (t : Tree) (l : ℕ) → kind_of t ≡ l → is_kind k t ≡ (l == k)
of_kind k t l e = ap (λ (m : ℕ). m == k) e

-- below a query, without anything in it, the knowledge behind it is the first
first_of_query : (t q k : Tree) → (out-Tree t).children ≡ q ∷ k ∷ [] → kind_of q ≡ 0x51 → (out-Tree q).children ≡ [] → kind_of k ≡ 0x10 → first_knowledge t ≡ Some k
first_of_query t q k e a none b =
    ap (λ (l : List Tree). find (is_kind 0x10) (flat_map (walk 12) l)) e ∙ find_no (is_kind 0x10) q (flat_map (walk 11) (out-Tree q).children ++ (walk 12 k ++ [])) (of_kind 0x10 q 0x51 a)
    ∙ ap (λ (l : List Tree). find (is_kind 0x10) (flat_map (walk 11) l ++ (walk 12 k ++ []))) none ∙ find_yes (is_kind 0x10) k (flat_map (walk 11) (out-Tree k).children ++ []) (of_kind 0x10 k 0x10 b)

module _ (input : List ℕ) (n : ℕ) where
  -- a simple object holds nothing
  no_children : (t : Tree) (from next : ℕ) → IsObject (suc n) input t from next → (out-Tree t).compound ≡ false → (out-Tree t).children ≡ []
  unfolding IsObject
  no_children t from next h mark =
      let ended : EndsBehind (IsObject n input) input (out-Tree t) false next = subst (λ (b : Bool). EndsBehind (IsObject n input) input (out-Tree t) b next) mark h.1 in
      ended.0

  query_stands : (p : ℕ) → At input p query_bytes → Whole input (suc n) (λ t. (kind_of t ≡ 0x51) × HasFields false SpellsByte input t 0) 1 p (p + length query_bytes)
  unfolding query_bytes
  query_stands p a = leaf input n p 0x51 SpellsByte 0 (0 ∷ []) (omega arith) (omega arith) refl a

  put_stands : (index expected : ExGuid) (flags p : ℕ) → FitsExGuid index → FitsExGuid expected → At input p (put_bytes index expected flags)
      → Whole input (suc n) (λ t. (kind_of t ≡ 0x5A) × PutFields input t (index, (expected, flags))) 1 p (p + length (put_bytes index expected flags))
  unfolding put_bytes
  put_stands index expected flags p f g a =
      let x = exguid index in
      let y = exguid expected in
      let z : List ℕ = flags ∷ [] in
      let Row : ExGuid × (ExGuid × ℕ) → List ℕ → Type 0 = SpellsExGuid ▹ SpellsExGuid ▹ SpellsByte in
      let spelled : Row (index, (expected, flags)) (x ++ y ++ z) =
      pair_as SpellsExGuid (SpellsExGuid ▹ SpellsByte) index (expected, flags) x (y ++ z) (x ++ y ++ z) (append_assoc x y z) (id_spelled index f) (pair SpellsExGuid SpellsByte expected flags y z (id_spelled expected g) refl) in
      whole_map input (suc n) 1 p (p + length (simple_object 0x5A (x ++ y ++ z))) (λ t. (kind_of t ≡ 0x5A) × HasFields false (Begins Row) input t (index, (expected, flags)))
      (λ t. (kind_of t ≡ 0x5A) × PutFields input t (index, (expected, flags))) (λ t h. (h.0, h.1.fields))
      (
      leaf input n p 0x5A (Begins Row) (index, (expected, flags)) (x ++ y ++ z) (omega arith) (omega (arith, length_three x y z, id_short index, id_short expected))
      (begun Row (index, (expected, flags)) (x ++ y ++ z) spelled) a
      )

  allocate_stands : (count p : ℕ) → count < 2 ^ 64 → At input p (allocate_bytes count) → Whole input (suc n) (λ t. (kind_of t ≡ 0x80) × AllocateFields input t count) 1 p (p + length (allocate_bytes count))
  unfolding allocate_bytes
  allocate_stands count p f a =
      let x = compact count in
      let z : List ℕ = 0 ∷ [] in
      let Row : ℕ × ℕ → List ℕ → Type 0 = SpellsCompact ▹ SpellsByte in
      whole_map input (suc n) 1 p (p + length (simple_object 0x80 (x ++ z))) (λ t. (kind_of t ≡ 0x80) × HasFields false (Begins Row) input t (count, 0))
      (λ t. (kind_of t ≡ 0x80) × AllocateFields input t count) (λ t h. (h.0, (0, h.1)))
      (
      leaf input n p 0x80 (Begins Row) (count, 0) (x ++ z) (omega arith) (omega (arith, length-append x z, compact_short count))
      (begun Row (count, 0) (x ++ z) (pair SpellsCompact SpellsByte count 0 x z (compact_spelled count f) refl)) a
      )

  sent_stands : (e : Element) (p : ℕ) → FitsElement e → At input p (sent_bytes e) → Whole input (suc (suc (suc n))) (λ t. Of 0x01 (IsElement input) t e) (objects_written e) p (p + length (sent_bytes e))
  sent_stands e p f a =
      let w = element_stands input n e serials.Null p f tt a in
      record { tree = w.tree; object = w.object; is = (w.is.0, (serials.Null, w.is.1)); count_is = w.count_is }

  package_stands : (es : List Element) (p : ℕ) → AllByRecursion FitsElement es → At input p (sent_package_bytes es)
      → Whole input (suc (suc (suc (suc n)))) (λ t. Of 0x15 (IsPackage input) t es) (1 + sum_by objects_written es) p (p + length (sent_package_bytes es))
  unfolding sent_package_bytes
  package_stands es p f a =
      let x = flat_map sent_bytes es in
      let q = p + length (started 0x15 true (0 ∷ [])) in
      let r = all_stand input (suc (suc (suc n))) (Of 0x01 (IsElement input)) FitsElement sent_bytes objects_written sent_stands es q f (inside_at input p 0x15 (0 ∷ []) x a) in
      branch input (suc (suc (suc n))) p 0x15 SpellsByte 0 (0 ∷ []) x r.trees (sum_by objects_written es) (omega arith) (omega arith) refl a r.standing r.count_is (λ t. IsPackage input t es)
      (λ t h e. ((0, h), any_of 0x01 (IsElement input) es t r.trees r.trees e (filter_all 0x01 r.trees (kinds_of 0x01 (IsElement input) r.trees es r.each)) r.each))

-- the objects in a sub-request stand there, and make it hold this
record HeldAt (input : List ℕ) (levels : ℕ) (what : WireKind) (from next : ℕ) : Type 0 where
  trees : List Tree
  standing : Consecutive (IsObject levels input) trees from next
  says : (t : Tree) → (out-Tree t).children ≡ trees → (kind : ℕ) → IsKindOf what kind → Holds input t kind what
  count_is : sum (map objects trees) ≡ objects_in what

objects_two : (t u : Tree) → sum (map objects (t ∷ u ∷ [])) ≡ objects t + objects u
objects_two t u = objects-cons t (u ∷ []) ∙ ap (λ (m : ℕ). objects t + m) (objects-one u)

module _ (input : List ℕ) (n : ℕ) where
  abbrev levels : ℕ
  levels = suc (suc (suc (suc n)))

  -- the only child of this type
  the_one : (k : ℕ) (t c : Tree) → (out-Tree t).children ≡ c ∷ [] → kind_of c ≡ k → filter (is_kind k) (out-Tree t).children ≡ c ∷ []
  the_one k t c e h = ap (filter (is_kind k)) e ∙ filter_all k (c ∷ []) (h, tt)

  held_stands : (what : WireKind) (p : ℕ) → FitsWhat what → At input p (held_bytes what) → HeldAt input levels what p (p + length (held_bytes what))
  unfolding held_bytes
  held_stands Access p f a = record { trees = []; standing = omega arith; says = λ t e kind k. k; count_is = refl }
  held_stands Unknown p f a = record { trees = []; standing = omega arith; says = λ t e kind k. k; count_is = refl }
  held_stands (Put index expected flags) p f a =
      let w = put_stands input (suc (suc (suc n))) index expected flags p f.0 f.1 a in
      record {
        trees = w.tree ∷ [];
        standing = (p + length (put_bytes index expected flags), w.object, refl);
        says = λ t e kind k. (k, (w.tree, the_one 0x5A t w.tree e w.is.0, w.is.1));
        count_is = objects-one w.tree ∙ w.count_is;
      }
  held_stands (Draw count) p f a =
      let w = allocate_stands input (suc (suc (suc n))) count p f a in
      record {
        trees = w.tree ∷ [];
        standing = (p + length (allocate_bytes count), w.object, refl);
        says = λ t e kind k. (k, (w.tree, the_one 0x80 t w.tree e w.is.0, w.is.1));
        count_is = objects-one w.tree ∙ w.count_is;
      }
  held_stands (Pull knowledge) p f a =
      let x = query_bytes in
      let y = knowledge_bytes knowledge in
      let m = p + length x in
      let q = query_stands input (suc (suc (suc n))) p (at_front input p x y a) in
      let w = knowledge_stands input n knowledge m f (at_back input p x y a) in
      let end : m + length y ≡ p + length (x ++ y) = omega (arith, length-append x y) in
      let none = no_children input (suc (suc (suc n))) q.tree p m q.object q.is.1.mark in
      record {
        trees = q.tree ∷ w.tree ∷ [];
        standing = (m, q.object, (p + length (x ++ y), subst (λ (z : ℕ). IsObject levels input w.tree m z) end w.object, refl));
        says = λ t e kind k.
            let first = first_of_query t q.tree w.tree e q.is.0 none w.is.0 in (
              k,
              (
                q.tree,
                ap (filter (is_kind 0x51)) e ∙ filter_two 0x51 (q.tree ∷ []) (w.tree ∷ []) (q.tree ∷ []) [] (filter_all 0x51 (q.tree ∷ []) (q.is.0, tt)) (filter_none 0x10 0x51 (w.tree ∷ []) (λ d. absurd (omega (arith, d))) (w.is.0, tt)),
              ),
              subst (λ (o : Option Tree). IsKnown input o knowledge) (sym first) w.is.1,
            );
        count_is = omega (arith, objects_two q.tree w.tree, q.count_is, w.count_is);
      }

  sub_stands : (s : WireSub) (p : ℕ) → FitsSub s → At input p (sub_bytes s) → Whole input (suc levels) (λ t. Of 0x42 (IsSub input) t s) (sub_objects s) p (p + length (sub_bytes s))
  unfolding sub_bytes
  sub_stands s p f a =
      let x = compact s.id in
      let y = compact s.kind in
      let z = compact 0 in
      let fields = x ++ y ++ z in
      let Row : ℕ × (ℕ × ℕ) → List ℕ → Type 0 = SpellsCompact ▹ SpellsCompact ▹ SpellsCompact in
      let spelled : Row (s.id, (s.kind, 0)) fields =
      pair_as SpellsCompact (SpellsCompact ▹ SpellsCompact) s.id (s.kind, 0) x (y ++ z) fields (append_assoc x y z) (compact_spelled s.id f.id)
      (pair SpellsCompact SpellsCompact s.kind 0 y z (compact_spelled s.kind f.kind) (compact_spelled 0 (omega arith))) in
      let b = held_bytes s.what in
      let h = held_stands s.what (p + length (started 0x42 true fields)) f.what (inside_at input p 0x42 fields b a) in
      branch input levels p 0x42 (Begins Row) (s.id, (s.kind, 0)) fields b h.trees (objects_in s.what) (omega arith) (omega (arith, length_three x y z, compact_short s.id, compact_short s.kind, compact_short 0))
      (begun Row (s.id, (s.kind, 0)) fields spelled) a h.standing h.count_is (λ t. IsSub input t s) (λ t g e. ((0, g), h.says t e s.kind f.kind_of))

  -- the tree of a request
  tree_stands : (r : CellRequest) (p : ℕ) → FitsRequest r → At input p (compound_object 0x40 [] (flat_map sub_bytes r.subs ++ sent_package_bytes r.elements))
      → Whole input (suc (suc levels)) (λ t. SaysRequest input t r) (request_objects r) p (p + length (compound_object 0x40 [] (flat_map sub_bytes r.subs ++ sent_package_bytes r.elements)))
  tree_stands r p f a =
      let x = flat_map sub_bytes r.subs in
      let y = sent_package_bytes r.elements in
      let q = p + length (started 0x40 true []) in
      let both = inside_at input p 0x40 [] (x ++ y) a in
      let subs = all_stand input (suc levels) (Of 0x42 (IsSub input)) FitsSub sub_bytes sub_objects sub_stands r.subs q f.subs (at_front input q x y both) in
      let w = package_stands input (suc n) r.elements (q + length x) f.elements (at_back input q x y both) in
      let sent = single input (suc levels) (Of 0x15 (IsPackage input)) r.elements (1 + sum_by objects_written r.elements) (q + length x) (q + length x + length y) w in
      let all = two input (suc levels) 0x42 0x15 (IsSub input) (IsPackage input) r.subs (r.elements ∷ []) (sum_by sub_objects r.subs) (1 + sum_by objects_written r.elements) q x y (λ e. absurd (omega (arith, e))) subs sent in
      let b = branch input (suc levels) p 0x40 IsNothing tt [] (x ++ y) all.trees (sum_by sub_objects r.subs + (1 + sum_by objects_written r.elements)) (omega arith) (omega arith) refl a all.standing all.count_is
      (λ t. kind_of t ≡ 0x40 → SaysRequest input t r)
      (λ t g e k. record {
        kind = k;
        mark = g.mark;
        subs = all.first t e;
        few_subs = f.few_subs;
        few_puts = f.few_puts;
        one_package = one_of 0x15 (IsPackage input) r.elements t (all.second t e);
      }) in
      record { tree = b.tree; object = b.object; is = b.is.1 b.is.0; count_is = omega (arith, b.count_is) }

-- ---- the whole request

versions_there : (rest : List ℕ) → HasVersions (request_front ++ rest)
versions_there rest = record { long = omega arith; low = omega arith; high = omega arith; least = omega arith }

signature_there : (rest : List ℕ) → HasSignature (request_front ++ rest)
signature_there rest = refl

pub request_stands : (r : CellRequest) → FitsRequest r → IsRequest (request_bytes r) r
unfolding request_bytes
request_stands r f =
    let x = compound_object 0x40 [] (flat_map sub_bytes r.subs ++ sent_package_bytes r.elements) in
    let bytes = request_front ++ x in
    let there : At bytes 12 x = record { before = request_front; behind = []; input_is = ap (λ (l : List ℕ). request_front ++ l) (sym (append-nil x)); place = refl } in
    let w = tree_stands bytes 6 r 12 f there in
    let end : 12 + length x ≡ length bytes = sym (length-append request_front x) in
    record {
      versions = versions_there x;
      signature = signature_there x;
      tree = w.tree;
      stands = record { object = subst (λ (m : ℕ). IsObject 12 bytes w.tree 12 m) end w.object; few = omega (arith, w.count_is, f.few_objects) };
      form = w.is;
      few_elements = f.few_elements;
    }
