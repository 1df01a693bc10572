-- What stands in an input stands in another where the same bytes follow, with its places moved.
use Rattle.std.proofs.Common.{◌≡◌, ℕ, zero, suc, ◌+◌, ◌-◌, ◌≤◌, Bool, true, false, List, [], ◌∷◌, length, map, sum, take, drop, refl, sym, ap, subst, ◌∙◌, arith}
use Rattle.std.specs.List.{slice_range}
use Rattle.std.proofs.lemmas.List.{drop-drop, length-drop}
use Rattle.compact_values.specs.Spelled.{IsSpelledAt}
use Rattle.compact_values.specs.declared.span.Span.{Span}
use Rattle.stream_objects.specs.HeaderValues.{SpellsHeader}
use Rattle.stream_objects.specs.Trees.{Consecutive, StartsAt, EndsBehind, IsObject, objects}
use Rattle.stream_objects.specs.declared.headers.Header.{Header}
use Rattle.stream_objects.specs.declared.headers.Header.TheVariants.{Start, End}
use Rattle.stream_objects.specs.declared.tree.Tree.{Tree}
use Rattle.stream_objects.specs.declared.tree.Tree.TheOpen.{Tree-F}
use Rattle.stream_objects.specs.declared.tree.Tree.TheViews.{out-Tree, roll-Tree}
use Rattle.stream_objects.proofs.Begun.{node, simple_object, closed_object, objects_of}
use Rattle.stream_objects.proofs.Unique.{objects-cons, objects_out}

module _ (a b : List ℕ) (i j : ℕ) (rests : drop i a ≡ drop j b) (before : i ≤ length a) (behind : j ≤ length b) where
  lengths : length a - i ≡ length b - j
  lengths = sym (length-drop i a) ∙ ap (λ (l : List ℕ). length l) rests ∙ length-drop j b

  slice-moved : (x y : ℕ) → slice_range a (i + x) (i + y) ≡ slice_range b (j + x) (j + y)
  slice-moved x y =
      let count : i + y - (i + x) ≡ j + y - (j + x) = omega arith in
      let rest : drop (i + x) a ≡ drop (j + x) b = sym (drop-drop x i a) ∙ ap (λ (l : List ℕ). drop x l) rests ∙ drop-drop x j b in
      ap (λ (n : ℕ). take n (drop (i + x) a)) count ∙ ap (λ (l : List ℕ). take (j + y - (j + x)) l) rest

  header-moved : (h : Header) (x y : ℕ) → IsSpelledAt SpellsHeader h a (i + x) (i + y) → IsSpelledAt SpellsHeader h b (j + x) (j + y)
  header-moved h x y s =
      record {
        order = omega (arith, s.order);
        inside = omega (arith, s.inside, lengths, before, behind);
        spelled = subst (λ (l : List ℕ). SpellsHeader h l) (slice-moved x y) s.spelled;
      }

  abbrev place-moved : ℕ → ℕ
  place-moved place = j + (place - i)

  abbrev span-moved : Span → Span
  span-moved span = record { from = place-moved span.from; to = place-moved span.to }

  starts-moved : (kind : ℕ) (compound : Bool) (fields : Span) (x : ℕ) → StartsAt a kind compound fields (i + x) → StartsAt b kind compound (span-moved fields) (j + x)
  starts-moved kind compound fields x s =
      let from : fields.from ≡ i + (fields.from - i) = omega (arith, s.header.order) in
      let len : fields.to - fields.from ≡ place-moved fields.to - place-moved fields.from = omega (arith, s.header.order, s.order) in
      let moved = header-moved (Start kind compound (fields.to - fields.from)) x (fields.from - i)
      (subst (λ (k : ℕ). IsSpelledAt SpellsHeader (Start kind compound (fields.to - fields.from)) a (i + x) k) from s.header) in
      record {
        header = subst (λ (n : ℕ). IsSpelledAt SpellsHeader (Start kind compound n) b (j + x) (place-moved fields.from)) len moved;
        order = omega (arith, s.order);
        inside = omega (arith, s.inside, lengths, before, behind);
      }

  pub record Moved (levels : ℕ) (t : Tree) (x next : ℕ) : Type 0 where
    pub to : ℕ
    pub to_is : next ≡ i + to
    pub tree : Tree
    pub object : IsObject levels b tree (j + x) (j + to)
    pub count : objects tree ≡ objects t

  record AllMoved (levels : ℕ) (ts : List Tree) (x next : ℕ) : Type 0 where
    to : ℕ
    to_is : next ≡ i + to
    trees : List Tree
    stand : Consecutive (IsObject levels b) trees (j + x) (j + to)
    count : sum (map objects trees) ≡ sum (map objects ts)

  all-moved : (n : ℕ) → ((t : Tree) (x next : ℕ) → IsObject n a t (i + x) next → Moved n t x next) → (ts : List Tree) (x next : ℕ)
      → Consecutive (IsObject n a) ts (i + x) next → AllMoved n ts x next
  all-moved n one [] x next h = record { to = x; to_is = sym h; trees = []; stand = refl; count = refl }
  all-moved n one (t ∷ ts) x next h =
      let m = one t x h.0 h.1 in
      let r = all-moved n one ts m.to next (subst (λ (k : ℕ). Consecutive (IsObject n a) ts k next) m.to_is h.2) in
      record {
        to = r.to;
        to_is = r.to_is;
        trees = m.tree ∷ r.trees;
        stand = (j + m.to, m.object, r.stand);
        count = omega (arith, m.count, r.count, objects-cons t ts, objects-cons m.tree r.trees);
      }

  behind-moved : (n : ℕ) → ((t : Tree) (x next : ℕ) → IsObject n a t (i + x) next → Moved n t x next) → (t : Tree) (u : Tree-F Tree) (compound : Bool) (x next : ℕ)
      → StartsAt a u.kind compound u.fields (i + x) → EndsBehind (IsObject n a) a u compound next → objects t ≡ 1 + sum (map objects u.children) → Moved (suc n) t x next
  behind-moved n one t u false x next s e count =
      record {
        to = u.fields.to - i;
        to_is = omega (arith, e.1, s.header.order, s.order);
        tree = roll-Tree (node u.kind false (span-moved u.fields) []);
        object = simple_object n b u.kind (span-moved u.fields) (j + x) (starts-moved u.kind false u.fields x s);
        count = omega (arith, count, objects_of (node u.kind false (span-moved u.fields) []), ap (λ (l : List Tree). sum (map objects l)) e.0);
      }
  behind-moved n one t u true x next s e count =
      let to : u.fields.to ≡ i + (u.fields.to - i) = omega (arith, s.header.order, s.order) in
      let r = all-moved n one u.children (u.fields.to - i) e.0 (subst (λ (k : ℕ). Consecutive (IsObject n a) u.children k e.0) to e.1) in
      let last : next ≡ i + (next - i) = omega (arith, e.2.order, r.to_is) in
      let end = header-moved (End u.kind) r.to (next - i)
      (subst (λ (k : ℕ). IsSpelledAt SpellsHeader (End u.kind) a (i + r.to) k) last (subst (λ (k : ℕ). IsSpelledAt SpellsHeader (End u.kind) a k next) r.to_is e.2)) in
      record {
        to = next - i;
        to_is = last;
        tree = roll-Tree (node u.kind true (span-moved u.fields) r.trees);
        object = closed_object n b (record { kind = u.kind; fields = span-moved u.fields; children = r.trees }) (j + x) (j + r.to) (j + (next - i)) (starts-moved u.kind true u.fields x s, r.stand) end;
        count = omega (arith, count, objects_of (node u.kind true (span-moved u.fields) r.trees), r.count);
      }

  pub object-moved : (n : ℕ) (t : Tree) (x next : ℕ) → IsObject n a t (i + x) next → Moved n t x next
  unfolding IsObject
  object-moved zero t x next o = absurd o
  object-moved (suc n) t x next o = behind-moved n (object-moved n) t (out-Tree t) (out-Tree t).compound x next o.0 o.1 (objects_out t)
