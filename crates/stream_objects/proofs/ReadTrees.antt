-- The reading of a tree on lists gives the tree that the bytes spell.
use Rattle.std.proofs.Common.{◌≡◌, ℕ, zero, suc, ◌+◌, ◌-◌, ◌≤◌, ◌<◌, ◌↔◌, Bool, true, false, ◌&&◌, List, [], ◌∷◌, length, drop, get_or, Option, Some, None, eqb, eq-eqb, refl, sym, ap, subst, ◌∙◌, rules, arith}
use Rattle.std.specs.Prelude.{nat_le, option_and_then}
use Rattle.std.specs.Option.{option_map}
use Rattle.std.proofs.lemmas.Bool.{cond-true, eqb-true, and_from, and_parts}
use Rattle.std.proofs.lemmas.Bool.Decides.{nat_tests}
use Rattle.std.proofs.lemmas.Option.{cond_some, some_pair_parts}
use Rattle.compact_values.specs.Reading.{Reading, Value, Cut, Malformed}
use Rattle.compact_values.specs.Spelled.{IsSpelledAt}
use Rattle.compact_values.specs.declared.span.Span.{Span}
use Rattle.compact_values.proofs.LittleEndian.{IsBytes}
use Rattle.compact_values.proofs.Codes.{found_again, found_takes}
use Rattle.stream_objects.specs.Answers.{SpellsTree}
use Rattle.stream_objects.specs.HeaderReading.{header_at}
use Rattle.stream_objects.specs.HeaderValues.{SpellsHeader}
use Rattle.stream_objects.specs.Trees.{Consecutive, StartsAt, EndsBehind, IsObject, IsTreeAt, objects}
use Rattle.stream_objects.specs.declared.limits.TheConstants.{MOST_LEVELS, MOST_OBJECTS}
use Rattle.stream_objects.specs.TreeReading.{Started, started_at, ended_at, before, until_end, children_at, with_children, whole_object, object_at, if_whole, tree_of}
use Rattle.stream_objects.specs.declared.headers.Header.{Header}
use Rattle.stream_objects.specs.declared.headers.Header.TheVariants.{Start, End}
use Rattle.stream_objects.specs.declared.tree.Tree.{Tree}
use Rattle.stream_objects.specs.declared.tree.Tree.TheOpen.{Tree-F}
use Rattle.stream_objects.specs.declared.tree.Tree.TheViews.{out-Tree, roll-Tree, the_lemmas}
use Rattle.stream_objects.proofs.Begun.{node, starts, simple_object, closed_object}
use Rattle.stream_objects.proofs.HeaderLaws.{header_code}
use Rattle.stream_objects.proofs.Steps.{goes_on}

-- ---- options

pub and_then_parts : {A B : Type 0} (f : A → Option B) (o : Option A) (y : B) → option_and_then f o ≡ Some y → (x : A) × (o ≡ Some x) × (f x ≡ Some y)
and_then_parts {A} {B} f (Some x) y e = (x, refl, e)
and_then_parts {A} {B} f None y e = absurd cc

map_parts : {A B : Type 0} (f : A → B) (o : Option A) (y : B) → option_map f o ≡ Some y → (x : A) × (o ≡ Some x) × (f x ≡ y)
map_parts {A} {B} f (Some x) y e = (x, refl, cc)
map_parts {A} {B} f None y e = absurd cc

-- ---- headers

abbrev begun : ℕ → Bool → Span → Started
begun kind compound fields = record { kind = kind; compound = compound; fields = fields }

start_value : (size place kind : ℕ) (compound : Bool) (len used : ℕ) (fields : Span) → place + used ≡ fields.from → fields.from + len ≡ fields.to → fields.to ≤ size
    → started_at size place (Value (Start kind compound len) used) ≡ Some (begun kind compound fields)
start_value size place kind compound len used fields e f le =
    let make : ℕ → ℕ → Option Started = λ from to. Some (begun kind compound (record { from = from; to = to })) in
    let inside : nat_le (place + used + len) size ≡ true = grind (arith, nat_tests) in
    let to : place + used + len ≡ fields.to = omega arith in
    cond-true (nat_le (place + used + len) size) _ _ inside ∙ ap (λ (n : ℕ). make n (place + used + len)) e ∙ ap (make fields.from) to

module _ (input : List ℕ) where
  abbrev met : ℕ → Reading Header
  met place = header_at (drop place input)

  again_header : (h : Header) (from next : ℕ) → IsSpelledAt SpellsHeader h input from next → met from ≡ Value h (next - from)
  again_header h from next s = found_again SpellsHeader header_at header_code input from h next s

  again_start : (kind : ℕ) (compound : Bool) (fields : Span) (from : ℕ) → StartsAt input kind compound fields from
      → (started_at (length input) from (met from) ≡ Some (begun kind compound fields)) × (from < fields.from) × ((k : ℕ) → ended_at k from (met from) ≡ None)
  again_start kind compound fields from s =
      let h = again_header _ from fields.from s.header in (
        ap (started_at (length input) from) h ∙ start_value (length input) from kind compound (fields.to - fields.from) (fields.from - from) fields (omega (arith, s.header.order)) (omega (arith, s.order)) s.inside,
        goes_on input _ from fields.from s.header,
        λ k. ap (ended_at k from) h,
      )

  again_end : (kind last next : ℕ) → IsSpelledAt SpellsHeader (End kind) input last next → ended_at kind last (met last) ≡ Some next
  again_end kind last next s =
      let sum : last + (next - last) ≡ next = omega (arith, s.order) in
      ap (ended_at kind last) (again_header _ last next s) ∙ cond-true (eqb kind kind) _ _ (eq-eqb kind kind refl) ∙ ap Some sum

  -- ---- an object that stands there is read

  abbrev IsAgain : ℕ → Type 0
  IsAgain n = (t : Tree) (from next : ℕ) → IsObject n input t from next → object_at n input from ≡ Some (t, next)

  -- an object takes some bytes, all of them in the input
  record Within (from next : ℕ) : Type 0 where
    moves : from < next
    inside : next ≤ length input

  within_all : (P : Tree → ℕ → ℕ → Type 0) → ((t : Tree) (from next : ℕ) → P t from next → Within from next) → (ts : List Tree) (from last : ℕ) → Consecutive P ts from last → from ≤ last
  within_all P one [] from last h = omega (arith, h)
  within_all P one (t ∷ ts) from last h = omega (arith, (one t from h.0 h.1).moves, within_all P one ts h.0 last h.2)

  within_behind : (n : ℕ) → ((t : Tree) (from next : ℕ) → IsObject n input t from next → Within from next) → (u : Tree-F Tree) (c : Bool) (from next : ℕ) → from < u.fields.to → u.fields.to ≤ length input
      → EndsBehind (IsObject n input) input u c next → Within from next
  within_behind n one u false from next lt le h = record { moves = omega (arith, h.1); inside = omega (arith, h.1) }
  within_behind n one u true from next lt le h =
      record { moves = omega (arith, within_all (IsObject n input) one u.children u.fields.to h.0 h.1, h.2.order); inside = h.2.inside }

  within : (n : ℕ) (t : Tree) (from next : ℕ) → IsObject n input t from next → Within from next
  unfolding IsObject
  within zero t from next o = absurd o
  within (suc n) t from next o =
      within_behind n (within n) (out-Tree t) (out-Tree t).compound from next (omega (arith, (again_start _ _ _ from o.0).1, o.0.order)) o.0.inside o.1

  no_end : (n kind : ℕ) (t : Tree) (from next : ℕ) → IsObject n input t from next → ended_at kind from (met from) ≡ None
  unfolding IsObject
  no_end zero kind t from next o = absurd o
  no_end (suc n) kind t from next o = (again_start _ _ _ from o.0).2 kind

  again_children : (n kind : ℕ) → IsAgain n → (most place : ℕ) (ts : List Tree) (last next : ℕ) → length input < most + place → Consecutive (IsObject n input) ts place last
      → IsSpelledAt SpellsHeader (End kind) input last next → children_at (object_at n input) input kind most place ≡ Some (ts, next)
  unfolding children_at
  again_children n kind again zero place ts last next room h e =
      absurd (omega (arith, within_all (IsObject n input) (within n) ts place last h, e.inside, goes_on input _ last next e))
  again_children n kind again (suc most) place [] last next room h e =
      ap (λ (o : Option ℕ). until_end o (object_at n input place) (children_at (object_at n input) input kind most)) (ap (λ (m : ℕ). ended_at kind m (met m)) h ∙ again_end kind last next e)
  again_children n kind again (suc most) place (t ∷ ts) last next room h e =
      let others : ℕ → Option (List Tree × ℕ) = children_at (object_at n input) input kind most in
      let w = within n t place h.0 h.1 in
      ap (λ (o : Option ℕ). until_end o (object_at n input place) others) (no_end n kind t place h.0 h.1) ∙ ap (λ (c : Option (Tree × ℕ)). until_end None c others) (again t place h.0 h.1)
      ∙ ap (option_map (before t)) (again_children n kind again most h.0 ts last next (omega (arith, w.moves)) h.2 e)

  again_behind : (n : ℕ) → IsAgain n → (u : Tree-F Tree) (c : Bool) (next : ℕ) → 0 < u.fields.to → EndsBehind (IsObject n input) input u c next
      → whole_object (object_at n input) input (begun u.kind c u.fields) ≡ Some (roll-Tree (node u.kind c u.fields u.children), next)
  again_behind n again u false next some h =
      ap (λ (ts : List Tree). Some (roll-Tree (node u.kind false u.fields ts), u.fields.to)) (sym h.0) ∙ ap (λ (m : ℕ). Some (roll-Tree (node u.kind false u.fields u.children), m)) (sym h.1)
  again_behind n again u true next some h =
      ap (option_map (with_children (begun u.kind true u.fields))) (again_children n u.kind again (length input) u.fields.to u.children h.0 next (omega arith) h.1 h.2)

  again_object : (n : ℕ) → IsAgain n
  unfolding IsObject object_at
  again_object zero t from next o = absurd o
  again_object (suc n) t from next o =
      let u = out-Tree t in
      let s = again_start u.kind u.compound u.fields from o.0 in
      let rolled : roll-Tree u ≡ t = search (rules, the_lemmas) in
      ap (option_and_then (whole_object (object_at n input) input)) s.0 ∙ again_behind n (again_object n) u u.compound next (omega (arith, s.1, o.0.order)) o.1
      ∙ ap (λ (x : Tree). Some (x, next)) rolled

  -- ---- an object that is read stands there

  module _ (fits : IsBytes input) where
    takes_header : (h : Header) (from used : ℕ) → from ≤ length input → met from ≡ Value h used → IsSpelledAt SpellsHeader h input from (from + used)
    takes_header h from used le e = found_takes SpellsHeader header_at header_code input from le fits h used e

    takes_start : (from : ℕ) (s : Started) → from ≤ length input → (r : Reading Header) → met from ≡ r → started_at (length input) from r ≡ Some s → StartsAt input s.kind s.compound s.fields from
    takes_start from s le (Value (Start kind compound len) used) e h =
        let c = cond_some (nat_le (from + used + len) (length input)) (begun kind compound (record { from = from + used; to = from + used + len })) s h in
        let test : nat_le (from + used + len) (length input) ≡ true = c.0 in
        subst (λ (x : Started). StartsAt input x.kind x.compound x.fields from) c.1
        (starts input kind compound len from (from + used) (takes_header (Start kind compound len) from used le e) (grind (arith, nat_tests)))
    takes_start from s le (Value (End kind) used) e h = absurd cc
    takes_start from s le Cut e h = absurd cc
    takes_start from s le Malformed e h = absurd cc

    takes_end : (kind from next : ℕ) → from ≤ length input → (r : Reading Header) → met from ≡ r → ended_at kind from r ≡ Some next → IsSpelledAt SpellsHeader (End kind) input from next
    takes_end kind from next le (Value (Start other compound len) used) e h = absurd cc
    takes_end kind from next le (Value (End other) used) e h =
        let c = cond_some (eqb other kind) (from + used) next h in
        subst (λ (k : ℕ). IsSpelledAt SpellsHeader (End k) input from next) (eqb-true other kind c.0)
        (subst (λ (m : ℕ). IsSpelledAt SpellsHeader (End other) input from m) c.1 (takes_header (End other) from used le e))
    takes_end kind from next le Cut e h = absurd cc
    takes_end kind from next le Malformed e h = absurd cc

    abbrev IsTaken : ℕ → Type 0
    IsTaken n = (t : Tree) (from next : ℕ) → from ≤ length input → object_at n input from ≡ Some (t, next) → IsObject n input t from next

    -- objects stand there up to an end
    abbrev Ended : ℕ → ℕ → ℕ → List Tree → ℕ → Type 0
    Ended n kind place ts next = (last : ℕ) × Consecutive (IsObject n input) ts place last × IsSpelledAt SpellsHeader (End kind) input last next

    takes_next : (n kind place : ℕ) (ts : List Tree) (next : ℕ) → IsTaken n → place ≤ length input → (others : ℕ → Option (List Tree × ℕ))
        → ((mid : ℕ) (us : List Tree) → mid ≤ length input → others mid ≡ Some (us, next) → Ended n kind mid us next)
        → (o : Option ℕ) → ended_at kind place (met place) ≡ o → until_end o (object_at n input place) others ≡ Some (ts, next) → Ended n kind place ts next
    takes_next n kind place ts next taken le others rest (Some m) e h =
        let p = some_pair_parts [] ts m next h in
        (place, subst (λ (us : List Tree). Consecutive (IsObject n input) us place place) p.0 refl, takes_end kind place next le (met place) refl (e ∙ ap Some p.1))
    takes_next n kind place ts next taken le others rest None e h =
        let c = and_then_parts (λ c. option_map (before c.0) (others c.1)) (object_at n input place) (ts, next) h in
        let r = map_parts (before c.0.0) (others c.0.1) (ts, next) c.2 in
        let child = taken c.0.0 place c.0.1 le c.1 in
        let mid = (within n c.0.0 place c.0.1 child).inside in
        let list : c.0.0 ∷ r.0.0 ≡ ts = ap (λ (p : List Tree × ℕ). p.0) r.2 in
        let end : r.0.1 ≡ next = ap (λ (p : List Tree × ℕ). p.1) r.2 in
        let z = rest c.0.1 r.0.0 mid (r.1 ∙ ap (λ (m : ℕ). Some (r.0.0, m)) end) in
        (z.0, subst (λ (us : List Tree). Consecutive (IsObject n input) us place z.0) list (c.0.1, child, z.1), z.2)

    takes_children : (n kind : ℕ) → IsTaken n → (most place : ℕ) (ts : List Tree) (next : ℕ) → place ≤ length input → children_at (object_at n input) input kind most place ≡ Some (ts, next)
        → Ended n kind place ts next
    unfolding children_at
    takes_children n kind taken zero place ts next le h = absurd cc
    takes_children n kind taken (suc most) place ts next le h =
        takes_next n kind place ts next taken le (children_at (object_at n input) input kind most) (λ mid us. takes_children n kind taken most mid us next) (ended_at kind place (met place)) refl h

    takes_behind : (n : ℕ) → IsTaken n → (s : Started) (c : Bool) (t : Tree) (from next : ℕ) → StartsAt input s.kind c s.fields from → whole_object (object_at n input) input (begun s.kind c s.fields) ≡ Some (t, next)
        → IsObject (suc n) input t from next
    takes_behind n taken s false t from next starting h =
        let p = some_pair_parts (roll-Tree (node s.kind false s.fields [])) t s.fields.to next h in
        subst (λ (m : ℕ). IsObject (suc n) input t from m) p.1 (subst (λ (x : Tree). IsObject (suc n) input x from s.fields.to) p.0 (simple_object n input s.kind s.fields from starting))
    takes_behind n taken s true t from next starting h =
        let r = map_parts (with_children (begun s.kind true s.fields)) (children_at (object_at n input) input s.kind (length input) s.fields.to) (t, next) h in
        let tree : roll-Tree (node s.kind true s.fields r.0.0) ≡ t = ap (λ (p : Tree × ℕ). p.0) r.2 in
        let end : r.0.1 ≡ next = ap (λ (p : Tree × ℕ). p.1) r.2 in
        let z = takes_children n s.kind taken (length input) s.fields.to r.0.0 next starting.inside (r.1 ∙ ap (λ (m : ℕ). Some (r.0.0, m)) end) in
        subst (λ (x : Tree). IsObject (suc n) input x from next) tree
        (closed_object n input (record { kind = s.kind; fields = s.fields; children = r.0.0 }) from z.0 next (starting, z.1) z.2)

    takes_object : (n : ℕ) → IsTaken n
    unfolding object_at
    takes_object zero t from next le h = absurd cc
    takes_object (suc n) t from next le h =
        let s = and_then_parts (whole_object (object_at n input) input) (started_at (length input) from (met from)) (t, next) h in
        takes_behind n (takes_object n) s.0 s.0.compound t from next (takes_start from s.0 le (met from) refl s.1) s.2

-- ---- objects that end with the input

-- one that stands from a place up to the input's end is read
pub stands_is_read : (bytes : List ℕ) (tree : Tree) (from : ℕ) → IsTreeAt bytes tree from (length bytes) → option_and_then (if_whole bytes) (object_at MOST_LEVELS bytes from) ≡ Some tree
stands_is_read bytes tree from s =
    let few : nat_le (objects tree) MOST_OBJECTS ≡ true = grind (arith, nat_tests, s.few) in
    ap (option_and_then (if_whole bytes)) (again_object bytes MOST_LEVELS tree from (length bytes) s.object)
    ∙ cond-true _ _ _ (and_from (eqb (length bytes) (length bytes)) (nat_le (objects tree) MOST_OBJECTS) (eq-eqb (length bytes) (length bytes) refl) few)

-- one that is read stands there
pub read_stands : (bytes : List ℕ) (tree : Tree) (from : ℕ) → IsBytes bytes → from ≤ length bytes → option_and_then (if_whole bytes) (object_at MOST_LEVELS bytes from) ≡ Some tree → IsTreeAt bytes tree from (length bytes)
read_stands bytes tree from fits le h =
    let f = and_then_parts (if_whole bytes) (object_at MOST_LEVELS bytes from) tree h in
    let c = cond_some (eqb f.0.1 (length bytes) && nat_le (objects f.0.0) MOST_OBJECTS) f.0.0 tree f.2 in
    let tests = and_parts (eqb f.0.1 (length bytes)) (nat_le (objects f.0.0) MOST_OBJECTS) c.0 in
    let few : objects f.0.0 ≤ MOST_OBJECTS = grind (arith, nat_tests, tests.1) in
    subst (λ (t : Tree). IsTreeAt bytes t from (length bytes)) c.1
    (record {
      object = subst (λ (m : ℕ). IsObject MOST_LEVELS bytes f.0.0 from m) (eqb-true f.0.1 (length bytes) tests.0) (takes_object bytes fits MOST_LEVELS f.0.0 from f.0.1 le f.1);
      few = few;
    })

-- ---- whole inputs

-- what the bytes spell is read
pub spelled_is_read : (bytes : List ℕ) (tree : Tree) → SpellsTree tree bytes → tree_of bytes ≡ Some tree
unfolding tree_of
spelled_is_read bytes tree s = stands_is_read bytes tree 0 s

-- what is read is spelled
pub read_is_spelled : (bytes : List ℕ) (tree : Tree) → IsBytes bytes → tree_of bytes ≡ Some tree → SpellsTree tree bytes
unfolding tree_of
read_is_spelled bytes tree fits h = read_stands bytes tree 0 fits (omega arith) h

pub read_exactly : (bytes : List ℕ) (tree : Tree) → ((i : ℕ) → get_or bytes i 0 < 256) → (tree_of bytes ≡ Some tree) ↔ SpellsTree tree bytes
read_exactly bytes tree fits = (read_is_spelled bytes tree fits, spelled_is_read bytes tree)
