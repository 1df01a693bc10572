-- An input that is the beginning of a tree goes on to one: the header that it ends inside, and the fields, are
-- completed, and then each open object is closed.
use Rattle.std.proofs.Common.{◌≡◌, ℕ, zero, suc, ◌+◌, ◌-◌, ◌*◌, ◌^◌, ◌/◌, ◌%◌, ◌<◌, ◌≤◌, ◌⊎◌, Bool, true, false, List, [], ◌∷◌, ◌++◌, length, map, sum, drop, get_or, inl, inr, refl, sym, ap, subst, ◌∙◌, append_assoc, arith}
use Rattle.std.specs.Prelude.{replicate}
use Rattle.std.proofs.lemmas.List.{append-nil, length-append, length-drop, length-replicate}
use Rattle.compact_values.specs.Spelled.{IsSpelledAt, EndsInside}
use Rattle.compact_values.specs.declared.span.Span.{Span}
use Rattle.stream_objects.specs.Headers.{StartForm, small, wide, large, EndForm, small_end, wide_end, StartFits, EndFits, end_bytes}
use Rattle.stream_objects.specs.HeaderValues.{SpellsHeader}
use Rattle.stream_objects.specs.Trees.{StartsAt, IsObject, IsTreeAt, objects}
use Rattle.stream_objects.specs.Faults.{IsOpen, IsBegun, begun_objects}
use Rattle.stream_objects.specs.Answers.{SpellsTree}
use Rattle.stream_objects.specs.declared.headers.Header.{Header}
use Rattle.stream_objects.specs.declared.headers.Header.TheVariants.{Start, End}
use Rattle.stream_objects.specs.declared.tree.Tree.{Tree}
use Rattle.stream_objects.specs.declared.tree.Tree.TheViews.{roll-Tree}
use Rattle.stream_objects.specs.declared.reading.Open.{Open}
use Rattle.stream_objects.proofs.Begun.{Consecutive-push, innermost, node, simple_object, closed_object, objects_of, objects-push, begun_objects-push, starts, no_children}
use Rattle.stream_objects.proofs.HeaderStarts.{spelled_rest, spelled_last}
use Rattle.stream_objects.proofs.Longer.{drop-longer, header-longer, starts-longer, object-longer, open-longer, begun-longer}
use Rattle.stream_objects.proofs.Moved.{object-moved}

-- ---- ends

kind_fits : (form : StartForm) (kind len : ℕ) → StartFits form kind len → kind ≤ 0x3FFF
kind_fits small kind len f = omega (arith, f.0)
kind_fits wide kind len f = f.0
kind_fits large kind len f = f.0

open_kind : (input : List ℕ) (o : Open) (from : ℕ) → StartsAt input o.kind true o.fields from → o.kind ≤ 0x3FFF
open_kind input o from s = kind_fits s.header.spelled.form o.kind _ s.header.spelled.fits

an_end : (kind : ℕ) → kind ≤ 0x3FFF → SpellsHeader (End kind) (end_bytes wide_end kind)
an_end kind le = record { form = wide_end; fits = le; bytes_are = refl }

-- ---- an object that ends with the input is the last child of each open one, or the tree

record Completed (levels : ℕ) (input : List ℕ) (from count : ℕ) : Type 0 where
  tree : Tree
  ends : List ℕ
  object : IsObject levels (input ++ ends) tree from (length (input ++ ends))
  count_is : objects tree ≡ count

closed_round : (m : ℕ) (input ends : List ℕ) (p : Open) (t : Tree) (from mid : ℕ) → IsOpen (IsObject m input) input p from mid
    → IsObject m (input ++ ends) t mid (length (input ++ ends)) → Completed (suc m) input from (1 + sum (map objects p.children) + objects t)
closed_round m input ends p t from mid o h =
    let last = end_bytes wide_end p.kind in
    let longer = input ++ ends in
    let whole = longer ++ last in
    let grown : Open = record p { children = p.children ++ t ∷ [] } in
    let tree = roll-Tree (node p.kind true p.fields (p.children ++ t ∷ [])) in
    let was = open-longer longer last m p from mid (open-longer input ends m p from mid o) in
    let children = Consecutive-push (IsObject m whole) p.children t p.fields.to mid (length longer) was.1 (object-longer longer last m t mid (length longer) h) in
    let end = spelled_last longer last (End p.kind) (an_end p.kind (open_kind input p from o.0)) in
    let object = closed_object m whole grown from (length longer) (length whole) (was.0, children) end in
    record {
      tree = tree;
      ends = ends ++ last;
      object = subst (λ (l : List ℕ). IsObject (suc m) l tree from (length l)) (append_assoc input ends last) object;
      count_is = omega (arith, objects_of (node p.kind true p.fields (p.children ++ t ∷ [])), objects-push p.children t);
    }

completed : (n : ℕ) (os : List Open) (input : List ℕ) (tree : Tree) (from start below : ℕ) → IsBegun n input os from start → n ≡ length os + below
    → IsObject below input tree start (length input) → Completed n input from (begun_objects os + objects tree)
completed n [] input tree from start below b l o =
    let level : below ≡ n = omega (arith, l) in
    record {
      tree = tree;
      ends = [];
      object = subst (λ (i : List ℕ). IsObject n i tree from (length i)) (sym (append-nil input))
          (subst (λ (k : ℕ). IsObject n input tree k (length input)) (sym b) (subst (λ (m : ℕ). IsObject m input tree start (length input)) level o));
      count_is = omega arith;
    }
completed zero (p ∷ os) input tree from start below b l o = absurd b
completed (suc m) (p ∷ os) input tree from start below b l o =
    let c = completed m os input tree b.0 start below b.2 (omega (arith, l)) o in
    let w = closed_round m input c.ends p c.tree from b.0 b.1 c.object in
    record { tree = w.tree; ends = w.ends; object = w.object; count_is = omega (arith, w.count_is, c.count_is) }

-- ---- the input goes on to a tree

pub record GoesOn (input : List ℕ) (from : ℕ) : Type 0 where
  pub tree : Tree
  pub more : List ℕ
  pub some : 0 < length more
  pub stands : IsTreeAt (input ++ more) tree from (length (input ++ more))

extended : (input more : List ℕ) (outer : List Open) (tree : Tree) (from start below : ℕ) → 0 < length more → IsBegun 12 input outer from start → 12 ≡ length outer + below
    → IsObject below (input ++ more) tree start (length (input ++ more)) → begun_objects outer + objects tree ≤ 262144 → GoesOn input from
extended input more outer tree from start below some b l o few =
    let c = completed 12 outer (input ++ more) tree from start below (begun-longer input more 12 outer from start b) l o in
    record {
      tree = c.tree;
      more = more ++ c.ends;
      some = omega (arith, some, length-append more c.ends);
      stands = record {
        object = subst (λ (i : List ℕ). IsObject 12 i c.tree from (length i)) (append_assoc input more c.ends) c.object;
        few = omega (arith, c.count_is, few);
      };
    }

-- ---- an open object's end

pub end_goes_on : (input more : List ℕ) (outer : List Open) (top : Open) (from place : ℕ) → IsBegun 12 input (outer ++ top ∷ []) from place → begun_objects (outer ++ top ∷ []) ≤ 262144
    → 0 < length more → IsSpelledAt SpellsHeader (End top.kind) (input ++ more) place (length (input ++ more)) → GoesOn input from
end_goes_on input more outer top from place b few some h =
    let i = innermost 12 input outer top from place b in
    let object = closed_object i.below (input ++ more) top i.start place (length (input ++ more)) (open-longer input more i.below top i.start place i.is_open) h in
    extended input more outer (roll-Tree (node top.kind true top.fields top.children)) from i.start (suc i.below) some i.begun i.levels_are object
    (omega (arith, few, begun_objects-push outer top, objects_of (node top.kind true top.fields top.children)))

-- ---- a start, whose fields may pass the end

module _ (input header : List ℕ) (os : List Open) (from place : ℕ) (kind len fields : ℕ) (begun : IsBegun 12 input os from place) (free : length os < 12)
    (few : begun_objects os < 262144) (past : length input < fields + len) (reached : length (input ++ header) ≤ fields + len) where
  zeros : List ℕ
  zeros = replicate (fields + len - length (input ++ header)) 0

  abbrev filled : List ℕ
  filled = (input ++ header) ++ replicate (fields + len - length (input ++ header)) 0

  length-filled : length filled ≡ fields + len
  length-filled =
      omega (arith, reached, length-append (input ++ header) (replicate (fields + len - length (input ++ header)) 0), length-replicate {A = ℕ} (fields + len - length (input ++ header)) 0)

  abbrev span : Span
  span = record { from = fields; to = fields + len }

  start_filled : (compound : Bool) → IsSpelledAt SpellsHeader (Start kind compound len) (input ++ header) place fields → StartsAt filled kind compound span place
  start_filled compound h = starts filled kind compound len place fields (header-longer (input ++ header) _ (Start kind compound len) place fields h) (omega (arith, length-filled))

  pub start_goes_on : (compound : Bool) → IsSpelledAt SpellsHeader (Start kind compound len) (input ++ header) place fields → GoesOn input from
  start_goes_on false h =
      let tree = roll-Tree (node kind false span []) in
      let more = header ++ replicate (fields + len - length (input ++ header)) 0 in
      let split : filled ≡ input ++ more = append_assoc input header (replicate (fields + len - length (input ++ header)) 0) in
      let ended : IsObject (suc (11 - length os)) filled tree place (length filled) = subst (λ (k : ℕ). IsObject (suc (11 - length os)) filled tree place k) (sym length-filled)
      (simple_object (11 - length os) filled kind span place (start_filled false h)) in
      extended input more os tree from place (suc (11 - length os)) (omega (arith, past, length-filled, ap (λ (l : List ℕ). length l) split, length-append input more)) begun (omega arith)
      (subst (λ (l : List ℕ). IsObject (suc (11 - length os)) l tree place (length l)) split ended) (omega (arith, objects_of (node kind false span [])))
  start_goes_on true h =
      let tree = roll-Tree (node kind true span []) in
      let s = start_filled true h in
      let last = end_bytes wide_end kind in
      let whole = filled ++ last in
      let more = (header ++ replicate (fields + len - length (input ++ header)) 0) ++ last in
      let split : whole ≡ input ++ more =
      ap (λ (l : List ℕ). l ++ last) (append_assoc input header (replicate (fields + len - length (input ++ header)) 0))
      ∙ append_assoc input (header ++ replicate (fields + len - length (input ++ header)) 0) last in
      let end = spelled_last filled last (End kind) (an_end kind (open_kind filled (no_children kind span) place s)) in
      let object = closed_object (11 - length os) whole (no_children kind span) place (length filled) (length whole) (starts-longer filled last kind true span place s, sym length-filled) end in
      extended input more os tree from place (suc (11 - length os)) (omega (arith, length-append (header ++ replicate (fields + len - length (input ++ header)) 0) last)) begun (omega arith)
      (subst (λ (l : List ℕ). IsObject (suc (11 - length os)) l tree place (length l)) split object) (omega (arith, objects_of (node kind true span [])))

-- ---- in the words of the contract

pub ends_inside : (input : List ℕ) (from : ℕ) → from ≤ length input → GoesOn input from → EndsInside SpellsTree (drop from input)
ends_inside input from le g =
    let whole = input ++ g.more in
    let rest = drop from input ++ g.more in
    let same : drop from whole ≡ drop 0 rest = drop-longer from input g.more le in
    let none : from ≡ from + 0 = omega arith in
    let m = object-moved whole rest from 0 same (omega (arith, length-append input g.more)) (omega arith) 12 g.tree 0 (length whole)
    (subst (λ (k : ℕ). IsObject 12 whole g.tree k (length whole)) none g.stands.object) in
    let all : m.to ≡ length rest = omega (arith, m.to_is, length-append input g.more, length-append (drop from input) g.more, length-drop from input) in
    (m.tree, g.more, g.some, record { object = to_end m.tree rest m.to all m.object; few = omega (arith, m.count, g.stands.few) }) where
      to_end : (tree : Tree) (rest : List ℕ) (to : ℕ) → to ≡ length rest → IsObject 12 rest tree (0 + 0) (0 + to) → IsObject 12 rest tree 0 (length rest)
      to_end tree rest to e o = let last : 0 + to ≡ length rest = omega (arith, e) in subst (λ (k : ℕ). IsObject 12 rest tree 0 k) last o

-- ---- the header is cut

-- a cut end of two bytes goes on to the end of the open object whose low type bits it has
pub completes_end : (first kind other : ℕ) (others more : List ℕ) (form : EndForm) → EndFits form other → 0 < length more → first / 4 ≡ kind % 64
    → first ∷ (others ++ more) ≡ end_bytes form other → first ∷ (others ++ (3 + 2 ^ 2 * kind) / 256 % 256 ∷ []) ≡ end_bytes wide_end kind
completes_end first kind other others more small_end fits some low e =
    absurd (omega (arith, some, length-append others more, ap (λ (l : List ℕ). length l) e))
completes_end first kind other (o ∷ others) more wide_end fits some low e =
    absurd (omega (arith, some, length-append others more, ap (λ (l : List ℕ). length l) e))
completes_end first kind other [] more wide_end fits some low e =
    let head : first ≡ (3 + 2 ^ 2 * other) % 256 = ap (λ (l : List ℕ). get_or l 0 0) e in
    let same : first ≡ (3 + 2 ^ 2 * kind) % 256 = omega (arith, head, low) in
    ap (λ (n : ℕ). n ∷ (3 + 2 ^ 2 * kind) / 256 % 256 ∷ []) same

last_of : (os : List Open) → (os ≡ []) ⊎ ((outer : List Open) × (top : Open) × (os ≡ outer ++ top ∷ []))
last_of [] = inl refl
last_of (o ∷ os) =
    inr
    (elim (last_of os) [
      | inl none ↦ ([], o, ap (λ (l : List Open). o ∷ l) none)
      | inr r ↦ (o ∷ r.0, r.1, ap (λ (l : List Open). o ∷ l) r.2)
    ])

module _ (input : List ℕ) (os : List Open) (from place : ℕ) (begun : IsBegun 12 input os from place) (few : begun_objects os ≤ 262144) (inside : place ≤ length input) where
  -- the header that stands in the longer input, behind what was read
  stands_behind : (bytes more : List ℕ) (h : Header) → drop place input ≡ bytes → SpellsHeader h (bytes ++ more) → IsSpelledAt SpellsHeader h (input ++ more) place (length (input ++ more))
  stands_behind bytes more h e s =
      spelled_rest (input ++ more) h place (omega (arith, inside, length-append input more))
      (subst (λ (l : List ℕ). SpellsHeader h l) (sym (drop-longer place input more inside ∙ ap (λ (l : List ℕ). l ++ more) e)) s)

  top_kind : (outer : List Open) (top : Open) → os ≡ outer ++ top ∷ [] → top.kind ≤ 0x3FFF
  top_kind outer top e =
      let i = innermost 12 input outer top from place (subst (λ (l : List Open). IsBegun 12 input l from place) e begun) in
      open_kind input top i.start i.is_open.0

  end_behind : (bytes more : List ℕ) (outer : List Open) (top : Open) → drop place input ≡ bytes → os ≡ outer ++ top ∷ [] → 0 < length more → bytes ++ more ≡ end_bytes wide_end top.kind → GoesOn input from
  end_behind bytes more outer top e is some spelled =
      end_goes_on input more outer top from place (subst (λ (l : List Open). IsBegun 12 input l from place) is begun) (subst (λ (l : List Open). begun_objects l ≤ 262144) is few) some
      (stands_behind bytes more (End top.kind) e (record { form = wide_end; fits = top_kind outer top is; bytes_are = spelled }))

  pub nothing_goes_on : drop place input ≡ [] → GoesOn input from
  nothing_goes_on e =
      elim (last_of os) [
        | inl none ↦
            start_goes_on input (0 ∷ 0 ∷ []) os from place 0 0 (length (input ++ 0 ∷ 0 ∷ [])) begun (omega (arith, ap (λ (l : List Open). length l) none)) (omega (arith, ap begun_objects none))
            (omega (arith, length-append input (0 ∷ 0 ∷ []))) (omega arith) false
            (stands_behind [] (0 ∷ 0 ∷ []) (Start 0 false 0) e (record { form = small; fits = (omega arith, omega arith); bytes_are = refl }))
        | inr r ↦ end_behind [] (end_bytes wide_end r.1.kind) r.0 r.1 e r.2 (omega arith) refl
      ]

  pub cut_start_goes_on : (bytes more : List ℕ) (kind len : ℕ) (compound : Bool) → drop place input ≡ bytes → length os < 12 → begun_objects os < 262144 → 0 < length more
      → SpellsHeader (Start kind compound len) (bytes ++ more) → GoesOn input from
  cut_start_goes_on bytes more kind len compound e free room some s =
      start_goes_on input more os from place kind len (length (input ++ more)) begun free room (omega (arith, some, length-append input more)) (omega arith) compound
      (stands_behind bytes more (Start kind compound len) e s)

  pub cut_end_goes_on : (first other : ℕ) (others more : List ℕ) (outer : List Open) (top : Open) → drop place input ≡ first ∷ others → os ≡ outer ++ top ∷ [] → first / 4 ≡ top.kind % 64 → 0 < length more
      → SpellsHeader (End other) (first ∷ (others ++ more)) → GoesOn input from
  cut_end_goes_on first other others more outer top e is low some s =
      end_behind (first ∷ others) ((3 + 2 ^ 2 * top.kind) / 256 % 256 ∷ []) outer top e is (omega arith)
      (completes_end first top.kind other others more s.form s.fits some low s.bytes_are)
