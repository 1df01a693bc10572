-- What is read of a request is what its objects say, or where the first of them that isn't in its form starts.
use Rattle.std.proofs.Common.{◌≡◌, ℕ, suc, ◌+◌, ◌≤◌, Bool, true, false, List, [], ◌∷◌, ◌++◌, length, map, Option, Some, None, Result, Ok, Err, inl, inr, refl, sym, ap, subst, ◌∙◌, append_assoc, eq-eqb, arith}
use Rattle.std.specs.Prelude.{◌&&◌, ◌==◌, is_some, filter, if◌then◌else◌}
use Rattle.std.specs.List.{AllByRecursion}
use Rattle.std.proofs.lemmas.Bool.{cases_Bool}
use Rattle.std.proofs.lemmas.Bool.Decides.{eqb_tells}
use Rattle.std.proofs.lemmas.List.{append-nil, length-append}
use Rattle.std.proofs.lemmas.List.Elements.{filter-append}
use Rattle.compact_values.proofs.LittleEndian.{IsBytes}
use Rattle.stream_objects.specs.declared.tree.Tree.{Tree}
use Rattle.stream_objects.specs.declared.tree.Tree.TheViews.{out-Tree}
use Rattle.stream_objects.specs.Objects.{Each, kind_of, is_kind, start_of, children_of}
use Rattle.stream_objects.specs.ObjectFields.{single}
use Rattle.stream_objects.specs.Parts.{IsFirstBroken}
use Rattle.stream_objects.specs.Gathering.{and_then, gather}
use Rattle.stream_objects.proofs.Broken.{Judges, all-append, broken_left, broken_right}
use Rattle.stream_objects.proofs.Children.{single_some, single_none}
use Rattle.stream_objects.proofs.Standing.{filter_join}
use Rattle.doc_model.specs.readers.ElementSites as elements
use Rattle.doc_model.specs.wire.Elements.{IsPackage}
use Rattle.doc_model.specs.wire.Requests.{IsSub, is_put, puts_in, SaysRequest}
use Rattle.doc_model.specs.readers.RequestSites.{Site, packed, site_start, sub_row, sub_sites, puts_with, child_sites, request_sites}
use Rattle.doc_model.specs.declared.element.Element.{Element}
use Rattle.doc_model.specs.declared.request.CellRequest.{CellRequest}
use Rattle.doc_model.specs.declared.request.WireSub.{WireSub}
use Rattle.data_elements.specs.Reading.{package_at}
use Rattle.data_elements.proofs.ElementLaws.{judges_package, again_package}
use Rattle.wire_requests.specs.RequestReading.{sub_at, and_sub, child_at, split, parts_at, split_at, request_at}
use Rattle.wire_requests.proofs.Splits.{Parted, parted}
use Rattle.wire_requests.proofs.SubLaws.{Own, all_packed, broken_packed, SubBehind, JudgesSub, judges_sub, again_sub, sub_again, put_kind}

-- ---- lists

filter_yes : (k : ℕ) (t : Tree) (ts : List Tree) → is_kind k t ≡ true → filter (is_kind k) (t ∷ ts) ≡ t ∷ filter (is_kind k) ts
filter_yes k t ts e = rw e refl

filter_no : (k : ℕ) (t : Tree) (ts : List Tree) → is_kind k t ≡ false → filter (is_kind k) (t ∷ ts) ≡ filter (is_kind k) ts
filter_no k t ts e = rw e refl

each_join : {V : Type 0} (Is : Tree → V → Type 0) (xs ys : List Tree) (vs ws : List V) → Each Is xs vs → Each Is ys ws → Each Is (xs ++ ys) (vs ++ ws)
each_join {V} Is [] ys [] ws h k = k
each_join {V} Is (x ∷ xs) ys (v ∷ vs) ws h k = (h.0, each_join Is xs ys vs ws h.1 k)
each_join {V} Is [] ys (v ∷ vs) ws h k = absurd h
each_join {V} Is (x ∷ xs) ys [] ws h k = absurd h

-- the values of the first objects, and of the others
record Apart {V : Type 0} (Is : Tree → V → Type 0) (xs ys : List Tree) (vs : List V) : Type 0 where
  first : List V
  others : List V
  all_are : vs ≡ first ++ others
  each_first : Each Is xs first
  each_other : Each Is ys others

each_apart : {V : Type 0} (Is : Tree → V → Type 0) (xs ys : List Tree) (vs : List V) → Each Is (xs ++ ys) vs → Apart Is xs ys vs
each_apart {V} Is [] ys vs h = record { first = []; others = vs; all_are = refl; each_first = tt; each_other = h }
each_apart {V} Is (x ∷ xs) ys (v ∷ vs) h =
    let a = each_apart Is xs ys vs h.1 in
    record { first = v ∷ a.first; others = a.others; all_are = ap (λ (l : List V). v ∷ l) a.all_are; each_first = (h.0, a.each_first); each_other = a.each_other }
each_apart {V} Is (x ∷ xs) ys [] h = absurd h

-- ---- counts

pub puts_append : (xs ys : List WireSub) → puts_in (xs ++ ys) ≡ puts_in xs + puts_in ys
puts_append xs ys =
    let p : WireSub → Bool = λ s. is_put s.what in
    ap (λ (l : List WireSub). length l) (filter-append p xs ys) ∙ length-append (filter p xs) (filter p ys)

length_one : (subs : List WireSub) (s : WireSub) → length (subs ++ s ∷ []) ≡ suc (length subs)
length_one subs s = omega (arith, length-append subs (s ∷ []))

one_put : (s : WireSub) → is_put s.what ≡ true → puts_in (s ∷ []) ≡ 1
one_put s y = rw y refl

no_put : (s : WireSub) → is_put s.what ≡ false → puts_in (s ∷ []) ≡ 0
no_put s n = rw n refl

module _ (input : List ℕ) (fits : IsBytes input) where
  abbrev Ours : Site → Type 0
  Ours = Own input fits

  -- how many puts there are with a sub-request
  counted : (t : Tree) (s : WireSub) (subs : List WireSub) → IsSub input t s → puts_in (subs ++ s ∷ []) ≡ puts_with (puts_in subs) (sub_row input t)
  counted t s subs h =
      let row = sub_again input fits t (s.id, (s.kind, h.0.0)) h.0.1 in
      let kind = put_kind input fits t s.kind s.what h.1 in
      elim (cases_Bool (is_put s.what)) [
        | inl y ↦ rw (row, kind, y) (omega (arith, puts_append subs (s ∷ []), one_put s y))
        | inr n ↦ rw (row, kind, n) (omega (arith, puts_append subs (s ∷ []), no_put s n))
      ]

  -- ---- the sub-requests among some children

  -- what was read of these children behind the sub-requests
  pub record Behind (ts : List Tree) (subs all : List WireSub) : Type 0 where
    pub new : List WireSub
    pub all_are : all ≡ subs ++ new
    pub each : Each (IsSub input) (filter (is_kind 0x42) ts) new
    pub few : length subs ≤ 64 → length all ≤ 64
    pub few_puts : puts_in subs ≤ 4 → puts_in all ≤ 4

  abbrev Read : List Tree → List WireSub → Result (List WireSub) ℕ
  Read ts subs = gather (child_at input) subs ts

  child_sub : (subs : List WireSub) (t : Tree) → is_kind 0x42 t ≡ true → child_at input subs t ≡ and_sub subs (sub_at input (length subs) (puts_in subs) t)
  unfolding child_at
  child_sub subs t y = rw y refl

  child_other : (subs : List WireSub) (t : Tree) → is_kind 0x42 t ≡ false → child_at input subs t ≡ Ok subs
  unfolding child_at
  child_other subs t n = rw n refl

  parts_sub : (n m : ℕ) (t : Tree) (ts : List Tree) → is_kind 0x42 t ≡ true → child_sites input n m (t ∷ ts) ≡ sub_sites input n m t ++ child_sites input (suc n) (puts_with m (sub_row input t)) ts
  parts_sub n m t ts y = rw y refl

  parts_other : (n m : ℕ) (t : Tree) (ts : List Tree) → is_kind 0x42 t ≡ false → is_kind 0x15 t ≡ false → child_sites input n m (t ∷ ts) ≡ child_sites input n m ts
  parts_other n m t ts a b = rw (a, b) refl

  parts_package : (n m : ℕ) (t : Tree) (ts : List Tree) → is_kind 0x42 t ≡ false → is_kind 0x15 t ≡ true
      → child_sites input n m (t ∷ ts) ≡ map packed (elements.package_sites input t) ++ child_sites input n m ts
  parts_package n m t ts a b = rw (a, b) refl

  -- the parts behind a sub-request
  parts_then : (t : Tree) (ts : List Tree) (subs : List WireSub) (s : WireSub) → is_kind 0x42 t ≡ true → IsSub input t s
      → child_sites input (length subs) (puts_in subs) (t ∷ ts) ≡ sub_sites input (length subs) (puts_in subs) t ++ child_sites input (length (subs ++ s ∷ [])) (puts_in (subs ++ s ∷ [])) ts
  parts_then t ts subs s y h =
      parts_sub (length subs) (puts_in subs) t ts y
      ∙ ap (λ (n : ℕ). sub_sites input (length subs) (puts_in subs) t ++ child_sites input n (puts_with (puts_in subs) (sub_row input t)) ts) (sym (length_one subs s))
      ∙ ap (λ (m : ℕ). sub_sites input (length subs) (puts_in subs) t ++ child_sites input (length (subs ++ s ∷ [])) m ts) (sym (counted t s subs h))

  -- Children without a package are read, and then the rest, which is judged behind any sub-requests.
  module _ {V : Type 0} (rest : List Tree) (next : List WireSub → Result V ℕ) (Is : List WireSub → V → Type 0)
      (judges_rest : (all : List WireSub) → Judges Ours site_start (Is all) (child_sites input (length all) (puts_in all) rest) (next all)) where
    abbrev pub Done : List Tree → List WireSub → V → Type 0
    Done ts subs v = (all : List WireSub) × Behind ts subs all × Is all v

    abbrev JudgesThen : List Tree → List WireSub → Result V ℕ → Type 0
    JudgesThen ts subs r = Judges Ours site_start (Done ts subs) (child_sites input (length subs) (puts_in subs) (ts ++ rest)) r

    none_left : (subs : List WireSub) (r : Result V ℕ) → Judges Ours site_start (Is subs) (child_sites input (length subs) (puts_in subs) rest) r → JudgesThen [] subs r
    none_left subs (Ok v) j = ((subs, record { new = []; all_are = sym (append-nil subs); each = tt; few = λ h. h; few_puts = λ h. h }, j.0), j.1)
    none_left subs (Err place) j = j

    -- a sub-request in front of what was read
    with_sub : (t : Tree) (ts : List Tree) (subs all : List WireSub) (s : WireSub) → is_kind 0x42 t ≡ true → SubBehind input fits (length subs) (puts_in subs) t s → Behind ts (subs ++ s ∷ []) all → Behind (t ∷ ts) subs all
    with_sub t ts subs all s y h b =
        let more : puts_in subs ≤ 4 → puts_in (subs ++ s ∷ []) ≤ 4 = λ le.
        elim (cases_Bool (is_put s.what)) [
          | inl p ↦ omega (arith, h.few_puts p, puts_append subs (s ∷ []), one_put s p)
          | inr p ↦ omega (arith, le, puts_append subs (s ∷ []), no_put s p)
        ] in
        record {
          new = s ∷ b.new;
          all_are = b.all_are ∙ append_assoc subs (s ∷ []) b.new;
          each = subst (λ (l : List Tree). Each (IsSub input) l (s ∷ b.new)) (sym (filter_yes 0x42 t ts y)) (h.is, b.each);
          few = λ le. b.few (omega (arith, h.few, length_one subs s));
          few_puts = λ le. b.few_puts (more le);
        }

    behind_sub : (t : Tree) (ts : List Tree) (subs : List WireSub) (s : WireSub) → is_kind 0x42 t ≡ true → SubBehind input fits (length subs) (puts_in subs) t s
        → AllByRecursion Ours (sub_sites input (length subs) (puts_in subs) t) → (r : Result V ℕ) → JudgesThen ts (subs ++ s ∷ []) r → JudgesThen (t ∷ ts) subs r
    behind_sub t ts subs s y h own (Ok v) j = (
      (j.0.0, with_sub t ts subs j.0.0 s y h j.0.1, j.0.2),
      subst (AllByRecursion Ours) (sym (parts_then t (ts ++ rest) subs s y h.is))
          (all-append Ours site_start (sub_sites input (length subs) (puts_in subs) t) (child_sites input (length (subs ++ s ∷ [])) (puts_in (subs ++ s ∷ [])) (ts ++ rest)) own j.1),
    )
    behind_sub t ts subs s y h own (Err place) j =
        subst (λ (ps : List Site). IsFirstBroken Ours site_start ps place) (sym (parts_then t (ts ++ rest) subs s y h.is))
        (broken_right Ours site_start (sub_sites input (length subs) (puts_in subs) t) (child_sites input (length (subs ++ s ∷ [])) (puts_in (subs ++ s ∷ [])) (ts ++ rest)) place own j)

    behind_other : (t : Tree) (ts : List Tree) (subs : List WireSub) → is_kind 0x42 t ≡ false → is_kind 0x15 t ≡ false → (r : Result V ℕ) → JudgesThen ts subs r → JudgesThen (t ∷ ts) subs r
    behind_other t ts subs a b (Ok v) j =
        let e = j.0.1 in
        let same : Behind (t ∷ ts) subs j.0.0 = record {
          new = e.new;
          all_are = e.all_are;
          each = subst (λ (l : List Tree). Each (IsSub input) l e.new) (sym (filter_no 0x42 t ts a)) e.each;
          few = e.few;
          few_puts = e.few_puts;
        } in
        ((j.0.0, same, j.0.2), subst (AllByRecursion Ours) (sym (parts_other (length subs) (puts_in subs) t (ts ++ rest) a b)) j.1)
    behind_other t ts subs a b (Err place) j = subst (λ (ps : List Site). IsFirstBroken Ours site_start ps place) (sym (parts_other (length subs) (puts_in subs) t (ts ++ rest) a b)) j

    first_sub : (t : Tree) (ts : List Tree) (subs : List WireSub) → is_kind 0x42 t ≡ true → ((more : List WireSub) → JudgesThen ts more (and_then (Read ts more) next))
        → (r : Result WireSub ℕ) → JudgesSub input fits (length subs) (puts_in subs) t r → JudgesThen (t ∷ ts) subs (and_then (and_then (and_sub subs r) (λ more. Read ts more)) next)
    first_sub t ts subs y others (Ok s) j = behind_sub t ts subs s y j.0 j.1 (and_then (Read ts (subs ++ s ∷ [])) next) (others (subs ++ s ∷ []))
    first_sub t ts subs y others (Err place) j =
        subst (λ (ps : List Site). IsFirstBroken Ours site_start ps place) (sym (parts_sub (length subs) (puts_in subs) t (ts ++ rest) y))
        (broken_left Ours site_start (sub_sites input (length subs) (puts_in subs) t) (child_sites input (suc (length subs)) (puts_with (puts_in subs) (sub_row input t)) (ts ++ rest)) place j)

    pub judges_then : (ts : List Tree) → AllByRecursion (λ t. is_kind 0x15 t ≡ false) ts → (subs : List WireSub) → JudgesThen ts subs (and_then (Read ts subs) next)
    judges_then [] none subs = none_left subs (next subs) (judges_rest subs)
    judges_then (t ∷ ts) none subs =
        elim (cases_Bool (is_kind 0x42 t)) [
          | inl y ↦ rw (child_sub subs t y) (first_sub t ts subs y (judges_then ts none.1) (sub_at input (length subs) (puts_in subs) t) (judges_sub input fits (length subs) (puts_in subs) t))
          | inr n ↦ rw (child_other subs t n) (behind_other t ts subs n none.0 (and_then (Read ts subs) next) (judges_then ts none.1 subs))
        ]

  -- ---- the package and what is behind it

  abbrev made : List Element → List WireSub → CellRequest
  made es subs = record { subs = subs; elements = es }

  -- the request of these elements, with the sub-requests among the children behind the package
  abbrev Made : List Tree → List Element → List WireSub → CellRequest → Type 0
  Made behind es subs r = (all : List WireSub) × Behind behind subs all × (r ≡ made es all)

  abbrev after : List Tree → List WireSub → List Element → Result CellRequest ℕ
  after behind subs es = and_then (Read behind subs) (λ all. Ok (made es all))

  judges_after : (behind : List Tree) → AllByRecursion (λ t. is_kind 0x15 t ≡ false) behind → (subs : List WireSub) (es : List Element)
      → Judges Ours site_start (Made behind es subs) (child_sites input (length subs) (puts_in subs) behind) (after behind subs es)
  judges_after behind none subs es =
      subst (λ (l : List Tree). Judges Ours site_start (Made behind es subs) (child_sites input (length subs) (puts_in subs) l) (after behind subs es)) (append-nil behind)
      (judges_then [] (λ all. Ok (made es all)) (λ all r. r ≡ made es all) (λ all. (refl, tt)) behind none subs)

  abbrev WithPackage : Tree → List Tree → List WireSub → CellRequest → Type 0
  WithPackage c behind subs r = (es : List Element) × IsPackage input c es × Made behind es subs r

  abbrev from_package : Tree → List Tree → List WireSub → Result CellRequest ℕ
  from_package c behind subs = and_then (package_at input c) (after behind subs)

  abbrev PackageJudged : Tree → List Tree → List WireSub → Result CellRequest ℕ → Type 0
  PackageJudged c behind subs r = Judges Ours site_start (WithPackage c behind subs) (map packed (elements.package_sites input c) ++ child_sites input (length subs) (puts_in subs) behind) r

  then_behind : (c : Tree) (behind : List Tree) (subs : List WireSub) (es : List Element) → IsPackage input c es → AllByRecursion Ours (map packed (elements.package_sites input c))
      → (r : Result CellRequest ℕ) → Judges Ours site_start (Made behind es subs) (child_sites input (length subs) (puts_in subs) behind) r → PackageJudged c behind subs r
  then_behind c behind subs es p own (Ok r) j = ((es, p, j.0), all-append Ours site_start (map packed (elements.package_sites input c)) (child_sites input (length subs) (puts_in subs) behind) own j.1)
  then_behind c behind subs es p own (Err place) j = broken_right Ours site_start (map packed (elements.package_sites input c)) (child_sites input (length subs) (puts_in subs) behind) place own j

  judges_from : (c : Tree) (behind : List Tree) → AllByRecursion (λ t. is_kind 0x15 t ≡ false) behind → (subs : List WireSub) → PackageJudged c behind subs (from_package c behind subs)
  judges_from c behind none subs = go (package_at input c) (judges_package input fits c) where
    go : (r : Result (List Element) ℕ) → Judges (elements.InOwnForm input) elements.site_start (IsPackage input c) (elements.package_sites input c) r → PackageJudged c behind subs (and_then r (after behind subs))
    go (Ok es) j = then_behind c behind subs es j.0 (all_packed input fits (elements.package_sites input c) j.1) (after behind subs es) (judges_after behind none subs es)
    go (Err place) j =
        broken_left Ours site_start (map packed (elements.package_sites input c)) (child_sites input (length subs) (puts_in subs) behind) place
        (broken_packed input fits (elements.package_sites input c) place j)

  not_sub : (c : Tree) → is_kind 0x15 c ≡ true → is_kind 0x42 c ≡ false
  not_sub c y =
      elim (eqb_tells (kind_of c) 0x15) [
        | inl e ↦ ap (λ (k : ℕ). is_number k) e.1
        | inr e ↦ let bad = e.0 in absurd cc
      ] where
        is_number : ℕ → Bool
        is_number k = k == 0x42

  -- ---- the request

  -- what the children say, where the package stands between them
  judges_parts : (before : List Tree) (c : Tree) (behind : List Tree) → AllByRecursion (λ t. is_kind 0x15 t ≡ false) before → is_kind 0x15 c ≡ true → AllByRecursion (λ t. is_kind 0x15 t ≡ false) behind
      → Judges Ours site_start (λ r. (subs : List WireSub) × Behind before [] subs × WithPackage c behind subs r) (child_sites input 0 0 (before ++ (c ∷ behind))) (parts_at input before c behind)
  judges_parts before c behind none y none_behind =
      judges_then (c ∷ behind) (from_package c behind) (WithPackage c behind)
      (λ all. subst (λ (ps : List Site). Judges Ours site_start (WithPackage c behind all) ps (from_package c behind all)) (sym (parts_package (length all) (puts_in all) c behind (not_sub c y) y)) (judges_from c behind none_behind all))
      before none []

  subs_among : (before : List Tree) (c : Tree) (behind : List Tree) → is_kind 0x42 c ≡ false → filter (is_kind 0x42) (before ++ (c ∷ behind)) ≡ filter (is_kind 0x42) before ++ filter (is_kind 0x42) behind
  subs_among before c behind n = filter_join 0x42 before (c ∷ behind) ∙ ap (λ (l : List Tree). filter (is_kind 0x42) before ++ l) (filter_no 0x42 c behind n)

  says : (t c : Tree) (p : Parted (out-Tree t).children c) → kind_of t ≡ 0x40 → (out-Tree t).compound ≡ true → children_of 0x15 t ≡ c ∷ []
      → (r : CellRequest) → (subs : List WireSub) × Behind p.before [] subs × WithPackage c p.behind subs r → SaysRequest input t r
  says t c p kind mark one r (subs, b, (es, package_is, (all, d, e))) =
      let all_new : all ≡ b.new ++ d.new = d.all_are ∙ ap (λ (l : List WireSub). l ++ d.new) b.all_are in
      let joined = each_join (IsSub input) (filter (is_kind 0x42) p.before) (filter (is_kind 0x42) p.behind) b.new d.new b.each d.each in
      let trees : filter (is_kind 0x42) (out-Tree t).children ≡ filter (is_kind 0x42) p.before ++ filter (is_kind 0x42) p.behind =
      ap (filter (is_kind 0x42)) p.all_are ∙ subs_among p.before c p.behind (not_sub c p.here) in
      let each : Each (IsSub input) (children_of 0x42 t) all =
      subst (λ (l : List Tree). Each (IsSub input) l all) (sym trees) (subst (λ (l : List WireSub). Each (IsSub input) (filter (is_kind 0x42) p.before ++ filter (is_kind 0x42) p.behind) l) (sym all_new) joined) in
      let made_is : SaysRequest input t (made es all) = record {
        kind = kind;
        mark = mark;
        subs = each;
        few_subs = d.few (b.few (omega arith));
        few_puts = d.few_puts (b.few_puts (omega arith));
        one_package = (c, one, package_is);
      } in
      subst (SaysRequest input t) (sym e) made_is

  judges_in : (t c : Tree) (p : Parted (out-Tree t).children c) → kind_of t ≡ 0x40 → (out-Tree t).compound ≡ true → children_of 0x15 t ≡ c ∷ [] → (r : Result CellRequest ℕ)
      → Judges Ours site_start (λ r. (subs : List WireSub) × Behind p.before [] subs × WithPackage c p.behind subs r) (child_sites input 0 0 (out-Tree t).children) r
      → Judges Ours site_start (SaysRequest input t) (request_sites input t) r
  judges_in t c p kind mark one (Ok r) j = (says t c p kind mark one r j.0, ((kind, mark, (c, one)), j.1))
  judges_in t c p kind mark one (Err place) j = inr ((kind, mark, (c, one)), j)

  judges_split : (t c : Tree) → kind_of t ≡ 0x40 → (out-Tree t).compound ≡ true → children_of 0x15 t ≡ c ∷ []
      → Judges Ours site_start (SaysRequest input t) (request_sites input t) (split_at input (start_of t) (split (out-Tree t).children))
  judges_split t c kind mark one =
      let p = parted (out-Tree t).children c one in
      let j = judges_parts p.before c p.behind p.none_before p.here p.none_behind in
      let k = subst (λ (l : List Tree). Judges Ours site_start (λ r. (subs : List WireSub) × Behind p.before [] subs × WithPackage c p.behind subs r) (child_sites input 0 0 l) (parts_at input p.before c p.behind)) (sym p.all_are) j in
      rw p.is (judges_in t c p kind mark one (parts_at input p.before c p.behind) k)

  pub judges_request : (t : Tree) → Judges Ours site_start (SaysRequest input t) (request_sites input t) (request_at input t)
  unfolding request_at
  judges_request t =
      elim (eqb_tells (kind_of t) 0x40) [
        | inl y ↦ rw y.0 (by_mark y.1 (out-Tree t).compound (single (children_of 0x15 t)) refl refl)
        | inr n ↦ rw n.0 (inl (λ own. n.1 own.0, refl))
      ] where
        by_mark : kind_of t ≡ 0x40 → (m : Bool) (s : Option Tree) → (out-Tree t).compound ≡ m → single (children_of 0x15 t) ≡ s
            → Judges Ours site_start (SaysRequest input t) (request_sites input t) (if m && is_some s then split_at input (start_of t) (split (out-Tree t).children) else Err (start_of t))
        by_mark k true (Some c) e g = judges_split t c k e (single_some (children_of 0x15 t) c g)
        by_mark k true None e g = inl (λ own. single_none (children_of 0x15 t) g own.2.0 own.2.1, refl)
        by_mark k false s e g = inl (λ own. let yes = own.1 in absurd cc, refl)

  -- ---- what is in form is read

  abbrev AgainSubs : List Tree → Type 0
  AgainSubs ts = (subs new : List WireSub) → Each (IsSub input) (filter (is_kind 0x42) ts) new → length (subs ++ new) ≤ 64 → puts_in (subs ++ new) ≤ 4 → Read ts subs ≡ Ok (subs ++ new)

  again_then : (t : Tree) (ts : List Tree) → is_kind 0x42 t ≡ true → AgainSubs ts → (subs new : List WireSub) → Each (IsSub input) (t ∷ filter (is_kind 0x42) ts) new
      → length (subs ++ new) ≤ 64 → puts_in (subs ++ new) ≤ 4 → Read (t ∷ ts) subs ≡ Ok (subs ++ new)
  again_then t ts y others subs [] each few few_puts = absurd each
  again_then t ts y others subs (s ∷ new) each few few_puts =
      let all = append_assoc subs (s ∷ []) new in
      let one : SubBehind input fits (length subs) (puts_in subs) t s = record {
        is = each.0;
        few = omega (arith, few, length-append subs (s ∷ new));
        few_puts = λ p. omega (arith, few_puts, puts_append subs (s ∷ new), puts_append (s ∷ []) new, one_put s p);
      } in
      ap (λ (r : Result (List WireSub) ℕ). and_then r (λ more. Read ts more)) (child_sub subs t y ∙ ap (and_sub subs) (again_sub input fits (length subs) (puts_in subs) t s one))
      ∙ others (subs ++ s ∷ []) new each.1 (subst (λ (l : List WireSub). length l ≤ 64) (sym all) few) (subst (λ (l : List WireSub). puts_in l ≤ 4) (sym all) few_puts) ∙ ap Ok all

  again_subs : (ts : List Tree) → AgainSubs ts
  again_subs [] subs [] each few few_puts = ap Ok (sym (append-nil subs))
  again_subs [] subs (s ∷ new) each few few_puts = absurd each
  again_subs (t ∷ ts) subs new each few few_puts =
      elim (cases_Bool (is_kind 0x42 t)) [
        | inl y ↦ again_then t ts y (again_subs ts) subs new (subst (λ (l : List Tree). Each (IsSub input) l new) (filter_yes 0x42 t ts y) each) few few_puts
        | inr n ↦
            ap (λ (r : Result (List WireSub) ℕ). and_then r (λ more. Read ts more)) (child_other subs t n)
            ∙ again_subs ts subs new (subst (λ (l : List Tree). Each (IsSub input) l new) (filter_no 0x42 t ts n) each) few few_puts
      ]

  again_parts : (t c : Tree) (p : Parted (out-Tree t).children c) (r : CellRequest) → SaysRequest input t r → IsPackage input c r.elements → parts_at input p.before c p.behind ≡ Ok r
  again_parts t c p r h package_is =
      let trees : filter (is_kind 0x42) (out-Tree t).children ≡ filter (is_kind 0x42) p.before ++ filter (is_kind 0x42) p.behind =
      ap (filter (is_kind 0x42)) p.all_are ∙ subs_among p.before c p.behind (not_sub c p.here) in
      let a = each_apart (IsSub input) (filter (is_kind 0x42) p.before) (filter (is_kind 0x42) p.behind) r.subs (subst (λ (l : List Tree). Each (IsSub input) l r.subs) trees h.subs) in
      let few : length (a.first ++ a.others) ≤ 64 = subst (λ (l : List WireSub). length l ≤ 64) a.all_are h.few_subs in
      let few_puts : puts_in (a.first ++ a.others) ≤ 4 = subst (λ (l : List WireSub). puts_in l ≤ 4) a.all_are h.few_puts in
      let front = again_subs p.before [] a.first a.each_first (omega (arith, few, length-append a.first a.others)) (omega (arith, few_puts, puts_append a.first a.others)) in
      let back = again_subs p.behind a.first a.others a.each_other few few_puts in
      let whole : made r.elements (a.first ++ a.others) ≡ made r.elements r.subs = ap (made r.elements) (sym a.all_are) in
      ap (λ (s : Result (List WireSub) ℕ). and_then s (from_package c p.behind)) front
      ∙ ap (λ (s : Result (List Element) ℕ). and_then s (after p.behind a.first)) (again_package input fits c r.elements package_is)
      ∙ ap (λ (s : Result (List WireSub) ℕ). and_then s (λ all. Ok (made r.elements all))) back ∙ ap Ok whole

  pub again_request : (t : Tree) (r : CellRequest) → SaysRequest input t r → request_at input t ≡ Ok r
  unfolding request_at
  again_request t r h =
      let one = h.one_package in
      let p = parted (out-Tree t).children one.0 one.1 in
      rw (eq-eqb (kind_of t) 0x40 h.kind, h.mark, ap single one.1, p.is) (again_parts t one.0 p r h one.2)
