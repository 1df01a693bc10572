-- The reader of arrays recognises their spellings, and finds the first item without a form, where the reader of items does.
use Rattle.std.proofs.Common.{◌≡◌, ℕ, zero, suc, ◌+◌, ◌≤◌, ◌<◌, ◌^◌, inl, inr, List, [], ◌∷◌, ◌++◌, length, take, drop, refl, sym, ap, subst, ◌∙◌, append_assoc, arith}
use Rattle.std.specs.List.{AllByRecursion, flat_map}
use Rattle.std.specs.Prelude.{replicate}
use Rattle.std.proofs.lemmas.List.{append-nil, take-append-drop, length-take, length-append, take_at, drop_at, length-replicate}
use Rattle.compact_values.specs.Compact.{compact, SpellsCompact}
use Rattle.compact_values.specs.Kinds.{SpellsBy}
use Rattle.compact_values.specs.Items.{SpellsArray}
use Rattle.compact_values.specs.Reading.{Reading, Value, Cut, Malformed, compact_at}
use Rattle.compact_values.specs.Spelled.{EndsInside}
use Rattle.compact_values.specs.Placed.{LacksInItems, LacksInArray, PartReading, Whole, Ends, NoForm, joined, item_and, items_at, array_behind, array_at}
use Rattle.compact_values.proofs.LittleEndian.{IsBytes}
use Rattle.compact_values.proofs.Codes.{IsBytes-drop, cases_reading}
use Rattle.compact_values.proofs.CompactCode.{compact_code}
use Rattle.compact_values.proofs.Parts.{IsBytes-behind, no_form, is_malformed, joined_value, RecognisesParts, cases_parts}

module _ {V : Type 0} (InRange : V → Type 0) (spelling : V → List ℕ) (Lacks : List ℕ → ℕ → Type 0) (read : List ℕ → PartReading V)
    (parts : RecognisesParts (SpellsBy InRange spelling) Lacks read) (v0 : V) (in0 : InRange v0) where
  abbrev joint : List V → List ℕ
  joint vs = flat_map spelling vs

  -- ---- one item

  read_again : (v : V) (more : List ℕ) → InRange v → read (spelling v ++ more) ≡ Whole v (length (spelling v))
  read_again v more range = joined_value (read (spelling v ++ more)) v (length (spelling v)) (parts.code.again v (spelling v) more (record { range = range; bytes_are = refl }))

  record Item (b : List ℕ) (v : V) (used : ℕ) : Type 0 where
    range : InRange v
    bytes_are : b ≡ spelling v ++ drop used b
    count : used ≡ length (spelling v)

  item_of : (b : List ℕ) (v : V) (used : ℕ) → IsBytes b → read b ≡ Whole v used → Item b v used
  item_of b v used fits e =
      let t = parts.code.takes b v used fits (ap joined e) in
      record {
        range = t.1.range;
        bytes_are = sym (take-append-drop used b) ∙ ap (λ (l : List ℕ). l ++ drop used b) t.1.bytes_are;
        count = omega (arith, t.0, length-take used b, ap (λ (l : List ℕ). length l) t.1.bytes_are);
      }

  -- one step of the reader of items
  step : (n : ℕ) (vs : List V) (used : ℕ) (b : List ℕ) (r : PartReading V) → read b ≡ r
      → items_at read (suc n) vs used b ≡ item_and r vs used (λ more_vs more. items_at read n more_vs (used + more) (drop more b))
  step n vs used b r e = ap (λ (q : PartReading V). item_and q vs used (λ more_vs more. items_at read n more_vs (used + more) (drop more b))) e

  -- ---- items that are spelled are read

  items_again : (new vs : List V) (used : ℕ) (more : List ℕ) → AllByRecursion InRange new
      → items_at read (length new) vs used (joint new ++ more) ≡ Whole (vs ++ new) (used + length (joint new))
  items_again [] vs used more range =
      let none : used + 0 ≡ used = omega arith in
      rw (append-nil vs, none) refl
  items_again (v ∷ new) vs used more range =
      let bytes : joint (v ∷ new) ++ more ≡ spelling v ++ (joint new ++ more) = append_assoc (spelling v) (joint new) more in
      let behind : drop (length (spelling v)) (spelling v ++ (joint new ++ more)) ≡ joint new ++ more = drop_at (spelling v) (joint new ++ more) (length (spelling v)) refl in
      let sum : used + length (spelling v) + length (joint new) ≡ used + length (joint (v ∷ new)) = omega (arith, length-append (spelling v) (joint new)) in
      ap (items_at read (suc (length new)) vs used) bytes ∙ step (length new) vs used (spelling v ++ (joint new ++ more)) (Whole v (length (spelling v))) (read_again v (joint new ++ more) range.0)
      ∙ ap (items_at read (length new) (vs ++ v ∷ []) (used + length (spelling v))) behind
      ∙ items_again new (vs ++ v ∷ []) (used + length (spelling v)) more range.1
      ∙ ap (λ (l : List V). Whole l (used + length (spelling v) + length (joint new))) (append_assoc vs (v ∷ []) new) ∙ ap (λ (n : ℕ). Whole (vs ++ v ∷ new) n) sum

  -- ---- items that are read are spelled

  record Found (n : ℕ) (vs all : List V) (used total : ℕ) (b : List ℕ) : Type 0 where
    new : List V
    rest : List ℕ
    all_are : all ≡ vs ++ new
    count : length new ≡ n
    range : AllByRecursion InRange new
    bytes_are : b ≡ joint new ++ rest
    total_is : total ≡ used + length (joint new)

  found_behind : (n : ℕ) (vs all : List V) (used total : ℕ) (b : List ℕ) (v : V) (m : ℕ) → IsBytes b → read b ≡ Whole v m → Found n (vs ++ v ∷ []) all (used + m) total (drop m b) → Found (suc n) vs all used total b
  found_behind n vs all used total b v m fits e f =
      let i = item_of b v m fits e in
      record {
        new = v ∷ f.new;
        rest = f.rest;
        all_are = f.all_are ∙ append_assoc vs (v ∷ []) f.new;
        count = ap (λ (k : ℕ). suc k) f.count;
        range = (i.range, f.range);
        bytes_are = i.bytes_are ∙ ap (λ (l : List ℕ). spelling v ++ l) f.bytes_are ∙ sym (append_assoc (spelling v) (joint f.new) f.rest);
        total_is = omega (arith, f.total_is, i.count, length-append (spelling v) (joint f.new));
      }

  items_found : (n : ℕ) (vs all : List V) (used total : ℕ) (b : List ℕ) → IsBytes b → items_at read n vs used b ≡ Whole all total → Found n vs all used total b
  items_found zero vs all used total b fits e =
      let same_vs : vs ≡ all = cc in
      let same_count : used ≡ total = cc in
      record { new = []; rest = b; all_are = sym same_vs ∙ sym (append-nil vs); count = refl; range = tt; bytes_are = refl; total_is = omega arith }
  items_found (suc n) vs all used total b fits e =
      elim (cases_parts (read b)) [
        | inl r ↦
            found_behind n vs all used total b r.0 r.1 fits r.2
            (items_found n (vs ++ r.0 ∷ []) all (used + r.1) total (drop r.1 b) (IsBytes-drop r.1 b fits) (sym (step n vs used b (Whole r.0 r.1) r.2) ∙ e))
        | inr (inl r) ↦ let bad = step n vs used b Ends r in absurd cc
        | inr (inr r) ↦ let bad = step n vs used b (NoForm r.0) r.1 in absurd cc
      ]

  -- ---- items that the input cuts off go on to spellings

  record Goes (n : ℕ) (b : List ℕ) : Type 0 where
    new : List V
    more : List ℕ
    count : length new ≡ n
    range : AllByRecursion InRange new
    some : 0 < length more
    bytes_are : b ++ more ≡ joint new

  all_in_range : (n : ℕ) → AllByRecursion InRange (replicate n v0)
  all_in_range zero = tt
  all_in_range (suc n) = (in0, all_in_range n)

  goes_behind : (n : ℕ) (b : List ℕ) (v : V) (m : ℕ) → IsBytes b → read b ≡ Whole v m → Goes n (drop m b) → Goes (suc n) b
  goes_behind n b v m fits e g =
      let i = item_of b v m fits e in
      record {
        new = v ∷ g.new;
        more = g.more;
        count = ap (λ (k : ℕ). suc k) g.count;
        range = (i.range, g.range);
        some = g.some;
        bytes_are = ap (λ (l : List ℕ). l ++ g.more) i.bytes_are ∙ append_assoc (spelling v) (drop m b) g.more ∙ ap (λ (l : List ℕ). spelling v ++ l) g.bytes_are;
      }

  goes_here : (n : ℕ) (b : List ℕ) → IsBytes b → read b ≡ Ends → Goes (suc n) b
  goes_here n b fits e =
      let h = parts.code.cut b fits (ap joined e) in
      let others = replicate n v0 in
      record {
        new = h.0 ∷ others;
        more = h.1 ++ joint others;
        count = ap (λ (k : ℕ). suc k) (length-replicate {A = V} n v0);
        range = (h.3.range, all_in_range n);
        some = omega (arith, h.2, length-append h.1 (joint others));
        bytes_are = sym (append_assoc b h.1 (joint others)) ∙ ap (λ (l : List ℕ). l ++ joint others) h.3.bytes_are;
      }

  items_ends : (n : ℕ) (vs : List V) (used : ℕ) (b : List ℕ) → IsBytes b → items_at read n vs used b ≡ Ends → Goes n b
  items_ends zero vs used b fits e = absurd cc
  items_ends (suc n) vs used b fits e =
      elim (cases_parts (read b)) [
        | inl r ↦
            goes_behind n b r.0 r.1 fits r.2 (items_ends n (vs ++ r.0 ∷ []) (used + r.1) (drop r.1 b) (IsBytes-drop r.1 b fits) (sym (step n vs used b (Whole r.0 r.1) r.2) ∙ e))
        | inr (inl r) ↦ goes_here n b fits r
        | inr (inr r) ↦ let bad = step n vs used b (NoForm r.0) r.1 in absurd cc
      ]

  -- ---- the first item without a form

  abbrev LacksIn : ℕ → List ℕ → ℕ → Type 0
  LacksIn = LacksInItems InRange spelling Lacks

  lacks_behind : (n : ℕ) (b : List ℕ) (v : V) (m inner : ℕ) → IsBytes b → read b ≡ Whole v m → LacksIn n (drop m b) inner → LacksIn (suc n) b (m + inner)
  lacks_behind n b v m inner fits e l =
      let i = item_of b v m fits e in
      record {
        before = v ∷ l.before;
        rest = l.rest;
        inner = l.inner;
        fewer = omega (arith, l.fewer);
        range = (i.range, l.range);
        bytes_are = i.bytes_are ∙ ap (λ (x : List ℕ). spelling v ++ x) l.bytes_are ∙ sym (append_assoc (spelling v) (joint l.before) l.rest);
        lacks = l.lacks;
        place = omega (arith, l.place, i.count, length-append (spelling v) (joint l.before));
      }

  items_lacks : (n : ℕ) (vs : List V) (used : ℕ) (b : List ℕ) (skipped : ℕ) → IsBytes b → items_at read n vs used b ≡ NoForm skipped → (inner : ℕ) × (skipped ≡ used + inner) × LacksIn n b inner
  items_lacks zero vs used b skipped fits e = absurd cc
  items_lacks (suc n) vs used b skipped fits e =
      elim (cases_parts (read b)) [
        | inl r ↦
            let l = items_lacks n (vs ++ r.0 ∷ []) (used + r.1) (drop r.1 b) skipped (IsBytes-drop r.1 b fits) (sym (step n vs used b (Whole r.0 r.1) r.2) ∙ e) in
            (r.1 + l.0, omega (arith, l.1), lacks_behind n b r.0 r.1 l.0 fits r.2 l.2)
        | inr (inl r) ↦ let bad = step n vs used b Ends r in absurd cc
        | inr (inr r) ↦
            let same : NoForm (used + r.0) ≡ NoForm skipped = sym (step n vs used b (NoForm r.0) r.1) ∙ e in
            let place : used + r.0 ≡ skipped = cc in (
              r.0,
              sym place,
              record { before = []; rest = b; inner = r.0; fewer = omega arith; range = tt; bytes_are = refl; lacks = parts.lacks b r.0 fits r.1; place = omega arith },
            )
      ]

  items_lacking : (before : List V) (n : ℕ) (vs : List V) (used : ℕ) (rest more : List ℕ) (inner : ℕ) → length before < n → AllByRecursion InRange before → IsBytes rest → Lacks rest inner
      → items_at read n vs used (joint before ++ (rest ++ more)) ≡ NoForm (used + (length (joint before) + inner))
  items_lacking before zero vs used rest more inner lt range fits l = absurd (omega arith)
  items_lacking [] (suc n) vs used rest more inner lt range fits l =
      let sum : used + inner ≡ used + (0 + inner) = omega arith in
      step n vs used (rest ++ more) (NoForm inner) (parts.lacking rest more inner fits l) ∙ ap (λ (k : ℕ). NoForm k) sum
  items_lacking (v ∷ before) (suc n) vs used rest more inner lt range fits l =
      let others = joint before ++ (rest ++ more) in
      let bytes : joint (v ∷ before) ++ (rest ++ more) ≡ spelling v ++ others = append_assoc (spelling v) (joint before) (rest ++ more) in
      let behind : drop (length (spelling v)) (spelling v ++ others) ≡ others = drop_at (spelling v) others (length (spelling v)) refl in
      let sum : used + length (spelling v) + (length (joint before) + inner) ≡ used + (length (joint (v ∷ before)) + inner) = omega (arith, length-append (spelling v) (joint before)) in
      ap (items_at read (suc n) vs used) bytes ∙ step n vs used (spelling v ++ others) (Whole v (length (spelling v))) (read_again v others range.0)
      ∙ ap (items_at read n (vs ++ v ∷ []) (used + length (spelling v))) behind
      ∙ items_lacking before n (vs ++ v ∷ []) (used + length (spelling v)) rest more inner (omega arith) range.1 fits l ∙ ap (λ (k : ℕ). NoForm k) sum

  -- ---- arrays

  abbrev Spells : List V → List ℕ → Type 0
  Spells = SpellsArray InRange spelling

  array_as : (b : List ℕ) (r : Reading ℕ) → compact_at b ≡ r → array_at read b ≡ array_behind read r b
  array_as b r e = ap (λ (q : Reading ℕ). array_behind read q b) e

  spelled_count : (vs : List V) → length vs < 2 ^ 64 → SpellsCompact (length vs) (compact (length vs))
  spelled_count vs range = record { range = range; bytes_are = refl }

  again : (vs : List V) (b more : List ℕ) → Spells vs b → array_at read (b ++ more) ≡ Whole vs (length b)
  again vs b more s =
      let head = compact (length vs) in
      let bytes : b ++ more ≡ head ++ (joint vs ++ more) = ap (λ (l : List ℕ). l ++ more) s.bytes_are ∙ append_assoc head (joint vs) more in
      let count = compact_code.again (length vs) head (joint vs ++ more) (spelled_count vs s.range.0) in
      let behind : drop (length head) (head ++ (joint vs ++ more)) ≡ joint vs ++ more = drop_at head (joint vs ++ more) (length head) refl in
      let sum : length head + length (joint vs) ≡ length b = omega (arith, length-append head (joint vs), ap (λ (l : List ℕ). length l) s.bytes_are) in
      ap (array_at read) bytes ∙ array_as (head ++ (joint vs ++ more)) (Value (length vs) (length head)) count ∙ ap (items_at read (length vs) [] (length head)) behind
      ∙ items_again vs [] (length head) more s.range.1 ∙ ap (λ (n : ℕ). Whole vs n) sum

  takes : (b : List ℕ) (vs : List V) (used : ℕ) → IsBytes b → array_at read b ≡ Whole vs used → (used ≤ length b) × Spells vs (take used b)
  takes b vs used fits e =
      elim (cases_reading (compact_at b)) [
        | inl r ↦
            let t = compact_code.takes b r.0 r.1 fits r.2 in
            let f = items_found r.0 [] vs r.1 used (drop r.1 b) (IsBytes-drop r.1 b fits) (sym (array_as b (Value r.0 r.1) r.2) ∙ e) in
            let count : r.0 ≡ length vs = sym f.count ∙ ap (λ (l : List V). length l) (sym f.all_are) in
            let bytes : b ≡ take r.1 b ++ (joint vs ++ f.rest) = sym (take-append-drop r.1 b) ∙ ap (λ (l : List ℕ). take r.1 b ++ l) (f.bytes_are ∙ ap (λ (l : List V). joint l ++ f.rest) (sym f.all_are)) in
            let whole : b ≡ (take r.1 b ++ joint vs) ++ f.rest = bytes ∙ sym (append_assoc (take r.1 b) (joint vs) f.rest) in
            let len : length (take r.1 b) ≡ r.1 = omega (arith, length-take r.1 b, t.0) in
            let total : used ≡ r.1 + length (joint vs) = f.total_is ∙ ap (λ (l : List V). r.1 + length (joint l)) (sym f.all_are) in
            let joint_len : length (take r.1 b ++ joint vs) ≡ used = omega (arith, len, total, length-append (take r.1 b) (joint vs)) in
            let head : take r.1 b ≡ compact (length vs) = t.1.bytes_are ∙ ap compact count in (
              omega (arith, joint_len, length-append (take r.1 b ++ joint vs) f.rest, ap (λ (l : List ℕ). length l) whole),
              record {
                range = (subst (λ (n : ℕ). n < 2 ^ 64) count t.1.range, subst (λ (l : List V). AllByRecursion InRange l) (sym f.all_are) f.range);
                bytes_are = ap (λ (l : List ℕ). take used l) whole ∙ take_at (take r.1 b ++ joint vs) f.rest used joint_len ∙ ap (λ (l : List ℕ). l ++ joint vs) head;
              },
            )
        | inr (inl r) ↦ let bad = array_as b Cut r in absurd cc
        | inr (inr r) ↦ let bad = array_as b Malformed r in absurd cc
      ]

  cut : (b : List ℕ) → IsBytes b → array_at read b ≡ Ends → EndsInside Spells b
  cut b fits e =
      elim (cases_reading (compact_at b)) [
        | inl r ↦
            let t = compact_code.takes b r.0 r.1 fits r.2 in
            let g = items_ends r.0 [] r.1 (drop r.1 b) (IsBytes-drop r.1 b fits) (sym (array_as b (Value r.0 r.1) r.2) ∙ e) in
            let head : take r.1 b ≡ compact (length g.new) = t.1.bytes_are ∙ ap compact (sym g.count) in (
              g.new,
              g.more,
              g.some,
              record {
                range = (subst (λ (n : ℕ). n < 2 ^ 64) (sym g.count) t.1.range, g.range);
                bytes_are =
                    ap (λ (l : List ℕ). l ++ g.more) (sym (take-append-drop r.1 b)) ∙ append_assoc (take r.1 b) (drop r.1 b) g.more
                    ∙ ap (λ (l : List ℕ). take r.1 b ++ l) g.bytes_are ∙ ap (λ (l : List ℕ). l ++ joint g.new) head;
              },
            )
        | inr (inl r) ↦
            let h = compact_code.cut b fits r in
            let others = replicate h.0 v0 in
            let count : length others ≡ h.0 = length-replicate {A = V} h.0 v0 in (
              others,
              h.1 ++ joint others,
              omega (arith, h.2, length-append h.1 (joint others)),
              record {
                range = (subst (λ (n : ℕ). n < 2 ^ 64) (sym count) h.3.range, all_in_range h.0);
                bytes_are = sym (append_assoc b h.1 (joint others)) ∙ ap (λ (l : List ℕ). l ++ joint others) (h.3.bytes_are ∙ ap compact (sym count));
              },
            )
        | inr (inr r) ↦ let bad = array_as b Malformed r in absurd cc
      ]

  lacks : (b : List ℕ) (n : ℕ) → IsBytes b → array_at read b ≡ NoForm n → LacksInArray InRange spelling Lacks b n
  lacks b n fits e =
      elim (cases_reading (compact_at b)) [
        | inl r ↦
            let t = compact_code.takes b r.0 r.1 fits r.2 in
            let l = items_lacks r.0 [] r.1 (drop r.1 b) n (IsBytes-drop r.1 b fits) (sym (array_as b (Value r.0 r.1) r.2) ∙ e) in
            inr (record {
              value = r.0;
              front = take r.1 b;
              rest = drop r.1 b;
              inner = l.0;
              spelled = t.1;
              bytes_are = sym (take-append-drop r.1 b);
              lacks = l.2;
              place = omega (arith, l.1, length-take r.1 b, t.0);
            })
        | inr (inl r) ↦ let bad = array_as b Cut r in absurd cc
        | inr (inr r) ↦
            let none : NoForm 0 ≡ NoForm n = sym (array_as b Malformed r) ∙ e in
            let place : n ≡ 0 = cc in
            inl (place, no_form SpellsCompact compact_at compact_code b fits r)
      ]

  lacking : (b more : List ℕ) (n : ℕ) → IsBytes b → LacksInArray InRange spelling Lacks b n → array_at read (b ++ more) ≡ NoForm n
  lacking b more n fits (inl h) =
      array_as (b ++ more) Malformed (compact_code.stays b more fits (is_malformed SpellsCompact compact_at compact_code b fits h.1)) ∙ ap (λ (k : ℕ). NoForm k) (sym h.0)
  lacking b more n fits (inr h) =
      let l = h.lacks in
      let bytes : b ++ more ≡ h.front ++ (h.rest ++ more) = ap (λ (x : List ℕ). x ++ more) h.bytes_are ∙ append_assoc h.front h.rest more in
      let inside : h.rest ++ more ≡ joint l.before ++ (l.rest ++ more) = ap (λ (x : List ℕ). x ++ more) l.bytes_are ∙ append_assoc (joint l.before) l.rest more in
      let rest_fits = IsBytes-behind h.front h.rest (subst (λ (x : List ℕ). IsBytes x) h.bytes_are fits) in
      let item_fits = IsBytes-behind (joint l.before) l.rest (subst (λ (x : List ℕ). IsBytes x) l.bytes_are rest_fits) in
      let count = compact_code.again h.value h.front (h.rest ++ more) h.spelled in
      let behind : drop (length h.front) (h.front ++ (h.rest ++ more)) ≡ joint l.before ++ (l.rest ++ more) = drop_at h.front (h.rest ++ more) (length h.front) refl ∙ inside in
      let sum : length h.front + (length (joint l.before) + l.inner) ≡ n = omega (arith, h.place, l.place) in
      ap (array_at read) bytes ∙ array_as (h.front ++ (h.rest ++ more)) (Value h.value (length h.front)) count ∙ ap (items_at read h.value [] (length h.front)) behind
      ∙ items_lacking l.before h.value [] (length h.front) l.rest more l.inner l.fewer l.range item_fits l.lacks ∙ ap (λ (k : ℕ). NoForm k) sum

  stays : (b more : List ℕ) → IsBytes b → joined (array_at read b) ≡ Malformed → joined (array_at read (b ++ more)) ≡ Malformed
  stays b more fits e =
      elim (cases_parts (array_at read b)) [
        | inl r ↦ let bad = ap joined r.2 in absurd cc
        | inr (inl r) ↦ let bad = ap joined r in absurd cc
        | inr (inr r) ↦ ap joined (lacking b more r.0 fits (lacks b r.0 fits r.1))
      ]

  cut_joined : (b : List ℕ) → IsBytes b → joined (array_at read b) ≡ Cut → EndsInside Spells b
  cut_joined b fits e =
      elim (cases_parts (array_at read b)) [
        | inl r ↦ let bad = ap joined r.2 in absurd cc
        | inr (inl r) ↦ cut b fits r
        | inr (inr r) ↦ let bad = ap joined r.1 in absurd cc
      ]

  pub array_parts : RecognisesParts Spells (LacksInArray InRange spelling Lacks) (array_at read)
  array_parts = record {
    code = record {
      again = λ vs b more s. ap joined (again vs b more s);
      takes = λ b vs used fits e. takes b vs used fits (joined_value (array_at read b) vs used e);
      cut = cut_joined;
      stays = stays;
    };
    lacks = lacks;
    lacking = lacking;
  }
