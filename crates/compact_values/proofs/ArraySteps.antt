-- What readers of arrays at places answer, one item after the other.
use Rattle.std.proofs.Common.{◌≡◌, ℕ, suc, ◌+◌, ◌-◌, ◌≤◌, List, [], ◌∷◌, ◌++◌, length, drop, Ok, Err, refl, sym, ap, ◌∙◌, arith}
use Rattle.compact_values.specs.Reading.{Reading, Value, Cut, Malformed, compact_at, answer_at}
use Rattle.compact_values.specs.Placed.{PartReading, Whole, Ends, NoForm, answer_in, single, item_and, items_at, array_behind, array_at}
use Rattle.compact_values.specs.declared.fault.ValueFault.{ValueFault}
use Rattle.compact_values.specs.declared.fault.ValueFault.TheVariants.{Short, OutOfForm}
use Rattle.compact_values.proofs.ReadingSteps.{drop-both}

-- a value without parts, as one with parts
pub single_answer : {V : Type 0} (len at : ℕ) (r : Reading V) → answer_at len at r ≡ answer_in len at (single r)
single_answer len at (Value v used) = refl
single_answer len at Cut = refl
single_answer len at Malformed = let same : at ≡ at + 0 = omega arith in ap (λ (n : ℕ). Err (OutOfForm n)) same

module _ {V : Type 0} (read : List ℕ → PartReading V) (bytes : List ℕ) (at : ℕ) where
  abbrev len : ℕ
  len = length bytes

  -- ---- one item

  pub record OneMore (n m : ℕ) (vs : List V) (place : ℕ) (v : V) (next : ℕ) : Type 0 where
    pub further : place ≤ next
    pub items_are : items_at read n vs (place - at) (drop place bytes) ≡ items_at read m (vs ++ v ∷ []) (next - at) (drop next bytes)

  found_by : (n m : ℕ) (vs : List V) (place : ℕ) (v : V) (next : ℕ) (r : PartReading V) → n ≡ suc m → at ≤ place → read (drop place bytes) ≡ r → Ok (v, next) ≡ answer_in len place r → OneMore n m vs place v next
  found_by n m vs place v next (Whole w used) count le e ok =
      let pair : ◌≡◌ {A = V × ℕ} (w, place + used) (v, next) = cc in
      let end : place + used ≡ next = ap (λ (p : V × ℕ). p.1) pair in
      let behind : drop used (drop place bytes) ≡ drop next bytes = sym (drop-both place used bytes) ∙ ap (λ (k : ℕ). drop k bytes) end in
      let sum : place - at + used ≡ next - at = omega arith in
      let rest = drop place bytes in
      record {
        further = omega arith;
        items_are =
            ap (λ (k : ℕ). items_at read k vs (place - at) rest) count
            ∙ ap (λ (q : PartReading V). item_and q vs (place - at) (λ more_vs more. items_at read m more_vs (place - at + more) (drop more rest))) e
            ∙ ap (λ (k : ℕ). items_at read m (vs ++ w ∷ []) k (drop used rest)) sum
            ∙ ap (λ (l : List ℕ). items_at read m (vs ++ w ∷ []) (next - at) l) behind
            ∙ ap (λ (p : V × ℕ). items_at read m (vs ++ p.0 ∷ []) (next - at) (drop next bytes)) pair;
      }
  found_by n m vs place v next Ends count le e ok = absurd cc
  found_by n m vs place v next (NoForm skipped) count le e ok = absurd cc

  pub item_found : (n m : ℕ) (vs : List V) (place : ℕ) (v : V) (next : ℕ) → n ≡ suc m → at ≤ place → Ok (v, next) ≡ answer_in len place (read (drop place bytes)) → OneMore n m vs place v next
  item_found n m vs place v next count le ok = found_by n m vs place v next (read (drop place bytes)) count le refl ok

  fault_by : (vs : List V) (place : ℕ) (fault : ValueFault) (next : List V → ℕ → PartReading (List V)) (r : PartReading V) → at ≤ place → Err fault ≡ answer_in len place r
      → Err fault ≡ answer_in len at (item_and r vs (place - at) next)
  fault_by vs place fault next (Whole w used) le err = absurd cc
  fault_by vs place fault next Ends le err = let is : fault ≡ Short len = cc in ap Err is
  fault_by vs place fault next (NoForm inner) le err =
      let sum : place + inner ≡ at + (place - at + inner) = omega arith in
      let is : fault ≡ OutOfForm (place + inner) = cc in
      ap Err is ∙ ap (λ (k : ℕ). Err (OutOfForm k)) sum

  pub item_fault : (n m : ℕ) (vs : List V) (place : ℕ) (fault : ValueFault) → n ≡ suc m → at ≤ place → Err fault ≡ answer_in len place (read (drop place bytes))
      → Err fault ≡ answer_in len at (items_at read n vs (place - at) (drop place bytes))
  item_fault n m vs place fault count le err =
      fault_by vs place fault (λ more_vs more. items_at read m more_vs (place - at + more) (drop more (drop place bytes))) (read (drop place bytes)) le err
      ∙ ap (λ (k : ℕ). answer_in len at (items_at read k vs (place - at) (drop place bytes))) (sym count)

  -- ---- the count

  count_fault_by : (fault : ValueFault) (r : Reading ℕ) → Err fault ≡ answer_at len at r → Err fault ≡ answer_in len at (array_behind read r (drop at bytes))
  count_fault_by fault (Value n used) err = absurd cc
  count_fault_by fault Cut err = let is : fault ≡ Short len = cc in ap Err is
  count_fault_by fault Malformed err =
      let same : at ≡ at + 0 = omega arith in
      let is : fault ≡ OutOfForm at = cc in
      ap Err is ∙ ap (λ (k : ℕ). Err (OutOfForm k)) same

  pub count_fault : (fault : ValueFault) → Err fault ≡ answer_at len at (compact_at (drop at bytes)) → Err fault ≡ answer_in len at (array_at read (drop at bytes))
  count_fault fault err = count_fault_by fault (compact_at (drop at bytes)) err

  pub record Counted (count first : ℕ) : Type 0 where
    pub order : at ≤ first
    pub items_are : items_at read count [] (first - at) (drop first bytes) ≡ array_at read (drop at bytes)

  counted_by : (count first : ℕ) (r : Reading ℕ) → compact_at (drop at bytes) ≡ r → Ok (count, first) ≡ answer_at len at r → Counted count first
  counted_by count first (Value n used) e ok =
      let pair : ◌≡◌ {A = ℕ × ℕ} (count, first) (n, at + used) = cc in
      let place : first ≡ at + used = ap (λ (p : ℕ × ℕ). p.1) pair in
      let sum : first - at ≡ used = omega arith in
      let behind : drop first bytes ≡ drop used (drop at bytes) = ap (λ (k : ℕ). drop k bytes) place ∙ drop-both at used bytes in
      record {
        order = omega arith;
        items_are =
            ap (λ (p : ℕ × ℕ). items_at read p.0 [] (first - at) (drop first bytes)) pair ∙ ap (λ (k : ℕ). items_at read n [] k (drop first bytes)) sum
            ∙ ap (λ (l : List ℕ). items_at read n [] used l) behind ∙ ap (λ (q : Reading ℕ). array_behind read q (drop at bytes)) (sym e);
      }
  counted_by count first Cut e ok = absurd cc
  counted_by count first Malformed e ok = absurd cc

  pub counted : (count first : ℕ) → Ok (count, first) ≡ answer_at len at (compact_at (drop at bytes)) → Counted count first
  counted count first ok = counted_by count first (compact_at (drop at bytes)) refl ok
