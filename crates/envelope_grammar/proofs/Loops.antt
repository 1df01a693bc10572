-- Reading things one after the other, as a loop does.
use Rattle.std.proofs.Common.{◌≡◌, ℕ, suc, true, false, ◌-◌, ◌+◌, ◌≤◌, ◌<◌, List, [], ◌∷◌, ◌++◌, length, Option, Some, None, refl, sym, ap, ◌∙◌, append_assoc, arith}
use Rattle.std.specs.List.{concat}
use Rattle.std.specs.Option.{is_some}
use Rattle.std.proofs.lemmas.List.{append-nil}
use Rattle.std.proofs.lemmas.List.Folds.{concat-append}
use Rattle.envelope_grammar.specs.Answers.{Fails}
use Rattle.envelope_grammar.specs.declared.fault.ReadFault.{ReadFault}
use Rattle.envelope_grammar.specs.declared.fault.ReadFault.TheVariants as faults
use Rattle.envelope_grammar.specs.Grammar.{present}
use Rattle.envelope_grammar.specs.Reading.{◌>>=◌, Step, More, Last, listed, many, all_of, at_most_one}

-- what was read before, and what is still read
abbrev pub with_front : {V E : Type 0} → List V → Option (List V × E × List ℕ) → Option (List V × E × List ℕ)
with_front front read = read >>= λ x. Some (front ++ x.0, x.1, x.2)

regroup : {V E : Type 0} (front : List V) (v : V) (read : Option (List V × E × List ℕ)) → with_front front (read >>= λ x. Some (v ∷ x.0, x.1, x.2)) ≡ with_front (front ++ v ∷ []) read
regroup {V} front v (Some x) = ap (λ (vs : List V). Some (vs, x.1, x.2)) (simp append_assoc)
regroup front v None = refl

with_front-nil : {V E : Type 0} (read : Option (List V × E × List ℕ)) → with_front [] read ≡ read
with_front-nil (Some x) = refl
with_front-nil None = refl

-- The loop over `bytes` has read `front` in `i` turns, and `rest` is left.
pub record IsReading {V E : Type 0} (step : List ℕ → Option (Step V E × List ℕ)) (bytes : List ℕ) (i : ℕ) (front : List V) (rest : List ℕ) : Type 0 where
  pub so_far : with_front front (many step (length bytes - i) rest) ≡ all_of step bytes

pub reading_starts : {V E : Type 0} (step : List ℕ → Option (Step V E × List ℕ)) (bytes : List ℕ) → IsReading step bytes 0 [] bytes
reading_starts step bytes = let k : length bytes - 0 ≡ length bytes = omega arith in
    record { so_far = rw k (with_front-nil (many step (length bytes) bytes)) }

module _ {V E : Type 0} (step : List ℕ → Option (Step V E × List ℕ)) (bytes : List ℕ) (i : ℕ) (front : List V) (rest : List ℕ) (reading : IsReading step bytes i front rest) where
  turn : (answer : Option (Step V E × List ℕ)) → i < length bytes → step rest ≡ answer
      → with_front front (answer >>= listed (many step (length bytes - (i + 1)))) ≡ all_of step bytes
  unfolding many
  turn answer le h =
      let k : length bytes - i ≡ suc (length bytes - (i + 1)) = omega arith in
      let so_far = rw (k) at reading.so_far in
      rw (← h) so_far

  pub reading_more : (v : V) (after : List ℕ) → i < length bytes → step rest ≡ Some (More v, after) → IsReading step bytes (i + 1) (front ++ v ∷ []) after
  reading_more v after le h = record { so_far = sym (regroup front v (many step (length bytes - (i + 1)) after)) ∙ turn (Some (More v, after)) le h }

  pub reading_ends : (e : E) (after : List ℕ) → i < length bytes → step rest ≡ Some (Last e, after) → all_of step bytes ≡ Some (front, e, after)
  reading_ends e after le h = sym (turn (Some (Last e, after)) le h) ∙ ap (λ (vs : List V). Some (vs, e, after)) (append-nil front)

  pub reading_fails : (fault : ReadFault) → i < length bytes → Fails fault (step rest) → Fails fault (all_of step bytes)
  reading_fails faults.NoMemory le h = tt
  reading_fails faults.NotInGrammar le h = sym (turn None le h)

  pub reading_never_ends : length bytes ≤ i → all_of step bytes ≡ None
  unfolding many
  reading_never_ends lt =
      let k : length bytes - i ≡ 0 = omega arith in
      let so_far = rw (k) at reading.so_far in
      sym so_far

pub fails_then : {A B : Type 0} (fault : ReadFault) (read : Option A) (f : A → Option B) → Fails fault read → Fails fault (read >>= f)
fails_then faults.NoMemory read f h = tt
fails_then faults.NotInGrammar read f h = rw h refl

pub concat_more : (front : List (List ℕ)) (x : List ℕ) → concat front ++ x ≡ concat (front ++ x ∷ [])
concat_more front x = ap (λ (y : List ℕ). concat front ++ y) (sym (append-nil x)) ∙ sym (concat-append front (x ∷ []))

-- ---- at most one

abbrev pub found_list : {V : Type 0} → Option V → List V
found_list None = []
found_list (Some v) = v ∷ []

present-append : {V : Type 0} (xs ys : List (Option V)) → present (xs ++ ys) ≡ present xs ++ present ys
present-append [] ys = refl
present-append (None ∷ xs) ys = present-append xs ys
present-append {V} (Some x ∷ xs) ys = ap (λ (l : List V). x ∷ l) (present-append xs ys)

pub present_none : {V : Type 0} (all xs : List (Option V)) → all ≡ xs ++ None ∷ [] → present all ≡ present xs
present_none all xs e = ap present e ∙ present-append xs (None ∷ []) ∙ append-nil (present xs)

pub present_some : {V : Type 0} (all xs : List (Option V)) (v : V) → all ≡ xs ++ Some v ∷ [] → present all ≡ present xs ++ v ∷ []
present_some all xs v e = ap present e ∙ present-append xs (Some v ∷ [])

pub two_are_too_many : {V : Type 0} (vs : List V) (v w : V) → at_most_one ((vs ++ v ∷ []) ++ w ∷ []) ≡ None
two_are_too_many [] v w = refl
two_are_too_many (x ∷ []) v w = refl
two_are_too_many (x ∷ y ∷ vs) v w = refl

pub first_found : {V : Type 0} (all xs : List (Option V)) (v : V) (found : Option V) (whole : List V) → all ≡ xs ++ Some v ∷ [] → false ≡ is_some found
    → present all ++ found_list found ≡ whole → present xs ++ v ∷ [] ≡ whole
first_found all xs v None whole e none inv = sym (present_some all xs v e) ∙ sym (append-nil (present all)) ∙ inv
first_found all xs v (Some w) whole e none inv = absurd cc

pub second_found : {V : Type 0} (all xs : List (Option V)) (v : V) (found : Option V) (whole : List V) → all ≡ xs ++ Some v ∷ [] → true ≡ is_some found
    → present all ++ found_list found ≡ whole → None ≡ at_most_one whole
second_found all xs v None whole e some inv = absurd cc
second_found {V} all xs v (Some w) whole e some inv =
    sym (ap at_most_one (sym inv ∙ ap (λ (l : List V). l ++ w ∷ []) (present_some all xs v e)) ∙ two_are_too_many (present xs) v w)
