-- Things one after the other: what is read is such a list, and such a list is read.
use Rattle.std.proofs.Common.{◌≡◌, ℕ, zero, suc, ◌≤◌, List, [], ◌∷◌, ◌++◌, length, Option, Some, refl, sym, ap, subst, ◌∙◌, append_assoc, arith}
use Rattle.std.proofs.lemmas.List.{length-append}
use Rattle.envelope_grammar.specs.Grammar.{Several}
use Rattle.envelope_grammar.specs.Reading.{Step, More, Last, listed, many, all_of}
use Rattle.envelope_grammar.proofs.Runs.{bind_some, some_is}

-- The step reads one thing, or the end; `Stops` is what may follow the end.
pub record ReadsSteps {V E : Type 0} (Item : V → List ℕ → Type 0) (End : E → List ℕ → Type 0) (Stops : List ℕ → Type 0) (step : List ℕ → Option (Step V E × List ℕ)) : Type 0 where
  pub more : (v : V) (b rest : List ℕ) → Item v b → step (b ++ rest) ≡ Some (More v, rest)
  pub some : (v : V) (b : List ℕ) → Item v b → 1 ≤ length b
  pub last : (e : E) (b rest : List ℕ) → End e b → Stops rest → step (b ++ rest) ≡ Some (Last e, rest)
  pub end : (e : E) (b rest : List ℕ) → End e b → Stops rest → 1 ≤ length (b ++ rest)
  pub takes : (bytes : List ℕ) (v : V) (rest : List ℕ) → step bytes ≡ Some (More v, rest) → (b : List ℕ) × Item v b × (bytes ≡ b ++ rest)
  pub ends : (bytes : List ℕ) (e : E) (rest : List ℕ) → step bytes ≡ Some (Last e, rest) → (b : List ℕ) × End e b × (bytes ≡ b ++ rest)

module _ {V E : Type 0} (Item : V → List ℕ → Type 0) (End : E → List ℕ → Type 0) (Stops : List ℕ → Type 0) (step : List ℕ → Option (Step V E × List ℕ)) (reads : ReadsSteps Item End Stops step) where
  pub several_again : (vs : List V) (e : E) (b rest : List ℕ) (count : ℕ) → Several Item End vs e b → Stops rest → length (b ++ rest) ≤ count → many step count (b ++ rest) ≡ Some (vs, e, rest)
  unfolding many
  several_again vs e b rest zero h stop le = absurd (zero_steps vs b h le)
    where
      zero_steps : (us : List V) (c : List ℕ) → Several Item End us e c → length (c ++ rest) ≤ 0 → ⊥
      zero_steps [] c h le = let one = reads.end e c rest h stop in omega arith
      zero_steps (u ∷ us) c h le =
          let one = reads.some u h.front h.first in
          omega (arith, length-append c rest, ap length h.bytes_are, length-append h.front h.back)
  several_again [] e b rest (suc count) h stop le = rw (reads.last e b rest h stop) refl
  several_again (v ∷ vs) e b rest (suc count) h stop le =
      let one = reads.some v h.front h.first in
      let parts : b ++ rest ≡ h.front ++ (h.back ++ rest) = ap (λ (l : List ℕ). l ++ rest) h.bytes_are ∙ append_assoc h.front h.back rest in
      let shorter : length (h.back ++ rest) ≤ count = omega (arith, ap length parts, length-append h.front (h.back ++ rest)) in
      rw (parts, reads.more v h.front (h.back ++ rest) h.first, several_again vs e h.back rest count h.second stop shorter) refl

  listed_takes : (count : ℕ) (s : Step V E) (after : List ℕ) (vs : List V) (e : E) (rest : List ℕ)
      → listed (many step count) (s, after) ≡ Some (vs, e, rest)
      → ((us : List V) (f : E) (r : List ℕ) → many step count after ≡ Some (us, f, r) → (b : List ℕ) × Several Item End us f b × (after ≡ b ++ r))
      → (bytes : List ℕ) → step bytes ≡ Some (s, after) → (b : List ℕ) × Several Item End vs e b × (bytes ≡ b ++ rest)
  listed_takes count (More v) after vs e rest h others bytes here =
      let x = bind_some (many step count after) (λ x. Some (v ∷ x.0, x.1, x.2)) (vs, e, rest) h in
      let t = reads.takes bytes v after here in
      let o = others x.0.0 x.0.1 x.0.2 x.1 in
      let made : List V × E × List ℕ = (v ∷ x.0.0, x.0.1, x.0.2) in
      let both : Several Item End (v ∷ x.0.0) x.0.1 (t.0 ++ o.0) = record { front = t.0; back = o.0; first = t.1; second = o.1; bytes_are = refl } in
      let whole : bytes ≡ (t.0 ++ o.0) ++ x.0.2 = t.2 ∙ ap (λ (l : List ℕ). t.0 ++ l) o.2 ∙ sym (append_assoc t.0 o.0 x.0.2) in
      subst (λ (y : List V × E × List ℕ). (b : List ℕ) × Several Item End y.0 y.1 b × (bytes ≡ b ++ y.2)) (some_is made (vs, e, rest) x.2) (t.0 ++ o.0, both, whole)
  listed_takes count (Last f) after vs e rest h others bytes here =
      let t = reads.ends bytes f after here in
      let made : List V × E × List ℕ = ([], f, after) in
      subst (λ (y : List V × E × List ℕ). (b : List ℕ) × Several Item End y.0 y.1 b × (bytes ≡ b ++ y.2)) (some_is made (vs, e, rest) h) t

  pub several_takes : (count : ℕ) (bytes : List ℕ) (vs : List V) (e : E) (rest : List ℕ) → many step count bytes ≡ Some (vs, e, rest) → (b : List ℕ) × Several Item End vs e b × (bytes ≡ b ++ rest)
  unfolding many
  several_takes zero bytes vs e rest h = absurd cc
  several_takes (suc count) bytes vs e rest h =
      let s = bind_some (step bytes) (listed (many step count)) (vs, e, rest) h in
      listed_takes count s.0.0 s.0.1 vs e rest s.2 (several_takes count s.0.1) bytes s.1

  pub all_again : (vs : List V) (e : E) (b rest : List ℕ) → Several Item End vs e b → Stops rest → all_of step (b ++ rest) ≡ Some (vs, e, rest)
  all_again vs e b rest h stop = several_again vs e b rest (length (b ++ rest)) h stop (omega arith)

  pub all_takes : (bytes : List ℕ) (vs : List V) (e : E) (rest : List ℕ) → all_of step bytes ≡ Some (vs, e, rest) → (b : List ℕ) × Several Item End vs e b × (bytes ≡ b ++ rest)
  all_takes bytes vs e rest h = several_takes (length bytes) bytes vs e rest h
