-- Reading one object after the other.
use Rattle.std.proofs.Common.{◌≡◌, ℕ, List, [], ◌∷◌, ◌++◌, Result, Ok, Err, refl, sym, ap, ◌∙◌, append_assoc}
use Rattle.std.specs.List.{AllByRecursion, flat_map}
use Rattle.std.proofs.lemmas.List.{append-nil}
use Rattle.stream_objects.specs.declared.tree.Tree.{Tree}
use Rattle.stream_objects.specs.Gathering.{Gathers, and_then, gather}
use Rattle.stream_objects.proofs.Broken.{Judges, all-append, broken_left, broken_right}

-- what was read adds such values to those before
pub record Behind {V : Type 0} (Is : List V → Type 0) (before all : List V) : Type 0 where
  pub new : List V
  pub all_are : all ≡ before ++ new
  pub is : Is new

module _ {P V : Type 0} (InForm : P → Type 0) (start : P → ℕ) (Adds : Tree → List V → Type 0) (parts_of : Tree → List P) (read : List V → Tree → Result (List V) ℕ) where
  abbrev JudgesAll : List Tree → List V → Result (List V) ℕ → Type 0
  JudgesAll ts vs = Judges InForm start (Behind (Gathers Adds ts) vs) (flat_map parts_of ts)

  abbrev JudgesOne : Tree → List V → Result (List V) ℕ → Type 0
  JudgesOne t vs = Judges InForm start (Behind (Adds t) vs) (parts_of t)

  then_all : (t : Tree) (ts : List Tree) (vs more : List V) → Behind (Adds t) vs more → AllByRecursion InForm (parts_of t) → (r : Result (List V) ℕ) → JudgesAll ts more r → JudgesAll (t ∷ ts) vs r
  then_all t ts vs more b own (Ok all) j = (
    record {
      new = b.new ++ j.0.new;
      all_are = j.0.all_are ∙ ap (λ (l : List V). l ++ j.0.new) b.all_are ∙ append_assoc vs b.new j.0.new;
      is = (b.new, j.0.new, b.is, j.0.is, refl);
    },
    all-append InForm start (parts_of t) (flat_map parts_of ts) own j.1,
  )
  then_all t ts vs more b own (Err place) j = broken_right InForm start (parts_of t) (flat_map parts_of ts) place own j

  first_then : (t : Tree) (ts : List Tree) (vs : List V) → (r : Result (List V) ℕ) → JudgesOne t vs r → ((more : List V) → JudgesAll ts more (gather read more ts))
      → JudgesAll (t ∷ ts) vs (and_then r (λ more. gather read more ts))
  first_then t ts vs (Ok more) j rest = then_all t ts vs more j.0 j.1 (gather read more ts) (rest more)
  first_then t ts vs (Err place) j rest = broken_left InForm start (parts_of t) (flat_map parts_of ts) place j

  pub judges_gather : ((t : Tree) (vs : List V) → JudgesOne t vs (read vs t)) → (ts : List Tree) (vs : List V) → JudgesAll ts vs (gather read vs ts)
  judges_gather one [] vs = (record { new = []; all_are = sym (append-nil vs); is = refl }, tt)
  judges_gather one (t ∷ ts) vs = first_then t ts vs (read vs t) (one t vs) (judges_gather one ts)

pub again_gather : {V : Type 0} (Adds : Tree → List V → Type 0) (read : List V → Tree → Result (List V) ℕ) → ((t : Tree) (vs new : List V) → Adds t new → read vs t ≡ Ok (vs ++ new))
    → (ts : List Tree) (vs new : List V) → Gathers Adds ts new → gather read vs ts ≡ Ok (vs ++ new)
again_gather {V} Adds read again [] vs new h = ap Ok (sym (append-nil vs) ∙ ap (λ (l : List V). vs ++ l) (sym h))
again_gather {V} Adds read again (t ∷ ts) vs new h =
    ap (λ (r : Result (List V) ℕ). and_then r (λ more. gather read more ts)) (again t vs h.0 h.2) ∙ again_gather Adds read again ts (vs ++ h.0) h.1 h.3
    ∙ ap Ok (append_assoc vs h.0 h.1 ∙ ap (λ (l : List V). vs ++ l) (sym h.4))
