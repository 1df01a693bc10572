-- The fields and the children of objects.
use Rattle.std.specs.Prelude.{if◌then◌else◌}
use Rattle.std.proofs.Common.{◌≡◌, ◌<◌, ℕ, Bool, true, false, List, [], ◌∷◌, drop, take, zero, suc, ◌-◌, get_or, Option, Some, None, refl, ap, arith}
use Rattle.std.specs.Prelude.{option_and_then}
use Rattle.stream_objects.specs.declared.tree.Tree.{Tree}
use Rattle.stream_objects.specs.declared.tree.Tree.TheViews.{out-Tree}
use Rattle.compact_values.proofs.LittleEndian.{IsBytes}
use Rattle.compact_values.proofs.Codes.{IsBytes-drop}
use Rattle.stream_objects.specs.Objects.{HasFields, fields_of}
use Rattle.stream_objects.specs.ObjectFields.{simple_fields, compound_fields, single}
use Rattle.compact_values.proofs.Takes.{Gets}

pub single_some : (ts : List Tree) (t : Tree) → single ts ≡ Some t → ts ≡ t ∷ []
single_some [] t e = absurd cc
single_some (u ∷ []) t e = let same : u ≡ t = cc in ap (λ (x : Tree). x ∷ []) same
single_some (u ∷ v ∷ vs) t e = absurd cc

pub single_none : (ts : List Tree) → single ts ≡ None → (t : Tree) → ts ≡ t ∷ [] → ⊥
single_none ts e t g = let some : single ts ≡ Some t = ap single g in absurd cc

-- a part of bytes is bytes
IsBytes-take : (n : ℕ) (bytes : List ℕ) → IsBytes bytes → IsBytes (take n bytes)
IsBytes-take zero bytes fits i = omega arith
IsBytes-take (suc n) [] fits i = omega arith
IsBytes-take (suc n) (b ∷ bytes) fits zero = fits 0
IsBytes-take (suc n) (b ∷ bytes) fits (suc i) = IsBytes-take n bytes (λ k. fits (suc k)) i

pub IsBytes-fields : (input : List ℕ) (tree : Tree) → IsBytes input → IsBytes (fields_of input tree)
IsBytes-fields input tree fits = IsBytes-take ((out-Tree tree).fields.to - (out-Tree tree).fields.from) (drop (out-Tree tree).fields.from input) (IsBytes-drop (out-Tree tree).fields.from input fits)

-- ---- the fields of an object

module _ {V : Type 0} (Spells : V → List ℕ → Type 0) (get : List ℕ → Option V) (gets : Gets Spells get) (input : List ℕ) (tree : Tree) (fits : (i : ℕ) → get_or (fields_of input tree) i 0 < 256) where
  simple_found : (v : V) (mark : Bool) → (out-Tree tree).compound ≡ mark → option_and_then get (if mark then None else Some (fields_of input tree)) ≡ Some v → HasFields false Spells input tree v
  simple_found v true m e = absurd cc
  simple_found v false m e = record { mark = m; fields = gets.found (fields_of input tree) v fits e }

  pub simple_gets : (v : V) → option_and_then get (simple_fields input tree) ≡ Some v → HasFields false Spells input tree v
  simple_gets v e = simple_found v (out-Tree tree).compound refl e

  pub simple_again : (v : V) → HasFields false Spells input tree v → option_and_then get (simple_fields input tree) ≡ Some v
  simple_again v h = rw h.mark (gets.again (fields_of input tree) v h.fields)

  compound_found : (v : V) (mark : Bool) → (out-Tree tree).compound ≡ mark → option_and_then get (if mark then Some (fields_of input tree) else None) ≡ Some v → HasFields true Spells input tree v
  compound_found v false m e = absurd cc
  compound_found v true m e = record { mark = m; fields = gets.found (fields_of input tree) v fits e }

  pub compound_gets : (v : V) → option_and_then get (compound_fields input tree) ≡ Some v → HasFields true Spells input tree v
  compound_gets v e = compound_found v (out-Tree tree).compound refl e

  pub compound_again : (v : V) → HasFields true Spells input tree v → option_and_then get (compound_fields input tree) ≡ Some v
  compound_again v h = rw h.mark (gets.again (fields_of input tree) v h.fields)
