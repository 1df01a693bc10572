-- A walk of a tree goes on with its children.
use Rattle.std.proofs.Common.{◌≡◌, ℕ, suc, ◌+◌, ◌-◌, ◌<◌, List, length, drop, get_or, Option, Some, sym, ap, ◌∙◌, refl, arith}
use Rattle.std.proofs.lemmas.Bool.{ne_eqb}
use Rattle.std.proofs.lemmas.List.{drop_more}
use Rattle.stream_objects.specs.declared.tree.Tree.{Tree}
use Rattle.stream_objects.specs.declared.tree.Tree.TheViews.{out-Tree}
use Rattle.stream_objects.specs.Objects.{kind_of}
use Rattle.wire_requests.specs.WalkReading.{first_of, first_by, or_else}

pub walked : (levels kind : ℕ) (t : Tree) → (levels ≡ 0 → ⊥) → ((out-Tree t).kind ≡ kind → ⊥) → first_of levels kind t ≡ first_by (first_of (levels - 1) kind) (out-Tree t).children
unfolding first_of
walked levels kind t ne other =
    let some : levels ≡ suc (levels - 1) = omega arith in
    ap (λ (n : ℕ). first_of n kind t) some ∙ rw (ne_eqb (kind_of t) kind other) refl

-- the child at this place is the first in which something is found
pub found_at : (f : Tree → Option Tree) (ts : List Tree) (i : ℕ) (t found : Tree) → i < length ts → t ≡ get_or ts i t → Some found ≡ f t → first_by f (drop i ts) ≡ Some found
found_at f ts i t found lt is e =
    ap (first_by f) (drop_more ts i t lt) ∙ ap (λ (u : Tree). or_else (f u) (first_by f (drop (i + 1) ts))) (sym is) ∙ ap (λ (o : Option Tree). or_else o (first_by f (drop (i + 1) ts))) (sym e)
