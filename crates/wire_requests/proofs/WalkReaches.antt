-- A walk down to as many levels as a tree has meets all of its objects.
use Rattle.std.proofs.Common.{◌≡◌, ℕ, zero, suc, ◌+◌, Bool, true, false, List, [], ◌∷◌, ◌++◌, refl, ap, ◌∙◌, arith}
use Rattle.std.specs.List.{flat_map}
use Rattle.stream_objects.specs.Trees.{Consecutive, EndsBehind, IsObject}
use Rattle.stream_objects.specs.declared.tree.Tree.{Tree}
use Rattle.stream_objects.specs.declared.tree.Tree.TheViews.{out-Tree}
use Rattle.doc_model.specs.wire.Walks.{walk}

module _ (input : List ℕ) (levels m : ℕ) (same : (t : Tree) (from next : ℕ) → IsObject levels input t from next → walk m t ≡ walk levels t) where
  same_each : (ts : List Tree) (from next : ℕ) → Consecutive (IsObject levels input) ts from next → flat_map (walk m) ts ≡ flat_map (walk levels) ts
  same_each [] from next h = refl
  same_each (t ∷ ts) from next h =
      ap (λ (l : List Tree). l ++ flat_map (walk m) ts) (same t from h.0 h.1) ∙ ap (λ (l : List Tree). walk levels t ++ l) (same_each ts h.0 next h.2)

  same_below : (t : Tree) (next : ℕ) (mark : Bool) → EndsBehind (IsObject levels input) input (out-Tree t) mark next → flat_map (walk m) (out-Tree t).children ≡ flat_map (walk levels) (out-Tree t).children
  same_below t next false e = rw e.0 refl
  same_below t next true e = same_each (out-Tree t).children (out-Tree t).fields.to e.0 e.1

pub same_walk : (input : List ℕ) (levels n more : ℕ) → n ≡ levels + more → (t : Tree) (from next : ℕ) → IsObject levels input t from next → walk n t ≡ walk levels t
unfolding IsObject
same_walk input zero n more e t from next h = absurd h
same_walk input (suc levels) zero more e t from next h = absurd (omega (arith, e))
same_walk input (suc levels) (suc m) more e t from next h =
    let less : m ≡ levels + more = omega (arith, e) in
    ap (λ (l : List Tree). t ∷ l) (same_below input levels m (same_walk input levels m more less) t next (out-Tree t).compound h.1)
