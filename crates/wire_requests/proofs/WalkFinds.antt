-- The first object of a type in a walk is the one that is found among all of its objects.
use Rattle.std.proofs.Common.{◌≡◌, ℕ, zero, suc, Bool, List, [], ◌∷◌, ◌++◌, Option, inl, inr, refl, sym, ap, ◌∙◌}
use Rattle.std.specs.Prelude.{find}
use Rattle.std.specs.List.{flat_map}
use Rattle.std.proofs.lemmas.Bool.{cases_Bool}
use Rattle.stream_objects.specs.declared.tree.Tree.{Tree}
use Rattle.stream_objects.specs.declared.tree.Tree.TheViews.{out-Tree}
use Rattle.stream_objects.specs.Objects.{is_kind}
use Rattle.doc_model.specs.wire.Walks.{walk}
use Rattle.wire_requests.specs.WalkReading.{or_else, first_by, first_of}

find_join : (p : Tree → Bool) (xs ys : List Tree) → find p (xs ++ ys) ≡ or_else (find p xs) (find p ys)
find_join p [] ys = refl
find_join p (x ∷ xs) ys =
    elim (cases_Bool (p x)) [
      | inl y ↦ rw y refl
      | inr n ↦ rw n (find_join p xs ys)
    ]

first_by_is : (f : Tree → Option Tree) (p : Tree → Bool) (walk_of : Tree → List Tree) → ((t : Tree) → f t ≡ find p (walk_of t)) → (ts : List Tree) → first_by f ts ≡ find p (flat_map walk_of ts)
first_by_is f p walk_of one [] = refl
first_by_is f p walk_of one (t ∷ ts) =
    ap (λ (o : Option Tree). or_else o (first_by f ts)) (one t) ∙ ap (or_else (find p (walk_of t))) (first_by_is f p walk_of one ts) ∙ sym (find_join p (walk_of t) (flat_map walk_of ts))

first_of_is : (levels kind : ℕ) (t : Tree) → first_of levels kind t ≡ find (is_kind kind) (walk levels t)
unfolding first_of
first_of_is zero kind t = refl
first_of_is (suc levels) kind t =
    elim (cases_Bool (is_kind kind t)) [
      | inl y ↦ rw y refl
      | inr n ↦ rw n (first_by_is (first_of levels kind) (is_kind kind) (walk levels) (first_of_is levels kind) (out-Tree t).children)
    ]

pub first_is : (levels kind : ℕ) (ts : List Tree) → first_by (first_of levels kind) ts ≡ find (is_kind kind) (flat_map (walk levels) ts)
first_is levels kind ts = first_by_is (first_of levels kind) (is_kind kind) (walk levels) (first_of_is levels kind) ts
