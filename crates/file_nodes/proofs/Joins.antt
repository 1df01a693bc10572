-- The file of an object by its place, level by level.
use Rattle.std.proofs.Common.{◌≡◌, ◌≢◌, ℕ, zero, suc, ◌+◌, ◌-◌, ◌<◌, ◌≤◌, Bool, true, false, List, [], ◌++◌, length, drop, get_or, Option, Some, eqb, refl, sym, ap, ◌∙◌, append_assoc, add-one, drop-cons, arith}
use Rattle.std.specs.Prelude.{cond, slice_get}
use Rattle.std.specs.List.{flat_map}
use Rattle.std.proofs.Math.Seq.{drop-length}
use Rattle.std.proofs.lemmas.List.{append-nil}
use Rattle.std.proofs.lemmas.Option.{slice_get_past, slice_get-get_or}
use Rattle.file_nodes.specs.Links.{file_at, file_from}
use Rattle.file_nodes.specs.StoredObjects.{StoredObject}

pub nothing_from : (objects : List StoredObject) (children : List (List ℕ)) (levels place : ℕ) → levels ≡ 0 → file_from objects children levels place ≡ []
unfolding file_from
nothing_from objects children levels place e = ap (λ (n : ℕ). file_from objects children n place) e

pub next_from : (objects : List StoredObject) (children : List (List ℕ)) (levels place : ℕ) → levels ≢ 0
    → file_from objects children levels place ≡ file_at (file_from objects children (levels - 1)) (slice_get objects place) (slice_get children place)
unfolding file_from
next_from objects children zero place some = absurd (some refl)
next_from objects children (suc n) place some = let e : n ≡ suc n - 1 = omega arith in ap (λ (m : ℕ). file_at (file_from objects children m) (slice_get objects place) (slice_get children place)) e

-- one more file behind others
pub file_more : (f : ℕ → List ℕ) (places : List ℕ) (i : ℕ) (done more all : List ℕ) → i < length places → more ≡ done ++ f (get_or places i 0) → done ++ flat_map f (drop i places) ≡ all
    → more ++ flat_map f (drop (i + 1) places) ≡ all
file_more f places i done more all lt e h =
    ap (λ (l : List ℕ). l ++ flat_map f (drop (i + 1) places)) e ∙ append_assoc done (f (get_or places i 0)) (flat_map f (drop (i + 1) places))
    ∙ ap (λ (n : ℕ). done ++ (f (get_or places i 0) ++ flat_map f (drop n places))) (add-one i) ∙ ap (λ (l : List ℕ). done ++ flat_map f l) (sym (drop-cons places i 0 lt)) ∙ h

pub file_end : (f : ℕ → List ℕ) (items places : List ℕ) (i : ℕ) (out before file : List ℕ) → length items ≤ i → i ≤ length items → items ≡ places → file ≡ flat_map f places
    → out ++ flat_map f (drop i items) ≡ before ++ flat_map f items → out ≡ before ++ file
file_end f items places i out before file past inside same is h =
    let last : i ≡ length items = omega arith in
    let left : drop i items ≡ [] = ap (λ (n : ℕ). drop n items) last ∙ drop-length items in
    sym (append-nil out) ∙ ap (λ (l : List ℕ). out ++ flat_map f l) (sym left) ∙ h ∙ ap (λ (l : List ℕ). before ++ flat_map f l) same ∙ ap (λ (l : List ℕ). before ++ l) (sym is)

-- ---- what stands at the place

module _ (objects : List StoredObject) (children : List (List ℕ)) (levels place : ℕ) (some : levels ≢ 0) where
  abbrev deeper : ℕ → List ℕ
  deeper = file_from objects children (levels - 1)

  pub absent_from : length objects ≤ place → file_from objects children levels place ≡ []
  absent_from past =
      next_from objects children levels place some ∙ ap (λ (o : Option StoredObject). file_at deeper o (slice_get children place)) (slice_get_past objects place past)

  module _ (o : StoredObject) (inside : place < length objects) (is : o ≡ get_or objects place o) where
    here : slice_get objects place ≡ Some o
    here = slice_get-get_or objects place o inside ∙ ap Some (sym is)

    pub childless_from : length children ≤ place → file_from objects children levels place ≡ []
    childless_from past =
        next_from objects children levels place some ∙ ap (λ (p : Option StoredObject). file_at deeper p (slice_get children place)) here
        ∙ ap (file_at deeper (Some o)) (slice_get_past children place past)

    module _ (places : List ℕ) (within : place < length children) (are : places ≡ get_or children place places) where
      there : slice_get children place ≡ Some places
      there = slice_get-get_or children place places within ∙ ap Some (sym are)

      both : file_from objects children levels place ≡ file_at deeper (Some o) (Some places)
      both =
          next_from objects children levels place some ∙ ap (λ (p : Option StoredObject). file_at deeper p (slice_get children place)) here
          ∙ ap (file_at deeper (Some o)) there

      pub leaf_from : eqb (length o.references) 0 ≡ true → file_from objects children levels place ≡ o.bytes
      leaf_from none = both ∙ ap (λ (b : Bool). cond b o.bytes (flat_map deeper places)) none

      pub node_from : eqb (length o.references) 0 ≡ false → file_from objects children levels place ≡ flat_map deeper places
      node_from more = both ∙ ap (λ (b : Bool). cond b o.bytes (flat_map deeper places)) more
