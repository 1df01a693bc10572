-- Steps of a judgement: what is read of an object and of what it holds.
use Rattle.std.proofs.Common.{◌≡◌, ℕ, Bool, true, false, List, [], ◌∷◌, ◌++◌, Option, Some, None, Result, Ok, Err, inl, inr, refl, sym, ap, subst, ◌∙◌}
use Rattle.std.specs.Prelude.{if◌then◌else◌}
use Rattle.std.specs.List.{AllByRecursion, flat_map}
use Rattle.std.proofs.lemmas.List.{append-nil}
use Rattle.stream_objects.specs.declared.tree.Tree.{Tree}
use Rattle.stream_objects.specs.Objects.{One, HasOne, start_of, children_of}
use Rattle.stream_objects.specs.ObjectFields.{single}
use Rattle.stream_objects.specs.Gathering.{and_then}
use Rattle.stream_objects.proofs.Broken.{Judges, all-append, broken_left, broken_right}
use Rattle.stream_objects.proofs.Children.{single_some, single_none}
use Rattle.wire_responses.specs.ResponseReading.{in_child, both_with}

module _ {P : Type 0} (Own : P → Type 0) (start : P → ℕ) where
  pub judges_map : {V : Type 0} (Is Says : V → Type 0) (ps : List P) → ((v : V) → Is v → Says v) → (r : Result V ℕ) → Judges Own start Is ps r → Judges Own start Says ps r
  judges_map Is Says ps to (Ok v) j = (to v j.0, j.1)
  judges_map Is Says ps to (Err place) j = j

  -- a part in front
  pub judges_first : {V : Type 0} (Is : V → Type 0) (p : P) (ps : List P) → Own p → (r : Result V ℕ) → Judges Own start Is ps r → Judges Own start Is (p ∷ ps) r
  judges_first Is p ps own (Ok v) j = (j.0, (own, j.1))
  judges_first Is p ps own (Err place) j = inr (own, j)

  -- what was read, as something else
  pub judges_then : {A V : Type 0} (Is : A → Type 0) (Says : V → Type 0) (ps : List P) (make : A → V) → ((a : A) → Is a → Says (make a)) → (r : Result A ℕ) → Judges Own start Is ps r
      → Judges Own start Says ps (and_then r (λ a. Ok (make a)))
  judges_then Is Says ps make to (Ok a) j = (to a j.0, j.1)
  judges_then Is Says ps make to (Err place) j = j

  behind : {V : Type 0} (Says : V → Type 0) (ps qs : List P) → AllByRecursion Own ps → (r : Result V ℕ) → Judges Own start Says qs r → Judges Own start Says (ps ++ qs) r
  behind Says ps qs own (Ok v) j = (j.0, all-append Own start ps qs own j.1)
  behind Says ps qs own (Err place) j = broken_right Own start ps qs place own j

  -- one after the other
  pub judges_two : {A V : Type 0} (Is : A → Type 0) (Says : V → Type 0) (ps qs : List P) (next : A → Result V ℕ) → ((a : A) → Is a → Judges Own start Says qs (next a)) → (r : Result A ℕ)
      → Judges Own start Is ps r → Judges Own start Says (ps ++ qs) (and_then r next)
  judges_two Is Says ps qs next rest (Ok a) j = behind Says ps qs j.1 (next a) (rest a j.0)
  judges_two Is Says ps qs next rest (Err place) j = broken_left Own start ps qs place j

  parts_of_one : (held : Tree → List P) (cs : List Tree) (c : Tree) → cs ≡ c ∷ [] → flat_map held cs ≡ held c
  parts_of_one held cs c one = ap (flat_map held) one ∙ append-nil (held c)

  -- an object that holds exactly one child of a type
  pub judges_in_child : {V : Type 0} (t : Tree) (p : P) (k : ℕ) (held : Tree → List P) (Is : Tree → V → Type 0) (read : Tree → Result V ℕ) → start_of t ≡ start p
      → (HasOne k t → Own p) → (Own p → HasOne k t) → ((c : Tree) → Judges Own start (Is c) (held c) (read c))
      → Judges Own start (One k Is t) (p ∷ flat_map held (children_of k t)) (in_child (start_of t) read (single (children_of k t)))
  judges_in_child {V} t p k held Is read starts own back judge = go (single (children_of k t)) refl where
    go : (s : Option Tree) → single (children_of k t) ≡ s → Judges Own start (One k Is t) (p ∷ flat_map held (children_of k t)) (in_child (start_of t) read s)
    go None e = inl (λ o. let one = back o in single_none (children_of k t) e one.0 one.1, starts)
    go (Some c) e =
        let one = single_some (children_of k t) c e in
        judges_first (One k Is t) p (flat_map held (children_of k t)) (own (c, one)) (read c)
        (subst (λ (ps : List P). Judges Own start (One k Is t) ps (read c)) (sym (parts_of_one held (children_of k t) c one)) (judges_map (Is c) (One k Is t) (held c) (λ v is. (c, one, is)) (read c) (judge c)))

  -- an object that holds exactly one child of each of two types, in either order
  pub judges_both : {A B V : Type 0} (t : Tree) (p : P) (j k : ℕ) (first : Bool) (left right : Tree → List P) (IsLeft : Tree → A → Type 0) (IsRight : Tree → B → Type 0)
      (one : Tree → Result A ℕ) (other : Tree → Result B ℕ) (make : A → B → V) → start_of t ≡ start p → (HasOne j t → HasOne k t → Own p) → (Own p → HasOne j t × HasOne k t)
      → ((c : Tree) → Judges Own start (IsLeft c) (left c) (one c)) → ((c : Tree) → Judges Own start (IsRight c) (right c) (other c))
      → Judges Own start (λ v. (a : A) × (b : B) × One j IsLeft t a × One k IsRight t b × (v ≡ make a b))
      (p ∷ (if first then flat_map left (children_of j t) ++ flat_map right (children_of k t) else flat_map right (children_of k t) ++ flat_map left (children_of j t)))
      (both_with one other make (start_of t) first (single (children_of j t)) (single (children_of k t)))
  judges_both {A} {B} {V} t p j k first left right IsLeft IsRight one other make starts own back judge_left judge_right = go first (single (children_of j t)) (single (children_of k t)) refl refl where
    Both : V → Type 0
    Both v = (a : A) × (b : B) × One j IsLeft t a × One k IsRight t b × (v ≡ make a b)

    parts : Bool → List P
    parts f = if f then flat_map left (children_of j t) ++ flat_map right (children_of k t) else flat_map right (children_of k t) ++ flat_map left (children_of j t)

    go : (f : Bool) (x y : Option Tree) → single (children_of j t) ≡ x → single (children_of k t) ≡ y → Judges Own start Both (p ∷ parts f) (both_with one other make (start_of t) f x y)
    go f None y e g = inl (λ o. let h = (back o).0 in single_none (children_of j t) e h.0 h.1, starts)
    go f (Some c) None e g = inl (λ o. let h = (back o).1 in single_none (children_of k t) g h.0 h.1, starts)
    go true (Some c) (Some d) e g =
        let x = single_some (children_of j t) c e in
        let y = single_some (children_of k t) d g in
        judges_first Both p (parts true) (own (c, x) (d, y)) (both_with one other make (start_of t) true (Some c) (Some d))
        (
        subst (λ (ps : List P). Judges Own start Both ps (both_with one other make (start_of t) true (Some c) (Some d)))
        (sym (ap (λ (ps : List P). ps ++ flat_map right (children_of k t)) (parts_of_one left (children_of j t) c x) ∙ ap (λ (ps : List P). left c ++ ps) (parts_of_one right (children_of k t) d y)))
        (
        judges_two (IsLeft c) Both (left c) (right d) (λ a. and_then (other d) (λ b. Ok (make a b)))
        (λ a is. judges_then (IsRight d) Both (right d) (make a) (λ b says. (a, b, (c, x, is), (d, y, says), refl)) (other d) (judge_right d)) (one c) (judge_left c)
        )
        )
    go false (Some c) (Some d) e g =
        let x = single_some (children_of j t) c e in
        let y = single_some (children_of k t) d g in
        judges_first Both p (parts false) (own (c, x) (d, y)) (both_with one other make (start_of t) false (Some c) (Some d))
        (
        subst (λ (ps : List P). Judges Own start Both ps (both_with one other make (start_of t) false (Some c) (Some d)))
        (sym (ap (λ (ps : List P). ps ++ flat_map left (children_of j t)) (parts_of_one right (children_of k t) d y) ∙ ap (λ (ps : List P). right d ++ ps) (parts_of_one left (children_of j t) c x)))
        (
        judges_two (IsRight d) Both (right d) (left c) (λ b. and_then (one c) (λ a. Ok (make a b)))
        (λ b says. judges_then (IsLeft c) Both (left c) (λ a. make a b) (λ a is. (a, b, (c, x, is), (d, y, says), refl)) (one c) (judge_left c)) (other d) (judge_right d)
        )
        )

-- ---- what is in form is read

pub again_in_child : {V : Type 0} (t : Tree) (k : ℕ) (place : ℕ) (Is : Tree → V → Type 0) (read : Tree → Result V ℕ) (v : V) → ((c : Tree) → Is c v → read c ≡ Ok v) → One k Is t v
    → in_child place read (single (children_of k t)) ≡ Ok v
again_in_child t k place Is read v again one = ap (in_child place read) (ap single one.1) ∙ again one.0 one.2

pub again_both : {A B V : Type 0} (t : Tree) (j k place : ℕ) (first : Bool) (IsLeft : Tree → A → Type 0) (IsRight : Tree → B → Type 0) (one : Tree → Result A ℕ) (other : Tree → Result B ℕ) (make : A → B → V)
    (a : A) (b : B) → ((c : Tree) → IsLeft c a → one c ≡ Ok a) → ((c : Tree) → IsRight c b → other c ≡ Ok b) → One j IsLeft t a → One k IsRight t b
    → both_with one other make place first (single (children_of j t)) (single (children_of k t)) ≡ Ok (make a b)
again_both t j k place true IsLeft IsRight one other make a b f g x y = rw (x.1, y.1, f x.0 x.2, g y.0 y.2) refl
again_both t j k place false IsLeft IsRight one other make a b f g x y = rw (x.1, y.1, g y.0 y.2, f x.0 x.2) refl
