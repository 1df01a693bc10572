-- What holds of each item of a list.
use Rattle.std.proofs.Common.{◌≡◌, refl, ◌∙◌, ap, subst, Bool, true, false, ◌&&◌, ◌||◌, cond, List, [], ◌∷◌, ◌++◌, map, flat_map, filter, find, Option, Some}
use Rattle.std.specs.List.{AllByRecursion as Each, list_all, list_any}

pub each-front : {X : Type 0} (P : X → Type 0) (xs ys : List X) → Each P (xs ++ ys) → Each P xs
each-front P [] ys h = tt
each-front P (x ∷ xs) ys h = (h.0, each-front P xs ys h.1)

pub each-back : {X : Type 0} (P : X → Type 0) (xs ys : List X) → Each P (xs ++ ys) → Each P ys
each-back P [] ys h = h
each-back P (x ∷ xs) ys h = each-back P xs ys h.1

pub each-append : {X : Type 0} (P : X → Type 0) (xs ys : List X) → Each P xs → Each P ys → Each P (xs ++ ys)
each-append P [] ys p q = q
each-append P (x ∷ xs) ys p q = (p.0, each-append P xs ys p.1 q)

pub each-map : {X Y : Type 0} (P : Y → Type 0) (f : X → Y) (xs : List X) → Each P (map f xs) → Each (λ x. P (f x)) xs
each-map P f [] h = tt
each-map P f (x ∷ xs) h = (h.0, each-map P f xs h.1)

pub each-mapped : {X Y : Type 0} (P : Y → Type 0) (f : X → Y) (xs : List X) → Each (λ x. P (f x)) xs → Each P (map f xs)
each-mapped P f [] h = tt
each-mapped P f (x ∷ xs) h = (h.0, each-mapped P f xs h.1)

pub each-flat : {X Y : Type 0} (P : Y → Type 0) (f : X → List Y) (xs : List X) → Each P (flat_map f xs) → Each (λ x. Each P (f x)) xs
each-flat P f [] h = tt
each-flat P f (x ∷ xs) h = (each-front P (f x) (flat_map f xs) h, each-flat P f xs (each-back P (f x) (flat_map f xs) h))

pub each-flat-map : {X Y : Type 0} (P : Y → Type 0) (f : X → List Y) (xs : List X) → Each (λ x. Each P (f x)) xs → Each P (flat_map f xs)
each-flat-map P f [] h = tt
each-flat-map P f (x ∷ xs) h = each-append P (f x) (flat_map f xs) h.0 (each-flat-map P f xs h.1)

pub each-both : {X : Type 0} (P Q : X → Type 0) (xs : List X) → Each P xs → Each Q xs → Each (λ x. P x × Q x) xs
each-both P Q [] p q = tt
each-both P Q (x ∷ xs) p q = ((p.0, q.0), each-both P Q xs p.1 q.1)

pub each-as : {X : Type 0} (P Q : X → Type 0) (xs : List X) → ((x : X) → P x → Q x) → Each P xs → Each Q xs
each-as P Q [] f h = tt
each-as P Q (x ∷ xs) f h = (f x h.0, each-as P Q xs f h.1)

-- what a test keeps, and what it finds
pub each-filter : {X : Type 0} (P : X → Type 0) (p : X → Bool) (xs : List X) → Each P xs → Each P (filter p xs)
each-filter P p [] h = tt
each-filter P p (x ∷ xs) h = at (p x) (each-filter P p xs h.1)
  where
    at : (b : Bool) → Each P (filter p xs) → Each P (cond b (x ∷ filter p xs) (filter p xs))
    at true r = (h.0, r)
    at false r = r

pub each-passes : {X : Type 0} (p : X → Bool) (xs : List X) → Each (λ x. p x ≡ true) (filter p xs)
each-passes p [] = tt
each-passes p (x ∷ xs) = at (p x) refl (each-passes p xs)
  where
    at : (b : Bool) → p x ≡ b → Each (λ y. p y ≡ true) (filter p xs) → Each (λ y. p y ≡ true) (cond b (x ∷ filter p xs) (filter p xs))
    at true e r = (e, r)
    at false e r = r

found-at : {X : Type 0} (P : X → Type 0) (b : Bool) (y x : X) (o : Option X) → P y → (o ≡ Some x → P x) → cond b (Some y) o ≡ Some x → P x
found-at P true y x o h later e = let s : y ≡ x = cc in subst P s h
found-at P false y x o h later e = later e

pub each-found : {X : Type 0} (P : X → Type 0) (p : X → Bool) (xs : List X) (x : X) → Each P xs → find p xs ≡ Some x → P x
each-found P p [] x h e = cc
each-found P p (y ∷ ys) x h e = found-at P (p y) y x (find p ys) h.0 (each-found P p ys x h.1) e

-- tests of all items and of any
pub all-each : {X : Type 0} (p : X → Bool) (xs : List X) → list_all p xs ≡ true → Each (λ x. p x ≡ true) xs
all-each p [] h = tt
all-each p (x ∷ xs) h = at (p x) refl h (λ r. all-each p xs r)
  where
    at : (b : Bool) → p x ≡ b → (b && list_all p xs) ≡ true → (list_all p xs ≡ true → Each (λ y. p y ≡ true) xs) → Each (λ y. p y ≡ true) (x ∷ xs)
    at true e h later = (e, later h)
    at false e h later = cc

pub each-all : {X : Type 0} (p : X → Bool) (xs : List X) → Each (λ x. p x ≡ true) xs → list_all p xs ≡ true
each-all p [] h = refl
each-all p (x ∷ xs) h = ap (λ b. b && list_all p xs) h.0 ∙ each-all p xs h.1

pub none-each : {X : Type 0} (p : X → Bool) (xs : List X) → list_any p xs ≡ false → Each (λ x. p x ≡ false) xs
none-each p [] h = tt
none-each p (x ∷ xs) h = at (p x) refl h (λ r. none-each p xs r)
  where
    at : (b : Bool) → p x ≡ b → (b || list_any p xs) ≡ false → (list_any p xs ≡ false → Each (λ y. p y ≡ false) xs) → Each (λ y. p y ≡ false) (x ∷ xs)
    at true e h later = cc
    at false e h later = (e, later h)

pub each-none : {X : Type 0} (p : X → Bool) (xs : List X) → Each (λ x. p x ≡ false) xs → list_any p xs ≡ false
each-none p [] h = refl
each-none p (x ∷ xs) h = ap (λ b. b || list_any p xs) h.0 ∙ each-none p xs h.1

-- functions that agree on each item
pub map-same : {X Y : Type 0} (f g : X → Y) (xs : List X) → Each (λ x. f x ≡ g x) xs → map f xs ≡ map g xs
map-same f g [] h = refl
map-same f g (x ∷ xs) h = let a = h.0 in let r = map-same f g xs h.1 in cc

pub flat-same : {X Y : Type 0} (f g : X → List Y) (xs : List X) → Each (λ x. f x ≡ g x) xs → flat_map f xs ≡ flat_map g xs
flat-same f g [] h = refl
flat-same f g (x ∷ xs) h = let a = h.0 in let r = flat-same f g xs h.1 in cc

pub all-same : {X : Type 0} (f g : X → Bool) (xs : List X) → Each (λ x. f x ≡ g x) xs → list_all f xs ≡ list_all g xs
all-same f g [] h = refl
all-same f g (x ∷ xs) h = let a = h.0 in let r = all-same f g xs h.1 in cc
