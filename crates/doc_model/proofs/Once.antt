-- Of ids each one once: what holds of them, what is found first and what is among them stay the same.
use Rattle.std.proofs.Common.{◌≡◌, refl, sym, ◌∙◌, ap, subst, Bool, true, false, ◌||◌, cond, List, [], ◌∷◌, ◌++◌, map, flat_map, find, fold, Option, Some, None}
use Rattle.std.specs.List.{AllByRecursion as Each}
use Rattle.std.specs.Option.{option_or}
use Rattle.std.proofs.lemmas.Grind.{flat_map-append}
use Rattle.std.proofs.lemmas.List.Sums.{fold-append}
use Rattle.std.proofs.lemmas.List.Folds.{find-append}
use Rattle.compact_values.specs.declared.ids.ExGuid.{ExGuid}
use Rattle.compact_values.specs.SameIds.{same_id}
use Rattle.compact_values.proofs.SameIds.{id-same, same-id}
use Rattle.compact_values.specs.IdPlaces.{with_new}
use Rattle.doc_model.specs.rules.Reached.{each_once, is_among}
use Rattle.doc_model.proofs.EachItem.{each-front, each-flat}

-- what holds of each of some ids holds of one that is among them
pub among-each : (P : ExGuid → Type 0) (ids : List ExGuid) (x : ExGuid) → Each P ids → is_among ids x ≡ true → P x
among-each P [] x h e = cc
among-each P (k ∷ ks) x h e = at (same_id x k) refl e (among-each P ks x h.1)
  where
    at : (b : Bool) → same_id x k ≡ b → (b || is_among ks x) ≡ true → (is_among ks x ≡ true → P x) → P x
    at true s e later = subst P (sym (id-same x k s)) h.0
    at false s e later = later e

-- an id joins those before it, unless it is among them
abbrev pub joining : List ExGuid → List ExGuid → List ExGuid
joining kept ids = fold (with_new same_id) kept ids

among-more : (ks : List ExGuid) (x y : ExGuid) → is_among ks y ≡ true → is_among (ks ++ x ∷ []) y ≡ true
among-more [] x y h = cc
among-more (k ∷ ks) x y h = at (same_id y k) h (among-more ks x y)
  where
    at : (b : Bool) → (b || is_among ks y) ≡ true → (is_among ks y ≡ true → is_among (ks ++ x ∷ []) y ≡ true) → (b || is_among (ks ++ x ∷ []) y) ≡ true
    at true h later = refl
    at false h later = later h

pub among-last : (ks : List ExGuid) (x : ExGuid) → is_among (ks ++ x ∷ []) x ≡ true
among-last [] x = rw (same-id x) refl
among-last (k ∷ ks) x = at (same_id x k) (among-last ks x)
  where
    at : (b : Bool) → is_among (ks ++ x ∷ []) x ≡ true → (b || is_among (ks ++ x ∷ []) x) ≡ true
    at true h = refl
    at false h = h

-- those that are kept stay, and all join them
pub kept-stay : (kept ids : List ExGuid) (y : ExGuid) → is_among kept y ≡ true → is_among (joining kept ids) y ≡ true
kept-stay kept [] y h = h
kept-stay kept (x ∷ xs) y h = kept-stay (with_new same_id kept x) xs y (at (is_among kept x))
  where
    at : (b : Bool) → is_among (cond b kept (kept ++ x ∷ [])) y ≡ true
    at true = h
    at false = among-more kept x y h

pub joined-among : (kept : List ExGuid) (x : ExGuid) → is_among (with_new same_id kept x) x ≡ true
joined-among kept x = at (is_among kept x) refl
  where
    at : (b : Bool) → is_among kept x ≡ b → is_among (cond b kept (kept ++ x ∷ [])) x ≡ true
    at true e = e
    at false e = among-last kept x

pub all-join : (kept ids : List ExGuid) → Each (λ y. is_among (joining kept ids) y ≡ true) ids
all-join kept [] = tt
all-join kept (x ∷ xs) = (kept-stay (with_new same_id kept x) xs x (joined-among kept x), all-join (with_new same_id kept x) xs)

-- ids that are all among them change nothing
pub none-join : (kept ids : List ExGuid) → Each (λ y. is_among kept y ≡ true) ids → joining kept ids ≡ kept
none-join kept [] h = refl
none-join kept (x ∷ xs) h = ap (λ (b : Bool). joining (cond b kept (kept ++ x ∷ [])) xs) h.0 ∙ none-join kept xs h.1

-- ---- what holds of each

each-kept : (P : ExGuid → Type 0) (kept ids : List ExGuid) → Each P (joining kept ids) → Each P kept
each-kept P kept [] h = h
each-kept P kept (x ∷ xs) h = at (is_among kept x) (each-kept P (with_new same_id kept x) xs h)
  where
    at : (b : Bool) → Each P (cond b kept (kept ++ x ∷ [])) → Each P kept
    at true k = k
    at false k = each-front P kept (x ∷ []) k

each-joined : (P : ExGuid → Type 0) (kept ids : List ExGuid) → Each P (joining kept ids) → Each P ids
each-joined P kept [] h = tt
each-joined P kept (x ∷ xs) h = (
  among-each P (with_new same_id kept x) x (each-kept P (with_new same_id kept x) xs h) (joined-among kept x),
  each-joined P (with_new same_id kept x) xs h,
)

-- what holds of each one once holds of all
pub once-each : (P : ExGuid → Type 0) (ids : List ExGuid) → Each P (each_once ids) → Each P ids
once-each P ids h = each-joined P [] ids h

-- ---- what ids lead to

no-more : {X : Type 0} (xs : List X) → xs ++ [] ≡ xs
no-more [] = refl
no-more (x ∷ xs) = ap (λ ys. x ∷ ys) (no-more xs)

module _ (f : ExGuid → List ExGuid) where
  -- what these ids lead to, each once
  abbrev led : List ExGuid → List ExGuid
  led ids = each_once (flat_map f ids)

  led-old : (asked : List ExGuid) (x : ExGuid) → is_among asked x ≡ true → joining (led asked) (f x) ≡ led asked
  led-old asked x e =
      none-join (led asked) (f x)
      (among-each (λ j. Each (λ y. is_among (led asked) y ≡ true) (f j)) asked x
      (each-flat (λ y. is_among (led asked) y ≡ true) f asked (all-join [] (flat_map f asked))) e)

  led-new : (asked : List ExGuid) (x : ExGuid) → led (asked ++ x ∷ []) ≡ joining (led asked) (f x)
  led-new asked x =
      ap (joining []) (flat_map-append f asked (x ∷ []))
      ∙ fold-append (with_new same_id) [] (flat_map f asked) (flat_map f (x ∷ []))
      ∙ ap (joining (led asked)) (no-more (f x))

  -- where these ids were asked, of the others only those that are new need be asked
  flat-joined : (asked ids : List ExGuid) → led (joining asked ids) ≡ joining (led asked) (flat_map f ids)
  flat-joined asked [] = refl
  flat-joined asked (x ∷ xs) =
      at (is_among asked x) refl (λ more. flat-joined more xs) ∙ sym (fold-append (with_new same_id) (led asked) (f x) (flat_map f xs))
    where
      at : (b : Bool) → is_among asked x ≡ b → ((more : List ExGuid) → led (joining more xs) ≡ joining (led more) (flat_map f xs))
          → led (joining (cond b asked (asked ++ x ∷ [])) xs) ≡ joining (joining (led asked) (f x)) (flat_map f xs)
      at true e later = later asked ∙ ap (λ (k : List ExGuid). joining k (flat_map f xs)) (sym (led-old asked x e))
      at false e later = later (asked ++ x ∷ []) ∙ ap (λ (k : List ExGuid). joining k (flat_map f xs)) (led-new asked x)

  pub flat-once : (ids : List ExGuid) → each_once (flat_map f (each_once ids)) ≡ each_once (flat_map f ids)
  flat-once ids = flat-joined [] ids

-- ---- what is found first

or-own : {Y : Type 0} (a b : Option Y) → option_or (option_or a b) a ≡ option_or a b
or-own (Some a) b = refl
or-own None None = refl
or-own None (Some b) = refl

or-later : {Y : Type 0} (a b c : Option Y) → option_or b c ≡ b → option_or (option_or a b) c ≡ option_or a b
or-later (Some a) b c e = refl
or-later None b c e = e

or-none : {Y : Type 0} (a : Option Y) → option_or a None ≡ a
or-none None = refl
or-none (Some a) = refl

or-assoc : {Y : Type 0} (a b c : Option Y) → option_or (option_or a b) c ≡ option_or a (option_or b c)
or-assoc (Some a) b c = refl
or-assoc None b c = refl

module _ {Y : Type 0} (p : Y → Bool) (f : ExGuid → List Y) where
  abbrev found : List ExGuid → Option Y
  found ids = find p (flat_map f ids)

  -- an id that comes again leads to nothing new
  found-old : (ids : List ExGuid) (x : ExGuid) → is_among ids x ≡ true → option_or (found ids) (find p (f x)) ≡ found ids
  found-old [] x h = cc
  found-old (k ∷ ks) x h =
      ap (λ o. option_or o (find p (f x))) (find-append p (f k) (flat_map f ks))
      ∙ at (same_id x k) refl h (found-old ks x)
      ∙ sym (find-append p (f k) (flat_map f ks))
    where
      at : (b : Bool) → same_id x k ≡ b → (b || is_among ks x) ≡ true → (is_among ks x ≡ true → option_or (found ks) (find p (f x)) ≡ found ks)
          → option_or (option_or (find p (f k)) (found ks)) (find p (f x)) ≡ option_or (find p (f k)) (found ks)
      at true s e later =
          ap (λ (z : ExGuid). option_or (option_or (find p (f k)) (found ks)) (find p (f z))) (id-same x k s) ∙ or-own (find p (f k)) (found ks)
      at false s e later = or-later (find p (f k)) (found ks) (find p (f x)) (later e)

  found-new : (ids : List ExGuid) (x : ExGuid) → found (ids ++ x ∷ []) ≡ option_or (found ids) (find p (f x))
  found-new ids x =
      ap (find p) (flat_map-append f ids (x ∷ []) ∙ ap (λ ys. flat_map f ids ++ ys) (no-more (f x)))
      ∙ find-append p (flat_map f ids) (f x)

  found-joined : (kept ids : List ExGuid) → found (joining kept ids) ≡ option_or (found kept) (found ids)
  found-joined kept [] = sym (or-none (found kept))
  found-joined kept (x ∷ xs) =
      at (is_among kept x) refl (λ more. found-joined more xs)
      ∙ or-assoc (found kept) (find p (f x)) (found xs)
      ∙ ap (option_or (found kept)) (sym (find-append p (f x) (flat_map f xs)))
    where
      at : (b : Bool) → is_among kept x ≡ b → ((more : List ExGuid) → found (joining more xs) ≡ option_or (found more) (found xs))
          → found (joining (cond b kept (kept ++ x ∷ [])) xs) ≡ option_or (option_or (found kept) (find p (f x))) (found xs)
      at true e later = later kept ∙ ap (λ o. option_or o (found xs)) (sym (found-old kept x e))
      at false e later = later (kept ++ x ∷ []) ∙ ap (λ o. option_or o (found xs)) (found-new kept x)

  pub find-once : (ids : List ExGuid) → find p (flat_map f (each_once ids)) ≡ find p (flat_map f ids)
  find-once ids = found-joined [] ids

-- names, one for each id
map-flat : {Y : Type 0} (g : ExGuid → Y) (ids : List ExGuid) → flat_map (λ x. g x ∷ []) ids ≡ map g ids
map-flat g [] = refl
map-flat g (x ∷ xs) = ap (λ ys. g x ∷ ys) (map-flat g xs)

pub find-map-once : {Y : Type 0} (p : Y → Bool) (g : ExGuid → Y) (ids : List ExGuid) → find p (map g (each_once ids)) ≡ find p (map g ids)
find-map-once p g ids =
    ap (find p) (sym (map-flat g (each_once ids))) ∙ find-once p (λ x. g x ∷ []) ids ∙ ap (find p) (map-flat g ids)
