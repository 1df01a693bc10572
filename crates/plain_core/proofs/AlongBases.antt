-- The steps of naming revisions along their bases, up to one that was named before.
use Rattle.std.proofs.Common.{◌≡◌, ◌⊎◌, inl, inr, ℕ, zero, suc, ◌+◌, ◌-◌, ◌<◌, ◌≤◌, refl, sym, ◌∙◌, ap, subst, Bool, true, false, ◌||◌, cond, List, [], ◌∷◌, ◌++◌, length, find, fold, Option, Some, None, option_and_then, arith, sub-one}
use Rattle.std.specs.List.{AllByRecursion as Each, list_all}
use Rattle.compact_values.specs.declared.guid.Guid.{Guid}
use Rattle.compact_values.specs.declared.ids.ExGuid.{ExGuid}
use Rattle.compact_values.specs.declared.ids.ExGuid.TheVariants.{Null, Id}
use Rattle.compact_values.specs.SameIds.{same_id}
use Rattle.compact_values.proofs.SameIds.{id-same, same-id}
use Rattle.doc_model.specs.declared.element.Element.{Element}
use Rattle.doc_model.specs.declared.element.RevisionMap.{RevisionMap}
use Rattle.compact_values.specs.IdPlaces.{with_new}
use Rattle.doc_model.specs.rules.Finding.{Manifest, as_revision, said}
use Rattle.doc_model.specs.rules.Reached.{named_along, manifest_of, mapping_of, base_of, enough, is_among}
use Rattle.doc_model.proofs.EachItem.{each-append, each-as, each-all, all-each}
use Rattle.doc_model.proofs.Once.{among-each, among-last, none-join, joining}
use Rattle.plain_core.specs.Naming.{is_known, goes_back, is_closed}

among-more : (ks : List ExGuid) (x y : ExGuid) → is_among ks y ≡ true → is_among (ks ++ x ∷ []) y ≡ true
among-more [] x y h = cc
among-more (k ∷ ks) x y h = at (same_id y k) h (among-more ks x y)
  where
    at : (b : Bool) → (b || is_among ks y) ≡ true → (is_among ks y ≡ true → is_among (ks ++ x ∷ []) y ≡ true) → (b || is_among (ks ++ x ∷ []) y) ≡ true
    at true h later = refl
    at false h later = later h

known-more : (ks : List ExGuid) (x y : ExGuid) → is_known ks y ≡ true → is_known (ks ++ x ∷ []) y ≡ true
known-more ks x Null h = refl
known-more ks x (Id g v) h = among-more ks x (Id g v) h

known-last : (ks : List ExGuid) (x : ExGuid) → is_known (ks ++ x ∷ []) x ≡ true
known-last ks Null = refl
known-last ks (Id g v) = among-last ks (Id g v)

pub known-null : (ks : List ExGuid) (x : ExGuid) → x ≡ Null → is_known ks x ≡ true
known-null ks x e = ap (is_known ks) e

pub known-among : (ks : List ExGuid) (x : ExGuid) (g : Guid) (v : ℕ) → x ≡ Id g v → is_among ks x ≡ true → is_known ks x ≡ true
known-among ks x g v e h = ap (is_known ks) e ∙ sym (ap (is_among ks) e) ∙ h

-- the mappings of revisions that aren't among these, and whether there is one more to name
pub unnamed : List ExGuid → List RevisionMap → ℕ
unnamed ids [] = 0
unnamed ids (m ∷ ms) = cond (is_among ids m.revision) 0 1 + unnamed ids ms

pub one : ExGuid → ℕ
one Null = 0
one (Id g v) = 1

found : Option RevisionMap → ℕ
found None = 0
found (Some m) = 1

unnamed-few : (ids : List ExGuid) (ms : List RevisionMap) → unnamed ids ms ≤ length ms
unfolding unnamed
unnamed-few ids [] = omega arith
unnamed-few ids (m ∷ ms) = at (is_among ids m.revision) (unnamed-few ids ms)
  where
    at : (b : Bool) → unnamed ids ms ≤ length ms → cond b 0 1 + unnamed ids ms ≤ suc (length ms)
    at true h = omega arith
    at false h = omega arith

-- naming one that is mapped leaves fewer
unnamed-less : (ids : List ExGuid) (x : ExGuid) (ms : List RevisionMap) → is_among ids x ≡ false
    → unnamed (ids ++ x ∷ []) ms + found (find (λ m. same_id m.revision x) ms) ≤ unnamed ids ms
unfolding unnamed found
unnamed-less ids x [] n = omega arith
unnamed-less ids x (m ∷ ms) n =
    at (same_id m.revision x) refl (is_among ids m.revision) refl (is_among (ids ++ x ∷ []) m.revision) refl (unnamed-less ids x ms n)
  where
    less : (o : Option RevisionMap) (a b : ℕ) → a + found o ≤ b → a ≤ b
    less None a b h = omega arith
    less (Some r) a b h = omega arith

    more-than : (o : Option RevisionMap) (k : ℕ) → found o + k ≤ found o + (k + 1)
    more-than o k = omega arith

    at : (s : Bool) → same_id m.revision x ≡ s → (a : Bool) → is_among ids m.revision ≡ a → (b : Bool) → is_among (ids ++ x ∷ []) m.revision ≡ b
        → unnamed (ids ++ x ∷ []) ms + found (find (λ r. same_id r.revision x) ms) ≤ unnamed ids ms
        → (cond b 0 1 + unnamed (ids ++ x ∷ []) ms) + found (cond s (Some m) (find (λ r. same_id r.revision x) ms)) ≤ cond a 0 1 + unnamed ids ms
    at true s true a b p h = let e : is_among ids x ≡ true = sym (ap (is_among ids) (id-same m.revision x s)) ∙ a in cc
    at true s false a true p h = let l = less (find (λ r. same_id r.revision x) ms) (unnamed (ids ++ x ∷ []) ms) (unnamed ids ms) h in omega arith
    at true s false a false p h =
        let e : is_among (ids ++ x ∷ []) m.revision ≡ true = ap (is_among (ids ++ x ∷ [])) (id-same m.revision x s) ∙ among-last ids x in cc
    at false s true a true p h = omega arith
    at false s true a false p h = let e = among-more ids x m.revision a in cc
    at false s false a true p h = omega arith
    at false s false a false p h = omega arith

module _ (added : List Element) (maps : List RevisionMap) where
  abbrev base : ExGuid → ExGuid
  base r = base_of (manifest_of added maps r)

  -- each of these goes back to one of them, to none, or to this one
  abbrev pub IsOpen : List ExGuid → ExGuid → Type 0
  IsOpen ids at = Each (λ x. (is_known ids (base x) ≡ true) ⊎ (base x ≡ at)) ids

  abbrev pub AllKnown : List ExGuid → Type 0
  AllKnown ids = Each (λ x. goes_back added maps ids x ≡ true) ids

  -- what a walk has named, and where it is, with so many steps left
  pub record Walks (ids : List ExGuid) (n : ℕ) (at : ExGuid) (total : List ExGuid) : Type 0 where
    pub open_at : IsOpen ids at
    pub steps : unnamed ids maps + one at ≤ n
    pub whole : joining ids (named_along added maps n at) ≡ total

  known-closed : (ids : List ExGuid) (at : ExGuid) → IsOpen ids at → is_known ids at ≡ true → AllKnown ids
  known-closed ids at o k = each-as (λ x. (is_known ids (base x) ≡ true) ⊎ (base x ≡ at)) (λ x. goes_back added maps ids x ≡ true) ids (λ x h. either x h) o
    where
      either : (x : ExGuid) → (is_known ids (base x) ≡ true) ⊎ (base x ≡ at) → goes_back added maps ids x ≡ true
      either x (inl h) = h
      either x (inr e) = ap (is_known ids) e ∙ k

  pub walk-begins : (ids : List ExGuid) (r : ExGuid) → is_closed added maps ids ≡ true → Walks ids (enough maps) r (joining ids (named_along added maps (enough maps) r))
  unfolding one
  walk-begins ids r c = record {
    open_at = each-as (λ x. goes_back added maps ids x ≡ true) (λ x. (is_known ids (base x) ≡ true) ⊎ (base x ≡ r)) ids (λ x h. inl h) (all-each (goes_back added maps ids) ids c);
    steps = few r;
    whole = refl;
  }
    where
      few : (r : ExGuid) → unnamed ids maps + one r ≤ enough maps
      few Null = let h = unnamed-few ids maps in omega arith
      few (Id g v) = let h = unnamed-few ids maps in omega arith

  -- all that is named from a known one is known
  walk-known : (ids : List ExGuid) → AllKnown ids → (n : ℕ) (r : ExGuid) → is_known ids r ≡ true → Each (λ y. is_among ids y ≡ true) (named_along added maps n r)
  unfolding named_along
  walk-known ids c zero r k = tt
  walk-known ids c (suc n) Null k = tt
  walk-known ids c (suc n) (Id g v) k = (k, walk-known ids c n (base (Id g v)) (among-each (λ x. goes_back added maps ids x ≡ true) ids (Id g v) c k))

  -- a walk ends where it is at a known one
  pub walk-ends : (ids : List ExGuid) (n : ℕ) (at : ExGuid) (total : List ExGuid) → Walks ids n at total → is_known ids at ≡ true → ids ≡ total
  walk-ends ids n at total w k = sym (none-join ids (named_along added maps n at) (walk-known ids (known-closed ids at w.open_at k) n at k)) ∙ w.whole

  pub walk-closed : (ids : List ExGuid) (n : ℕ) (at : ExGuid) (total : List ExGuid) → Walks ids n at total → is_known ids at ≡ true → is_closed added maps ids ≡ true
  walk-closed ids n at total w k = each-all (goes_back added maps ids) ids (known-closed ids at w.open_at k)

  -- and it is there where no step is left
  pub walk-over : (ids : List ExGuid) (n : ℕ) (at : ExGuid) (total : List ExGuid) → Walks ids n at total → n ≡ 0 → is_known ids at ≡ true
  unfolding one
  walk-over ids n Null total w z = refl
  walk-over ids n (Id g v) total w z = let h = w.steps in absurd (omega arith)

  along-new : (n : ℕ) (g : Guid) (v : ℕ) → 0 < n → named_along added maps n (Id g v) ≡ Id g v ∷ named_along added maps (n - 1) (base (Id g v))
  unfolding named_along
  along-new zero g v p = absurd (omega arith)
  along-new (suc n) g v p = rw sub-one

  -- a step names one that isn't known
  step-counts : (ids : List ExGuid) (n : ℕ) (g : Guid) (v : ℕ) → unnamed ids maps + one (Id g v) ≤ n → is_among ids (Id g v) ≡ false
      → unnamed (ids ++ Id g v ∷ []) maps + one (base (Id g v)) ≤ n - 1
  unfolding one found
  step-counts ids n g v h k = at (mapping_of maps (Id g v)) (unnamed-less ids (Id g v) maps k)
    where
      few : (r : ExGuid) → one r ≤ 1
      few Null = omega arith
      few (Id g v) = omega arith

      at : (o : Option RevisionMap) → unnamed (ids ++ Id g v ∷ []) maps + found o ≤ unnamed ids maps
          → unnamed (ids ++ Id g v ∷ []) maps + one (base_of (option_and_then (λ m. said as_revision added m.target) o)) ≤ n - 1
      at None less = omega arith
      at (Some m) less = let f = few (base_of (said as_revision added m.target)) in omega arith

  pub walk-step : (ids after : List ExGuid) (n : ℕ) (at next : ExGuid) (g : Guid) (v : ℕ) (total : List ExGuid) → 0 < n → at ≡ Id g v → is_among ids at ≡ false
      → after ≡ ids ++ at ∷ [] → next ≡ base at → Walks ids n at total → Walks after (n - 1) next total
  walk-step ids after n at next g v total p e k a b w =
      subst (λ (x : ExGuid). Walks after (n - 1) x total) (sym b)
      (subst (λ (xs : List ExGuid). Walks xs (n - 1) (base at) total) (sym a)
      (subst (λ (x : ExGuid). Walks (ids ++ x ∷ []) (n - 1) (base x) total) (sym e)
      (stepped (subst (λ (x : ExGuid). is_among ids x ≡ false) e k) (subst (λ (x : ExGuid). Walks ids n x total) e w))))
    where
      open_then : Walks ids n (Id g v) total → (x : ExGuid) → (is_known ids (base x) ≡ true) ⊎ (base x ≡ Id g v)
          → (is_known (ids ++ Id g v ∷ []) (base x) ≡ true) ⊎ (base x ≡ base (Id g v))
      open_then w x (inl h) = inl (known-more ids (Id g v) (base x) h)
      open_then w x (inr h) = inl (ap (is_known (ids ++ Id g v ∷ [])) h ∙ known-last ids (Id g v))

      stepped : is_among ids (Id g v) ≡ false → Walks ids n (Id g v) total → Walks (ids ++ Id g v ∷ []) (n - 1) (base (Id g v)) total
      stepped k w = record {
        open_at = each-append (λ x. (is_known (ids ++ Id g v ∷ []) (base x) ≡ true) ⊎ (base x ≡ base (Id g v))) ids (Id g v ∷ [])
            (each-as (λ x. (is_known ids (base x) ≡ true) ⊎ (base x ≡ Id g v)) (λ x. (is_known (ids ++ Id g v ∷ []) (base x) ≡ true) ⊎ (base x ≡ base (Id g v))) ids
            (λ x h. open_then w x h) w.open_at)
            (inr refl, tt);
        steps = step-counts ids n g v w.steps k;
        whole = sym (ap (joining ids) (along-new n g v p) ∙ ap (λ (c : Bool). joining (cond c ids (ids ++ Id g v ∷ [])) (named_along added maps (n - 1) (base (Id g v)))) k) ∙ w.whole;
      }
