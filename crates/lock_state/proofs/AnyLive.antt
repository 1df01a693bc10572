-- A shared lock that counts is one with a live member.
use Rattle.std.proofs.Common.{◌≡◌, ℕ, refl, Bool, true, false, ◌||◌, cond, List, [], ◌∷◌, filter, Option}
use Rattle.std.specs.List.{list_any}
use Rattle.compact_values.specs.declared.guid.Guid.{Guid}
use Rattle.doc_model.specs.declared.lock.Member.{Member}
use Rattle.doc_model.specs.rules.Locks.{shared_by, allowed, carries, is_live}

module _ (schema : Guid) (m : ℕ) (carried : Option Guid) where
  abbrev lets : List Member → Bool
  lets ms = allowed (shared_by schema ms) carried

  first_live : (b rest : Bool) (x : Member) (xs : List Member) → (rest ≡ true → lets xs ≡ carries carried schema) → (b || rest) ≡ true
      → lets (cond b (x ∷ xs) xs) ≡ carries carried schema
  first_live true rest x xs later e = refl
  first_live false rest x xs later e = later e

  pub with-live : (ms : List Member) → list_any (is_live m) ms ≡ true → lets (filter (is_live m) ms) ≡ carries carried schema
  with-live [] h = cc
  with-live (x ∷ xs) h = first_live (is_live m x) (list_any (is_live m) xs) x (filter (is_live m) xs) (with-live xs) h

  none_live : (b rest : Bool) (x : Member) (xs : List Member) → (rest ≡ false → lets xs ≡ true) → (b || rest) ≡ false → lets (cond b (x ∷ xs) xs) ≡ true
  none_live true rest x xs later e = cc
  none_live false rest x xs later e = later e

  pub without-live : (ms : List Member) → list_any (is_live m) ms ≡ false → lets (filter (is_live m) ms) ≡ true
  without-live [] h = refl
  without-live (x ∷ xs) h = none_live (is_live m x) (list_any (is_live m) xs) x (filter (is_live m) xs) (without-live xs) h
