-- A step of a lock leaves its members few and distinct.
use Rattle.std.proofs.Common.{◌≡◌, ◌⊎◌, ℕ, suc, ◌+◌, ◌≤◌, ◌<◌, refl, ap, subst, Bool, true, false, not, ◌||◌, ◌==◌, cond, List, [], ◌∷◌, map, filter, length, nat_lt, inl, inr, ⊎_elim, arith}
use Rattle.std.proofs.lemmas.Bool.Decides.{nat_tests}
use Rattle.std.specs.List.{AllByRecursion as Each, IsDistinct, list_any}
use Rattle.compact_values.specs.declared.guid.Guid.{Guid}
use Rattle.compact_values.specs.SameIds.{same_guid}
use Rattle.compact_values.proofs.SameIds.{guid-same}
use Rattle.doc_model.specs.declared.lock.LockRecord.{LockRecord}
use Rattle.doc_model.specs.declared.lock.LockRecord.TheVariants.{Free, Exclusive, Shared}
use Rattle.doc_model.specs.declared.lock.LockStep.{LockStep}
use Rattle.doc_model.specs.declared.lock.LockStep.TheVariants.{TakeExclusive, DropExclusive, RefreshExclusive, CheckExclusive, ToShared, TakeShared, DropShared, RefreshShared, ToExclusive, CheckShared, Status, Mark}
use Rattle.doc_model.specs.declared.lock.Member.{Member}
use Rattle.doc_model.specs.rules.Limits.{most_sharing}
use Rattle.doc_model.specs.rules.Locks.{is_live, live, shared_by}
use Rattle.doc_model.specs.rules.LockSteps.{LockEffect, becomes, stays, refuses, leaves, on_exclusive, on_shared, on_member, is_client, others, member, with_client, lock_effect, lock_after, lock_moved}
use Rattle.doc_model.specs.rules.Sound.{AreSoundMembers}
use Rattle.doc_model.proofs.Distinct.{distinct-filter, distinct-one}
use Rattle.doc_model.proofs.SoundParts.{length-filter}

-- members are few, each once
abbrev FewOnce : List Member → Type 0
FewOnce members = (length members ≤ most_sharing) × IsDistinct same_guid (map (λ m. m.client) members)

-- what a test keeps of them is
few-filter : (p : Member → Bool) (members : List Member) → FewOnce members → FewOnce (filter p members)
few-filter p members s = (omega (arith, s.0, length-filter p members), distinct-filter same_guid (λ m. m.client) p members s.1)

shared-sound : (schema : Guid) (members : List Member) → FewOnce members → AreSoundMembers (shared_by schema members)
shared-sound schema [] s = tt
shared-sound schema (x ∷ xs) s = s

live-sound : (lock : LockRecord) (moment : ℕ) → AreSoundMembers lock → AreSoundMembers (live lock moment)
live-sound Free moment s = tt
live-sound (Exclusive id until) moment s = at (nat_lt moment until)
  where
    at : (b : Bool) → AreSoundMembers (cond b (Exclusive id until) Free)
    at true = tt
    at false = tt
live-sound (Shared schema members) moment s = shared-sound schema (filter (is_live moment) members) (few-filter (is_live moment) members s)

-- with a client, who is there or comes last
module _ (client : Guid) (until : ℕ) (coauthor : Bool) where
  abbrev with' : List Member → List Member
  with' = with_client client until coauthor

  length-with : (members : List Member) → (length (with' members) ≡ length members) ⊎ (length (with' members) ≡ length (others client members) + 1)
  length-with [] = inr refl
  length-with (x ∷ xs) = at (is_client client x) (length-with xs)
    where
      at : (b : Bool) → (length (with' xs) ≡ length xs) ⊎ (length (with' xs) ≡ length (others client xs) + 1)
          → (length (cond b (member client until (x.coauthor || coauthor) ∷ xs) (x ∷ with' xs)) ≡ length (x ∷ xs))
          ⊎ (length (cond b (member client until (x.coauthor || coauthor) ∷ xs) (x ∷ with' xs)) ≡ length (cond (not b) (x ∷ others client xs) (others client xs)) + 1)
      at true r = inl refl
      at false r = ⊎_elim (λ e. inl (ap (λ n. suc n) e)) (λ e. inr (omega (arith, e))) r

  length-there : (members : List Member) → list_any (is_client client) members ≡ true → length (with' members) ≡ length members
  length-there [] h = cc
  length-there (x ∷ xs) h = at (is_client client x) h (λ g. length-there xs g)
    where
      at : (b : Bool) → (b || list_any (is_client client) xs) ≡ true → (list_any (is_client client) xs ≡ true → length (with' xs) ≡ length xs)
          → length (cond b (member client until (x.coauthor || coauthor) ∷ xs) (x ∷ with' xs)) ≡ length (x ∷ xs)
      at true h later = refl
      at false h later = ap (λ n. suc n) (later h)

  each-with : (P : Guid → Type 0) (members : List Member) → Each P (map (λ m. m.client) members) → P client → Each P (map (λ m. m.client) (with' members))
  each-with P [] h p = (p, tt)
  each-with P (x ∷ xs) h p = at (is_client client x) (each-with P xs h.1 p)
    where
      at : (b : Bool) → Each P (map (λ m. m.client) (with' xs)) → Each P (map (λ m. m.client) (cond b (member client until (x.coauthor || coauthor) ∷ xs) (x ∷ with' xs)))
      at true r = (p, h.1)
      at false r = (h.0, r)

  distinct-with : (members : List Member) → IsDistinct same_guid (map (λ m. m.client) members) → IsDistinct same_guid (map (λ m. m.client) (with' members))
  unfolding IsDistinct
  distinct-with [] d = (tt, tt)
  distinct-with (x ∷ xs) d = at (is_client client x) refl (distinct-with xs d.1)
    where
      at : (b : Bool) → is_client client x ≡ b → IsDistinct same_guid (map (λ m. m.client) (with' xs))
          → IsDistinct same_guid (map (λ m. m.client) (cond b (member client until (x.coauthor || coauthor) ∷ xs) (x ∷ with' xs)))
      at true e r = (subst (λ (g : Guid). Each (λ k. same_guid g k ≡ false) (map (λ m. m.client) xs)) (guid-same x.client client e) d.0, d.1)
      at false e r = (each-with (λ k. same_guid x.client k ≡ false) xs d.0 e, r)

  few-with : (members : List Member) → FewOnce members → length (others client members) < most_sharing → FewOnce (with' members)
  few-with members s room = (⊎_elim (λ e. omega (arith, e, s.0)) (λ e. omega (arith, e, room)) (length-with members), distinct-with members s.1)

  few-there : (members : List Member) → FewOnce members → list_any (is_client client) members ≡ true → FewOnce (with' members)
  few-there members s there = (omega (arith, s.0, length-there members there), distinct-with members s.1)

-- an effect whose new lock has sound members
abbrev EffectSound : LockEffect → Type 0
EffectSound (becomes new) = AreSoundMembers new
EffectSound stays = Unit {0}
EffectSound (refuses c) = Unit {0}
EffectSound (leaves new) = AreSoundMembers new

choose : (b : Bool) (x y : LockEffect) → (b ≡ true → EffectSound x) → EffectSound y → EffectSound (cond b x y)
choose b x y p q = at b refl
  where
    at : (c : Bool) → b ≡ c → EffectSound (cond c x y)
    at true e = p e
    at false e = q

exclusive-sound : (id : Guid) (lock : LockRecord) (free own : LockEffect) → EffectSound free → EffectSound own → EffectSound (on_exclusive id lock free own)
exclusive-sound id Free free own p q = p
exclusive-sound id (Exclusive held until) free own p q = choose (same_guid held id) own _ (λ e. q) tt
exclusive-sound id (Shared schema members) free own p q = tt

on-shared-sound : (schema : Guid) (lock : LockRecord) (free : LockEffect) (own : List Member → LockEffect) → AreSoundMembers lock → EffectSound free
    → ((members : List Member) → FewOnce members → EffectSound (own members)) → EffectSound (on_shared schema lock free own)
on-shared-sound schema Free free own s p q = p
on-shared-sound schema (Exclusive held until) free own s p q = tt
on-shared-sound schema (Shared held members) free own s p q = choose (same_guid held schema) (own members) _ (λ e. q members s) tt

on-member-sound : (schema client : Guid) (lock : LockRecord) (own : List Member → LockEffect) → AreSoundMembers lock
    → ((members : List Member) → FewOnce members → list_any (is_client client) members ≡ true → EffectSound (own members)) → EffectSound (on_member schema client lock own)
on-member-sound schema client lock own s q =
    on-shared-sound schema lock _ _ s tt (λ members f. choose (list_any (is_client client) members) (own members) _ (λ e. q members f e) tt)

alone : (x : Member) → FewOnce (x ∷ [])
alone x = (omega arith, distinct-one same_guid x.client)

less : (a b : ℕ) → nat_lt a b ≡ true → a < b
less a b h = grind (arith, nat_tests)

without : (client : Guid) (members : List Member) → FewOnce members → FewOnce (others client members)
without client members s = few-filter (λ x. not (is_client client x)) members s

-- each step on a lock whose members are sound
effect-sound : (m : ℕ) (step : LockStep) (lock : LockRecord) → AreSoundMembers lock → EffectSound (lock_effect m step lock)
effect-sound m (TakeExclusive id t) lock s = exclusive-sound id lock _ _ tt tt
effect-sound m (DropExclusive id) lock s = exclusive-sound id lock _ _ tt tt
effect-sound m (RefreshExclusive id t) lock s = exclusive-sound id lock _ _ tt tt
effect-sound m (CheckExclusive id) lock s = exclusive-sound id lock _ _ tt tt
effect-sound m (ToShared id schema client t coauthor) lock s = exclusive-sound id lock _ _ tt (alone (member client (m + t) coauthor))
effect-sound m (TakeShared schema client t coauthor) lock s =
    on-shared-sound schema lock _ _ s (alone (member client (m + t) coauthor))
    (λ members f. choose (nat_lt (length (others client members)) 64) _ _ (λ e. few-with client (m + t) coauthor members f (less (length (others client members)) 64 e)) tt)
effect-sound m (DropShared schema client) lock s =
    on-member-sound schema client lock _ s (λ members f there. shared-sound schema (others client members) (without client members f))
effect-sound m (RefreshShared schema client t) lock s = on-member-sound schema client lock _ s (λ members f there. few-there client (m + t) false members f there)
effect-sound m (ToExclusive schema client id t release) lock s =
    on-member-sound schema client lock _ s
    (λ members f there. choose (length (others client members) == 0) _ _ (λ e. tt) (choose release _ _ (λ e. without client members f) tt))
effect-sound m (CheckShared schema) lock s = on-shared-sound schema lock _ _ s tt (λ members f. tt)
effect-sound m (Status schema client) lock s = on-member-sound schema client lock _ s (λ members f there. tt)
effect-sound m (Mark schema client) lock s = on-member-sound schema client lock _ s (λ members f there. tt)

members-after : (old lock : LockRecord) (effect : LockEffect) → AreSoundMembers old → EffectSound effect → AreSoundMembers (cond (lock_moved effect) (lock_after lock effect) old)
members-after old lock (becomes new) s t = t
members-after old lock stays s t = s
members-after old lock (refuses c) s t = s
members-after old lock (leaves new) s t = t

pub lock-sound : (lock : LockRecord) (moment : ℕ) (step : LockStep) → AreSoundMembers lock
    → AreSoundMembers (cond (lock_moved (lock_effect moment step (live lock moment))) (lock_after (live lock moment) (lock_effect moment step (live lock moment))) lock)
lock-sound lock moment step s =
    members-after lock (live lock moment) (lock_effect moment step (live lock moment)) s (effect-sound moment step (live lock moment) (live-sound lock moment s))
