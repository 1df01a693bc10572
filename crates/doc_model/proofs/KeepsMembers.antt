-- Each live member of a shared lock is kept by every call but its own drop and conversion.
use Rattle.std.proofs.Common.{◌≡◌, ◌⊎◌, ℕ, suc, ◌+◌, refl, sym, ap, subst, Bool, true, false, not, ◌||◌, cond, nat_lt, List, [], ◌∷◌, length, filter, inl, inr, ⊎_elim, ◌==◌, arith}
use Rattle.std.proofs.lemmas.Bool.Decides.{nat_tests}
use Rattle.std.proofs.lemmas.List.Elements.{All-from_recursion}
use Rattle.std.specs.List.{AllByRecursion as Each, Any, list_any}
use Rattle.compact_values.specs.declared.guid.Guid.{Guid}
use Rattle.compact_values.specs.SameIds.{same_guid}
use Rattle.compact_values.proofs.SameIds.{guid-same}
use Rattle.doc_model.specs.declared.call.Sub.{Sub}
use Rattle.doc_model.specs.declared.call.Sub.TheVariants as sub
use Rattle.doc_model.specs.declared.doc.Doc.{Doc}
use Rattle.doc_model.specs.declared.lock.LockRecord.{LockRecord}
use Rattle.doc_model.specs.declared.lock.LockRecord.TheVariants.{Free, Exclusive, Shared}
use Rattle.doc_model.specs.declared.lock.LockStep.{LockStep}
use Rattle.doc_model.specs.declared.lock.LockStep.TheVariants as step
use Rattle.doc_model.specs.declared.lock.Member.{Member}
use Rattle.doc_model.specs.declared.reply.Code.TheVariants as code
use Rattle.doc_model.specs.rules.Apply.{by_kind}
use Rattle.doc_model.specs.rules.Drawing.{draw}
use Rattle.doc_model.specs.laws.Locks.{EndsMember, SetsMember, IsStill, StaysMember, ByStep, KeepsMembers}
use Rattle.doc_model.specs.rules.LockSteps.{LockEffect, becomes, refuses, stays, leaves, lock_effect, lock_after, lock_moved, member, is_client, others, with_client}
use Rattle.doc_model.specs.rules.Locks.{live, shared_by, is_live}
use Rattle.doc_model.specs.rules.Puts.{put}
use Rattle.doc_model.specs.rules.Versions.{restore}
use Rattle.doc_model.proofs.OtherLocks.{put-lock, draw-lock, restore-lock}
use Rattle.doc_model.proofs.EachItem.{each-as}
use Rattle.doc_model.proofs.KeepsLock.{by-test, by-same}

any-here : {X : Type 0} (P : X → Type 0) (x : X) (xs : List X) → P x → Any P (x ∷ xs)
any-here P x xs p = (0, x, omega arith, refl, p)

any-later : {X : Type 0} (P : X → Type 0) (x : X) (xs : List X) → Any P xs → Any P (x ∷ xs)
any-later P x xs (k, y, l, e, p) = (suc k, y, grind arith, e, p)

any-none : {X : Type 0} (P : X → Type 0) → Any P [] → ⊥
any-none P (k, y, l, e, p) = omega arith

-- of a shared lock, a relation between each of its members and those that are there afterwards
module _ (R : Member → Member → Type 0) (own : (x : Member) → R x x) where
  abbrev There : List Member → Member → Type 0
  There ms x = Any (R x) ms

  later : (y : Member) (xs ys : List Member) → Each (There ys) xs → Each (There (y ∷ ys)) xs
  later y xs ys h = each-as (There ys) (There (y ∷ ys)) xs (λ x t. any-later (R x) y ys t) h

  filtered-there : (p : Member → Bool) (ms : List Member) → Each (There ms) (filter p ms)
  filtered-there p [] = tt
  filtered-there p (x ∷ xs) = at (p x) (later x (filter p xs) xs (filtered-there p xs))
    where
      at : (b : Bool) → Each (There (x ∷ xs)) (filter p xs) → Each (There (x ∷ xs)) (cond b (x ∷ filter p xs) (filter p xs))
      at true r = (any-here (R x) x xs (own x), r)
      at false r = r

  all-there : (ms : List Member) → Each (There ms) ms
  all-there [] = tt
  all-there (x ∷ xs) = (any-here (R x) x xs (own x), later x xs xs (all-there xs))

  -- with a client, whose own member may become another
  module _ (client : Guid) (until : ℕ) (coauthor : Bool) (set : (x : Member) (mark : Bool) → is_client client x ≡ true → R x (member client until mark)) where
    with-there : (ms : List Member) → Each (There (with_client client until coauthor ms)) ms
    with-there [] = tt
    with-there (x ∷ xs) = at (is_client client x) refl (with-there xs)
      where
        at : (b : Bool) → is_client client x ≡ b → Each (There (with_client client until coauthor xs)) xs
            → Each (There (cond b (member client until (x.coauthor || coauthor) ∷ xs) (x ∷ with_client client until coauthor xs))) (x ∷ xs)
        at true e r = (any-here (R x) (member client until (x.coauthor || coauthor)) xs (set x (x.coauthor || coauthor) e), later (member client until (x.coauthor || coauthor)) xs xs (all-there xs))
        at false e r = (any-here (R x) x (with_client client until coauthor xs) (own x), later x xs (with_client client until coauthor xs) r)

  -- without a client
  module _ (client : Guid) (E : Member → Type 0) (gone : (x : Member) → is_client client x ≡ true → E x) where
    others-there : (ms : List Member) → Each (λ x. E x ⊎ There (others client ms) x) ms
    others-there [] = tt
    others-there (x ∷ xs) = at (is_client client x) refl (others-there xs)
      where
        at : (b : Bool) → is_client client x ≡ b → Each (λ y. E y ⊎ There (others client xs) y) xs
            → Each (λ y. E y ⊎ There (cond (not b) (x ∷ others client xs) (others client xs)) y) (x ∷ xs)
        at true e r = (inl (gone x e), r)
        at false e r = (
          inr (any-here (R x) x (others client xs) (own x)),
          each-as (λ y. E y ⊎ There (others client xs) y) (λ y. E y ⊎ There (x ∷ others client xs) y) xs
              (λ y t. ⊎_elim (λ g. inl g) (λ a. inr (any-later (R y) x (others client xs) a)) t) r,
        )

no_others : (ms : List Member) → (length ms == 0) ≡ true → ms ≡ []
no_others [] h = refl
no_others (x ∷ xs) h = absurd (grind (arith, nat_tests))

-- a live shared lock is among the members of the one that is kept
pub record IsLiveOf (schema : Guid) (members : List Member) (m : ℕ) (l : LockRecord) : Type 0 where
  pub all : List Member
  pub lock : l ≡ Shared schema all
  pub live : members ≡ filter (is_live m) all

not_exclusive : (b : Bool) (i : Guid) (v : ℕ) (schema : Guid) (members : List Member) → cond b (Exclusive i v) Free ≡ Shared schema members → ⊥
not_exclusive true i v schema members h = cc
not_exclusive false i v schema members h = cc

by_schema : (s schema : Guid) (ms members : List Member) → shared_by s ms ≡ Shared schema members → (s ≡ schema) × (members ≡ ms)
by_schema s schema [] members h = cc
by_schema s schema (x ∷ xs) members h = (cc, cc)

live-shared : (l : LockRecord) (m : ℕ) (schema : Guid) (members : List Member) → live l m ≡ Shared schema members → IsLiveOf schema members m l
live-shared Free m schema members h = cc
live-shared (Exclusive i v) m schema members h = absurd (not_exclusive (nat_lt m v) i v schema members h)
live-shared (Shared s ms) m schema members h =
    let t = by_schema s schema (filter (is_live m) ms) members h in
    record { all = ms; lock = ap (λ (x : Guid). Shared x ms) t.0; live = t.1 }

-- where nothing changes, each of them is there
unchanged : (schema : Guid) (members : List Member) (m : ℕ) (l : LockRecord) → IsLiveOf schema members m l → (Ends IsSet : Member → Type 0)
    → Each (λ x. Ends x ⊎ StaysMember schema x (IsSet x) l) members
unchanged schema members m l e Ends IsSet =
    subst (λ (now : LockRecord). Each (λ x. Ends x ⊎ StaysMember schema x (IsSet x) now) members) (sym e.lock)
    (each-as (There (λ x y. IsStill x (IsSet x) y) (λ x. (refl, inl refl)) e.all) (λ x. Ends x ⊎ StaysMember schema x (IsSet x) (Shared schema e.all)) members (λ x t. inr (refl, t))
    (subst (λ (xs : List Member). Each (There (λ x y. IsStill x (IsSet x) y) (λ x. (refl, inl refl)) e.all) xs) (sym e.live)
    (filtered-there (λ x y. IsStill x (IsSet x) y) (λ x. (refl, inl refl)) (is_live m) e.all)))

module _ (schema : Guid) (members : List Member) (m : ℕ) (l : LockRecord) (e : IsLiveOf schema members m l) where
  module _ (s : LockStep) where
    -- what is to be shown of a step and the lock after it
    abbrev Ends : Member → Type 0
    Ends x = EndsMember schema x.client s

    abbrev Still : Member → Member → Type 0
    Still x y = IsStill x (SetsMember schema x.client s) y

    abbrev Kept : LockRecord → Member → Type 0
    Kept now x = Ends x ⊎ StaysMember schema x (SetsMember schema x.client s) now

    abbrev AllKept : LockRecord → Type 0
    AllKept now = Each (Kept now) members

    own : (x : Member) → Still x x
    own x = (refl, inl refl)

    same : AllKept l
    same = unchanged schema members m l e Ends (λ x. SetsMember schema x.client s)

    -- the members of one schema id, with a client or without
    with-kept : (client : Guid) (until : ℕ) (coauthor : Bool) (sc : Guid) → sc ≡ schema → ((x : Member) → client ≡ x.client → SetsMember schema x.client s)
        → AllKept (Shared sc (with_client client until coauthor members))
    with-kept client until coauthor sc h sets =
        each-as (There Still own (with_client client until coauthor members)) (Kept (Shared sc (with_client client until coauthor members))) members (λ x t. inr (h, t))
        (with-there Still own client until coauthor
        (λ x mark f. let c : client ≡ x.client = sym (guid-same x.client client f) in (c, inr (sets x c))) members)

    without : (client : Guid) → ((x : Member) → client ≡ x.client → Ends x) → Each (λ x. Ends x ⊎ There Still own (others client members) x) members
    without client ends = others-there Still own client Ends (λ x f. ends x (sym (guid-same x.client client f))) members

    others-kept : (client sc : Guid) → sc ≡ schema → ((x : Member) → client ≡ x.client → Ends x) → AllKept (Shared sc (others client members))
    others-kept client sc h ends =
        each-as (λ x. Ends x ⊎ There Still own (others client members) x) (Kept (Shared sc (others client members))) members
        (λ x t. ⊎_elim (λ g. inl g) (λ a. inr (h, a)) t) (without client ends)

    shared-by-kept : (client sc : Guid) → sc ≡ schema → ((x : Member) → client ≡ x.client → Ends x) → AllKept (shared_by sc (others client members))
    shared-by-kept client sc h ends = at (others client members) (without client ends)
      where
        at : (ms : List Member) → Each (λ x. Ends x ⊎ There Still own ms x) members → AllKept (shared_by sc ms)
        at [] t = each-as (λ x. Ends x ⊎ There Still own [] x) (Kept Free) members (λ x g. ⊎_elim (λ a. inl a) (λ a. absurd (any-none (Still x) a)) g) t
        at (y ∷ ys) t =
            each-as (λ x. Ends x ⊎ There Still own (y ∷ ys) x) (Kept (Shared sc (y ∷ ys))) members
            (λ x g. ⊎_elim (λ a. inl a) (λ a. inr (h, a)) g) t

    alone-kept : (client id : Guid) (until : ℕ) → ((x : Member) → client ≡ x.client → Ends x) → (length (others client members) == 0) ≡ true → AllKept (Exclusive id until)
    alone-kept client id until ends h =
        each-as (λ x. Ends x ⊎ There Still own (others client members) x) (Kept (Exclusive id until)) members
        (λ x g. ⊎_elim (λ a. inl a) (λ a. absurd (any-none (Still x) (subst (λ (ms : List Member). There Still own ms x) (no_others (others client members) h) a))) g)
        (without client ends)

  abbrev after : LockEffect → LockRecord
  after effect = cond (lock_moved effect) (lock_after (Shared schema members) effect) l

  -- on one's own schema id, and as a member of it
  on-own : (s : LockStep) (sc : Guid) (own-effect : LockEffect) → (sc ≡ schema → AllKept s (after own-effect)) → AllKept s (after (cond (same_guid schema sc) own-effect (refuses code.AlreadyLocked)))
  on-own s sc own-effect f = by-same schema sc (λ b. AllKept s (after (cond b own-effect (refuses code.AlreadyLocked)))) f (same s)

  on-own-member : (s : LockStep) (sc client : Guid) (own-effect : LockEffect) → (sc ≡ schema → AllKept s (after own-effect))
      → AllKept s (after (cond (same_guid schema sc) (cond (list_any (is_client client) members) own-effect (refuses code.NotLocked)) (refuses code.AlreadyLocked)))
  on-own-member s sc client own-effect f =
      on-own s sc (cond (list_any (is_client client) members) own-effect (refuses code.NotLocked))
      (λ h. by-test (list_any (is_client client) members) (λ b. AllKept s (after (cond b own-effect (refuses code.NotLocked)))) (λ _. f h) (λ _. same s))

  pub members-kept : (s : LockStep) → AllKept s (after (lock_effect m s (Shared schema members)))
  members-kept (step.TakeExclusive i t) = same (step.TakeExclusive i t)
  members-kept (step.DropExclusive i) = same (step.DropExclusive i)
  members-kept (step.RefreshExclusive i t) = same (step.RefreshExclusive i t)
  members-kept (step.CheckExclusive i) = same (step.CheckExclusive i)
  members-kept (step.ToShared i sc c t co) = same (step.ToShared i sc c t co)
  members-kept (step.TakeShared sc c t co) =
      let s = step.TakeShared sc c t co in
      on-own s sc (cond (nat_lt (length (others c members)) 64) (becomes (Shared sc (with_client c (m + t) co members))) (refuses code.TooManyCoauthors))
      (λ h. by-test (nat_lt (length (others c members)) 64) (λ b. AllKept s (after (cond b (becomes (Shared sc (with_client c (m + t) co members))) (refuses code.TooManyCoauthors))))
      (λ _. with-kept s c (m + t) co sc h (λ x g. (h, g))) (λ _. same s))
  members-kept (step.DropShared sc c) =
      let s = step.DropShared sc c in
      on-own-member s sc c (becomes (shared_by sc (others c members))) (λ h. shared-by-kept s c sc h (λ x g. (h, g)))
  members-kept (step.RefreshShared sc c t) =
      let s = step.RefreshShared sc c t in
      on-own-member s sc c (becomes (Shared sc (with_client c (m + t) false members))) (λ h. with-kept s c (m + t) false sc h (λ x g. (h, g)))
  members-kept (step.ToExclusive sc c i t r) =
      let s = step.ToExclusive sc c i t r in
      let left = cond r (leaves (Shared sc (others c members))) (refuses code.ManyClients) in
      on-own-member s sc c (cond (length (others c members) == 0) (becomes (Exclusive i (m + t))) left)
      (λ h. by-test (length (others c members) == 0) (λ b. AllKept s (after (cond b (becomes (Exclusive i (m + t))) left)))
      (λ k. alone-kept s c i (m + t) (λ x g. (h, g)) k)
      (λ _. by-test r (λ b. AllKept s (after (cond b (leaves (Shared sc (others c members))) (refuses code.ManyClients))))
      (λ _. others-kept s c sc h (λ x g. (h, g))) (λ _. same s)))
  members-kept (step.CheckShared sc) = let s = step.CheckShared sc in on-own s sc stays (λ h. same s)
  members-kept (step.Status sc c) = let s = step.Status sc c in on-own-member s sc c stays (λ h. same s)
  members-kept (step.Mark sc c) = let s = step.Mark sc c in on-own-member s sc c stays (λ h. same s)

module _ (doc : Doc) (m : ℕ) (user : List ℕ) (schema : Guid) (members : List Member) (e : live doc.lock m ≡ Shared schema members) where
  -- what is to be shown of a call and the lock after it
  abbrev KeptBy : Sub → LockRecord → Type 0
  KeptBy s now = Each (λ x. ByStep s (EndsMember schema x.client) ⊎ StaysMember schema x (ByStep s (SetsMember schema x.client)) now) members

  are : IsLiveOf schema members m doc.lock
  are = live-shared doc.lock m schema members e

  as-before : (s : Sub) (now : LockRecord) → now ≡ doc.lock → KeptBy s now
  as-before s now h =
      subst (λ (x : LockRecord). KeptBy s x) (sym h)
      (unchanged schema members m doc.lock are (λ x. ByStep s (EndsMember schema x.client)) (λ x. ByStep s (SetsMember schema x.client)))

  kind-keeps : (s : Sub) → KeptBy s (by_kind doc m user s).doc.lock
  kind-keeps sub.Access = as-before sub.Access doc.lock refl
  kind-keeps (sub.Pull knowledge) = as-before (sub.Pull knowledge) doc.lock refl
  kind-keeps (sub.Put p) = as-before (sub.Put p) (put doc m user p).doc.lock (put-lock doc m user p)
  kind-keeps (sub.Draw count) = as-before (sub.Draw count) (draw doc count).doc.lock (draw-lock doc count)
  kind-keeps (sub.Editor step) = as-before (sub.Editor step) doc.lock refl
  kind-keeps sub.Versions = as-before sub.Versions doc.lock refl
  kind-keeps (sub.Restore number carried) = as-before (sub.Restore number carried) (restore doc m user number carried).doc.lock (restore-lock doc m user number carried)
  kind-keeps sub.ReadFile = as-before sub.ReadFile doc.lock refl
  kind-keeps sub.AmIAlone = as-before sub.AmIAlone doc.lock refl
  kind-keeps sub.WhoAmI = as-before sub.WhoAmI doc.lock refl
  kind-keeps (sub.Lock s) =
      subst (λ (x : LockRecord). KeptBy (sub.Lock s) (cond (lock_moved (lock_effect m s x)) (lock_after x (lock_effect m s x)) doc.lock)) (sym e)
      (members-kept schema members m doc.lock are s)

pub keeps-members : KeepsMembers
keeps-members doc call schema members e = All-from_recursion _ members (kind-keeps doc call.moment call.user schema members e call.sub)
