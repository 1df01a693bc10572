-- A live lock is kept by every call but those of its own holder.
use Rattle.std.proofs.Common.{◌≡◌, ◌⊎◌, ℕ, ◌+◌, refl, sym, ◌∙◌, subst, Bool, true, false, cond, nat_lt, List, [], ◌∷◌, filter, inl, inr}
use Rattle.compact_values.specs.declared.guid.Guid.{Guid}
use Rattle.compact_values.specs.SameIds.{same_guid}
use Rattle.compact_values.proofs.SameIds.{guid-same}
use Rattle.doc_model.specs.declared.call.Sub.{Sub}
use Rattle.doc_model.specs.declared.call.Sub.TheVariants as sub
use Rattle.doc_model.specs.declared.doc.Doc.{Doc}
use Rattle.doc_model.specs.declared.lock.LockRecord.{LockRecord}
use Rattle.doc_model.specs.declared.lock.LockRecord.TheVariants.{Free, Exclusive, Shared}
use Rattle.doc_model.specs.declared.lock.LockStep.{LockStep}
use Rattle.doc_model.specs.declared.lock.LockStep.TheVariants as step
use Rattle.doc_model.specs.declared.lock.Member.{Member}
use Rattle.doc_model.specs.declared.reply.Code.TheVariants as code
use Rattle.doc_model.specs.rules.Apply.{by_kind}
use Rattle.doc_model.specs.rules.Drawing.{draw}
use Rattle.doc_model.specs.laws.Locks.{EndsExclusive, SetsExclusive, StaysExclusive, ByStep, KeepsExclusive}
use Rattle.doc_model.specs.rules.LockSteps.{LockEffect, becomes, refuses, stays, lock_effect, lock_after, lock_moved, member}
use Rattle.doc_model.specs.rules.Locks.{live, shared_by, is_live}
use Rattle.doc_model.specs.rules.Puts.{put}
use Rattle.doc_model.specs.rules.Versions.{restore}
use Rattle.doc_model.proofs.OtherLocks.{put-lock, draw-lock, restore-lock}

-- by a test, and by whether two ids are one
pub by-test : (b : Bool) (P : Bool → Type 0) → (b ≡ true → P true) → (b ≡ false → P false) → P b
by-test true P p q = p refl
by-test false P p q = q refl

pub by-same : (held id : Guid) (P : Bool → Type 0) → (id ≡ held → P true) → P false → P (same_guid held id)
by-same held id P own other = by-test (same_guid held id) P (λ e. own (sym (guid-same held id e))) (λ e. other)

-- a live exclusive lock is the one that is kept
only_live : (b : Bool) (i id : Guid) (v u : ℕ) → cond b (Exclusive i v) Free ≡ Exclusive id u → Exclusive i v ≡ Exclusive id u
only_live true i id v u h = h
only_live false i id v u h = cc

not_shared : (s id : Guid) (u : ℕ) (ms : List Member) (l : LockRecord) → shared_by s ms ≡ Exclusive id u → l ≡ Exclusive id u
not_shared s id u [] l h = cc
not_shared s id u (x ∷ xs) l h = cc

live-exclusive : (l : LockRecord) (m : ℕ) (id : Guid) (u : ℕ) → live l m ≡ Exclusive id u → l ≡ Exclusive id u
live-exclusive Free m id u h = cc
live-exclusive (Exclusive i v) m id u h = only_live (nat_lt m v) i id v u h
live-exclusive (Shared s ms) m id u h = not_shared s id u (filter (is_live m) ms) (Shared s ms) h

module _ (id : Guid) (u m : ℕ) (l : LockRecord) (e : l ≡ Exclusive id u) where
  -- what is to be shown of a step and the lock after it
  abbrev Kept : LockStep → LockRecord → Type 0
  Kept s now = EndsExclusive id s ⊎ StaysExclusive id u (SetsExclusive id s) now

  abbrev after : LockEffect → LockRecord
  after effect = cond (lock_moved effect) (lock_after (Exclusive id u) effect) l

  same : (s : LockStep) → Kept s l
  same s = subst (λ (x : LockRecord). Kept s x) (sym e) (inr (refl, inl refl))

  pub exclusive-kept : (s : LockStep) → Kept s (after (lock_effect m s (Exclusive id u)))
  exclusive-kept (step.TakeExclusive i t) =
      by-same id i (λ b. Kept (step.TakeExclusive i t) (after (cond b (becomes (Exclusive i (m + t))) (refuses code.AlreadyLocked))))
      (λ h. inr (h, inr h)) (same (step.TakeExclusive i t))
  exclusive-kept (step.DropExclusive i) =
      by-same id i (λ b. Kept (step.DropExclusive i) (after (cond b (becomes Free) (refuses code.AlreadyLocked))))
      (λ h. inl h) (same (step.DropExclusive i))
  exclusive-kept (step.RefreshExclusive i t) =
      by-same id i (λ b. Kept (step.RefreshExclusive i t) (after (cond b (becomes (Exclusive i (m + t))) (refuses code.AlreadyLocked))))
      (λ h. inr (h, inr h)) (same (step.RefreshExclusive i t))
  exclusive-kept (step.CheckExclusive i) =
      by-same id i (λ b. Kept (step.CheckExclusive i) (after (cond b stays (refuses code.AlreadyLocked))))
      (λ h. same (step.CheckExclusive i)) (same (step.CheckExclusive i))
  exclusive-kept (step.ToShared i sc c t co) =
      by-same id i (λ b. Kept (step.ToShared i sc c t co) (after (cond b (becomes (Shared sc (member c (m + t) co ∷ []))) (refuses code.AlreadyLocked))))
      (λ h. inl h) (same (step.ToShared i sc c t co))
  exclusive-kept (step.TakeShared sc c t co) = same (step.TakeShared sc c t co)
  exclusive-kept (step.DropShared sc c) = same (step.DropShared sc c)
  exclusive-kept (step.RefreshShared sc c t) = same (step.RefreshShared sc c t)
  exclusive-kept (step.ToExclusive sc c i t r) = same (step.ToExclusive sc c i t r)
  exclusive-kept (step.CheckShared sc) = same (step.CheckShared sc)
  exclusive-kept (step.Status sc c) = same (step.Status sc c)
  exclusive-kept (step.Mark sc c) = same (step.Mark sc c)

module _ (doc : Doc) (m : ℕ) (user : List ℕ) (id : Guid) (u : ℕ) (e : live doc.lock m ≡ Exclusive id u) where
  -- what is to be shown of a call and the lock after it
  abbrev KeptBy : Sub → LockRecord → Type 0
  KeptBy s now = ByStep s (EndsExclusive id) ⊎ StaysExclusive id u (ByStep s (SetsExclusive id)) now

  is : doc.lock ≡ Exclusive id u
  is = live-exclusive doc.lock m id u e

  as-before : (s : Sub) (now : LockRecord) → now ≡ doc.lock → KeptBy s now
  as-before s now h = subst (λ (x : LockRecord). KeptBy s x) (sym (h ∙ is)) (inr (refl, inl refl))

  kind-keeps : (s : Sub) → KeptBy s (by_kind doc m user s).doc.lock
  kind-keeps sub.Access = as-before sub.Access doc.lock refl
  kind-keeps (sub.Pull knowledge) = as-before (sub.Pull knowledge) doc.lock refl
  kind-keeps (sub.Put p) = as-before (sub.Put p) (put doc m user p).doc.lock (put-lock doc m user p)
  kind-keeps (sub.Draw count) = as-before (sub.Draw count) (draw doc count).doc.lock (draw-lock doc count)
  kind-keeps (sub.Editor step) = as-before (sub.Editor step) doc.lock refl
  kind-keeps sub.Versions = as-before sub.Versions doc.lock refl
  kind-keeps (sub.Restore number carried) = as-before (sub.Restore number carried) (restore doc m user number carried).doc.lock (restore-lock doc m user number carried)
  kind-keeps sub.ReadFile = as-before sub.ReadFile doc.lock refl
  kind-keeps sub.AmIAlone = as-before sub.AmIAlone doc.lock refl
  kind-keeps sub.WhoAmI = as-before sub.WhoAmI doc.lock refl
  kind-keeps (sub.Lock s) =
      subst (λ (x : LockRecord). KeptBy (sub.Lock s) (cond (lock_moved (lock_effect m s x)) (lock_after x (lock_effect m s x)) doc.lock)) (sym e)
      (exclusive-kept id u m doc.lock is s)

pub keeps-exclusive : KeepsExclusive
keeps-exclusive doc call id u e = kind-keeps doc call.moment call.user id u e call.sub
