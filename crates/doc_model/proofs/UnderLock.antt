-- A call commits only under the lock that it carries.
use Rattle.std.proofs.Common.{◌≡◌, ◌≢◌, ℕ, refl, ap, Bool, true, false, not, cond, List, Option, Some, None}
use Rattle.compact_values.specs.declared.guid.Guid.{Guid}
use Rattle.compact_values.proofs.SameIds.{guid-same}
use Rattle.doc_model.specs.declared.call.Sub.{Sub}
use Rattle.doc_model.specs.declared.call.Sub.TheVariants as sub
use Rattle.doc_model.specs.declared.doc.Doc.{Doc}
use Rattle.doc_model.specs.declared.doc.Commit.{Commit}
use Rattle.doc_model.specs.declared.lock.LockRecord.{LockRecord}
use Rattle.doc_model.specs.declared.lock.LockRecord.TheVariants.{Free, Exclusive, Shared}
use Rattle.doc_model.specs.declared.reply.Code.TheVariants.{AlreadyLocked}
use Rattle.doc_model.specs.rules.Apply.{by_kind}
use Rattle.doc_model.specs.rules.Drawing.{can_draw}
use Rattle.doc_model.specs.laws.Locks.{Carries, IsFreeOrCarried, CommitsUnderLock}
use Rattle.doc_model.specs.rules.Locks.{allowed, carries, live}
use Rattle.doc_model.specs.rules.Puts.{commit_reasons, sent_to, added_by}
use Rattle.doc_model.specs.rules.Effects.{Effect, refused}
use Rattle.doc_model.specs.rules.Versions.{version, restore_version}
use Rattle.doc_model.proofs.OnStored.{put-accepted}
use Rattle.doc_model.proofs.Reasons.{none-holds, not-false}

carried : (o : Option Guid) (id : Guid) → carries o id ≡ true → o ≡ Some id
carried None id h = cc
carried (Some held) id h = ap (λ (g : Guid). Some g) (guid-same held id h)

-- of a call that carries this id
allowed-by : (lock : LockRecord) (s : Sub) (o : Option Guid) → ((id : Guid) → o ≡ Some id → Carries s id) → allowed lock o ≡ true → IsFreeOrCarried lock s
allowed-by Free s o f h = tt
allowed-by (Exclusive id until) s o f h = f id (carried o id h)
allowed-by (Shared schema members) s o f h = f schema (carried o schema h)

-- what commits wasn't refused for the lock
passed : (b : Bool) (x y : Effect) (cs : List Commit) → x.doc.commits ≡ cs → (cond (not b) x y).doc.commits ≢ cs → b ≡ true
passed true x y cs e ne = refl
passed false x y cs e ne = absurd (ne e)

same_commits : (b : Bool) (x y : Effect) (cs : List Commit) → x.doc.commits ≡ cs → y.doc.commits ≡ cs → (cond b x y).doc.commits ≡ cs
same_commits true x y cs p q = p
same_commits false x y cs p q = q

kind-allowed : (doc : Doc) (m : ℕ) (user : List ℕ) (what : Sub) → (by_kind doc m user what).doc.commits ≢ doc.commits → IsFreeOrCarried (live doc.lock m) what
kind-allowed doc m user sub.Access ne = absurd (ne refl)
kind-allowed doc m user (sub.Pull knowledge) ne = absurd (ne refl)
kind-allowed doc m user (sub.Put p) ne =
    let none = none-holds (commit_reasons doc m p (sent_to doc p) (added_by doc p)) (put-accepted doc m user p ne) in
    allowed-by (live doc.lock m) (sub.Put p) p.carried (λ id h. h) (not-false (allowed (live doc.lock m) p.carried) none.0)
kind-allowed doc m user (sub.Lock step) ne = absurd (ne refl)
kind-allowed doc m user (sub.Draw count) ne = absurd (ne (same_commits (can_draw doc count) _ _ doc.commits refl refl))
kind-allowed doc m user (sub.Editor step) ne = absurd (ne refl)
kind-allowed doc m user sub.Versions ne = absurd (ne refl)
kind-allowed doc m user (sub.Restore number o) ne =
    allowed-by (live doc.lock m) (sub.Restore number o) o (λ id h. h)
    (passed (allowed (live doc.lock m) o) (refused doc AlreadyLocked) (restore_version doc m user (version doc.commits number)) doc.commits refl ne)
kind-allowed doc m user sub.ReadFile ne = absurd (ne refl)
kind-allowed doc m user sub.AmIAlone ne = absurd (ne refl)
kind-allowed doc m user sub.WhoAmI ne = absurd (ne refl)

pub under-lock : CommitsUnderLock
under-lock doc call ne = kind-allowed doc call.moment call.user call.sub ne
