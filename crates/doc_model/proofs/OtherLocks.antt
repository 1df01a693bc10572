-- Calls that are no lock steps leave the lock as it is.
use Rattle.std.proofs.Common.{◌≡◌, ℕ, refl, Bool, true, false, not, cond, List, Option, Some, None}
use Rattle.compact_values.specs.declared.guid.Guid.{Guid}
use Rattle.doc_model.specs.declared.call.Put.{Put}
use Rattle.doc_model.specs.declared.doc.Commit.{Commit}
use Rattle.doc_model.specs.declared.doc.Doc.{Doc}
use Rattle.doc_model.specs.declared.lock.LockRecord.{LockRecord}
use Rattle.doc_model.specs.declared.reply.Code.{Code}
use Rattle.doc_model.specs.declared.reply.Code.TheVariants.{AlreadyLocked}
use Rattle.doc_model.specs.rules.Drawing.{can_draw, draw}
use Rattle.doc_model.specs.rules.Locks.{live, allowed}
use Rattle.doc_model.specs.rules.Puts.{put, is_part, part_refusal, commit_refusal, kept, committed}
use Rattle.doc_model.specs.rules.Effects.{Effect, refused, unless}
use Rattle.doc_model.specs.rules.Versions.{version, restore, restore_version, restore_refusal, restored}

chosen : (b : Bool) (x y : Effect) (l : LockRecord) → x.doc.lock ≡ l → y.doc.lock ≡ l → (cond b x y).doc.lock ≡ l
chosen true x y l p q = p
chosen false x y l p q = q

unless-lock : (o : Option Code) (doc : Doc) (done : Effect) → done.doc.lock ≡ doc.lock → (unless o doc done).doc.lock ≡ doc.lock
unless-lock None doc done e = e
unless-lock (Some c) doc done e = refl

pub put-lock : (doc : Doc) (m : ℕ) (user : List ℕ) (p : Put) → (put doc m user p).doc.lock ≡ doc.lock
put-lock doc m user p =
    chosen (is_part p) (unless (part_refusal doc m p) doc (kept doc m p)) (unless (commit_refusal doc m p) doc (committed doc m user p)) doc.lock
    (unless-lock (part_refusal doc m p) doc (kept doc m p) refl) (unless-lock (commit_refusal doc m p) doc (committed doc m user p) refl)

pub draw-lock : (doc : Doc) (count : ℕ) → (draw doc count).doc.lock ≡ doc.lock
draw-lock doc count = chosen (can_draw doc count) _ _ doc.lock refl refl

version-lock : (doc : Doc) (m : ℕ) (user : List ℕ) (o : Option Commit) → (restore_version doc m user o).doc.lock ≡ doc.lock
version-lock doc m user None = refl
version-lock doc m user (Some c) = unless-lock (restore_refusal doc c) doc (restored doc m user c) refl

pub restore-lock : (doc : Doc) (m : ℕ) (user : List ℕ) (number : ℕ) (carried : Option Guid) → (restore doc m user number carried).doc.lock ≡ doc.lock
restore-lock doc m user number carried =
    chosen (not (allowed (live doc.lock m) carried)) (refused doc AlreadyLocked) (restore_version doc m user (version doc.commits number)) doc.lock
    refl (version-lock doc m user (version doc.commits number))
