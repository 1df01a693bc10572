-- A call that is refused doesn't move, but for the step that leaves a shared lock.
use Rattle.std.proofs.Common.{◌≡◌, ◌≢◌, ℕ, refl, Bool, true, false, not, cond, List, Option, Some, None}
use Rattle.compact_values.specs.declared.guid.Guid.{Guid}
use Rattle.doc_model.specs.declared.call.Put.{Put}
use Rattle.doc_model.specs.declared.call.Sub.{Sub}
use Rattle.doc_model.specs.declared.call.Sub.TheVariants as sub
use Rattle.doc_model.specs.declared.doc.Commit.{Commit}
use Rattle.doc_model.specs.declared.doc.Doc.{Doc}
use Rattle.doc_model.specs.declared.lock.LockRecord.{LockRecord}
use Rattle.doc_model.specs.declared.lock.LockStep.{LockStep}
use Rattle.doc_model.specs.declared.reply.Code.{Code}
use Rattle.doc_model.specs.declared.reply.Code.TheVariants.{AlreadyLocked, LeftOnFailedConversion}
use Rattle.doc_model.specs.declared.reply.Reply.TheVariants as reply
use Rattle.doc_model.specs.rules.Apply.{by_kind}
use Rattle.doc_model.specs.rules.Drawing.{draw, can_draw}
use Rattle.doc_model.specs.rules.Editing as editing
use Rattle.doc_model.specs.rules.Editing.{after_edit, editor_effect, live_editors}
use Rattle.doc_model.specs.laws.Documents.{RefusedStays}
use Rattle.doc_model.specs.rules.Locking.{after_lock}
use Rattle.doc_model.specs.rules.Locks.{live, allowed}
use Rattle.doc_model.specs.rules.LockSteps.{LockEffect, becomes, stays, refuses, leaves, lock_effect, tells_lock, lock_kind, coauthors_of}
use Rattle.doc_model.specs.rules.Puts.{put, is_part, part_refusal, commit_refusal, kept, committed}
use Rattle.doc_model.specs.rules.Effects.{Effect, unless, refused}
use Rattle.doc_model.specs.rules.Versions.{version, restore, restore_version, restore_refusal, restored}

-- an effect that stays where it refuses
record Refuses (effect : Effect) : Type 0 where
  pub stays : (c : Code) → effect.reply ≡ reply.Refused c → c ≢ LeftOnFailedConversion → effect.moved ≡ false

staying : (effect : Effect) → effect.moved ≡ false → Refuses effect
staying effect m = record { stays = λ c h n. m }

either : (b : Bool) (x y : Effect) → Refuses x → Refuses y → Refuses (cond b x y)
either true x y p q = p
either false x y p q = q

unless-refused : (doc : Doc) (o : Option Code) (done : Effect) → Refuses done → Refuses (unless o doc done)
unless-refused doc None done p = p
unless-refused doc (Some c) done p = staying (refused doc c) refl

put-refuses : (doc : Doc) (m : ℕ) (user : List ℕ) (p : Put) → Refuses (put doc m user p)
put-refuses doc m user p =
    either (is_part p) _ _ (unless-refused doc (part_refusal doc m p) (kept doc m p) (record { stays = λ c h n. cc }))
    (unless-refused doc (commit_refusal doc m p) (committed doc m user p) (record { stays = λ c h n. cc }))

-- what isn't refused is answered otherwise
not-refused : (guid : Guid) (step : LockStep) (after : LockRecord) (c : Code) (b : Bool)
    → cond b (reply.Locked guid (lock_kind after) (coauthors_of after)) reply.Done ≡ reply.Refused c → true ≡ false
not-refused guid step after c true h = cc
not-refused guid step after c false h = cc

left : (c : Code) → reply.Refused LeftOnFailedConversion ≡ reply.Refused c → c ≡ LeftOnFailedConversion
left c h = cc

lock-refuses : (doc : Doc) (m : ℕ) (step : LockStep) (effect : LockEffect) → Refuses (after_lock doc m step effect)
lock-refuses doc m step (becomes new) = record { stays = λ c h n. not-refused doc.guid step new c (tells_lock step) h }
lock-refuses doc m step stays = staying (after_lock doc m step stays) refl
lock-refuses doc m step (refuses c) = staying (after_lock doc m step (refuses c)) refl
lock-refuses doc m step (leaves new) = record { stays = λ c h n. absurd (n (left c h)) }

draw-refuses : (doc : Doc) (n : ℕ) → Refuses (draw doc n)
draw-refuses doc n = either (can_draw doc n) _ _ (record { stays = λ c h n. cc }) (record { stays = λ c h n. refl })

edit-refuses : (doc : Doc) (m : ℕ) (effect : editing.EditorEffect) → Refuses (after_edit doc m effect)
edit-refuses doc m (editing.becomes new) = record { stays = λ c h n. cc }
edit-refuses doc m editing.stays = staying (after_edit doc m editing.stays) refl
edit-refuses doc m (editing.refuses c) = staying (after_edit doc m (editing.refuses c)) refl

version-refuses : (doc : Doc) (m : ℕ) (user : List ℕ) (o : Option Commit) → Refuses (restore_version doc m user o)
version-refuses doc m user None = staying (restore_version doc m user None) refl
version-refuses doc m user (Some c) = unless-refused doc (restore_refusal doc c) (restored doc m user c) (record { stays = λ c h n. cc })

restore-refuses : (doc : Doc) (m : ℕ) (user : List ℕ) (number : ℕ) (carried : Option Guid) → Refuses (restore doc m user number carried)
restore-refuses doc m user number carried =
    either (not (allowed (live doc.lock m) carried)) _ _ (staying (refused doc AlreadyLocked) refl) (version-refuses doc m user (version doc.commits number))

kind-refuses : (doc : Doc) (m : ℕ) (user : List ℕ) (s : Sub) → Refuses (by_kind doc m user s)
kind-refuses doc m user sub.Access = record { stays = λ c h n. refl }
kind-refuses doc m user (sub.Pull known) = record { stays = λ c h n. refl }
kind-refuses doc m user (sub.Put p) = put-refuses doc m user p
kind-refuses doc m user (sub.Draw n) = draw-refuses doc n
kind-refuses doc m user (sub.Lock step) = lock-refuses doc m step (lock_effect m step (live doc.lock m))
kind-refuses doc m user (sub.Editor step) = edit-refuses doc m (editor_effect m user step (live_editors doc.editors m))
kind-refuses doc m user sub.Versions = record { stays = λ c h n. refl }
kind-refuses doc m user (sub.Restore number carried) = restore-refuses doc m user number carried
kind-refuses doc m user sub.ReadFile = record { stays = λ c h n. refl }
kind-refuses doc m user sub.AmIAlone = record { stays = λ c h n. refl }
kind-refuses doc m user sub.WhoAmI = record { stays = λ c h n. refl }

pub refused-stays : RefusedStays
refused-stays doc call = (kind-refuses doc call.moment call.user call.sub).stays
