-- A call that doesn't move leaves the document equal.
use Rattle.std.proofs.Common.{◌≡◌, ℕ, refl, Bool, true, false, not, cond, List, Option, Some, None}
use Rattle.compact_values.specs.declared.guid.Guid.{Guid}
use Rattle.doc_model.specs.declared.call.Put.{Put}
use Rattle.doc_model.specs.declared.call.Sub.{Sub}
use Rattle.doc_model.specs.declared.call.Sub.TheVariants as sub
use Rattle.doc_model.specs.declared.doc.Commit.{Commit}
use Rattle.doc_model.specs.declared.doc.Doc.{Doc}
use Rattle.doc_model.specs.declared.lock.LockStep.{LockStep}
use Rattle.doc_model.specs.declared.reply.Code.{Code}
use Rattle.doc_model.specs.declared.reply.Code.TheVariants.{AlreadyLocked}
use Rattle.doc_model.specs.rules.Apply.{by_kind}
use Rattle.doc_model.specs.rules.Drawing.{draw, can_draw}
use Rattle.doc_model.specs.rules.Editing as editing
use Rattle.doc_model.specs.rules.Editing.{after_edit, editor_effect, live_editors}
use Rattle.doc_model.specs.laws.Documents.{UnmovedIsEqual}
use Rattle.doc_model.specs.rules.Locking.{after_lock}
use Rattle.doc_model.specs.rules.Locks.{live, allowed}
use Rattle.doc_model.specs.rules.LockSteps.{LockEffect, becomes, stays, refuses, leaves, lock_effect}
use Rattle.doc_model.specs.rules.Puts.{put, is_part, part_refusal, commit_refusal, kept, committed}
use Rattle.doc_model.specs.rules.Effects.{Effect, unless, refused}
use Rattle.doc_model.specs.rules.Versions.{version, restore, restore_version, restore_refusal, restored}

-- an effect that doesn't move leaves this document
record Leaves (doc : Doc) (effect : Effect) : Type 0 where
  pub equal : effect.moved ≡ false → effect.doc ≡ doc

moving : (doc : Doc) (effect : Effect) → effect.moved ≡ true → Leaves doc effect
moving doc effect m = record { equal = λ h. cc }

staying : (doc : Doc) (effect : Effect) → effect.doc ≡ doc → Leaves doc effect
staying doc effect e = record { equal = λ h. e }

either : (doc : Doc) (b : Bool) (x y : Effect) → Leaves doc x → Leaves doc y → Leaves doc (cond b x y)
either doc true x y p q = p
either doc false x y p q = q

unless_refused : (doc : Doc) (o : Option Code) (done : Effect) → Leaves doc done → Leaves doc (unless o doc done)
unless_refused doc None done p = p
unless_refused doc (Some c) done p = staying doc (refused doc c) refl

put_leaves : (doc : Doc) (m : ℕ) (user : List ℕ) (p : Put) → Leaves doc (put doc m user p)
put_leaves doc m user p =
    either doc (is_part p) _ _ (unless_refused doc (part_refusal doc m p) (kept doc m p) (moving doc (kept doc m p) refl))
    (unless_refused doc (commit_refusal doc m p) (committed doc m user p) (moving doc (committed doc m user p) refl))

lock_leaves : (doc : Doc) (m : ℕ) (step : LockStep) (effect : LockEffect) → Leaves doc (after_lock doc m step effect)
lock_leaves doc m step (becomes new) = moving doc (after_lock doc m step (becomes new)) refl
lock_leaves doc m step stays = staying doc (after_lock doc m step stays) refl
lock_leaves doc m step (refuses c) = staying doc (after_lock doc m step (refuses c)) refl
lock_leaves doc m step (leaves new) = moving doc (after_lock doc m step (leaves new)) refl

draw_leaves : (doc : Doc) (n : ℕ) → Leaves doc (draw doc n)
draw_leaves doc n = either doc (can_draw doc n) _ _ (record { equal = λ h. cc }) (record { equal = λ h. refl })

edit_leaves : (doc : Doc) (m : ℕ) (effect : editing.EditorEffect) → Leaves doc (after_edit doc m effect)
edit_leaves doc m (editing.becomes new) = moving doc (after_edit doc m (editing.becomes new)) refl
edit_leaves doc m editing.stays = staying doc (after_edit doc m editing.stays) refl
edit_leaves doc m (editing.refuses c) = staying doc (after_edit doc m (editing.refuses c)) refl

version_leaves : (doc : Doc) (m : ℕ) (user : List ℕ) (o : Option Commit) → Leaves doc (restore_version doc m user o)
version_leaves doc m user None = staying doc (restore_version doc m user None) refl
version_leaves doc m user (Some c) = unless_refused doc (restore_refusal doc c) (restored doc m user c) (moving doc (restored doc m user c) refl)

restore_leaves : (doc : Doc) (m : ℕ) (user : List ℕ) (number : ℕ) (carried : Option Guid) → Leaves doc (restore doc m user number carried)
restore_leaves doc m user number carried =
    either doc (not (allowed (live doc.lock m) carried)) _ _ (staying doc (refused doc AlreadyLocked) refl) (version_leaves doc m user (version doc.commits number))

kind_leaves : (doc : Doc) (m : ℕ) (user : List ℕ) (s : Sub) → Leaves doc (by_kind doc m user s)
kind_leaves doc m user sub.Access = record { equal = λ h. refl }
kind_leaves doc m user (sub.Pull known) = record { equal = λ h. refl }
kind_leaves doc m user (sub.Put p) = put_leaves doc m user p
kind_leaves doc m user (sub.Draw n) = draw_leaves doc n
kind_leaves doc m user (sub.Lock step) = lock_leaves doc m step (lock_effect m step (live doc.lock m))
kind_leaves doc m user (sub.Editor step) = edit_leaves doc m (editor_effect m user step (live_editors doc.editors m))
kind_leaves doc m user sub.Versions = record { equal = λ h. refl }
kind_leaves doc m user (sub.Restore number carried) = restore_leaves doc m user number carried
kind_leaves doc m user sub.ReadFile = record { equal = λ h. refl }
kind_leaves doc m user sub.AmIAlone = record { equal = λ h. refl }
kind_leaves doc m user sub.WhoAmI = record { equal = λ h. refl }

pub unmoved : UnmovedIsEqual
unmoved doc call = (kind_leaves doc call.moment call.user call.sub).equal
