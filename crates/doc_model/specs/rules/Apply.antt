-- What a call does with a document, and what a list of calls does.
use Rattle.std.specs.Prelude.{◌≡◌, ℕ, List, [], fold, Option, Some}
use Rattle.compact_values.specs.declared.guid.Guid.{Guid}
use Rattle.doc_model.specs.declared.call.Call.{Call}
use Rattle.doc_model.specs.declared.call.Sub.{Sub}
use Rattle.doc_model.specs.declared.call.Sub.TheVariants.{Access, Pull, Put, Draw, Lock, Editor, Versions, Restore, ReadFile, AmIAlone, WhoAmI}
use Rattle.doc_model.specs.declared.core_trait.Plan.{Plan}
use Rattle.doc_model.specs.declared.doc.Doc.{Doc}
use Rattle.doc_model.specs.declared.lock.LockRecord.TheVariants.{Free}
use Rattle.doc_model.specs.declared.reply.Reply.TheVariants as reply
use Rattle.doc_model.specs.rules.Drawing.{draw}
use Rattle.doc_model.specs.rules.Editing.{edit, is_alone}
use Rattle.doc_model.specs.rules.Locking.{do_lock}
use Rattle.doc_model.specs.rules.Pulls.{pull}
use Rattle.doc_model.specs.rules.Puts.{put}
use Rattle.doc_model.specs.rules.Effects.{Effect, reading}
use Rattle.doc_model.specs.rules.Versions.{last_file, restore}

-- a document without anything
abbrev pub empty_doc : Guid → Doc
empty_doc guid = record { guid = guid; added = []; commits = []; lock = Free; editors = []; parts = []; drawn = 0 }

-- by what is asked, at a moment, by a user
abbrev pub by_kind : Doc → ℕ → List ℕ → Sub → Effect
by_kind doc moment user Access = reading doc reply.Access
by_kind doc moment user (Pull knowledge) = reading doc (pull doc knowledge.ranges)
by_kind doc moment user (Put p) = put doc moment user p
by_kind doc moment user (Draw count) = draw doc count
by_kind doc moment user (Lock step) = do_lock doc moment step
by_kind doc moment user (Editor step) = edit doc moment user step
by_kind doc moment user Versions = reading doc (reply.VersionList doc.commits)
by_kind doc moment user (Restore number carried) = restore doc moment user number carried
by_kind doc moment user ReadFile = reading doc (reply.File (last_file doc.added doc.commits))
by_kind doc moment user AmIAlone = reading doc (reply.Lone (is_alone doc.editors moment))
by_kind doc moment user WhoAmI = reading doc (reply.Me user)

abbrev pub apply : Doc → Call → Effect
apply doc call = by_kind doc call.moment call.user call.sub

-- the document after these calls, in order, each with its caller's number
abbrev pub replay : Doc → List (ℕ × Call) → Doc
replay doc calls = fold (λ d item. (apply d item.1).doc) doc calls

-- the plan says what the effect is, and leads to its document
pub record IsPlanned {F : Type 0} (effect : Effect) (plan : Plan F) (leads_to : Option Doc) : Type 0 where
  pub moved : plan.moved ≡ effect.moved
  pub reply : plan.reply ≡ effect.reply
  pub doc : leads_to ≡ Some effect.doc
