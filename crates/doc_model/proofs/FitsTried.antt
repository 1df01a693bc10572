-- What became of all that a caller tried on a sound document fits.
use Rattle.std.proofs.Common.{◌≡◌, ℕ, sym, take, arith}
use Rattle.std.specs.List.{All}
use Rattle.std.proofs.lemmas.List.Elements.{All-take, recursion_from_All, All-from_recursion}
use Rattle.doc_model.specs.declared.doc.Doc.{Doc}
use Rattle.doc_model.specs.declared.reply.Submitted.{Submitted}
use Rattle.doc_model.specs.declared.reply.Submitted.TheVariants.{Answered, DiskFault, JournalFull, NoMemory}
use Rattle.doc_model.specs.rules.Apply.{replay}
use Rattle.doc_model.specs.rules.Histories.{History, Fits, HasCause, Attempt, Placed, answered, effect_at}
use Rattle.doc_model.specs.laws.Histories.{FitsWhatWasTried, MovesByKind}
use Rattle.doc_model.specs.rules.Sound.{Sound, Valid}
use Rattle.doc_model.proofs.Attempts.{Replied, each-replied, Caused}
use Rattle.doc_model.proofs.EachItem.{each-as, each-both}
use Rattle.doc_model.proofs.Following.{histories-follow}

moves-by-kind : MovesByKind
moves-by-kind doc call h = grind arith

module _ (doc : Doc) (history : History) (s : Sound doc) (v : All (λ item. Valid item.1) history) where
  -- what is answered as the document says at a place
  abbrev AsThere : Placed → Type 0
  AsThere x = x.reply ≡ (effect_at doc history x.at x.call).reply

  fits-there : (bodies : ℕ) (x : Attempt) (submitted : Submitted) → Replied AsThere x.at x.call submitted
      → HasCause (effect_at doc history x.at x.call).moved bodies x submitted → Fits x.call submitted
  fits-there bodies x (Answered reply) r c =
      (replay doc (take x.at history), (histories-follow doc (take x.at history) s (All-take (λ item. Valid item.1) x.at history v)).0, sym r)
  fits-there bodies x NoMemory r c = tt
  fits-there bodies x DiskFault r c = moves-by-kind (replay doc (take x.at history)) x.call c.0
  fits-there bodies x JournalFull r c = moves-by-kind (replay doc (take x.at history)) x.call c.0

pub fits-what-was-tried : FitsWhatWasTried
fits-what-was-tried doc bodies history n made s v t =
    All-from_recursion (λ x. Fits x.call x.made.submitted) made
    (each-as (λ x. Replied (AsThere doc history s v) x.at x.call x.made.submitted × Caused doc bodies history x) (λ x. Fits x.call x.made.submitted) made
    (λ x h. fits-there doc history s v bodies x x.made.submitted h.0 h.1)
    (each-both (λ x. Replied (AsThere doc history s v) x.at x.call x.made.submitted) (Caused doc bodies history) made
    (each-replied (AsThere doc history s v) made (recursion_from_All (AsThere doc history s v) (answered made) t.stands.replies))
    (recursion_from_All (Caused doc bodies history) made t.causes)))
