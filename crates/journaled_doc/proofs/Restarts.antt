-- What was seen, one after the other.
use Rattle.std.proofs.Common.{◌≡◌, ℕ, Bool, true, false, List, [], ◌∷◌, ◌++◌, inl, inr, refl, sym, subst, append_assoc}
use Rattle.std.specs.Prelude.{map}
use Rattle.std.proofs.lemmas.List.{append-nil}
use Rattle.compact_values.specs.declared.guid.Guid.{Guid}
use Rattle.host_edge.specs.Disks.{NoneIsNew}
use Rattle.doc_model.specs.declared.call.Call.{Call}
use Rattle.doc_model.specs.declared.doc.Doc.{Doc}
use Rattle.doc_model.specs.declared.reply.Submitted.{Submitted}
use Rattle.doc_model.specs.declared.reply.Submitted.TheVariants.{Answered, DiskFault, JournalFull, NoMemory}
use Rattle.journaled_doc.specs.Eras.{Event, Acknowledged, NotAppended, NotMended, NotOpened, Opened, Crashed, Keeps, era}
use Rattle.journaled_doc.specs.Standing.{IsDiskFault}
use Rattle.journaled_doc.specs.Docs.{InEra, Became}
use Rattle.journaled_doc.specs.Replays.{IsOpenedIn}
use Rattle.journaled_doc.specs.Restarts.{Place, Open, Kept, Seen, Called, Closed, Reopened, Refused, Crash, CrashInside, CrashOpening, TellsAll, StandsAfter, IsStep, AreSteps, AreAllSteps, last_place}
use Rattle.journaled_doc.specs.declared.doc.JournaledDoc.{JournaledDoc}
use Rattle.journaled_doc.proofs.Eras.{kept_by, crashed, behind, inside}

module _ {C D : Type 0} (doc : C → Doc) (may_leave : D → List ℕ → Type 0) where
  -- nothing is added
  same_events : (p : Place C D) (events : List Event) → StandsAfter doc may_leave p events → StandsAfter doc may_leave p (events ++ [])
  same_events p events h = subst (λ (l : List Event). StandsAfter doc may_leave p l) (sym (append-nil events)) h

  pub all_steps : (p : Place C D) (xs : List (Seen × Place C D)) (events : List Event) → AreSteps doc may_leave p xs → StandsAfter doc may_leave p events
      → (es : List Event) × TellsAll (map (λ (x : Seen × Place C D). x.0) xs) es × StandsAfter doc may_leave (last_place doc may_leave p xs) (events ++ es)
  all_steps p [] events steps here = ([], refl, same_events p events here)
  all_steps p (x ∷ xs) events steps here =
      let one = steps.0 events here in
      let more = all_steps x.1 xs (events ++ one.0) steps.1 one.2 in (
        one.0 ++ more.0,
        (one.0, more.0, one.1, more.1, refl),
        subst (λ (l : List Event). StandsAfter doc may_leave (last_place doc may_leave x.1 xs) l) (append_assoc events one.0 more.0) more.2,
      )

  pub call_step : (old new : JournaledDoc C D) (call : Call) (moved : Bool) (s : Submitted)
      → ((events : List Event) → InEra doc may_leave old events → Became doc may_leave new events call moved s) → IsStep doc may_leave (Open old) (Called call moved s) (Open new)
  call_step old new call true (Answered reply) h = λ events is. (Acknowledged call ∷ [], refl, h events is)
  call_step old new call false (Answered reply) h = λ events is. ([], refl, same_events (Open new) events (h events is))
  call_step old new call moved DiskFault h = λ events is. elim (h events is) [
    | inl b ↦ (NotMended ∷ [], inl refl, b)
    | inr b ↦ (NotAppended call ∷ [], inr refl, b)
  ]
  call_step old new call moved JournalFull h = λ events is. ([], refl, same_events (Open new) events (h events is))
  call_step old new call moved NoMemory h = λ events is. ([], refl, same_events (Open new) events (h events is))

  pub opening_step : (guid : Guid) (disk : D) (j : JournaledDoc C D) → ((events : List Event) → Keeps (may_leave disk) guid events → IsOpenedIn doc may_leave events j)
      → IsStep doc may_leave (Kept guid disk) Reopened (Open j)
  opening_step guid disk j h = λ events keeps. let o = h events keeps in (Opened o.0 ∷ [], (o.0, refl), o.1)

  pub refused_step : (guid : Guid) (disk left : D) → ((events : List Event) → Keeps (may_leave disk) guid events → Keeps (may_leave left) guid (events ++ NotOpened ∷ []))
      → IsStep doc may_leave (Kept guid disk) Refused (Kept guid left)
  refused_step guid disk left h = λ events keeps. (NotOpened ∷ [], refl, h events keeps)

  pub closed_step : (j : JournaledDoc C D) → IsStep doc may_leave (Open j) Closed (Kept j.kept.journal.guid j.kept.journal.disk)
  closed_step j = λ events is.
      ([], refl, same_events (Kept j.kept.journal.guid j.kept.journal.disk) events (kept_by j.kept.journal.guid events _ _ is.keepable is.tried is.stands.stands.safe))

  pub crash_step : (guid : Guid) (disk left : D) (c : List ℕ) → may_leave disk c → ((d : List ℕ) → may_leave left d → d ≡ c) → IsStep doc may_leave (Kept guid disk) Crash (Kept guid left)
  crash_step guid disk left c here only = λ events keeps. let o = crashed guid events (may_leave left) c keeps.keepable (keeps.safe c here) only in (Crashed o.0 ∷ [], (o.0, refl), o.1)

  pub inside_step : (j : JournaledDoc C D) (left : D) (call : Call) (c : List ℕ) → ((d : List ℕ) → may_leave left d → d ≡ c)
      → ((events : List Event) → InEra doc may_leave j events → IsDiskFault j.kept.journal.guid (era events).calls (era events).tried call c)
      → IsStep doc may_leave (Open j) (CrashInside call) (Kept j.kept.journal.guid left)
  inside_step j left call c only h = λ events is. elim (inside j.kept.journal.guid events call (may_leave left) c is.keepable (h events is) only) [
    | inl b ↦ (NotMended ∷ Crashed b.0 ∷ [], (b.0, inl refl), subst (λ (l : List Event). Keeps (may_leave left) j.kept.journal.guid l) (append_assoc events (NotMended ∷ []) (Crashed b.0 ∷ [])) b.1)
    | inr b ↦ (NotAppended call ∷ Crashed b.0 ∷ [], (b.0, inr refl), subst (λ (l : List Event). Keeps (may_leave left) j.kept.journal.guid l) (append_assoc events (NotAppended call ∷ []) (Crashed b.0 ∷ [])) b.1)
  ]

  pub crash_opening : (guid : Guid) (disk left : D) (c : List ℕ) → may_leave disk c → ((d : List ℕ) → may_leave left d → d ≡ c) → IsStep doc may_leave (Kept guid disk) CrashOpening (Kept guid left)
  crash_opening guid disk left c here only = λ events keeps.
      let o = behind guid events NotOpened (may_leave left) c keeps.keepable (keeps.safe c here) only in
      (NotOpened ∷ Crashed o.0 ∷ [], (o.0, refl), subst (λ (l : List Event). Keeps (may_leave left) guid l) (append_assoc events (NotOpened ∷ []) (Crashed o.0 ∷ [])) o.1)

  pub begun_step : (guid : Guid) (disk new : D) → NoneIsNew (may_leave disk) (may_leave new) → IsStep doc may_leave (Kept guid disk) Closed (Kept guid new)
  begun_step guid disk new none = λ events keeps. ([], refl, same_events (Kept guid new) events (record { keepable = keeps.keepable; safe = λ c h. keeps.safe c (none c h) }))

  pub all_are : AreAllSteps doc may_leave
  all_are = record { call = call_step; closed = closed_step; reopened = opening_step; refused = refused_step; crash = crash_step; opening = crash_opening; begun = begun_step; inside = inside_step }
