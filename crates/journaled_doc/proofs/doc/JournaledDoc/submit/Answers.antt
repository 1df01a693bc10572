use Rattle.std.proofs.Common.{◌++◌, refl, ap, ◌∙◌}
use Rattle.doc_model.specs.rules.Histories.{History}
use Rattle.doc_model.specs.laws.Histories.{gained}
use Rattle.doc_story.specs.Telling.{told}
use Rattle.doc_story.specs.declared.told.Told.{Told}
use Rattle.journaled_doc.specs.Docs.{history}
use Rattle.journaled_doc.proofs.Submits.{became, became_like, gained_told, last_is, journaled}
use Rattle.journaled_doc.proofs.doc.JournaledDoc.submit.Goals as goal

pub returns-clause-gains : goal.returns-clause-gains
returns-clause-gains g c =
    let a = c.attempt-moved.ensures in
    let call = c.args.call.now in
    ap (λ (t : Told). t.history) c.note.ensures ∙ ap (λ s. (told s).history ++ gained c.args.caller call c.attempt-moved.result.1 c.attempt-moved.result.0) a.story
    ∙ ap (λ (h : History). history c.args.self.now ++ h) (gained_told c.args.caller call c.attempt-moved.result.1 c.attempt-moved.result.0 _ a.moves)

pub returns-clause-era : goal.returns-clause-era
returns-clause-era g c = λ events is.
    let a = c.attempt-moved.ensures in
    became_like g.C.Core.doc g.D.Disk.may_leave g.D.Disk.moment g.D.Disk.left_since g.D.Disk.faults c.attempt-moved.new.self _ events c.args.call.now _ c.attempt-moved.result.1 refl refl
    (became g.C.Core.doc g.D.Disk.may_leave g.D.Disk.moment g.D.Disk.left_since g.D.Disk.faults c.args.self.now c.attempt-moved.new.self events c.args.call.now c.attempt-moved.result.0 c.attempt-moved.result.1 a is)

pub returns-clause-last : goal.returns-clause-last
returns-clause-last g c =
    last_is c.args.caller c.args.call.now c.attempt-moved.result.1 c.attempt-moved.result.0 _ _ _ _ _ _ c.attempt-moved.ensures.moves (ap (λ (t : Told). t.last) c.note.ensures) (ap g.D.Disk.faults (c.of-before.ensures ∙ c.disk.ensures)) (ap g.D.Disk.faults c.disk-2.ensures)

pub returns-clause-journaled : goal.returns-clause-journaled
returns-clause-journaled g c = λ is.
    journaled g.C.Core.doc g.D.Disk.may_leave g.D.Disk.moment g.D.Disk.left_since g.D.Disk.faults c.args.self.now c.attempt-moved.new.self _ c.args.caller c.args.call.now c.attempt-moved.result.0 c.attempt-moved.result.1 c.attempt-moved.ensures
    refl refl (record { first = refl; opened = refl; before = refl; guid = refl }) (returns-clause-gains g c) is
