use Rattle.std.proofs.Common.{◌≡◌, sym, ap, subst, ◌∙◌, ◌<◌, ◌^◌}
use Rattle.std.specs.Prelude.{option_map}
use Rattle.compact_values.specs.declared.guid.Guid.{Guid}
use Rattle.cell_journal.specs.Layout.{Image}
use Rattle.doc_model.specs.rules.Apply.{empty_doc}
use Rattle.journaled_doc.specs.Eras.{bodies, Keeps}
use Rattle.journaled_doc.specs.Replays.{AreChanges}
use Rattle.journaled_doc.proofs.Eras.{found_in}
use Rattle.journaled_doc.proofs.Reopened.{opened_in, reopened}
use Rattle.journaled_doc.proofs.Openable.{opens}
use Rattle.journaled_doc.proofs.Replaying.{err_is}
use Rattle.journaled_doc.proofs.Soundness.{reopened_sound}
use Rattle.journaled_doc.proofs.doc.JournaledDoc.recover.Goals as goal

pub returns-in-Ok-replay_all-clause-era : goal.returns-in-Ok-replay_all-clause-era
returns-in-Ok-replay_all-clause-era g c = λ guid events bytes big told keeps_there.
    let r = c.in-Ok-replay_all.ensures.done in
    let same = c.replay_all.ensures.same in
    let image = (same.images bytes).1 (g.met.D.Disk.reads_image c.args.reading.disk bytes told) in
    let left = subst (λ d. g.D.Disk.may_leave d bytes) (sym c.finish.ensures.disk) image in
    let small : c.args.reading.guid.number < 2 ^ 128 = subst (λ (x : Guid). x.number < 2 ^ 128) c.guid.ensures c.guid_fits.ensures in
    let f = found_in guid _ _ bytes (keeps_there.safe bytes (g.met.D.Disk.reads_image c.args.reading.disk bytes told)) in
    let there = (c.finish.ensures.stands (bodies r.calls) r.given).safe bytes left in
    let here = subst (λ (x : Guid). Image x (bodies r.calls) bytes) (c.finish.ensures.guid ∙ c.replay_all.ensures.guid) there in
    let own : c.args.reading.guid ≡ guid = (c.one_journal.ensures bytes c.args.reading.guid guid (bodies r.calls) _ small big here f.1).0 in
    let keeps = subst (λ (x : Guid). Keeps (g.D.Disk.may_leave c.args.reading.disk) x events) (sym own) keeps_there in
    opened_in g.C.Core.doc g.D.Disk.seen g.D.Disk.may_leave c.opened.result c.replay_all.new.reading c.finish.result c.args.reading.guid _ events bytes r (c.finish.ensures.stands (bodies r.calls) r.given)
    (ap g.C.Core.doc c.opened.ensures.core_is) c.opened.ensures.journal_is (ap (λ o. option_map (λ s. s.value) o) c.opened.ensures.tried_is) (c.finish.ensures.guid ∙ c.replay_all.ensures.guid) c.replay_all.ensures.guid left
    keeps.keepable (keeps.safe bytes (g.met.D.Disk.reads_image c.args.reading.disk bytes told))
    (λ xs ys a b. (c.one_journal.ensures bytes c.args.reading.guid c.args.reading.guid xs ys small small a b).1)

pub returns-in-Err-replay_all-clause-place : goal.returns-in-Err-replay_all-clause-place
returns-in-Err-replay_all-clause-place g c = λ place bytes told err. c.in-Err-replay_all.ensures.place place bytes told (err_is c.in-Err-replay_all.fault _ err)

pub returns-in-Ok-replay_all-clause-document : goal.returns-in-Ok-replay_all-clause-document
returns-in-Ok-replay_all-clause-document g c =
    let r = c.in-Ok-replay_all.ensures.done in
    reopened g.C.Core.doc g.D.Disk.seen g.D.Disk.may_leave c.opened.result c.replay_all.new.reading c.finish.result c.args.reading.guid _ c.args.reading.disk r (c.finish.ensures.stands (bodies r.calls) r.given)
    (ap g.C.Core.doc c.opened.ensures.core_is) c.opened.ensures.journal_is (ap (λ o. option_map (λ s. s.value) o) c.opened.ensures.tried_is) (c.finish.ensures.guid ∙ c.replay_all.ensures.guid) c.replay_all.ensures.guid
    (λ bytes told. subst (λ d. g.D.Disk.may_leave d bytes) (sym c.finish.ensures.disk) ((c.replay_all.ensures.same.images bytes).1 (g.met.D.Disk.reads_image c.args.reading.disk bytes told)))

pub returns-in-Ok-replay_all-clause-opens : goal.returns-in-Ok-replay_all-clause-opens
returns-in-Ok-replay_all-clause-opens g c = λ place bytes told fails.
    let r = c.in-Ok-replay_all.ensures.done in
    let small : c.args.reading.guid.number < 2 ^ 128 = subst (λ (x : Guid). x.number < 2 ^ 128) c.guid.ensures c.guid_fits.ensures in
    let own : c.replay_all.new.reading.guid ≡ c.args.reading.guid = c.replay_all.ensures.guid in
    let read_there = g.met.D.Disk.reads_image c.args.reading.disk bytes told in
    let left = subst (λ d. g.D.Disk.may_leave d bytes) (sym c.finish.ensures.disk) ((c.replay_all.ensures.same.images bytes).1 read_there) in
    let there = (c.finish.ensures.stands (bodies r.calls) r.given).safe bytes left in
    let here = subst (λ (x : Guid). Image x (bodies r.calls) bytes) (c.finish.ensures.guid ∙ own) there in
    opens c.args.reading.guid r.calls bytes place small (subst (λ (x : Guid). AreChanges (empty_doc x) r.calls) own r.changes) r.only here c.whole_bodies_come_first.ensures c.no_journal_where_it_fails.ensures fails

pub returns-in-Ok-replay_all-clause-sound : goal.returns-in-Ok-replay_all-clause-sound
returns-in-Ok-replay_all-clause-sound g c = reopened_sound g.C.Core.doc g.D.Disk.seen g.D.Disk.may_leave c.args.reading.disk c.opened.result (returns-in-Ok-replay_all-clause-document g c)
