use Rattle.std.proofs.Common.{◌≡◌, ◌<◌, ◌^◌, ◌-◌, inr, sym, subst, ◌∙◌, ℕ, List, arith}
use Rattle.host_edge.proofs.Untouching.{untouched_trans}
use Rattle.compact_values.specs.declared.guid.Guid.{Guid}
use Rattle.journaled_doc.specs.Eras.{bodies}
use Rattle.journaled_doc.specs.Replays.{Replays, IsNoChange}
use Rattle.journaled_doc.proofs.Replaying.{err_is, gave, goes_on, body_at, is_no_change}
use Rattle.journaled_doc.proofs.opening.replay_all.Goals as goal

pub loop-body-preserved : goal.loop-body-preserved
loop-body-preserved g c =
    let is = c.loop-body.invariant in
    let done = subst (λ (b : List ℕ). Replays (g.C.Core.doc c.loop-body.core) b (g.C.Core.doc c.replay_one.new.core)) c.as_slice.ensures c.in-Ok.ensures.done in
    record {
      replay = goes_on g.D.Disk.seen g.D.Disk.may_leave c.loop-body.reading c.next.new.self _ _ _ is.replay (gave g.D.Disk.seen g.D.Disk.may_leave c.in-Ok-Body.field-0 (bodies is.replay.calls) _ c.next.new.self c.in-Ok-Body.field-0-is (c.in-Ok-Body.ensures.gives (bodies is.replay.calls) is.replay.given)) c.next.ensures.guid done;
      same = untouched_trans g.D.Disk.seen g.D.Disk.may_leave g.D.Disk.moment g.D.Disk.left_since _ _ _ is.same c.next.ensures.same;
      guid = c.next.ensures.guid ∙ is.guid;
      kept = c.in-Ok-Body.ensures.cause.kept ∙ is.kept;
    }

pub overflow_sub-place : goal.overflow_sub-place
overflow_sub-place g c =
    let is = c.loop-body.invariant in
    let at = body_at g.D.Disk.seen g.D.Disk.may_leave c.next.new.self c.loop-body.reading.guid (bodies is.replay.calls) _ (gave g.D.Disk.seen g.D.Disk.may_leave c.in-Ok-Body.field-0 (bodies is.replay.calls) _ c.next.new.self c.in-Ok-Body.field-0-is (c.in-Ok-Body.ensures.gives (bodies is.replay.calls) is.replay.given)) c.next.ensures.guid in
    omega (arith, at, c.at.ensures, c.len.ensures)

pub returns-in-Err-NotAChange-clause-place : goal.returns-in-Err-NotAChange-clause-place
returns-in-Err-NotAChange-clause-place g c = λ place bytes told err.
    let is = c.loop-body.invariant in
    let given = gave g.D.Disk.seen g.D.Disk.may_leave c.in-Ok-Body.field-0 (bodies is.replay.calls) _ c.next.new.self c.in-Ok-Body.field-0-is (c.in-Ok-Body.ensures.gives (bodies is.replay.calls) is.replay.given) in
    let at = body_at g.D.Disk.seen g.D.Disk.may_leave c.next.new.self c.loop-body.reading.guid (bodies is.replay.calls) _ given c.next.ensures.guid in
    let same : c.at.result - c.len.result ≡ place = cc in
    let refused = subst (λ (b : List ℕ). IsNoChange (g.C.Core.doc c.loop-body.core) b) c.as_slice.ensures (c.in-Err-NotAChange.ensures.refused (err_is c.in-Err-NotAChange.field-0 _ c.in-Err-NotAChange.field-0-is)) in
    inr (is_no_change g.D.Disk.seen g.D.Disk.may_leave c.loop-body.reading c.next.new.self _ _ place bytes is.replay given c.next.ensures.guid (subst (λ (x : Guid). x.number < 2 ^ 128) (sym is.guid) c.requires.number) (c.next.ensures.same.reads ∙ is.same.reads ∙ told) refused
    (omega (arith, same, at, c.at.ensures, c.len.ensures)))
