use Rattle.std.proofs.Common.{◌≡◌, refl, Some, None}
use Rattle.collection_run.specs.Progress.{IsAt, IsInCell, GoesOnInCell, caller_of, whole, with_cell}
use Rattle.collection_run.proofs.Closing.{answered, cell_calls, cell_ends}
use Rattle.collection_run.proofs.progress.proceed_in_cell.Goals as goal

pub returns-in-Some-clause-proceeds : goal.returns-in-Some-clause-proceeds
returns-in-Some-clause-proceeds c =
    let p = c.args.p.now in
    let cell = c.args.cell in
    let now = c.next_in_cell.new.cell in
    let goes : GoesOnInCell (caller_of p) cell.carried cell.request cell.answers now.answers (Some c.in-Some.call) =
    rw c.in-Some.is at (c.in_ok-call.ensures.goes (caller_of p) refl refl) in
    let same : whole (Some c.in-Some.call) now ≡ answered cell now.answers = rw c.in-Some.is at c.in_ok-call.ensures.same in
    cell_calls p cell now c.in-Some.call c.requires.progress c.requires.call goes same c.in_ok-call.ensures.forms

pub returns-in_ok-close-in-None-clause-proceeds : goal.returns-in_ok-close-in-None-clause-proceeds
returns-in_ok-close-in-None-clause-proceeds c =
    let p = c.args.p.now in
    let cell = c.args.cell in
    let now = c.next_in_cell.new.cell in
    let there : IsInCell (with_cell (Some cell) p) cell = c.requires.progress.cell in
    let at : IsAt p there.ask there.sub = record { ask_here = there.here.ask_here; sub_here = there.here.sub_here } in
    let goes : GoesOnInCell (caller_of p) cell.carried cell.request cell.answers now.answers None =
    rw c.in-None.is at (c.in_ok-call.ensures.goes (caller_of p) refl refl) in
    cell_ends p c.close.new.p cell now.answers there.ask there.sub at c.requires.call goes
    (rw c.in_ok-outcome-in-None.ensures at (c.in_ok-close-in-None.ensures.closes there.ask there.sub at))
