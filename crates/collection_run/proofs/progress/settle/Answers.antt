use Rattle.std.proofs.Common.{◌≡◌, ◌∙◌, ap, sym, get_or, length, Some, Option}
use Rattle.doc_model.specs.declared.call.Call.{Call}
use Rattle.collection_run.specs.declared.cell.CellWork.{CellWork}
use Rattle.collection_run.specs.Progress.{IsNextInWhole, whole}
use Rattle.collection_run.proofs.Closing.{cell_settles_with, next_in, indexed}
use Rattle.collection_run.proofs.progress.settle.Goals as goal

pub returns-in_ok-push-in-Some-clause-settles : goal.returns-in_ok-push-in-Some-clause-settles
returns-in_ok-push-in-Some-clause-settles c =
    let p = c.args.p.now in
    let cell = c.in-Some.cell in
    let call = c.requires.call.0 in
    let back = c.take_back.new.cell in
    let is : p.cell ≡ Some cell = sym c.in-Some.ensures.value in
    let next : IsNextInWhole p (whole (Some call) cell) call = next_in p cell call is c.requires.call.2 in
    let back_is : back ≡ whole (Some call) cell = c.take_back.ensures ∙ ap (λ (o : Option Call). whole o cell) (c.take-call.ensures.value ∙ c.requires.call.1) in
    let s = c.index-as_slice-len.result in
    let s_is : s ≡ next.sub = indexed c.as_slice.result.now cell.request.subs (length cell.answers) s next.sub _
    (c.as_slice.ensures ∙ ap (λ (w : CellWork). w.request.subs) back_is)
    (c.index-as_slice-len.is ∙ ap (λ n. get_or c.as_slice.result.now n s) (c.len.ensures ∙ ap (λ (w : CellWork). length w.answers) back_is)) next.here in
    cell_settles_with p cell back call c.take-call.new.self c.args.submitted s c.push.new.self is c.requires.call.1 c.requires.progress next c.requires.call.3
    back_is c.take-call.ensures.after s_is c.in_ok-push-in-Some.ensures.ok

pub returns-in_ok-push-in-Some-clause-safe : goal.returns-in_ok-push-in-Some-clause-safe
returns-in_ok-push-in-Some-clause-safe c =
    let p = c.args.p.now in
    let cell = c.in-Some.cell in
    let call = c.requires.call.0 in
    let back = c.take_back.new.cell in
    let is : p.cell ≡ Some cell = sym c.in-Some.ensures.value in
    let next : IsNextInWhole p (whole (Some call) cell) call = next_in p cell call is c.requires.call.2 in
    let back_is : back ≡ whole (Some call) cell = c.take_back.ensures ∙ ap (λ (o : Option Call). whole o cell) (c.take-call.ensures.value ∙ c.requires.call.1) in
    let s = c.index-as_slice-len.result in
    let s_is : s ≡ next.sub = indexed c.as_slice.result.now cell.request.subs (length cell.answers) s next.sub _
    (c.as_slice.ensures ∙ ap (λ (w : CellWork). w.request.subs) back_is)
    (c.index-as_slice-len.is ∙ ap (λ n. get_or c.as_slice.result.now n s) (c.len.ensures ∙ ap (λ (w : CellWork). length w.answers) back_is)) next.here in
    (cell_settles_with p cell back call c.take-call.new.self c.args.submitted s c.push.new.self is c.requires.call.1 c.requires.progress next c.requires.call.3
    back_is c.take-call.ensures.after s_is c.in_ok-push-in-Some.ensures.ok).progress
