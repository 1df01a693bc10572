use Rattle.std.proofs.Common.{◌≡◌, ℕ, ◌-◌, List, length}
use Rattle.std.specs.List.{All}
use Rattle.doc_model.specs.declared.reply.Answer.{Answer}
use Rattle.wire_responses.specs.Forms.{HasForm}
use Rattle.collection_run.specs.Collections.{Caller}
use Rattle.collection_run.specs.Processes.{Process}
use Rattle.collection_run.specs.Progress.{cell_with}
use Rattle.collection_run.proofs.cell.next_in_cell.Given as goal

abbrev pub invariant-asking : goal.invariant-asking
invariant-asking l = record {
  forms : All (λ (a : Answer). HasForm a.submitted) l.cell.answers;
  kept : l.cell ≡ record l.fn.cell { answers = l.cell.answers };
  same : (c : Caller) (doc : ℕ) (go_on : List Answer → Process) → cell_with c doc l.cell.carried l.cell.request l.cell.answers go_on ≡ cell_with c doc l.fn.cell.carried l.fn.cell.request l.fn.cell.answers go_on;
}

abbrev pub decreases-asking : goal.decreases-asking
decreases-asking l = length l.cell.request.subs - length l.cell.answers
