use Rattle.std.proofs.Common.{arith}
use Rattle.doc_model.specs.wire.ElementRows.{current_revision}
use Rattle.doc_model.proofs.SizeBounds.{exact-row, few-current}
use Rattle.doc_model.proofs.weighing.current_weight.Goals as goal

pub returns-clause-length : goal.returns-clause-length
returns-clause-length c = exact-row current_revision c.args.current.now c.row_size.result (omega (arith, few-current c.args.current.now)) c.row_size.ensures
