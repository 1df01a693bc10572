use Rattle.envelope_grammar.proofs.Fronts.{not_utf8, so_utf8}
use Rattle.envelope_grammar.proofs.front.is_utf8.Goals as goal

pub returns-in-Ok : goal.returns-in-Ok
returns-in-Ok c = so_utf8 c.args.bytes.now c.in-Ok.ensures.cases.1

pub returns-in-Err : goal.returns-in-Err
returns-in-Err c = not_utf8 c.args.bytes.now c.in-Err.ensures.cases.0
