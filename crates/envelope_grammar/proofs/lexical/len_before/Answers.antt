use Rattle.std.proofs.Common.{sym}
use Rattle.envelope_grammar.proofs.Places.{first_place, no_place}
use Rattle.envelope_grammar.proofs.lexical.len_before.Goals as goal

pub returns-in-Some-clause-run : goal.returns-in-Some-clause-run
returns-in-Some-clause-run c = sym (first_place c.args.end c.args.bytes.now c.in-Some.at c.in-Some.ensures)

pub returns-in-None-clause-run : goal.returns-in-None-clause-run
returns-in-None-clause-run c = sym (no_place c.args.end c.args.bytes.now c.in-None.ensures)
