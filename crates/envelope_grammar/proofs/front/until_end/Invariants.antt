use Rattle.std.proofs.Common.{◌≡◌, take, drop}
use Rattle.envelope_grammar.specs.Front.{until_end}
use Rattle.envelope_grammar.proofs.Fronts.{end_front}
use Rattle.envelope_grammar.proofs.front.until_end.Given as goal

abbrev pub invariant-loop-i : goal.invariant-loop-i
invariant-loop-i l = end_front (take l.i l.bytes) (until_end (drop l.i l.bytes)) ≡ until_end l.bytes
