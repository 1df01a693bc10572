use Rattle.std.proofs.Common.{◌≡◌, drop}
use Rattle.envelope_grammar.specs.Front.{behind_first}
use Rattle.envelope_grammar.proofs.front.behind_first.Given as goal

abbrev pub invariant-loop-i : goal.invariant-loop-i
invariant-loop-i l = behind_first l.word (drop l.i l.bytes) ≡ behind_first l.word l.bytes
