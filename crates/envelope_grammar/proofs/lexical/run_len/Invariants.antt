use Rattle.std.proofs.Common.{◌≡◌, ◌+◌, drop}
use Rattle.envelope_grammar.specs.Bytes.{run_len}
use Rattle.envelope_grammar.specs.Kinds.{in_kind}
use Rattle.envelope_grammar.proofs.lexical.run_len.Given as goal

abbrev pub invariant-loop-i : goal.invariant-loop-i
invariant-loop-i l = l.i + run_len (in_kind l.kind) (drop l.i l.bytes) ≡ run_len (in_kind l.kind) l.bytes
