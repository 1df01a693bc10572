use Rattle.std.proofs.Common.{◌≤◌}
use Rattle.envelope_write.proofs.Escaping.{IsWritten}
use Rattle.envelope_write.proofs.xml.append_escaped.Given as goal

abbrev pub invariant-loop-i : goal.invariant-loop-i
invariant-loop-i l = record {
  within : l.from ≤ l.i;
  so_far : IsWritten l.fn.out.items l.out.items l.value l.from l.i;
}
