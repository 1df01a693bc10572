use Rattle.std.proofs.Common.{◌-◌}
use Rattle.compact_values.specs.IdReading.{exguid_at}
use Rattle.compact_values.specs.Placed.{single}
use Rattle.compact_values.proofs.ArrayLoops.{Underway}
use Rattle.compact_values.proofs.arrays.some_ids.Given as goal

-- what is left to be read, behind what was read, is what all is
abbrev pub invariant-loop-i : goal.invariant-loop-i
invariant-loop-i l = Underway (λ b. single (exguid_at b)) l.bytes l.at l.first l.count l.ids l.place (l.count - l._i)
