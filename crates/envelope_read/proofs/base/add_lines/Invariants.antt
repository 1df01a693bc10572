use Rattle.std.proofs.Common.{◌≡◌, ◌++◌, length}
use Rattle.envelope_read.specs.Base.{HasNo, without_white}
use Rattle.envelope_read.proofs.base.add_lines.Given as goal

abbrev pub invariant-lines : goal.invariant-lines
invariant-lines l = record { no_tab : HasNo 9 l.rest; added : l.kept ++ without_white l.rest ≡ l.fn.kept ++ without_white l.bytes }

abbrev pub decreases-lines : goal.decreases-lines
decreases-lines l = length l.rest
