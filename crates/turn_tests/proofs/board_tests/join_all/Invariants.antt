use Rattle.std.proofs.Common.{All}
use Rattle.turn_board.specs.Counting.{IsFree}
use Rattle.turn_tests.proofs.board_tests.join_all.Given as goal

abbrev pub invariant-loop-from : goal.invariant-loop-from
invariant-loop-from l = IsFree l.board l.into × All (IsFree l.board) l.seats.items

abbrev pub decreases-loop-from : goal.decreases-loop-from
decreases-loop-from l = goal.left-loop-from l
