use Rattle.std.proofs.Common.{All}
use Rattle.turn_board.specs.Counting.{IsFree, IsReady}
use Rattle.turn_tests.proofs.board_tests.split_all.Given as goal

abbrev pub invariant-loop : goal.invariant-loop
invariant-loop l = IsFree l.board l.first × All (IsReady l.turns l.board) l.seats.items
