use Rattle.std.proofs.Common.{◌≤◌, vec_len}
use Rattle.turn_board.proofs.bells.Bells.silent.Given as goal

abbrev pub invariant-loop : goal.invariant-loop
invariant-loop l = 1 ≤ vec_len l.bells
