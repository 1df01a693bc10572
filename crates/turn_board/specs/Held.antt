-- The value that a turn gives.
use Rattle.turn_board.specs.declared.held.Held.{Held}

module _ {S : Type 0} where
  abbrev pub value_in : Held S → S
  value_in held = held.value

  abbrev pub with_value : Held S → S → Held S
  with_value held y = record held { value = y }
