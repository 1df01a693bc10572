-- Reading binary items.
use Rattle.std.specs.Prelude.{ℕ, ◌+◌, ◌-◌, List, length, take, drop, nat_lt, Result, Ok, Err, if◌then◌else◌}
use Rattle.compact_values.specs.Reading.{Reading, Value, Cut, Malformed, compact_at}
use Rattle.compact_values.specs.declared.fault.ValueFault.{ValueFault}
use Rattle.compact_values.specs.declared.fault.ValueFault.TheVariants.{Short, OutOfForm}
use Rattle.compact_values.specs.declared.span.Span.{Span}

-- the content behind a length that takes `used` bytes
abbrev pub content_at : ℕ → ℕ → List ℕ → Reading (List ℕ)
content_at count used rest = if nat_lt (length rest) count then Cut else Value (take count rest) (used + count)

abbrev pub content_behind : Reading ℕ → List ℕ → Reading (List ℕ)
content_behind (Value count used) bytes = content_at count used (drop used bytes)
content_behind Cut bytes = Cut
content_behind Malformed bytes = Malformed

unfoldable pub item_at : List ℕ → Reading (List ℕ)
item_at bytes = content_behind (compact_at bytes) bytes

-- the answer of a reader that gives the place of the content
abbrev pub span_answer : ℕ → ℕ → Reading (List ℕ) → Result (Span × ℕ) ValueFault
span_answer len at (Value content used) = Ok (record { from = at + used - length content; to = at + used }, at + used)
span_answer len at Cut = Err (Short len)
span_answer len at Malformed = Err (OutOfForm at)
