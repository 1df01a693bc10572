use Rattle.std.proofs.Common.{◌∙◌, sym, drop, length, arith}
use Rattle.compact_values.specs.Ids.{SpellsSerial}
use Rattle.compact_values.specs.IdReading.{serial_at}
use Rattle.compact_values.proofs.serial.read_serial.Goals as goal
use Rattle.compact_values.proofs.Codes.{IsFoundAt-of, IsShortAt-of, IsOutOfFormAt-of, takes_no_memory}
use Rattle.compact_values.proofs.IdCode.{serial_code}

pub returns-clause-found : goal.returns-clause-found
returns-clause-found c = IsFoundAt-of SpellsSerial serial_at serial_code c.args.bytes.now c.args.at c.requires (λ i. omega (arith, c.type_inv.bytes i)) c.serial_at.result c.serial_at.ensures.exact

pub returns-clause-short : goal.returns-clause-short
returns-clause-short c = IsShortAt-of SpellsSerial serial_at serial_code c.args.bytes.now c.args.at c.requires (λ i. omega (arith, c.type_inv.bytes i)) c.serial_at.result c.serial_at.ensures.exact

pub returns-clause-out_of_form : goal.returns-clause-out_of_form
returns-clause-out_of_form c = IsOutOfFormAt-of SpellsSerial serial_at serial_code c.args.bytes.now c.args.at c.requires (λ i. omega (arith, c.type_inv.bytes i)) c.serial_at.result c.serial_at.ensures.exact

pub returns-clause-memory : goal.returns-clause-memory
returns-clause-memory c e = takes_no_memory (length c.args.bytes.now) c.args.at (serial_at (drop c.args.at c.args.bytes.now)) (sym c.serial_at.ensures.exact ∙ e)
