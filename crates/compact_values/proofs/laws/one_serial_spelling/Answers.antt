use Rattle.compact_values.specs.Ids.{SpellsSerial}
use Rattle.compact_values.specs.IdReading.{serial_at}
use Rattle.compact_values.proofs.laws.one_serial_spelling.Goals as goal
use Rattle.compact_values.proofs.Codes.{one_spelling}
use Rattle.compact_values.proofs.IdCode.{serial_code}

pub returns : goal.returns
returns c = one_spelling SpellsSerial serial_at serial_code
