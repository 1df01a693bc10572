use Rattle.compact_values.specs.Ids.{SpellsGuid}
use Rattle.compact_values.specs.IdReading.{guid_at}
use Rattle.compact_values.proofs.laws.one_guid_spelling.Goals as goal
use Rattle.compact_values.proofs.Codes.{one_spelling}
use Rattle.compact_values.proofs.IdCode.{guid_code}

pub returns : goal.returns
returns c = one_spelling SpellsGuid guid_at guid_code
