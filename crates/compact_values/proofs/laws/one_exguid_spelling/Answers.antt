use Rattle.compact_values.specs.Ids.{SpellsExGuid}
use Rattle.compact_values.specs.IdReading.{exguid_at}
use Rattle.compact_values.proofs.laws.one_exguid_spelling.Goals as goal
use Rattle.compact_values.proofs.Codes.{one_spelling}
use Rattle.compact_values.proofs.IdCode.{exguid_code}

pub returns : goal.returns
returns c = one_spelling SpellsExGuid exguid_at exguid_code
