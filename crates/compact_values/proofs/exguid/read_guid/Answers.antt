use Rattle.std.proofs.Common.{arith}
use Rattle.compact_values.specs.Ids.{SpellsGuid}
use Rattle.compact_values.specs.IdReading.{guid_at}
use Rattle.compact_values.proofs.exguid.read_guid.Goals as goal
use Rattle.compact_values.proofs.Codes.{IsFoundAt-of, IsShortAt-of}
use Rattle.compact_values.proofs.IdCode.{guid_code}

pub returns-clause-found : goal.returns-clause-found
returns-clause-found c = IsFoundAt-of SpellsGuid guid_at guid_code c.args.bytes.now c.args.at c.requires (λ i. omega (arith, c.type_inv.bytes i)) c.guid_at.result c.guid_at.ensures.exact

pub returns-clause-short : goal.returns-clause-short
returns-clause-short c = IsShortAt-of SpellsGuid guid_at guid_code c.args.bytes.now c.args.at c.requires (λ i. omega (arith, c.type_inv.bytes i)) c.guid_at.result c.guid_at.ensures.exact
