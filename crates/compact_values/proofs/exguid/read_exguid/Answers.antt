use Rattle.std.proofs.Common.{◌∙◌, sym, drop, length, arith}
use Rattle.compact_values.specs.Ids.{SpellsExGuid}
use Rattle.compact_values.specs.IdReading.{exguid_at}
use Rattle.compact_values.proofs.exguid.read_exguid.Goals as goal
use Rattle.compact_values.proofs.Codes.{IsFoundAt-of, IsShortAt-of, IsOutOfFormAt-of, takes_no_memory}
use Rattle.compact_values.proofs.IdCode.{exguid_code}

pub returns-clause-found : goal.returns-clause-found
returns-clause-found c = IsFoundAt-of SpellsExGuid exguid_at exguid_code c.args.bytes.now c.args.at c.requires (λ i. omega (arith, c.type_inv.bytes i)) c.exguid_at.result c.exguid_at.ensures.exact

pub returns-clause-short : goal.returns-clause-short
returns-clause-short c = IsShortAt-of SpellsExGuid exguid_at exguid_code c.args.bytes.now c.args.at c.requires (λ i. omega (arith, c.type_inv.bytes i)) c.exguid_at.result c.exguid_at.ensures.exact

pub returns-clause-out_of_form : goal.returns-clause-out_of_form
returns-clause-out_of_form c = IsOutOfFormAt-of SpellsExGuid exguid_at exguid_code c.args.bytes.now c.args.at c.requires (λ i. omega (arith, c.type_inv.bytes i)) c.exguid_at.result c.exguid_at.ensures.exact

pub returns-clause-memory : goal.returns-clause-memory
returns-clause-memory c e = takes_no_memory (length c.args.bytes.now) c.args.at (exguid_at (drop c.args.at c.args.bytes.now)) (sym c.exguid_at.ensures.exact ∙ e)
