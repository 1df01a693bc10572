use Rattle.std.proofs.Common.{arith}
use Rattle.compact_values.specs.Items.{SpellsIds}
use Rattle.compact_values.specs.Placed.{LacksInIds, ids_at}
use Rattle.compact_values.proofs.IdArrays.{ids_parts}
use Rattle.compact_values.proofs.Parts.{found_parts, short_parts, out_of_form_parts, refused_parts}
use Rattle.compact_values.proofs.arrays.read_ids.Goals as goal

pub returns-clause-found : goal.returns-clause-found
returns-clause-found c some = found_parts SpellsIds LacksInIds ids_at ids_parts c.args.bytes.now c.args.at c.requires (λ i. omega (arith, c.type_inv.bytes i)) c.ids_at.result (c.ids_at.ensures.exact some)

pub returns-clause-short : goal.returns-clause-short
returns-clause-short c some = short_parts SpellsIds LacksInIds ids_at ids_parts c.args.bytes.now c.args.at c.requires (λ i. omega (arith, c.type_inv.bytes i)) c.ids_at.result (c.ids_at.ensures.exact some)

pub returns-clause-refused : goal.returns-clause-refused
returns-clause-refused c some = refused_parts SpellsIds LacksInIds ids_at ids_parts c.args.bytes.now c.args.at c.requires (λ i. omega (arith, c.type_inv.bytes i)) c.ids_at.result (c.ids_at.ensures.exact some)

pub returns-clause-out_of_form : goal.returns-clause-out_of_form
returns-clause-out_of_form c some = out_of_form_parts SpellsIds LacksInIds ids_at ids_parts c.args.bytes.now c.args.at c.requires (λ i. omega (arith, c.type_inv.bytes i)) c.ids_at.result (c.ids_at.ensures.exact some)
