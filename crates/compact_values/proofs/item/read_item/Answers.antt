use Rattle.std.proofs.Common.{arith}
use Rattle.compact_values.proofs.ItemCode.{found_item, short_item, out_of_form_item, item_takes_no_memory}
use Rattle.compact_values.proofs.item.read_item.Goals as goal

pub returns-clause-found : goal.returns-clause-found
returns-clause-found c = found_item c.args.bytes.now c.args.at c.requires (λ i. omega (arith, c.type_inv.bytes i)) c.item_at.result c.item_at.ensures.exact

pub returns-clause-short : goal.returns-clause-short
returns-clause-short c = short_item c.args.bytes.now c.args.at c.requires (λ i. omega (arith, c.type_inv.bytes i)) c.item_at.result c.item_at.ensures.exact

pub returns-clause-out_of_form : goal.returns-clause-out_of_form
returns-clause-out_of_form c = out_of_form_item c.args.bytes.now c.args.at c.requires (λ i. omega (arith, c.type_inv.bytes i)) c.item_at.result c.item_at.ensures.exact

pub returns-clause-memory : goal.returns-clause-memory
returns-clause-memory c = item_takes_no_memory c.args.bytes.now c.args.at c.requires (λ i. omega (arith, c.type_inv.bytes i)) c.item_at.result c.item_at.ensures.exact
