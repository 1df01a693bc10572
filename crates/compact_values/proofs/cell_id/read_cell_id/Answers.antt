use Rattle.std.proofs.Common.{arith}
use Rattle.compact_values.specs.Ids.{SpellsCellId}
use Rattle.compact_values.specs.Placed.{LacksInCellId, cell_id_at}
use Rattle.compact_values.proofs.CellIdCode.{cell_id_parts}
use Rattle.compact_values.proofs.Parts.{found_parts, short_parts, out_of_form_parts, refused_parts, parts_take_no_memory}
use Rattle.compact_values.proofs.cell_id.read_cell_id.Goals as goal

pub returns-clause-found : goal.returns-clause-found
returns-clause-found c = found_parts SpellsCellId LacksInCellId cell_id_at cell_id_parts c.args.bytes.now c.args.at c.requires (λ i. omega (arith, c.type_inv.bytes i)) c.cell_id_at.result c.cell_id_at.ensures.exact

pub returns-clause-short : goal.returns-clause-short
returns-clause-short c = short_parts SpellsCellId LacksInCellId cell_id_at cell_id_parts c.args.bytes.now c.args.at c.requires (λ i. omega (arith, c.type_inv.bytes i)) c.cell_id_at.result c.cell_id_at.ensures.exact

pub returns-clause-refused : goal.returns-clause-refused
returns-clause-refused c = refused_parts SpellsCellId LacksInCellId cell_id_at cell_id_parts c.args.bytes.now c.args.at c.requires (λ i. omega (arith, c.type_inv.bytes i)) c.cell_id_at.result c.cell_id_at.ensures.exact

pub returns-clause-out_of_form : goal.returns-clause-out_of_form
returns-clause-out_of_form c = out_of_form_parts SpellsCellId LacksInCellId cell_id_at cell_id_parts c.args.bytes.now c.args.at c.requires (λ i. omega (arith, c.type_inv.bytes i)) c.cell_id_at.result c.cell_id_at.ensures.exact

pub returns-clause-memory : goal.returns-clause-memory
returns-clause-memory c = parts_take_no_memory SpellsCellId LacksInCellId cell_id_at cell_id_parts c.args.bytes.now c.args.at c.requires (λ i. omega (arith, c.type_inv.bytes i)) c.cell_id_at.result c.cell_id_at.ensures.exact
