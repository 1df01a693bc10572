use Rattle.std.proofs.Common.{◌≡◌, None, sym, ◌∙◌, arith}
use Rattle.cell_journal.specs.Faults.{signature, differs}
use Rattle.cell_journal.proofs.Layouts.{header_is, header_whole}
use Rattle.cell_journal.proofs.reading.header_in.Goals as goal

pub returns-clause-ok : goal.returns-clause-ok
returns-clause-ok c =
    let none : differs 0 signature c.args.bytes.now ≡ None = sym c.first_difference.ensures ∙ c.in_default.is in
    header_is c.args.bytes.now c.guid_of.result none c.guid_of.ensures.bytes

pub returns-clause-whole : goal.returns-clause-whole
returns-clause-whole c =
    let none : differs 0 signature c.args.bytes.now ≡ None = sym c.first_difference.ensures ∙ c.in_default.is in
    (header_whole c.args.bytes.now none (omega (arith, c.if-bytes-lt24.false)), omega (arith, c.if-total-lt24.false))
