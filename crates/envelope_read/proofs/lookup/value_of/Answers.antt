use Rattle.std.proofs.Common.{sym, ◌∙◌, arith}
use Rattle.envelope_read.proofs.Lookups.{found_here, found_later, found_never}
use Rattle.envelope_read.proofs.lookup.value_of.Goals as goal

pub returns-then-is_called : goal.returns-then-is_called
returns-then-is_called c =
    sym c.loop-attribute.invariant ∙ found_here c.args.word.now c.args.attributes.now c.loop-attribute.attribute-index c.attribute-item.result c.attribute-item.is (omega arith) c.if-is_called.ensures

pub loop-attribute-preserved : goal.loop-attribute-preserved
loop-attribute-preserved c =
    sym (found_later c.args.word.now c.args.attributes.now c.loop-attribute.attribute-index c.attribute-item.result c.attribute-item.is (omega arith) c.if-is_called.ensures) ∙ c.loop-attribute.invariant

pub returns : goal.returns
returns c = sym c.loop-attribute.invariant ∙ found_never c.args.word.now c.args.attributes.now c.loop-attribute.attribute-index (omega arith)
