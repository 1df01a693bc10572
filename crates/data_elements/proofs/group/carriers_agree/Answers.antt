use Rattle.std.proofs.Common.{sym, ◌∙◌, arith}
use Rattle.data_elements.proofs.Carriers.{none_left}
use Rattle.data_elements.proofs.group.carriers_agree.Goals as goal

pub returns-in-empty : goal.returns-in-empty
returns-in-empty c =
    sym (none_left c.args.declarations.now c.loop-declaration.left.now c.loop-declaration.declaration-index (omega (arith, c.loop-declaration-test.true)) (omega (arith, c.in-empty.len_below)))
    ∙ c.loop-declaration.invariant
