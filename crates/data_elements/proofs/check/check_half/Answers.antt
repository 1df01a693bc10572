use Rattle.std.proofs.Common.{arith}
use Rattle.data_elements.proofs.Carriers.{second_half}
use Rattle.data_elements.proofs.check.check_half.Goals as goal

pub returns-then-tree-eq-OBJECT_GROUP_DATA : goal.returns-then-tree-eq-OBJECT_GROUP_DATA
returns-then-tree-eq-OBJECT_GROUP_DATA c =
    let held = rw c.as_slice-then-tree-eq-OBJECT_GROUP_DATA.ensures at c.check_both-then-tree-eq-OBJECT_GROUP_DATA.ensures in
    rw (second_half c.args.tree.now (omega (arith, c.if-tree-eq-OBJECT_GROUP_DATA.true))) held
