use Rattle.std.proofs.Common.{arith}
use Rattle.data_elements.proofs.package.read_package.Goals as goal
use Rattle.data_elements.proofs.PackageAnswer.{one_only}

pub returns-clause-only : goal.returns-clause-only
returns-clause-only c = one_only c.args.bytes.now (λ i. omega (arith, c.type_inv.bytes i)) c.args.tree.now c.read_some.result c.read_some.ensures
