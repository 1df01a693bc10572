use Rattle.std.proofs.Common.{arith}
use Rattle.data_elements.proofs.package.read_some.Goals as goal
use Rattle.data_elements.proofs.PackageAnswer.{package_is, fault_is}

pub returns-in-Err : goal.returns-in-Err
returns-in-Err c = fault_is c.args.bytes.now (λ i. omega (arith, c.type_inv.bytes i)) c.args.tree.now c.in-Err.fault c.in-Err.ensures

pub returns-then-len-gt-MOST_ELEMENTS : goal.returns-then-len-gt-MOST_ELEMENTS
returns-then-len-gt-MOST_ELEMENTS c =
    let all = package_is c.args.bytes.now (λ i. omega (arith, c.type_inv.bytes i)) c.args.tree.now c.in-Ok.elements c.in-Ok.ensures in
    (c.in-Ok.elements, all, omega (arith, c.len.ensures, c.if-len-gt-MOST_ELEMENTS.true))

pub returns-else-len-gt-MOST_ELEMENTS : goal.returns-else-len-gt-MOST_ELEMENTS
returns-else-len-gt-MOST_ELEMENTS c =
    (package_is c.args.bytes.now (λ i. omega (arith, c.type_inv.bytes i)) c.args.tree.now c.in-Ok.elements c.in-Ok.ensures, omega (arith, c.len.ensures, c.if-len-gt-MOST_ELEMENTS.false))
