use Rattle.std.proofs.Common.{◌≡◌, drop}
use Rattle.data_elements.specs.GroupReading.{carriers_agree}
use Rattle.data_elements.proofs.group.carriers_agree.Given as goal

abbrev pub invariant-loop-declaration : goal.invariant-loop-declaration
invariant-loop-declaration l = carriers_agree (drop l.declaration-index l.declarations) l.left ≡ carriers_agree l.declarations l.held
