use Rattle.std.proofs.Common.{arith}
use Rattle.data_elements.proofs.ElementSizes.{package_size}
use Rattle.data_elements.proofs.SpelledSizes.{tree_long}
use Rattle.data_elements.proofs.laws.hardly_longer.Goals as goal

pub returns : goal.returns
returns c = λ input t from next es stands is. omega (arith, package_size input t es is, tree_long input t from next stands)
