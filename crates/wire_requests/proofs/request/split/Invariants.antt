use Rattle.std.proofs.Common.{◌≡◌, take, drop}
use Rattle.wire_requests.specs.RequestReading.{split}
use Rattle.wire_requests.proofs.Splits.{fronted}
use Rattle.wire_requests.proofs.request.split.Given as goal

abbrev pub invariant-loop-at : goal.invariant-loop-at
invariant-loop-at l = split l.trees ≡ fronted (take l.at l.trees) (split (drop l.at l.trees))
