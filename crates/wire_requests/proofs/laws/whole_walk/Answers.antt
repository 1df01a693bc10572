use Rattle.std.proofs.Common.{◌+◌, refl}
use Rattle.wire_requests.proofs.WalkReaches.{same_walk}
use Rattle.wire_requests.proofs.laws.whole_walk.Goals as goal

pub returns : goal.returns
returns c = λ input t from next more h. same_walk input 12 (12 + more) more refl t from next h.object
