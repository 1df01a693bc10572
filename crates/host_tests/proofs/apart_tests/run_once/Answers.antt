use denote.Param.Send.{sendable}
use Rattle.std.proofs.Crossing.{crosses}
use Rattle.host_tests.proofs.Sendable.{kept_send}
use Rattle.host_tests.proofs.apart_tests.run_once.Goals as goal

pub change_and_pull-all-requires-send-J : goal.change_and_pull-all-requires-send-J
change_and_pull-all-requires-send-J g c κs within = search (sendable, crosses, kept_send) depth 40 fits 100000
