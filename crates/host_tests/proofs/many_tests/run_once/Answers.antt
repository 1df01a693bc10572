use denote.Param.Send.{sendable}
use Rattle.host_tests.proofs.Sendable.{kept_send}
use Rattle.host_tests.proofs.many_tests.run_once.Goals as goal

pub call_in_threads-requires-send-J : goal.call_in_threads-requires-send-J
call_in_threads-requires-send-J g c κs within = search (sendable, kept_send) depth 20 fits 100000
