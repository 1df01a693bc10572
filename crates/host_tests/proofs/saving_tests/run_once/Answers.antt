use denote.Param.Send.{sendable}
use Rattle.host_tests.proofs.Sendable.{kept_send}
use Rattle.host_tests.proofs.saving_tests.run_once.Goals as goal

pub save_in_two_threads-one-requires-send-J : goal.save_in_two_threads-one-requires-send-J
save_in_two_threads-one-requires-send-J g c κs within = search (sendable, kept_send) depth 20 fits 100000
