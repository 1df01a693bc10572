use Rattle.std.proofs.Common.{[], refl}
use Rattle.session_loop.specs.Courses.{course}
use Rattle.session_loop.specs.Driving.{no_memory}
use Rattle.session_loop.proofs.Joining.{nothing_passed}
use Rattle.session_loop.proofs.driving.drive_lone.Goals as goal

pub returns-in_default-clause-drives : goal.returns-in_default-clause-drives
returns-in_default-clause-drives g c = no_memory [] [] (nothing_passed _) (λ more requests ending cut. (course c.args.docs.now.names 10_000 requests ending, refl, tt))
