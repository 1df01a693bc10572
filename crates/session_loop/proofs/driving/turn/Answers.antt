use Rattle.std.proofs.Common.{refl}
use Rattle.session_loop.specs.Driving.{over}
use Rattle.session_loop.proofs.Joining.{nothing_passed}
use Rattle.session_loop.proofs.Wanting.{over_future}
use Rattle.session_loop.proofs.driving.turn.Goals as goal

pub returns-in-Bytes-clause-turned : goal.returns-in-Bytes-clause-turned
returns-in-Bytes-clause-turned g c = c.take_bytes.ensures.turned _ refl refl

pub returns-in-Moment-clause-turned : goal.returns-in-Moment-clause-turned
returns-in-Moment-clause-turned g c = c.tell_moment.ensures.turned _ refl

pub returns-in-Submit-clause-turned : goal.returns-in-Submit-clause-turned
returns-in-Submit-clause-turned g c = c.make_call.ensures.turned _ refl

pub returns-in-Front-clause-turned : goal.returns-in-Front-clause-turned
returns-in-Front-clause-turned g c = c.give_count.ensures.turned _ refl

pub returns-in-Write-clause-turned : goal.returns-in-Write-clause-turned
returns-in-Write-clause-turned g c = c.write_output.ensures.turned _ refl refl

pub returns-in-End-clause-turned : goal.returns-in-End-clause-turned
returns-in-End-clause-turned g c = over c.in-End.end (nothing_passed _) (λ rest. over_future c.args.session.now rest c.in-End.end c.in-End.ensures)
