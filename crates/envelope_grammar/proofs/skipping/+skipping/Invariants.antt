use Rattle.std.proofs.Common.{◌+◌, ◌*◌, ℕ, List}
use Rattle.envelope_grammar.specs.Reading.{inside_step, skipped}
use Rattle.envelope_grammar.proofs.Loops.{IsReading}
use Rattle.envelope_grammar.proofs.skipping.+skipping.Given as goal

abbrev pub decreases-inside_step : goal.decreases-inside_step
decreases-inside_step l = 3 * l.levels + 1

abbrev pub decreases-past_content : goal.decreases-past_content
decreases-past_content l = 3 * l.levels + 2

abbrev pub decreases-skipped : goal.decreases-skipped
decreases-skipped l = 3 * l.levels

abbrev pub invariant-past_content-reading : goal.invariant-past_content-reading
invariant-past_content-reading l = (front : List (List ℕ)) × IsReading (inside_step (skipped l.levels)) l.bytes l.counter front l.rest
