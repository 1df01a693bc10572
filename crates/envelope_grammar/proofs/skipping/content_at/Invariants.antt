use Rattle.std.proofs.Common.{◌≡◌, ℕ, List}
use Rattle.std.specs.List.{concat}
use Rattle.envelope_grammar.specs.Reading.{inside_step, skipped}
use Rattle.envelope_grammar.proofs.Loops.{IsReading}
use Rattle.envelope_grammar.proofs.skipping.content_at.Given as goal

abbrev pub invariant-reading : goal.invariant-reading
invariant-reading l = (front : List (List ℕ)) × IsReading (inside_step (skipped l.levels)) l.bytes l.counter front l.rest × (l.text ≡ concat front)
