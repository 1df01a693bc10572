use Rattle.envelope_grammar.specs.Reading.{attribute_step}
use Rattle.envelope_grammar.proofs.Loops.{IsReading}
use Rattle.envelope_grammar.proofs.tags.attributes_at.Given as goal

abbrev pub invariant-reading : goal.invariant-reading
invariant-reading l = IsReading attribute_step l.bytes l.counter l.attributes l.rest
