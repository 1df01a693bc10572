use Rattle.envelope_grammar.specs.Reading.{element_step}
use Rattle.envelope_grammar.proofs.Loops.{IsReading}
use Rattle.envelope_grammar.proofs.elements.children.Given as goal

abbrev pub invariant-reading : goal.invariant-reading
invariant-reading g l = IsReading (element_step g.C.Child.reads) l.bytes l.counter l.items l.rest
