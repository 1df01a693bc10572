use Rattle.std.proofs.Common.{◌≡◌, drop}
use Rattle.envelope_read.specs.Lookup.{value_of}
use Rattle.envelope_read.proofs.lookup.value_of.Given as goal

abbrev pub invariant-loop-attribute : goal.invariant-loop-attribute
invariant-loop-attribute l = value_of l.word (drop l.attribute-index l.attributes) ≡ value_of l.word l.attributes
