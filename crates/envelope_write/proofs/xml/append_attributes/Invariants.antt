use Rattle.std.proofs.Common.{◌≡◌, ◌++◌, drop}
use Rattle.envelope_write.specs.Attributes.{as_pairs}
use Rattle.envelope_write.specs.Xml.{attributes_text}
use Rattle.envelope_write.proofs.xml.append_attributes.Given as goal

abbrev pub invariant-loop-attribute : goal.invariant-loop-attribute
invariant-loop-attribute l = l.out.items ++ attributes_text (as_pairs (drop l.attribute-index l.attributes)) ≡ l.fn.out.items ++ attributes_text (as_pairs l.attributes)
