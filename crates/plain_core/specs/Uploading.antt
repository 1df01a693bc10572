-- What an upload speaks of.
use Rattle.std.specs.Prelude.{List, ◌++◌}
use Rattle.doc_model.specs.declared.element.Element.{Element}
use Rattle.plain_core.specs.declared.put.Sent.{Sent}

abbrev pub elements_of : Sent → List Element
elements_of s = s.pending.now ++ s.package.now
