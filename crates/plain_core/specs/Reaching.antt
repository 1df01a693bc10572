-- The elements whose ids are named.
use Rattle.std.specs.Prelude.{List, filter}
use Rattle.compact_values.specs.declared.ids.ExGuid.{ExGuid}
use Rattle.doc_model.specs.declared.element.Element.{Element}
use Rattle.doc_model.specs.rules.Reached.{is_among}

abbrev pub among : List ExGuid → List Element → List Element
among ids elements = filter (λ e. is_among ids e.id) elements
