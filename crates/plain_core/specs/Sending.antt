-- Whether an element is one of those that were sent.
use Rattle.std.specs.Prelude.{Bool, List}
use Rattle.std.specs.List.{list_any}
use Rattle.compact_values.specs.declared.ids.ExGuid.{ExGuid}
use Rattle.compact_values.specs.SameIds.{same_id}
use Rattle.doc_model.specs.declared.element.NumberedElement.{NumberedElement}

abbrev pub is_one_of : List ExGuid → NumberedElement → Bool
is_one_of ids n = list_any (same_id n.element.id) ids
