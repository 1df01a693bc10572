-- What contracts see of a store, and the serial numbers of its elements.
use Rattle.std.specs.Prelude.{ℕ, List, Option, option_map, find}
use Rattle.compact_values.specs.declared.ids.ExGuid.{ExGuid}
use Rattle.compact_values.specs.SameIds.{same_id}
use Rattle.doc_model.specs.declared.element.Element.{Element}
use Rattle.doc_model.specs.rules.Finding.{numbered_from}

-- the elements in the order of their serial numbers, which begin at 1, and for how many more there is room
pub record Stored : Type 0 where
  pub elements : List Element
  pub spare : ℕ

-- the serial number of the first element with this id
abbrev pub serial_of : List Element → ExGuid → Option ℕ
serial_of es id = option_map (λ n. n.serial) (find (λ n. same_id n.element.id id) (numbered_from 1 es))
