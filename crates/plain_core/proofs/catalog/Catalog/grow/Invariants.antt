use Rattle.std.proofs.Common.{◌≡◌, drop, fold}
use Rattle.compact_values.specs.IdPlaces.{with_new}
use Rattle.doc_model.specs.rules.Puts.{same_ids}
use Rattle.plain_core.specs.Cataloging.{listed}
use Rattle.plain_core.proofs.catalog.Catalog.grow.Given as goal

-- what is left joins what is there
abbrev pub invariant-loop-element : goal.invariant-loop-element
invariant-loop-element l =
    (fold (with_new same_ids) (listed l.self) (drop l.element-index l.elements) ≡ fold (with_new same_ids) (listed l.fn.self) l.elements)
    × (l.self.added.now ≡ l.fn.self.added.now)
