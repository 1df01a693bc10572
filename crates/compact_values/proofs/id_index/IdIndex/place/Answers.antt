use Rattle.std.proofs.Common.{◌∙◌, ap}
use Rattle.std.specs.BTreeMap.{get}
use Rattle.compact_values.specs.IdPlaces.{place_of, key_order}
use Rattle.compact_values.proofs.id_index.IdIndex.place.Goals as goal

pub returns : goal.returns
returns c = c.copied.ensures ∙ c.get.ensures.value ∙ ap (get key_order c.self.inside.places) c.key_of.ensures ∙ c.self.invariant c.args.id ∙ ap (λ ids. place_of ids c.args.id) c.self.view_is
