use Rattle.std.proofs.Common.{◌∙◌, ap}
use Rattle.std.specs.List.{list_any}
use Rattle.compact_values.specs.SameIds.{same_id}
use Rattle.plain_core.specs.Cataloging.{listed}
use Rattle.plain_core.proofs.FoundPlaces.{any-id}
use Rattle.plain_core.proofs.catalog.Catalog.contains.Goals as goal

pub returns : goal.returns
returns c = c.contains.ensures ∙ ap (list_any (same_id c.args.id)) c.args.self.now.indexed ∙ any-id c.args.id (listed c.args.self.now)
