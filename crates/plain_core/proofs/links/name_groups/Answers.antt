use Rattle.std.proofs.Common.{◌∙◌, ap, flat_map}
use Rattle.doc_model.specs.rules.Reached.{each_once}
use Rattle.plain_core.specs.Cataloging.{listed}
use Rattle.plain_core.specs.Naming.{groups_in}
use Rattle.plain_core.proofs.LinkSteps.{groups-of-targets}
use Rattle.plain_core.proofs.links.name_groups.Goals as goal

pub returns : goal.returns
returns c =
    c.in_ok-groups.ensures
    ∙ ap (λ ts. each_once (flat_map (groups_in (listed c.args.catalog.now)) ts)) (c.as_slice.ensures ∙ c.in_ok-targets.ensures)
    ∙ groups-of-targets (listed c.args.catalog.now) c.args.revisions.now.maps.now c.args.named.now
