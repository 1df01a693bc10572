use Rattle.std.proofs.Common.{◌≡◌, ◌++◌, map, option_map}
use Rattle.doc_model.specs.rules.Reached.{chain, longest}
use Rattle.plain_core.specs.Cataloging.{listed}
use Rattle.plain_core.specs.Sayings.{seen_manifest}
use Rattle.plain_core.proofs.root_chain.chain.Given as goal

-- what is there, and what comes from here on
abbrev pub invariant-loop-left : goal.invariant-loop-left
invariant-loop-left l =
    option_map (λ rest. map seen_manifest l.all.items ++ rest) (chain (listed l.catalog) l.revisions.maps.now l.left l.at) ≡ chain (listed l.fn.catalog) l.fn.revisions.maps.now longest l.fn.revision

abbrev pub decreases-loop-left : goal.decreases-loop-left
decreases-loop-left l = l.left
