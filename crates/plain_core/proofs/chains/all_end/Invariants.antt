use Rattle.std.proofs.Common.{◌≡◌, drop}
use Rattle.std.specs.Prelude.{is_some}
use Rattle.std.specs.List.{list_all}
use Rattle.doc_model.specs.rules.Reached.{chain, longest}
use Rattle.plain_core.specs.Cataloging.{listed}
use Rattle.plain_core.specs.Chaining.{TellsLengths}
use Rattle.plain_core.proofs.chains.all_end.Given as goal

-- those before end, so the answer is that of those that are left; and what is noted is so
abbrev pub invariant-loop-revision : goal.invariant-loop-revision
invariant-loop-revision l =
    (list_all (λ r. is_some (chain (listed l.catalog) l.revisions.maps.now longest r)) (drop l.revision-index l.currents)
    ≡ list_all (λ r. is_some (chain (listed l.catalog) l.revisions.maps.now longest r)) l.currents)
    × TellsLengths (listed l.catalog) l.revisions.maps.now l.lengths
