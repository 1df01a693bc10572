use Rattle.std.proofs.Common.{◌≡◌, ◌+◌, ◌++◌, drop, filter}
use Rattle.doc_model.specs.rules.Finding.{numbered_from}
use Rattle.doc_model.specs.rules.Pulls.{is_lacking, lacking}
use Rattle.plain_core.proofs.pull.lacking.Given as goal

-- what is there, and what is still to be done
abbrev pub invariant-loop-element : goal.invariant-loop-element
invariant-loop-element l = (l.serial ≡ l.element-index) × (l.all ++ filter (is_lacking l.known.guid l.known.ranges.now l.ids) (numbered_from (l.serial + 1) (drop l.element-index l.added)) ≡ lacking l.known.guid l.known.ranges.now l.ids l.added)
