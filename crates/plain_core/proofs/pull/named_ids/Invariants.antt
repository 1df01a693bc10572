use Rattle.std.proofs.Common.{◌≡◌, ◌++◌, drop, map}
use Rattle.plain_core.proofs.pull.named_ids.Given as goal

-- what is there, and what is still to be done
abbrev pub invariant-loop-name : goal.invariant-loop-name
invariant-loop-name l = l.ids ++ map (λ n. n.id) (drop l.name-index l.name-items) ≡ map (λ n. n.id) l.name-items
