use Rattle.std.proofs.Common.{◌≡◌, ◌++◌, drop, map}
use Rattle.plain_core.proofs.reaching.ids_of.Given as goal

-- the ids so far, and those that are left
abbrev pub invariant-loop-name : goal.invariant-loop-name
invariant-loop-name l = l.ids ++ map (λ n. n.id) (drop l.name-index l.names) ≡ map (λ n. n.id) l.names
