use Rattle.std.proofs.Common.{◌≡◌, drop, find}
use Rattle.std.specs.Prelude.{not}
use Rattle.plain_core.proofs.content.first_absent.Given as goal

-- none of the names so far is absent
abbrev pub invariant-loop-name : goal.invariant-loop-name
invariant-loop-name l = find (λ n. not n.found) (drop l.name-index l.named) ≡ find (λ n. not n.found) l.named
