use Rattle.std.proofs.Common.{◌≡◌, ◌++◌, drop, map}
use Rattle.plain_core.proofs.serials.add_ids.Given as goal

-- the ids so far, and those that are left
abbrev pub invariant-loop-element : goal.invariant-loop-element
invariant-loop-element l = l.ids ++ map (λ e. e.id) (drop l.element-index l.elements) ≡ l.fn.ids ++ map (λ e. e.id) l.elements
