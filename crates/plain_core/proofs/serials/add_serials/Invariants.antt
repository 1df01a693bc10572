use Rattle.std.proofs.Common.{◌≡◌, ◌+◌, ◌++◌, drop, map, filter}
use Rattle.doc_model.specs.rules.Finding.{numbered_from}
use Rattle.plain_core.specs.Sending.{is_one_of}
use Rattle.plain_core.proofs.serials.add_serials.Given as goal

-- the numbers so far, and those of what is left
abbrev pub invariant-loop-element : goal.invariant-loop-element
invariant-loop-element l =
    (l.serial ≡ l.before + l.element-index)
    × (l.serials ++ map (λ n. n.serial) (filter (is_one_of l.sent) (numbered_from (l.serial + 1) (drop l.element-index l.elements)))
    ≡ l.fn.serials ++ map (λ n. n.serial) (filter (is_one_of l.sent) (numbered_from (l.before + 1) l.elements)))
