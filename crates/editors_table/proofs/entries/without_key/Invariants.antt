use Rattle.std.proofs.Common.{◌≡◌, ◌++◌}
use Rattle.doc_model.specs.rules.Editing.{without_key}
use Rattle.editors_table.proofs.entries.without_key.Given as goal

-- what is there, and what is still to come
abbrev pub invariant-loop-x : goal.invariant-loop-x
invariant-loop-x l = l.all ++ without_key l.key l.x-iterator.rest.items ≡ without_key l.key l.fn.entries
