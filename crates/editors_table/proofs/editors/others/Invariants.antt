use Rattle.std.proofs.Common.{◌≡◌, ◌++◌}
use Rattle.doc_model.specs.rules.Editing.{other_editors}
use Rattle.editors_table.proofs.editors.others.Given as goal

-- who is there, and who is still to come
abbrev pub invariant-loop-e : goal.invariant-loop-e
invariant-loop-e l = l.all ++ other_editors l.client l.e-iterator.rest.items ≡ other_editors l.client l.fn.editors
