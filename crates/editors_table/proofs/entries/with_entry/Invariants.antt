use Rattle.std.proofs.Common.{◌≡◌, ◌++◌, cond}
use Rattle.doc_model.specs.rules.Editing.{with_entry}
use Rattle.editors_table.proofs.entries.with_entry.Given as goal

-- what is there, and what is still to come
abbrev pub invariant-loop-x : goal.invariant-loop-x
invariant-loop-x l =
    l.all ++ cond l.found l.x-iterator.rest.items (with_entry l.key l.value l.x-iterator.rest.items)
    ≡ with_entry l.key l.value l.fn.entries
