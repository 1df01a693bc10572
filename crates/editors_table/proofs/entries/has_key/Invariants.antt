use Rattle.std.proofs.Common.{◌≡◌, drop}
use Rattle.std.specs.List.{list_any}
use Rattle.doc_model.specs.rules.Editing.{is_key}
use Rattle.editors_table.proofs.entries.has_key.Given as goal

-- what is still to come decides
abbrev pub invariant-loop-x : goal.invariant-loop-x
invariant-loop-x l = list_any (is_key l.key) (drop l.x-index l.entries) ≡ list_any (is_key l.key) l.entries
