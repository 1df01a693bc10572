use Rattle.std.proofs.Common.{◌≡◌, ◌++◌, drop}
use Rattle.doc_model.specs.rules.Editing.{live_editors}
use Rattle.editors_table.proofs.live.live_editors.Given as goal

-- who is there, and who is still to come
abbrev pub invariant-loop-e : goal.invariant-loop-e
invariant-loop-e l = l.all ++ live_editors (drop l.e-index l.editors) l.moment ≡ live_editors l.editors l.moment
