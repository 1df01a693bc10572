use Rattle.std.proofs.Common.{◌≡◌, ◌++◌, drop, filter}
use Rattle.doc_model.specs.rules.Puts.{is_kept, other_parts}
use Rattle.plain_core.proofs.uploads.other_parts.Given as goal

-- what is kept so far, and of those that are left
abbrev pub invariant-loop-part : goal.invariant-loop-part
invariant-loop-part l = l.all ++ filter (is_kept l.moment l.index) (drop l.part-index l.parts) ≡ other_parts l.parts l.moment l.index
