use Rattle.std.proofs.Common.{◌≡◌, ◌+◌, ◌≤◌, drop}
use Rattle.doc_model.specs.wire.Requests.{puts_in}
use Rattle.wire_requests.proofs.subs.puts_in.Given as goal

abbrev pub invariant-loop-sub : goal.invariant-loop-sub
invariant-loop-sub l = (l.count + puts_in (drop l.sub-index l.subs) ≡ puts_in l.subs) × (l.count ≤ l.sub-index)
