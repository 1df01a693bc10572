use Rattle.std.proofs.Common.{◌≡◌, ◌++◌, drop}
use Rattle.std.specs.Prelude.{filter, slice_get}
use Rattle.file_nodes.specs.Links.{has_bytes, filled}
use Rattle.file_nodes.proofs.join.filled.Given as goal

abbrev pub invariant-loop-place : goal.invariant-loop-place
invariant-loop-place l = l.places ++ filter (λ place. has_bytes (slice_get l.table place)) (drop l.place-index l.link.places) ≡ filled l.table l.link
