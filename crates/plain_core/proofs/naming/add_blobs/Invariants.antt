use Rattle.std.proofs.Common.{◌≡◌, ◌++◌, drop, map}
use Rattle.doc_model.specs.rules.Reached.{blob_name}
use Rattle.plain_core.specs.Cataloging.{listed}
use Rattle.plain_core.proofs.naming.add_blobs.Given as goal

-- what is there, and what is still to be done
abbrev pub invariant-loop-blob : goal.invariant-loop-blob
invariant-loop-blob l = l.all ++ map (blob_name (listed l.catalog)) (drop l.blob-index l.blobs) ≡ l.fn.all ++ map (blob_name (listed l.catalog)) l.blobs
