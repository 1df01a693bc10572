use Rattle.std.proofs.Common.{◌≡◌, drop, flat_map}
use Rattle.doc_model.specs.rules.Reached.{blob_of}
use Rattle.doc_model.proofs.Once.{joining}
use Rattle.plain_core.proofs.links.name_blobs_of.Given as goal

-- what is there, and what is still to come
abbrev pub invariant-loop-object : goal.invariant-loop-object
invariant-loop-object l =
    joining l.blobs (flat_map (λ o. blob_of o.content) (drop l.object-index l.objects)) ≡ joining l.fn.blobs (flat_map (λ o. blob_of o.content) l.objects)
