use Rattle.std.proofs.Common.{◌∙◌, sym, ap, subst, List, ℕ, Option, map, option_map}
use Rattle.std.specs.Prelude.{IfOk}
use Rattle.plain_core.specs.Cataloging.{listed}
use Rattle.plain_core.specs.Filing.{IsFiled, file_with_bytes}
use Rattle.plain_core.specs.Sayings.{seen_manifest}
use Rattle.plain_core.proofs.BlobsFound.{file-kept}
use Rattle.plain_core.proofs.file.file_at.Goals as goal

pub returns-in-Some : goal.returns-in-Some
returns-in-Some c =
    let added = listed c.args.catalog.now in
    let manifests = map seen_manifest c.in-Some.manifests.items in
    let kept = file-kept added c.args.index manifests c.requires (sym c.in_ok-root_chain.ensures ∙ ap (option_map (λ ms. map seen_manifest ms.items)) c.in-Some.is) in
    subst (λ (o : Option (List ℕ)). IfOk c.file_of_chain.result (λ filed. IsFiled filed o))
    (ap (λ ms. file_with_bytes added (map seen_manifest ms)) c.as_slice.ensures.value ∙ kept) c.file_of_chain.ensures
