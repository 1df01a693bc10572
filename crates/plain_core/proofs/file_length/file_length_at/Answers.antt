use Rattle.std.proofs.Common.{◌≡◌, ◌∙◌, sym, ap, List, Option, None, map, option_map}
use Rattle.doc_model.specs.rules.Finding.{Manifest}
use Rattle.plain_core.specs.Cataloging.{listed}
use Rattle.plain_core.specs.Filing.{file_with_bytes}
use Rattle.plain_core.specs.Sayings.{seen_manifest}
use Rattle.plain_core.proofs.FileLengths.{no-chain, along-chain}
use Rattle.plain_core.proofs.file_length.file_length_at.Goals as goal

pub returns-in-None : goal.returns-in-None
returns-in-None c =
    no-chain (listed c.args.catalog.now) c.args.index (sym c.in_ok-root_chain.ensures ∙ ap (option_map (λ ms. map seen_manifest ms.items)) c.in-None.is)

pub returns-in-Some : goal.returns-in-Some
returns-in-Some c =
    along-chain (listed c.args.catalog.now) c.args.index (map seen_manifest c.in-Some.manifests.items) (map seen_manifest c.as_slice.result.now) c.length_of_chain.result c.requires
    (sym c.in_ok-root_chain.ensures ∙ ap (option_map (λ ms. map seen_manifest ms.items)) c.in-Some.is) (ap (map seen_manifest) c.as_slice.ensures.value) c.length_of_chain.ensures
