use Rattle.std.proofs.Common.{map}
use Rattle.plain_core.specs.Cataloging.{listed}
use Rattle.plain_core.specs.Sayings.{seen_manifest}
use Rattle.plain_core.proofs.FileLengths.{chain-length}
use Rattle.plain_core.proofs.file_length.length_of_chain.Goals as goal

pub returns : goal.returns
returns c =
    chain-length (listed c.args.catalog.now) (map seen_manifest c.args.manifests.now) c.in_ok-objects.objects c.in-Some.root c.file_length.result c.length_answered.result c.in_ok-objects.ensures
    c.in-Some.ensures c.file_length.ensures c.length_answered.ensures
