use Rattle.std.proofs.Common.{map}
use Rattle.plain_core.specs.Cataloging.{listed}
use Rattle.plain_core.specs.Sayings.{seen_manifest}
use Rattle.plain_core.proofs.FiledAnswers.{answered-fault, answered-file}
use Rattle.plain_core.proofs.file.file_of_chain.Goals as goal

pub returns-in-Ok : goal.returns-in-Ok
returns-in-Ok c =
    answered-file (listed c.args.catalog.now) (map seen_manifest c.args.manifests.now) c.in_ok-objects.objects c.in-Some.root c.in_ok-objects.ensures c.in-Some.ensures
    c.in-Ok.bytes ((c.file_of.ensures.file c.in-Ok.bytes).0 c.in-Ok.is)

pub returns : goal.returns
returns c =
    answered-fault (listed c.args.catalog.now) (map seen_manifest c.args.manifests.now) c.in_ok-objects.objects c.in-Some.root c.in_ok-objects.ensures c.in-Some.ensures
    c.file_of.result c.in-Err.fault c.without_file.result c.in-Err.is c.without_file.ensures c.file_of.ensures.file c.file_of.ensures.too_large
