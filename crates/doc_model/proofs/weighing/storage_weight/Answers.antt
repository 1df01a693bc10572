use Rattle.std.proofs.Common.{arith}
use Rattle.std.specs.List.{flat_map}
use Rattle.std.proofs.lemmas.List.{length-append}
use Rattle.wire_kinds.specs.Row.{row_bytes}
use Rattle.doc_model.specs.wire.ElementRows.{schema_guid, manifest_root}
use Rattle.doc_model.proofs.SizeBounds.{exact-row, exact-rows, few-schema, few-root}
use Rattle.doc_model.proofs.weighing.storage_weight.Goals as goal

pub returns-clause-length : goal.returns-clause-length
returns-clause-length c =
    let head = exact-row schema_guid c.args.schema.now c.row_size.result (omega (arith, few-schema c.args.schema.now)) c.row_size.ensures in
    let rows = exact-rows manifest_root c.args.roots.now c.size_of_rows.result (λ r. omega (arith, few-root r)) c.requires c.size_of_rows.ensures in
    omega (arith, length-append (row_bytes schema_guid c.args.schema.now) (flat_map (row_bytes manifest_root) c.args.roots.now), head, rows)
