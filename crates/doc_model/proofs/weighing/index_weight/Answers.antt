use Rattle.std.proofs.Common.{arith}
use Rattle.std.specs.List.{flat_map}
use Rattle.wire_kinds.specs.Row.{row_bytes}
use Rattle.doc_model.specs.wire.ElementRows.{manifest_mapping, cell_mapping, revision_mapping}
use Rattle.doc_model.proofs.SizeLemmas.{length_three}
use Rattle.doc_model.proofs.SizeBounds.{exact-rows, few-manifest-map, few-cell-map, few-revision-map}
use Rattle.doc_model.proofs.weighing.index_weight.Goals as goal

pub returns-clause-length : goal.returns-clause-length
returns-clause-length c =
    let m = c.args.manifests.now in
    let l = c.args.cells.now in
    let r = c.args.revisions.now in
    let all = c.requires in
    let x = exact-rows manifest_mapping m c.size_of_rows-manifests.result (λ v. omega (arith, few-manifest-map v)) (omega (arith, all)) c.size_of_rows-manifests.ensures in
    let y = exact-rows cell_mapping l c.size_of_rows-cells.result (λ v. omega (arith, few-cell-map v)) (omega (arith, all)) c.size_of_rows-cells.ensures in
    let z = exact-rows revision_mapping r c.size_of_rows-revisions.result (λ v. omega (arith, few-revision-map v)) (omega (arith, all)) c.size_of_rows-revisions.ensures in
    omega (arith, length_three (flat_map (row_bytes manifest_mapping) m) (flat_map (row_bytes cell_mapping) l) (flat_map (row_bytes revision_mapping) r), x, y, z)
