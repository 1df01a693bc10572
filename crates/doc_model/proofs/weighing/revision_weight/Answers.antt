use Rattle.std.proofs.Common.{arith}
use Rattle.std.specs.List.{flat_map}
use Rattle.wire_kinds.specs.Row.{row_bytes}
use Rattle.doc_model.specs.wire.ElementRows.{revision_manifest, revision_root, group_reference}
use Rattle.doc_model.proofs.SizeLemmas.{length_three}
use Rattle.doc_model.proofs.SizeBounds.{exact-row, exact-rows, few-revision, few-revision-root, few-group-reference}
use Rattle.doc_model.proofs.weighing.revision_weight.Goals as goal

pub returns-clause-length : goal.returns-clause-length
returns-clause-length c =
    let ids = c.args.ids.now in
    let roots = c.args.roots.now in
    let groups = c.args.groups.now in
    let all = c.requires in
    let x = exact-row revision_manifest ids c.row_size-ids.result (omega (arith, few-revision ids)) c.row_size-ids.ensures in
    let y = exact-rows revision_root roots c.size_of_rows-roots.result (λ v. omega (arith, few-revision-root v)) (omega (arith, all)) c.size_of_rows-roots.ensures in
    let z = exact-rows group_reference groups c.size_of_rows-groups.result (λ v. omega (arith, few-group-reference v)) (omega (arith, all)) c.size_of_rows-groups.ensures in
    omega (arith, length_three (row_bytes revision_manifest ids) (flat_map (row_bytes revision_root) roots) (flat_map (row_bytes group_reference) groups), x, y, z)
