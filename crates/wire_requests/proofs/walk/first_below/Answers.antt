use Rattle.std.proofs.Common.{List, ap, ◌∙◌}
use Rattle.std.specs.Prelude.{find}
use Rattle.std.specs.List.{flat_map}
use Rattle.stream_objects.specs.Objects.{is_kind}
use Rattle.stream_objects.specs.declared.tree.Tree.{Tree}
use Rattle.doc_model.specs.wire.Walks.{walk}
use Rattle.wire_requests.proofs.WalkFinds.{first_is}
use Rattle.wire_requests.proofs.walk.first_below.Goals as goal

pub returns : goal.returns
returns c =
    let walked = first_is 12 c.args.kind c.as_slice.result.now in
    c.first_among.ensures ∙ walked ∙ ap (λ (l : List Tree). find (is_kind c.args.kind) (flat_map (walk 12) l)) c.as_slice.ensures
