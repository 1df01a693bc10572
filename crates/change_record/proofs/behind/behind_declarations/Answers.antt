use Rattle.std.proofs.Common.{ℕ, [], true, List, ◌++◌, None}
use Rattle.std.specs.List.{flat_map}
use Rattle.stream_objects.specs.Headers.{written_end}
use Rattle.stream_objects.specs.Written.{started}
use Rattle.doc_model.specs.wire.WrittenElements.{declaration_bytes, declarations_bytes}
use Rattle.doc_model.specs.declared.element.Object.{Object}
use Rattle.change_record.proofs.Pieces.{both, not_first, then_both}
use Rattle.change_record.proofs.behind.behind_declarations.Goals as goal

abbrev begun : List ℕ
begun = started 0x1D true []

abbrev each : List Object → List ℕ
each objects = flat_map declaration_bytes objects

abbrev ended : List ℕ
ended = written_end 0x1D

pub returns-in_default : goal.returns-in_default
unfolding declarations_bytes
returns-in_default c = not_first begun (each c.args.objects.now ++ ended) c.args.bytes.now (rw c.in_default.is at c.in_ok-rest.ensures)

pub returns-in_default-2 : goal.returns-in_default-2
unfolding declarations_bytes
returns-in_default-2 c =
    let objects = each c.args.objects.now in
    both begun (objects ++ ended) c.args.bytes.now c.in-Some.rest.now None (rw c.in-Some.is at c.in_ok-rest.ensures)
    (not_first objects ended c.in-Some.rest.now (rw c.in_default-2.is at c.in_ok-rest-2.ensures))

pub returns : goal.returns
unfolding declarations_bytes
returns c =
    let objects = each c.args.objects.now in
    then_both begun (objects ++ ended) c.args.bytes.now c.in-Some.rest.now c.behind_end.result (rw c.in-Some.is at c.in_ok-rest.ensures)
    (then_both objects ended c.in-Some.rest.now c.in-Some-2.rest.now c.behind_end.result (rw c.in-Some-2.is at c.in_ok-rest-2.ensures) c.behind_end.ensures)
