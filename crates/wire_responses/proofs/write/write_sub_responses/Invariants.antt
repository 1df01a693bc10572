use Rattle.std.proofs.Common.{◌≡◌, ◌++◌, drop}
use Rattle.std.specs.List.{flat_map}
use Rattle.doc_model.specs.wire.Responses.{sub_response}
use Rattle.wire_responses.proofs.write.write_sub_responses.Given as goal

abbrev pub invariant-loop-answer : goal.invariant-loop-answer
invariant-loop-answer l = l.out ++ flat_map sub_response (drop l.answer-index l.answers) ≡ l.fn.out ++ flat_map sub_response l.answers
