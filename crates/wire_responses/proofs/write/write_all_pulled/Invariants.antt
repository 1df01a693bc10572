use Rattle.std.proofs.Common.{◌≡◌, ◌++◌, drop}
use Rattle.std.specs.List.{flat_map}
use Rattle.doc_model.specs.wire.Responses.{pulled_bytes}
use Rattle.wire_responses.proofs.write.write_all_pulled.Given as goal

abbrev pub invariant-loop-answer : goal.invariant-loop-answer
invariant-loop-answer l = l.out ++ flat_map (λ a. pulled_bytes a.submitted) (drop l.answer-index l.answers) ≡ l.fn.out ++ flat_map (λ a. pulled_bytes a.submitted) l.answers
