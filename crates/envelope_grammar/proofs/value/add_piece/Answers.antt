use Rattle.std.proofs.Common.{◌≡◌, ◌++◌, ◌∙◌, ap, [], List, ℕ, length, take, drop, ◌-◌, arith}
use Rattle.std.specs.Prelude.{encode_utf8}
use Rattle.std.proofs.lemmas.List.{take_rest, drop_all}
use Rattle.envelope_grammar.proofs.Values.{ends_here, fails_here, goes_on_here, shorter_here}
use Rattle.envelope_grammar.proofs.value.add_piece.Goals as goal

pub returns-in_default-clause-means : goal.returns-in_default-clause-means
returns-in_default-clause-means c =
    let bytes = c.args.bytes.now in
    let none = rw c.in_default.is at c.past.ensures in
    let nothing : take (length bytes - length bytes) (drop (length bytes) bytes) ≡ [] = take_rest bytes (length bytes) ∙ drop_all (length bytes) bytes (omega arith) in
    rw nothing (ends_here c.args.out.now.items c.extend_from_slice.new.self.items bytes c.len_before-len.result c.len_before-len.ensures.run c.in_ok-extend_from_slice.ensures.items none)

pub returns-in_default-reference_at-clause-refused :
    goal.returns-in_default-reference_at-clause-refused
returns-in_default-reference_at-clause-refused c =
    let none = rw c.in_default-reference_at.is at c.reference_at.ensures in
    fails_here c.args.out.now.items c.extend_from_slice.new.self.items c.args.bytes.now c.len_before-len.result c.len_before-len.ensures.run c.in_ok-extend_from_slice.ensures.items c.in-Some.behind.now c.in-Some.ensures none

pub returns-clause-shorter : goal.returns-clause-shorter
returns-clause-shorter c =
    shorter_here c.args.bytes.now c.in-Some.behind.now c.in-Some-reference_at.rest.now c.len_before-len.result c.in-Some-reference_at.c c.in-Some.ensures c.in-Some-reference_at.ensures

pub returns-clause-means : goal.returns-clause-means
returns-clause-means c =
    let more : c.extend_from_slice-2.new.self.items ≡ c.extend_from_slice.new.self.items ++ encode_utf8 c.in-Some-reference_at.c =
    c.in_ok-extend_from_slice-2.ensures.items ∙ ap (λ (x : List ℕ). c.extend_from_slice.new.self.items ++ x) (c.as_bytes.ensures.value ∙ c.encode_utf8.ensures.value) in
    goes_on_here c.args.out.now.items c.extend_from_slice.new.self.items c.args.bytes.now c.len_before-len.result c.len_before-len.ensures.run c.in_ok-extend_from_slice.ensures.items
    c.in-Some.behind.now c.extend_from_slice-2.new.self.items c.in-Some-reference_at.rest.now c.in-Some-reference_at.c c.in-Some.ensures c.in-Some-reference_at.ensures more
