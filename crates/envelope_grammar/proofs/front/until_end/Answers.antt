use Rattle.std.proofs.Common.{◌≡◌, ◌∙◌, sym, drop, Some, None, [], ◌∷◌, arith, ap}
use Rattle.std.proofs.lemmas.List.{take_rest}
use Rattle.envelope_grammar.specs.Front.{past_word}
use Rattle.envelope_grammar.proofs.Fronts.{end_here, end_later, end_never}
use Rattle.envelope_grammar.proofs.front.until_end.Goals as goal

pub returns-in-Some : goal.returns-in-Some
returns-in-Some c =
    let bytes = c.args.bytes.now in
    let i = c.loop-i.i in
    let h : past_word (63 ∷ 62 ∷ []) (drop i bytes) ≡ Some c.in-Some.rest.now = ap (past_word (63 ∷ 62 ∷ [])) (sym (take_rest bytes i)) ∙ c.in-Some.ensures in
    sym c.loop-i.invariant ∙ end_here bytes i c.in-Some.rest.now (omega arith) h

pub loop-i-preserved : goal.loop-i-preserved
loop-i-preserved c =
    let bytes = c.args.bytes.now in
    let i = c.loop-i.i in
    let e = rw c.in_default.is at c.past_word.ensures in
    let h : past_word (63 ∷ 62 ∷ []) (drop i bytes) ≡ None = ap (past_word (63 ∷ 62 ∷ [])) (sym (take_rest bytes i)) ∙ e in
    sym (end_later bytes i (omega arith) h) ∙ c.loop-i.invariant

pub returns : goal.returns
returns c = sym c.loop-i.invariant ∙ end_never c.args.bytes.now c.loop-i.i (omega arith)
