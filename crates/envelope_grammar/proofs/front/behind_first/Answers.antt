use Rattle.std.proofs.Common.{◌≡◌, ◌∙◌, sym, drop, Some, None, arith, ap}
use Rattle.std.proofs.lemmas.List.{take_rest}
use Rattle.envelope_grammar.specs.Front.{past_word}
use Rattle.envelope_grammar.proofs.Fronts.{first_here, first_later, first_never}
use Rattle.envelope_grammar.proofs.front.behind_first.Goals as goal

pub returns-in-Some : goal.returns-in-Some
returns-in-Some c =
    let bytes = c.args.bytes.now in
    let i = c.loop-i.i in
    let h : past_word c.args.word.now (drop i bytes) ≡ Some c.in-Some.rest.now = ap (past_word c.args.word.now) (sym (take_rest bytes i)) ∙ c.in-Some.ensures in
    sym c.loop-i.invariant ∙ first_here c.args.word.now bytes i c.in-Some.rest.now (omega arith) h

pub loop-i-preserved : goal.loop-i-preserved
loop-i-preserved c =
    let bytes = c.args.bytes.now in
    let i = c.loop-i.i in
    let e = rw c.in_default.is at c.past_word.ensures in
    let h : past_word c.args.word.now (drop i bytes) ≡ None = ap (past_word c.args.word.now) (sym (take_rest bytes i)) ∙ e in
    sym (first_later c.args.word.now bytes i (omega arith) h) ∙ c.loop-i.invariant

pub returns : goal.returns
returns c = sym c.loop-i.invariant ∙ first_never c.args.word.now c.args.bytes.now c.loop-i.i (omega arith)
