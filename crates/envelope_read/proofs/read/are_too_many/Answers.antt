use Rattle.std.proofs.Common.{sym, ap, ◌∙◌, ◌+◌, ◌-◌, ℕ, ltb, drop, arith}
use Rattle.envelope_read.specs.Verdicts.{sub_count}
use Rattle.envelope_read.proofs.AskLoops.{over_here, fewer_left, none_left}
use Rattle.envelope_read.proofs.read.are_too_many.Goals as goal

pub returns-then-len-left : goal.returns-then-len-left
returns-then-len-left c =
    let l = c.loop-request in
    sym (sym l.invariant ∙ over_here c.args.requests.now l.request-index c.request-item.result c.request-item.is (omega arith) l.left (omega (arith, c.if-len-left.true, c.len.ensures)))

pub loop-request-preserved : goal.loop-request-preserved
loop-request-preserved c =
    let l = c.loop-request in
    let requests = c.args.requests.now in
    ap (λ (n : ℕ). ltb (l.left - n) (sub_count (drop (l.request-index + 1) requests))) c.len-left.ensures
    ∙ fewer_left requests l.request-index c.request-item.result c.request-item.is (omega arith) l.left (omega (arith, c.if-len-left.false, c.len.ensures)) ∙ l.invariant

pub returns : goal.returns
returns c =
    let l = c.loop-request in
    sym (sym l.invariant ∙ none_left c.args.requests.now l.request-index l.left (omega arith))
