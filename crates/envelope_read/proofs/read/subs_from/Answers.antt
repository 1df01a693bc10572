use Rattle.std.proofs.Common.{sym, ap, ◌∙◌, ◌≡◌, ◌+◌, ◌++◌, ◌∷◌, [], ℕ, List, drop, arith}
use Rattle.envelope_read.specs.Verdicts.{subs_from}
use Rattle.envelope_read.specs.declared.collection.SubAsk.{SubAsk}
use Rattle.envelope_read.proofs.AskLoops.{prepended, sub_more, sub_bad, subs_end}
use Rattle.envelope_read.proofs.read.subs_from.Goals as goal

pub returns-in-None : goal.returns-in-None
returns-in-None c =
    let l = c.loop-i in
    sym (sym l.invariant ∙ sub_bad c.args.subs.now l.i (c.args.first + l.i) c.index-subs-i.result c.index-subs-i.is (omega arith) l.asks (sym c.in_ok-ask.ensures ∙ c.in-None.is))

pub loop-i-preserved : goal.loop-i-preserved
loop-i-preserved c =
    let l = c.loop-i in
    let subs = c.args.subs.now in
    let next : c.args.first + (l.i + 1) ≡ c.args.first + l.i + 1 = omega arith in
    ap (λ (xs : List SubAsk). prepended xs (subs_from (c.args.first + (l.i + 1)) (drop (l.i + 1) subs))) c.in_ok-push-in-Some.ensures.ok
    ∙ ap (λ (n : ℕ). prepended (l.asks ++ c.in-Some.ask ∷ []) (subs_from n (drop (l.i + 1) subs))) next
    ∙ sym (sub_more subs l.i (c.args.first + l.i) c.index-subs-i.result c.index-subs-i.is (omega arith) l.asks c.in-Some.ask (sym c.in_ok-ask.ensures ∙ c.in-Some.is)) ∙ l.invariant

pub returns : goal.returns
returns c =
    let l = c.loop-i in
    sym (sym l.invariant ∙ subs_end c.args.subs.now l.i (c.args.first + l.i) l.asks (omega arith))
