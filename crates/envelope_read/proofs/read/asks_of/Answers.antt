use Rattle.std.proofs.Common.{sym, ap, ◌∙◌, ◌+◌, ◌++◌, ◌∷◌, [], ℕ, List, length, drop, arith}
use Rattle.envelope_grammar.specs.declared.raw.RawSub.{RawSub}
use Rattle.envelope_read.specs.Verdicts.{subs_from, asks_from, ask_with}
use Rattle.envelope_read.specs.declared.collection.Ask.{Ask}
use Rattle.envelope_read.proofs.AskLoops.{prepended, counted, ask_more, ask_bad, asks_end}
use Rattle.envelope_read.proofs.read.asks_of.Goals as goal

pub subs_from-requires : goal.subs_from-requires
subs_from-requires c =
    let l = c.loop-request in
    omega (arith, ap (λ (subs : List RawSub). length subs) c.as_slice.ensures, counted c.args.requests.now l.request-index c.request-item.result c.request-item.is (omega arith), l.invariant.count, c.requires)

pub returns-in-Err : goal.returns-in-Err
returns-in-Err c =
    let l = c.loop-request in
    sym (sym l.invariant.so_far ∙ ask_bad c.args.requests.now l.request-index l.seen c.request-item.result c.request-item.is (omega arith) l.asks c.in-Err.sub (ap (subs_from l.seen) (sym c.as_slice.ensures) ∙ sym c.in_ok-subs.ensures ∙ c.in-Err.is))

pub loop-request-preserved : goal.loop-request-preserved
loop-request-preserved c =
    let l = c.loop-request in
    let requests = c.args.requests.now in
    let rest = drop (l.request-index + 1) requests in
    let x = c.request-item.result in
    record {
      count = omega (arith, c.len.ensures, counted requests l.request-index x c.request-item.is (omega arith), l.invariant.count);
      so_far =
          ap (λ (xs : List Ask). prepended xs (asks_from (l.seen + c.len.result) rest)) (c.in_ok-push-in-Ok.ensures.ok ∙ ap (λ (a : Ask). l.asks ++ a ∷ []) c.in_ok-ask_with-in-Ok.ensures)
          ∙ ap (λ (n : ℕ). prepended (l.asks ++ ask_with x c.in-Ok.subs ∷ []) (asks_from (l.seen + n) rest)) c.len.ensures
          ∙ sym (ask_more requests l.request-index l.seen x c.request-item.is (omega arith) l.asks c.in-Ok.subs (ap (subs_from l.seen) (sym c.as_slice.ensures) ∙ sym c.in_ok-subs.ensures ∙ c.in-Ok.is))
          ∙ l.invariant.so_far;
    }

pub returns : goal.returns
returns c =
    let l = c.loop-request in
    sym (sym l.invariant.so_far ∙ asks_end c.args.requests.now l.request-index l.seen l.asks (omega arith))
