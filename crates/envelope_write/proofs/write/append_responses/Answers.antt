use Rattle.std.proofs.Common.{◌∙◌, sym, arith}
use Rattle.envelope_write.proofs.Appending.{responses_more, responses_end, subs_of-more}
use Rattle.envelope_write.proofs.write.append_responses.Goals as goal

pub asks-preserved : goal.asks-preserved
asks-preserved c =
    let l = c.asks in
    let ask = c.index-asks-i.result in
    let more = subs_of-more c.args.asks.now l.i ask (omega arith) c.index-asks-i.is in
    record {
      whole = omega (arith, more, c.split_at.ensures.back_len);
      so_far = rw (c.in_ok-append_response.ensures, c.split_at.ensures.front, c.split_at.ensures.back, c.len.ensures) (sym (responses_more l.out.items c.args.asks.now l.rest.now l.i ask (omega arith) c.index-asks-i.is) ∙ l.invariant.so_far);
    }

pub returns : goal.returns
returns c = sym (responses_end c.asks.out.items c.args.asks.now c.asks.rest.now c.asks.i (omega arith)) ∙ c.asks.invariant.so_far
