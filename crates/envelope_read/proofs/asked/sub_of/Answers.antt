use Rattle.envelope_read.proofs.AskLoops.{sub_is}
use Rattle.envelope_read.proofs.asked.sub_of.Goals as goal

pub returns : goal.returns
returns c =
    sub_is c.args.sub.now c.bytes_of-kind.result.now c.data_text.result.now c.as_slice-attributes.result.now c.data_attributes.result.now c.in_ok-what.what c.in-Some.what c.in_ok-token.token c.in_ok-depend.depend
    c.as_slice-attributes.ensures c.bytes_of-kind.ensures c.data_attributes.ensures c.data_text.ensures c.in_ok-what.ensures c.in-Some.is c.in_ok-token.ensures c.in_ok-depend.ensures
