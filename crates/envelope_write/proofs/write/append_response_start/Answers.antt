use Rattle.std.proofs.Common.{◌≡◌, ◌∙◌}
use Rattle.std.specs.Prelude.{encode_utf8_all}
use Rattle.envelope_write.proofs.write.append_response_start.Goals as goal

pub returns : goal.returns
returns c =
    let url : c.as_bytes.result.now ≡ encode_utf8_all c.args.ask.now.url = c.as_bytes.ensures.value ∙ c.as_str.ensures.bytes in
    let token : c.as_bytes-2.result.now ≡ encode_utf8_all c.args.ask.now.token = c.as_bytes-2.ensures.value ∙ c.as_str-2.ensures.bytes in
    rw (url, token) at c.append_start.ensures
