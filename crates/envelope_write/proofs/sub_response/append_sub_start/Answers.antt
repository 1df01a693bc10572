use Rattle.std.proofs.Common.{◌≡◌, ◌∙◌}
use Rattle.std.specs.Prelude.{encode_utf8_all}
use Rattle.envelope_write.specs.Words.{result_code}
use Rattle.envelope_write.proofs.sub_response.append_sub_start.Goals as goal

pub returns : goal.returns
returns c =
    let token : c.as_bytes.result.now ≡ encode_utf8_all c.args.token.now = c.as_bytes.ensures.value ∙ c.as_str.ensures.bytes in
    let code : c.result_code.result.now ≡ result_code c.args.word.now = c.result_code.ensures in
    rw (token, code) at c.append_start.ensures
