use Rattle.std.proofs.Common.{◌≡◌, ◌∙◌}
use Rattle.std.specs.Prelude.{encode_utf8_all}
use Rattle.envelope_write.proofs.sub_response.append_user.Goals as goal

pub returns : goal.returns
returns c =
    let user : c.as_bytes-value.result.now ≡ encode_utf8_all c.args.user.now = c.as_bytes-value.ensures.value ∙ c.as_str.ensures.bytes in
    rw user at c.append_saying.ensures
