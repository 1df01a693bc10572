use Rattle.std.proofs.Common.{◌≡◌, ◌∙◌, ap}
use Rattle.std.specs.Prelude.{encode_utf8_all}
use Rattle.compact_values.specs.GuidText.{text_of_guid}
use Rattle.envelope_write.specs.Words.{lock_word, status_word}
use Rattle.envelope_write.proofs.sub_response.append_locked.Goals as goal

pub returns : goal.returns
returns c =
    let kind : c.lock_word.result.now ≡ lock_word c.args.kind = c.lock_word.ensures in
    let status : c.status_word.result.now ≡ status_word c.args.status = c.status_word.ensures in
    let transition : c.as_bytes.result.now ≡ encode_utf8_all (text_of_guid c.args.guid) = c.as_bytes.ensures.value ∙ c.as_str.ensures.bytes ∙ ap encode_utf8_all c.in_ok-transition.ensures.text in
    rw (kind, status, transition) at c.append_saying.ensures
