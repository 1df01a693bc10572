use Rattle.wire_requests.proofs.ReaderAnswers.{parts_are}
use Rattle.wire_requests.proofs.request.read_parts.Goals as goal

pub returns-in-Err-TooMany : goal.returns-in-Err-TooMany
returns-in-Err-TooMany c =
    let es = rw c.in-Err-TooMany.field-0-is at c.in-Err-TooMany.ensures in
    let all = c.read_subs-in-Err-TooMany.new.subs in
    let front = rw c.new-subs.ensures at (c.in_ok-read_subs.ensures) in
    (record { subs = all; elements = es.0 }, parts_are c.args.bytes.now c.args.before.now c.args.package_object.now c.args.behind.now c.read_subs.new.subs all es.0 front es.1 (c.in_ok-read_subs-in-Err-TooMany.ensures), es.2)
