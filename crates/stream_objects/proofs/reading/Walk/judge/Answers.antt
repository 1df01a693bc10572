use Rattle.std.proofs.Common.{◌≢◌, length, arith}
use Rattle.stream_objects.proofs.reading.Walk.judge.Goals as goal
use Rattle.stream_objects.proofs.Steps.{start_at, even_may, may_start, too_many}

pub returns-then-self-eq-MOST_OBJECTS : goal.returns-then-self-eq-MOST_OBJECTS
returns-then-self-eq-MOST_OBJECTS c =
    let free : length c.args.self.now.opened.items ≢ 12 = λ e. c.if-len-eq-MOST_LEVELS.false (omega (arith, c.len.ensures.value)) in
    too_many c.args.bytes.now c.args.self.now c.requires (start_at c.args.bytes.now c.args.self.now.place c.in-Some.first.now c.in-Some.ensures.value c.if-first-eq0.true) free (omega arith)

pub returns-then-first-eq0 : goal.returns-then-first-eq0
returns-then-first-eq0 c =
    let free : length c.args.self.now.opened.items ≢ 12 = λ e. c.if-len-eq-MOST_LEVELS.false (omega (arith, c.len.ensures.value)) in
    let few : c.args.self.now.count ≢ 262144 = λ e. c.if-self-eq-MOST_OBJECTS.false (omega arith) in
    even_may _ c.args.self.now (start_at c.args.bytes.now c.args.self.now.place c.in-Some.first.now c.in-Some.ensures.value c.if-first-eq0.true)
    (may_start c.args.bytes.now c.args.self.now c.requires free few)
