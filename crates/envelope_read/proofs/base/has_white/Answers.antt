use Rattle.std.proofs.Common.{arith}
use Rattle.envelope_read.proofs.White.{nothing_white}
use Rattle.envelope_read.proofs.base.has_white.Goals as goal

pub returns-in-None-memchr : goal.returns-in-None-memchr
returns-in-None-memchr c = λ none. nothing_white c.args.bytes.now (λ k lt. c.in-None.ensures k (omega arith) lt) (λ k lt. c.in-None-memchr.ensures k (omega arith) lt)
