use Rattle.std.proofs.Common.{◌≡◌, drop}
use Rattle.envelope_grammar.specs.Front.{past_word}
use Rattle.envelope_grammar.proofs.front.past_word.Given as goal

abbrev pub invariant-loop-w : goal.invariant-loop-w
invariant-loop-w l = past_word (drop l.w-index l.word) l.rest ≡ past_word l.word l.bytes
