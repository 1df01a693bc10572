use Rattle.std.proofs.Common.{◌≡◌, ◌+◌, drop}
use Rattle.envelope_read.specs.Verdicts.{sub_count, asks_from}
use Rattle.envelope_read.proofs.AskLoops.{prepended}
use Rattle.envelope_read.proofs.read.asks_of.Given as goal

abbrev pub invariant-loop-request : goal.invariant-loop-request
invariant-loop-request l = record {
  count : l.seen + sub_count (drop l.request-index l.requests) ≡ sub_count l.requests;
  so_far : prepended l.asks (asks_from l.seen (drop l.request-index l.requests)) ≡ asks_from 0 l.requests;
}
