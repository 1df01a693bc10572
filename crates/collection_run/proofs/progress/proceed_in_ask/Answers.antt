use Rattle.std.proofs.Common.{◌≡◌, ◌∙◌, ◌<◌, ◌≤◌, ◌+◌, refl, ap, length, drop, arith}
use Rattle.std.proofs.lemmas.List.{drop_all}
use Rattle.collection_run.specs.Progress.{IsAt, caller_of, doc_at}
use Rattle.collection_run.specs.Collections.{doc_of}
use Rattle.collection_run.specs.Proceeding.{BeginsAs, IsPlain}
use Rattle.collection_run.specs.declared.beginning.Begun.TheVariants.{Ended, Opens}
use Rattle.dependency_runner.specs.Deciding.{decide}
use Rattle.collection_run.proofs.Closing.{moves_with, ends_at_once, calls_at_once, opens, here_of}
use Rattle.collection_run.proofs.progress.proceed_in_ask.Goals as goal

pub returns-then-p-subs-clause-proceeds : goal.returns-then-p-subs-clause-proceeds
returns-then-p-subs-clause-proceeds c =
    let p = c.args.p.now in
    let ask = c.index-as_slice-p.result in
    let ask_here = here_of c.as_slice.result.now p.collection.requests p.request ask c.as_slice.ensures c.index-as_slice-p.is c.requires.more in
    let over : length ask.subs ≤ p.sub = omega (arith, ap length c.as_slice-subs.ensures) in
    let doc_is : c.doc_at-p.result ≡ doc_at p.names (drop (p.request + 1) p.collection.requests) =
    c.doc_at-p.ensures ∙ ap (λ l. doc_at p.names (drop (p.request + 1) l)) c.as_slice-then-p-subs.ensures in
    moves_with p ask c.doc_at-p.result c.truncate.new.self c.requires.progress ask_here c.requires.cell c.requires.call (drop_all p.sub ask.subs over) over doc_is c.truncate.ensures

pub returns-in_ok-close-in-Ended-clause-proceeds : goal.returns-in_ok-close-in-Ended-clause-proceeds
returns-in_ok-close-in-Ended-clause-proceeds c =
    let p = c.args.p.now in
    let ask = c.index-as_slice-p.result in
    let sub = c.index-subs-p.result in
    let below : p.sub < length ask.subs = omega (arith, ap length c.as_slice-subs.ensures) in
    let at : IsAt p ask sub = record {
      ask_here = here_of c.as_slice.result.now p.collection.requests p.request ask c.as_slice.ensures c.index-as_slice-p.is c.requires.more;
      sub_here = here_of c.as_slice-subs.result.now ask.subs p.sub sub c.as_slice-subs.ensures c.index-subs-p.is below;
    } in
    let doc_is : p.doc ≡ doc_of p.names ask.url = c.requires.progress.doc ∙ ap (doc_at p.names) at.ask_here in
    let begins : BeginsAs (caller_of p) (doc_of p.names ask.url) (decide sub.depend p.earlier) sub.what (Ended c.in-Ended.outcome) =
    rw (c.in-Ended.is, doc_is, c.decide-decision.ensures) at (c.in_ok-outcome.ensures (caller_of p) refl refl) in
    ends_at_once p c.close.new.p ask sub c.in-Ended.outcome at c.requires.cell begins (c.in_ok-close-in-Ended.ensures.closes ask sub at)

pub returns-in-Calls-clause-proceeds : goal.returns-in-Calls-clause-proceeds
returns-in-Calls-clause-proceeds c =
    let p = c.args.p.now in
    let ask = c.index-as_slice-p.result in
    let sub = c.index-subs-p.result in
    let below : p.sub < length ask.subs = omega (arith, ap length c.as_slice-subs.ensures) in
    let at : IsAt p ask sub = record {
      ask_here = here_of c.as_slice.result.now p.collection.requests p.request ask c.as_slice.ensures c.index-as_slice-p.is c.requires.more;
      sub_here = here_of c.as_slice-subs.result.now ask.subs p.sub sub c.as_slice-subs.ensures c.index-subs-p.is below;
    } in
    let doc_is : p.doc ≡ doc_of p.names ask.url = c.requires.progress.doc ∙ ap (doc_at p.names) at.ask_here in
    let begins : IsPlain (caller_of p) (doc_of p.names ask.url) (decide sub.depend p.earlier) sub.what c.in-Calls.doc c.in-Calls.call =
    rw (c.in-Calls.is, doc_is, c.decide-decision.ensures) at (c.in_ok-outcome.ensures (caller_of p) refl refl) in
    calls_at_once p ask sub c.in-Calls.doc c.in-Calls.call c.requires.progress at c.requires.cell begins

pub returns-in-Opens-clause-proceeds : goal.returns-in-Opens-clause-proceeds
returns-in-Opens-clause-proceeds c =
    let p = c.args.p.now in
    let ask = c.index-as_slice-p.result in
    let sub = c.index-subs-p.result in
    let below : p.sub < length ask.subs = omega (arith, ap length c.as_slice-subs.ensures) in
    let at : IsAt p ask sub = record {
      ask_here = here_of c.as_slice.result.now p.collection.requests p.request ask c.as_slice.ensures c.index-as_slice-p.is c.requires.more;
      sub_here = here_of c.as_slice-subs.result.now ask.subs p.sub sub c.as_slice-subs.ensures c.index-subs-p.is below;
    } in
    let doc_is : p.doc ≡ doc_of p.names ask.url = c.requires.progress.doc ∙ ap (doc_at p.names) at.ask_here in
    let begins : BeginsAs (caller_of p) (doc_of p.names ask.url) (decide sub.depend p.earlier) sub.what (Opens c.in-Opens.cell) =
    rw (c.in-Opens.is, doc_is, c.decide-decision.ensures) at (c.in_ok-outcome.ensures (caller_of p) refl refl) in
    opens p ask sub c.in-Opens.cell c.requires.progress at c.requires.cell c.requires.call begins

pub returns-then-p-subs-clause-safe : goal.returns-then-p-subs-clause-safe
returns-then-p-subs-clause-safe c =
    let p = c.args.p.now in
    let ask = c.index-as_slice-p.result in
    let ask_here = here_of c.as_slice.result.now p.collection.requests p.request ask c.as_slice.ensures c.index-as_slice-p.is c.requires.more in
    let over : length ask.subs ≤ p.sub = omega (arith, ap length c.as_slice-subs.ensures) in
    let doc_is : c.doc_at-p.result ≡ doc_at p.names (drop (p.request + 1) p.collection.requests) =
    c.doc_at-p.ensures ∙ ap (λ l. doc_at p.names (drop (p.request + 1) l)) c.as_slice-then-p-subs.ensures in
    (moves_with p ask c.doc_at-p.result c.truncate.new.self c.requires.progress ask_here c.requires.cell c.requires.call (drop_all p.sub ask.subs over) over doc_is c.truncate.ensures).progress

pub returns-in-Opens-clause-safe : goal.returns-in-Opens-clause-safe
returns-in-Opens-clause-safe c =
    let p = c.args.p.now in
    let ask = c.index-as_slice-p.result in
    let sub = c.index-subs-p.result in
    let below : p.sub < length ask.subs = omega (arith, ap length c.as_slice-subs.ensures) in
    let at : IsAt p ask sub = record {
      ask_here = here_of c.as_slice.result.now p.collection.requests p.request ask c.as_slice.ensures c.index-as_slice-p.is c.requires.more;
      sub_here = here_of c.as_slice-subs.result.now ask.subs p.sub sub c.as_slice-subs.ensures c.index-subs-p.is below;
    } in
    let doc_is : p.doc ≡ doc_of p.names ask.url = c.requires.progress.doc ∙ ap (doc_at p.names) at.ask_here in
    let begins : BeginsAs (caller_of p) (doc_of p.names ask.url) (decide sub.depend p.earlier) sub.what (Opens c.in-Opens.cell) =
    rw (c.in-Opens.is, doc_is, c.decide-decision.ensures) at (c.in_ok-outcome.ensures (caller_of p) refl refl) in
    (opens p ask sub c.in-Opens.cell c.requires.progress at c.requires.cell c.requires.call begins).progress
