use Rattle.std.proofs.Common.{◌∙◌, sym, ap}
use Rattle.std.specs.Prelude.{decimal}
use Rattle.http_head.specs.declared.answer.Media.TheVariants.{Plain}
use Rattle.session_loop.specs.Sessions.{Machine, IsAnswering}
use Rattle.session_loop.proofs.Telling.{front_leads_any, front_tracks_any}
use Rattle.session_loop.proofs.Rooming.{fronting_falls, answering_room}
use Rattle.session_loop.proofs.Safe.{answering_safe}
use Rattle.session_loop.proofs.session.Session.take_front.Goals as goal

pub returns-clause-leads : goal.returns-clause-leads
returns-clause-leads c =
    let m = c.args.self.now in
    let is : IsAnswering m Plain (decimal c.args.count) c.in-Fronting.close c.answer.new.self =
    rw (c.as_bytes.ensures.value, c.format.ensures.text) at c.in_ok-answer-in-Fronting.ensures in
    front_leads_any m c.answer.new.self c.in-Fronting.doc c.args.count c.in-Fronting.close (sym (ap (λ (x : Machine). x.stage) c.self.view_is) ∙ c.in-Fronting.is) is

pub returns-clause-tracks : goal.returns-clause-tracks
returns-clause-tracks c =
    let m = c.args.self.now in
    let is : IsAnswering m Plain (decimal c.args.count) c.in-Fronting.close c.answer.new.self =
    rw (c.as_bytes.ensures.value, c.format.ensures.text) at c.in_ok-answer-in-Fronting.ensures in
    front_tracks_any m c.answer.new.self c.in-Fronting.doc c.args.count c.in-Fronting.close (sym (ap (λ (x : Machine). x.stage) c.self.view_is) ∙ c.in-Fronting.is) is

pub returns-clause-falls : goal.returns-clause-falls
returns-clause-falls c =
    let m = c.args.self.now in
    let is : IsAnswering m Plain (decimal c.args.count) c.in-Fronting.close c.answer.new.self =
    rw (c.as_bytes.ensures.value, c.format.ensures.text) at c.in_ok-answer-in-Fronting.ensures in
    fronting_falls m c.answer.new.self c.in-Fronting.doc c.in-Fronting.close (sym (ap (λ (x : Machine). x.stage) c.self.view_is) ∙ c.in-Fronting.is)
    (answering_room m c.answer.new.self Plain (decimal c.args.count) c.in-Fronting.close is)

pub returns-clause-safe : goal.returns-clause-safe
returns-clause-safe c safe =
    let m = c.args.self.now in
    let is : IsAnswering m Plain (decimal c.args.count) c.in-Fronting.close c.answer.new.self =
    rw (c.as_bytes.ensures.value, c.format.ensures.text) at c.in_ok-answer-in-Fronting.ensures in
    answering_safe m c.answer.new.self Plain (decimal c.args.count) c.in-Fronting.close is
