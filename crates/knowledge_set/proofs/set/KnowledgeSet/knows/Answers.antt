use Rattle.std.proofs.Common.{◌≡◌, ◌<◌, ◌≤◌, sym, ◌∙◌, ap, length, get_or, arith, true}
use Rattle.std.proofs.lemmas.Bool.Decides.{nat_tests}
use Rattle.doc_model.specs.rules.Pulls.{knows}
use Rattle.knowledge_set.specs.Joined.{place_in}
use Rattle.knowledge_set.specs.Maximal.{are_maximal}
use Rattle.knowledge_set.proofs.Placing.{alone, knows-none, knows-some}
use Rattle.knowledge_set.proofs.set.KnowledgeSet.knows.Goals as goal

pub returns-in-None : goal.returns-in-None
returns-in-None c =
    let ranges = c.as_slice-ranges.result.now in
    let whole : ranges ≡ c.args.self.now = c.as_slice-ranges.ensures.value ∙ c.self.view_is in
    let m : are_maximal ranges ≡ true = ap are_maximal c.as_slice-ranges.ensures.value ∙ c.self.invariant in
    let l : length ranges ≤ place_in ranges (alone c.args.guid c.args.value) = grind (arith, c.get.ensures.lookup, c.place.ensures.place) in
    sym (knows-none ranges c.args.guid c.args.value m l) ∙ ap (λ xs. knows c.args.guid xs c.args.value) whole

pub returns-in-Some : goal.returns-in-Some
returns-in-Some c =
    let ranges = c.as_slice-ranges.result.now in
    let whole : ranges ≡ c.args.self.now = c.as_slice-ranges.ensures.value ∙ c.self.view_is in
    let m : are_maximal ranges ≡ true = ap are_maximal c.as_slice-ranges.ensures.value ∙ c.self.invariant in
    let l : place_in ranges (alone c.args.guid c.args.value) < length ranges = grind (arith, nat_tests, c.in-Some.ensures.lookup, c.place.ensures.place) in
    c.has.ensures ∙ sym (knows-some ranges c.in-Some.range.now c.args.guid c.args.value m l (c.in-Some.ensures.lookup.1 ∙ ap (λ n. get_or ranges n c.in-Some.range.now) c.place.ensures.place)) ∙ ap (λ xs. knows c.args.guid xs c.args.value) whole
