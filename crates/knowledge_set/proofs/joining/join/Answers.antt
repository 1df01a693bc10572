use Rattle.std.proofs.Common.{◌≡◌, sym, ◌∙◌, ap, drop, ◌∷◌, rules, is_ok, cond, true}
use Rattle.std.specs.List.{insert}
use Rattle.knowledge_set.specs.Joined.{place_in, absorbed}
use Rattle.knowledge_set.proofs.Joins.{placed}
use Rattle.knowledge_set.proofs.joining.join.Goals as goal

-- the range is put in with what it absorbs, and that is taken away behind it
pub returns-clause-ok : goal.returns-clause-ok
returns-clause-ok c =
    let old = c.args.ranges.now.items in
    let range = c.args.range.now in
    let start = c.place-start.result in
    let end = c.absorbed-end.result.1 in
    let whole = c.absorbed-end.result.0 in
    let done : is_ok c.insert.result ≡ true = search rules in
    placed _ c.insert.new.self.items old range whole start end (search rules)
    (c.insert.ensures.items ∙ ap (λ b. cond b (insert old start whole) old) done)
    (c.place-start.ensures.place ∙ ap (λ xs. place_in xs range) c.as_slice.ensures.value)
    (sym (ap (λ xs. absorbed range (drop start xs)) c.as_slice-2.ensures.value) ∙ c.absorbed-end.ensures.absorbed ∙ ap (λ xs. whole ∷ drop end xs) c.as_slice-2.ensures.value)
    c.absorbed-end.ensures.from
    (search (rules, c.absorbed-end.ensures.to, c.as_slice-2.ensures.value))
