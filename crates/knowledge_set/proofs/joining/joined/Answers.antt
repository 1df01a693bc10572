use Rattle.std.proofs.Common.{◌∙◌, sym, refl, ap, false}
use Rattle.std.proofs.lemmas.List.{take_all}
use Rattle.std.proofs.lemmas.List.Sorted.{list_any-IsPermutation}
use Rattle.doc_model.specs.rules.Pulls.{knows}
use Rattle.knowledge_set.specs.Joined.{has}
use Rattle.knowledge_set.specs.Maximal.{are_maximal}
use Rattle.knowledge_set.proofs.Joins.{more-maximal, one-more, one-empty}
use Rattle.knowledge_set.proofs.joining.joined.Goals as goal
use Rattle.knowledge_set.proofs.joining.joined.Goals.{then-range+in_ok-join, else-range}

-- one range more
pub loop-range-preserved : goal.loop-range-preserved
loop-range-preserved c =
    let ranges = c.deref-range-items.result.now in
    let i = c.loop-range.range-index in
    record {
      maximal = elim c.if-range.branch [
        | then-range+in_ok-join w ↦
            ap (λ v. are_maximal v.items) w.joined-is
            ∙ more-maximal c.loop-range.joined.items w.join.new.ranges.items _ w.in_ok-join.ensures.ok w.if-range.true c.loop-range.invariant.maximal
        | else-range w ↦ ap (λ v. are_maximal v.items) w.joined-is ∙ c.loop-range.invariant.maximal
      ];
      has = λ g k. elim c.if-range.branch [
        | then-range+in_ok-join w ↦
            ap (λ v. knows g v.items k) w.joined-is
            ∙ one-more false c.loop-range.joined.items w.join.new.ranges.items ranges i _ _ g k
            w.in_ok-join.ensures.ok c.loop-range.invariant.maximal w.if-range.true c.loop-range-test.true refl (c.loop-range.invariant.has g k)
        | else-range w ↦
            ap (λ v. knows g v.items k) w.joined-is
            ∙ one-empty ranges i _ g k (knows g c.loop-range.joined.items k) w.if-range.false c.loop-range-test.true (c.loop-range.invariant.has g k)
      ];
    }

-- the sorted ranges are the same
pub returns-clause-same : goal.returns-clause-same
returns-clause-same c = λ g k.
    c.loop-range.invariant.has g k
    ∙ ap (λ xs. knows g xs k) (take_all c.loop-range.range-index c.deref-range-items.result.now c.loop-range-test.false)
    ∙ ap (λ xs. knows g xs k) c.deref-range-items.ensures.value
    ∙ sym (list_any-IsPermutation (has g k) c.args.ranges.items c.sort_by_key.new.self.items c.sort_by_key.ensures.permutation)
