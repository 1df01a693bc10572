use Rattle.std.proofs.Common.{◌≡◌, ℕ, List, ◌∙◌, ap, ◌||◌, replicate}
use Rattle.doc_model.specs.rules.Pulls.{knows}
use Rattle.plain_core.specs.Knowing.{covers}
use Rattle.plain_core.proofs.CoveredSerials.{zeros-cover}
use Rattle.plain_core.proofs.known.ends_of.Goals as goal

-- nothing is noted yet
pub loop-range-init : goal.loop-range-init
loop-range-init c =
    let zeros : c.in-Ok.ends.items ≡ replicate c.args.count 0 = c.in-Ok.ensures.items_if_clones_equal (λ y h. h) in
    record {
      len = c.in-Ok.ensures.len;
      told = λ k some few.
          ap (λ (ends : List ℕ). covers ends k || knows c.args.guid c.args.ranges.now k) zeros
          ∙ ap (λ b. b || knows c.args.guid c.args.ranges.now k) (zeros-cover c.args.count k some);
    }
