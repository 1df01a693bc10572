use Rattle.std.proofs.Common.{◌∙◌, ◌++◌, ◌∷◌, [], ap, ℕ}
use Rattle.compact_values.specs.declared.ids.ExGuid.TheVariants.{Null}
use Rattle.file_nodes.specs.Index.{place_in}
use Rattle.file_nodes.proofs.TableSteps.{one_more}
use Rattle.file_nodes.proofs.places.places_in.Goals as goal

pub loop-id-preserved : goal.loop-id-preserved
loop-id-preserved c =
    one_more (place_in c.args.index.now c.args.absent) c.args.ids.now c.loop-id.id-index Null c.loop-id.places c.push.new.self _ c.loop-id-test.true
    (c.in_ok-push.ensures.ok ∙ ap (λ (n : ℕ). c.loop-id.places ++ n ∷ []) c.place_in.ensures) c.loop-id.invariant
