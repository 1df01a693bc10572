use Rattle.std.proofs.Common.{◌≡◌, ℕ, List, subst, sym, ◌∙◌, arith, true}
use Rattle.compact_values.specs.declared.ids.ExGuid.{ExGuid}
use Rattle.doc_model.specs.rules.Reached.{named_along, enough}
use Rattle.doc_model.proofs.Once.{joining}
use Rattle.plain_core.specs.Cataloging.{listed}
use Rattle.plain_core.specs.Naming.{is_known}
use Rattle.plain_core.proofs.AlongBases.{Walks, known-null, known-among, walk-begins, walk-ends, walk-closed, walk-over, walk-step}
use Rattle.plain_core.proofs.links.name_along.Goals as goal

pub loop-left-init : goal.loop-left-init
loop-left-init c = walk-begins (listed c.args.catalog.now) c.args.revisions.now.maps.now c.args.named.now c.args.revision c.requires

-- at the end of the chain
pub returns-in-Null-clause-named : goal.returns-in-Null-clause-named
returns-in-Null-clause-named c =
    walk-ends (listed c.args.catalog.now) c.args.revisions.now.maps.now c.loop-left.named c.loop-left.left c.loop-left.at _ c.loop-left.invariant
    (known-null c.loop-left.named c.loop-left.at c.in-Null.is)

pub returns-in-Null-clause-closed : goal.returns-in-Null-clause-closed
returns-in-Null-clause-closed c =
    walk-closed (listed c.args.catalog.now) c.args.revisions.now.maps.now c.loop-left.named c.loop-left.left c.loop-left.at _ c.loop-left.invariant
    (known-null c.loop-left.named c.loop-left.at c.in-Null.is)

-- at one that was named before
pub returns-then-contains-clause-named : goal.returns-then-contains-clause-named
returns-then-contains-clause-named c =
    walk-ends (listed c.args.catalog.now) c.args.revisions.now.maps.now c.loop-left.named c.loop-left.left c.loop-left.at _ c.loop-left.invariant
    (known-among c.loop-left.named c.loop-left.at c.in-Id.guid c.in-Id.value c.in-Id.is (sym c.contains.ensures ∙ c.if-contains.true))

pub returns-then-contains-clause-closed : goal.returns-then-contains-clause-closed
returns-then-contains-clause-closed c =
    walk-closed (listed c.args.catalog.now) c.args.revisions.now.maps.now c.loop-left.named c.loop-left.left c.loop-left.at _ c.loop-left.invariant
    (known-among c.loop-left.named c.loop-left.at c.in-Id.guid c.in-Id.value c.in-Id.is (sym c.contains.ensures ∙ c.if-contains.true))

-- any other is named, and the walk goes on at its base
pub loop-left-preserved : goal.loop-left-preserved
loop-left-preserved c =
    walk-step (listed c.args.catalog.now) c.args.revisions.now.maps.now c.loop-left.named c.push.new.self c.loop-left.left c.loop-left.at c.base-at.result
    c.in-Id.guid c.in-Id.value _ (omega arith) c.in-Id.is (sym c.contains.ensures ∙ c.if-contains.false) c.in_ok-push-in-Id.ensures.ok c.base-at.ensures c.loop-left.invariant

-- where no step is left, all is named
pub returns-clause-named : goal.returns-clause-named
returns-clause-named c =
    walk-ends (listed c.args.catalog.now) c.args.revisions.now.maps.now c.loop-left.named c.loop-left.left c.loop-left.at _ c.loop-left.invariant
    (walk-over (listed c.args.catalog.now) c.args.revisions.now.maps.now c.loop-left.named c.loop-left.left c.loop-left.at _ c.loop-left.invariant (omega arith))

pub returns-clause-closed : goal.returns-clause-closed
returns-clause-closed c =
    walk-closed (listed c.args.catalog.now) c.args.revisions.now.maps.now c.loop-left.named c.loop-left.left c.loop-left.at _ c.loop-left.invariant
    (walk-over (listed c.args.catalog.now) c.args.revisions.now.maps.now c.loop-left.named c.loop-left.left c.loop-left.at _ c.loop-left.invariant (omega arith))
