use Rattle.std.proofs.Common.{◌∷◌, [], ◌∙◌, ap, map, arith}
use Rattle.std.proofs.lemmas.List.{map-append}
use Rattle.plain_core.specs.Cataloging.{listed}
use Rattle.plain_core.specs.Sayings.{seen_manifest}
use Rattle.plain_core.proofs.ChainSteps.{chain-done, chain-over, chain-none, chain-step}
use Rattle.plain_core.proofs.root_chain.chain.Goals as goal

-- the chain ends
pub returns-in-Null : goal.returns-in-Null
returns-in-Null c =
    chain-done (listed c.args.catalog.now) c.args.revisions.now.maps.now c.loop-left.left (map seen_manifest c.loop-left.all.items) c.loop-left.at _ c.in-Null.is c.loop-left.invariant

-- a manifest isn't there
pub returns-in-None : goal.returns-in-None
returns-in-None c =
    chain-none (listed c.args.catalog.now) c.args.revisions.now.maps.now c.loop-left.left (map seen_manifest c.loop-left.all.items) c.loop-left.at c.in-Id.guid c.in-Id.value _
    (omega arith) c.in-Id.is c.in-None.ensures c.loop-left.invariant

pub loop-left-preserved : goal.loop-left-preserved
loop-left-preserved c =
    chain-step (listed c.args.catalog.now) c.args.revisions.now.maps.now c.loop-left.left (map seen_manifest c.loop-left.all.items) (map seen_manifest c.push.new.self.items) (seen_manifest c.in-Some.m)
    c.loop-left.at c.in-Id.guid c.in-Id.value _ (omega arith) c.in-Id.is c.in-Some.ensures
    (ap (map seen_manifest) c.in-Ok.ensures.items ∙ map-append seen_manifest c.loop-left.all.items (c.in-Some.m ∷ [])) c.loop-left.invariant

pub returns-in-Null-at : goal.returns-in-Null-at
returns-in-Null-at c =
    chain-done (listed c.args.catalog.now) c.args.revisions.now.maps.now c.loop-left.left (map seen_manifest c.loop-left.all.items) c.loop-left.at _ c.in-Null-at.is c.loop-left.invariant

-- the chain is too long
pub returns : goal.returns
returns c =
    chain-over (listed c.args.catalog.now) c.args.revisions.now.maps.now c.loop-left.left (map seen_manifest c.loop-left.all.items) c.loop-left.at c.in-Id-at.guid c.in-Id-at.value _
    (omega arith) c.in-Id-at.is c.loop-left.invariant
