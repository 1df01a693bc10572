use Rattle.std.proofs.Common.{subst}
use Rattle.doc_model.specs.declared.call.Sub.{Sub}
use Rattle.doc_model.specs.rules.Sound.{IsValidSub}
use Rattle.plain_core.proofs.FewObjects.{few-written}
use Rattle.plain_core.proofs.plain.PlainCoreCore.plan.Goals as goal

pub plan_put-requires-clause-few : goal.plan_put-requires-clause-few
plan_put-requires-clause-few c =
    let valid = subst (λ (s : Sub). IsValidSub s) c.in-Put.is c.requires.sub in
    few-written c.in-Put.put.elements valid.1
