use Rattle.cell_host.proofs.FewObjects.{few_objects}
use Rattle.cell_host.proofs.answer.answers_on.Goals as goal

-- no element has more objects than the whole request
pub run_subs-requires-clause-light : goal.run_subs-requires-clause-light
run_subs-requires-clause-light g c = few_objects c.requires.request.0 c.args.request.now c.requires.request.1
