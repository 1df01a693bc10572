use Rattle.envelope_grammar.proofs.DocumentLaws.{is_found, is_only, is_refused}
use Rattle.envelope_grammar.proofs.document.read_requests.Goals as goal

pub returns-clause-found : goal.returns-clause-found
returns-clause-found c = is_found c.args.text.now c.text_at.result c.text_at.ensures

pub returns-clause-only : goal.returns-clause-only
returns-clause-only c = is_only c.args.text.now c.text_at.result c.text_at.ensures

pub returns-clause-refused : goal.returns-clause-refused
returns-clause-refused c = is_refused c.args.text.now c.text_at.result c.text_at.ensures
