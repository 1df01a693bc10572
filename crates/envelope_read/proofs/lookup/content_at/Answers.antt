use Rattle.std.proofs.Common.{sym, ap, ◌∙◌}
use Rattle.envelope_read.specs.Lookup.{content_from, content_at}
use Rattle.envelope_read.proofs.lookup.content_at.Goals as goal

pub returns-in-Some : goal.returns-in-Some
unfolding content_at
returns-in-Some c = c.content_in.ensures ∙ sym (ap content_from c.in-Some.ensures)

pub returns-in-None : goal.returns-in-None
unfolding content_at
returns-in-None c = sym (ap content_from c.in-None.ensures)
