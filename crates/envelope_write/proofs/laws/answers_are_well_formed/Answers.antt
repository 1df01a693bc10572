use Rattle.envelope_write.proofs.WellFormedAnswers as forms
use Rattle.envelope_write.proofs.Values.{text_means}
use Rattle.envelope_write.proofs.laws.answers_are_well_formed.Goals as goal

pub returns : goal.returns
returns c = record {
  whole = forms.answers_are_well_formed;
  values = text_means;
}
