use Rattle.std.proofs.Common.{ap, sym, ◌∙◌, arith}
use Rattle.std.specs.Str.{all_scalars}
use Rattle.std.proofs.lemmas.Str.{scalars-chars}
use Rattle.change_record.proofs.fits.fits_text.Goals as goal

pub returns : goal.returns
returns c = record {
  scalars = ap all_scalars (sym c.as_str-chars.ensures.chars) ∙ scalars-chars c.as_str-chars.result.now c.as_str-chars.utf8;
  short = omega (arith, c.len-length.ensures);
}
