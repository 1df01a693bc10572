-- Taking two values follows their spellings where taking each does.
use Rattle.std.proofs.Common.{ℕ, List, ◌++◌, Option, refl, ap, ◌∙◌}
use Rattle.compact_values.specs.Both.{SpellsBoth}
use Rattle.compact_values.specs.Taking.{take_both}
use Rattle.compact_values.proofs.Takes.{Takes, takes_both}
use Rattle.wire_kinds.specs.Kind.{Kind, Spells, ◌▹◌}

module _ {A B : Type 0} (first : Kind A) (second : Kind B) (take_first : List ℕ → Option (A × List ℕ)) (take_second : List ℕ → Option (B × List ℕ))
    (one : Takes (Spells first) take_first) (two : Takes (Spells second) take_second) where
  both : Takes (SpellsBoth (Spells first) (Spells second)) (take_both take_first take_second)
  both = takes_both (Spells first) (Spells second) take_first take_second one two

  -- Two spellings one behind the other are the spelling of both.
  pub joined : (v : A × B) (b : List ℕ) → SpellsBoth (Spells first) (Spells second) v b → Spells (first ▹ second) v b
  joined v b s = record { range = (s.first.range, s.second.range); bytes_are = s.bytes_are ∙ ap (λ (l : List ℕ). l ++ s.back) s.first.bytes_are ∙ ap (λ (l : List ℕ). first.bytes v.0 ++ l) s.second.bytes_are }

  pub parted : (v : A × B) (b : List ℕ) → Spells (first ▹ second) v b → SpellsBoth (Spells first) (Spells second) v b
  parted v b s = record {
    front = first.bytes v.0;
    back = second.bytes v.1;
    first = record { range = s.range.0; bytes_are = refl };
    second = record { range = s.range.1; bytes_are = refl };
    bytes_are = s.bytes_are;
  }

  pub takes_pair : Takes (Spells (first ▹ second)) (take_both take_first take_second)
  takes_pair = record {
    found = λ b v rest fits e. let h = both.found b v rest fits e in (h.0, joined v h.0 h.1, h.2);
    again = λ v front rest s. both.again v front rest (parted v front s);
  }
