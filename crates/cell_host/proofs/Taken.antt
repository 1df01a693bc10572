-- What was taken of a source.
use Rattle.std.proofs.Common.{◌≡◌, ℕ, ◌+◌, ◌≤◌, List, ◌++◌, length, None, Some, ap, ◌∙◌, arith, length-append}
use Rattle.std.specs.declared.option.Option.{Option}
use Rattle.std.specs.Option.{option_map}
use Rattle.std.specs.Io.KnownBytes.{Consumes}
use Rattle.std.proofs.KnownBytes.{Consumes-trans}
use Rattle.cell_host.specs.Input.{TakesFront}

more_taken : (first mid last : Option ℕ) (input piece : List ℕ) (k n : ℕ) → length input ≡ k → length piece ≡ n → mid ≡ option_map (λ t. t + k) first
    → last ≡ option_map (λ t. t + n) mid → last ≡ option_map (λ t. t + length (input ++ piece)) first
more_taken None mid last input piece k n ek en em el = el ∙ ap (option_map (λ t. t + n)) em
more_taken (Some t) mid last input piece k n ek en em el = el ∙ ap (option_map (λ t. t + n)) em ∙ ap Some (omega (arith, length-append input piece, ek, en))

-- a piece was taken behind the input
pub takes_more : (most : ℕ) (first mid last : Option (List ℕ)) (taken then now : Option ℕ) (input piece : List ℕ) (k n : ℕ) → length input ≡ k → length piece ≡ n
    → Consumes first mid input → Consumes mid last piece → then ≡ option_map (λ t. t + k) taken → now ≡ option_map (λ t. t + n) then → k + n ≤ most → TakesFront most first last taken now
takes_more most first mid last taken then now input piece k n ek en before more told told_now fits =
    (input ++ piece, omega (arith, length-append input piece, ek, en, fits), Consumes-trans first mid last input piece before more, more_taken taken then now input piece k n ek en told told_now)
