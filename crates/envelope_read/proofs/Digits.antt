-- A number, digit by digit.
use Rattle.std.proofs.Common.{◌≡◌, ℕ, ◌+◌, ◌*◌, ◌-◌, ◌^◌, ◌<◌, ◌≤◌, List, length, take, get_or, arith, pow-add, true, false, Bool, ◌∙◌, ap, sym, refl}
use Rattle.std.proofs.Math.Nat.{pow-le-pow_right}
use Rattle.std.proofs.lemmas.List.Folds.{list_all_at}
use Rattle.std.proofs.lemmas.Grind.{common_steps}
use Rattle.std.proofs.lemmas.Int.Digits.{digits_value_more}
use Rattle.std.specs.List.{list_all}
use Rattle.std.specs.Char.{is_ascii_digit, digit_value}
use Rattle.std.specs.Str.Parse.{digits_value}

digit_is : (c : ℕ) → is_ascii_digit c ≡ true → digit_value c ≡ c - 48
digit_is c h = grind (arith, common_steps)

digit_low : (c : ℕ) → is_ascii_digit c ≡ true → 48 ≤ c
digit_low c h = grind (arith, common_steps)

digit_high : (c : ℕ) → is_ascii_digit c ≡ true → c ≤ 57
digit_high c h = grind (arith, common_steps)

at_or : (b : Bool) → (b ≡ false → false ≡ true) → b ≡ true
at_or true h = refl
at_or false h = h refl

pub digit_at : (xs : List ℕ) (i : ℕ) → list_all is_ascii_digit xs ≡ true → i < length xs → is_ascii_digit (get_or xs i 0) ≡ true
digit_at xs i h within = at_or _ (λ no. sym (list_all_at is_ascii_digit xs i 0 within no) ∙ h)

-- one digit more
pub record Follows (xs : List ℕ) (i n : ℕ) : Type 0 where
  pub low : 48 ≤ get_or xs i 0
  pub high : get_or xs i 0 ≤ 57
  pub number : n * 10 + (get_or xs i 0 - 48) ≡ digits_value 10 (take (i + 1) xs)
  pub below : n * 10 + (get_or xs i 0 - 48) < 10 ^ (i + 1)
  pub small : n * 10 + 10 ≤ 10 ^ 10

pub digit_more : (xs : List ℕ) (i n : ℕ) → list_all is_ascii_digit xs ≡ true → length xs ≤ 10 → i < length xs
    → n ≡ digits_value 10 (take i xs) → n < 10 ^ i → Follows xs i n
digit_more xs i n all few within is below =
    let d : is_ascii_digit (get_or xs i 0) ≡ true = digit_at xs i all within in
    let low : 48 ≤ get_or xs i 0 = digit_low _ d in
    let high : get_or xs i 0 ≤ 57 = digit_high _ d in
    let power : 10 ^ (i + 1) ≡ 10 ^ i * 10 = pow-add 10 i 1 in
    let top : 10 ^ (i + 1) ≤ 10 ^ 10 = pow-le-pow_right {n = 10} (omega arith) {j = 10} (omega arith) in
    record {
      low = low;
      high = high;
      number = ap (λ m. m * 10 + (get_or xs i 0 - 48)) is ∙ ap (λ m. digits_value 10 (take i xs) * 10 + m) (sym (digit_is _ d)) ∙ sym (digits_value_more 10 xs i within);
      below = omega (arith, power);
      small = omega (arith, power, top);
    }
