-- The last item of a list that is written in its place.
use Rattle.std.proofs.Common.{◌≡◌, suc, ◌-◌, ◌<◌, List, [], ◌∷◌, ◌++◌, length, take, drop, slice_set, slice_index_or, sym, ap, ◌∙◌, arith}
use Rattle.std.specs.List.{refill}
use Rattle.std.proofs.Math.Seq.{take-length, take-suc, take-suc-set, take-append_seam}
use Rattle.std.proofs.lemmas.List.{length-set}

module _ {X : Type 0} (xs : List X) (some : 0 < length xs) where
  whole : suc (length xs - 1) ≡ length xs
  whole = omega (arith, some)

  inside : length xs - 1 < length xs
  inside = omega (arith, some)

  -- the items before the last one, and the last one
  pub last_split : (x : X) → x ≡ slice_index_or xs (length xs - 1) x → xs ≡ take (length xs - 1) xs ++ x ∷ []
  last_split x is =
      sym (take-length xs) ∙ ap (λ n. take n xs) (sym whole) ∙ take-suc xs (length xs - 1) x inside ∙ ap (λ y. take (length xs - 1) xs ++ y ∷ []) (sym is)

  -- the items before the last one stay
  pub last_written : (y : X) → refill (length xs) xs (slice_set xs (length xs - 1) y) ≡ take (length xs - 1) xs ++ y ∷ []
  last_written y =
      let written = slice_set xs (length xs - 1) y in
      let long : length written ≡ length xs = length-set xs (length xs - 1) y in
      ap (λ n. take n (written ++ drop (length written) xs)) (sym long) ∙ take-append_seam written (drop (length written) xs)
      ∙ sym (take-length written) ∙ ap (λ n. take n written) (long ∙ sym whole) ∙ take-suc-set xs (length xs - 1) y inside
