-- The weights that are kept.
use Rattle.std.proofs.Common.{◌≡◌, ℕ, ◌+◌, ◌-◌, ◌^◌, ◌≤◌, refl, sym, ◌∙◌, ap, true, cond, nat_le, min, List, [], ◌∷◌, ◌++◌, map, sum_by, arith, All}
use Rattle.std.proofs.lemmas.Bool.Decides.{nat_tests}
use Rattle.std.proofs.lemmas.List.Elements.{All-head, All-tail}
use Rattle.std.proofs.lemmas.List.Sums.{sum_by-append}
use Rattle.doc_model.specs.declared.element.Element.{Element}
use Rattle.doc_model.specs.rules.Limits.{most_objects}
use Rattle.doc_model.specs.rules.Weights.{weight, weight_of, objects_written}
use Rattle.element_store.specs.Kept.{kept_weight, whole_weight}

-- one element more
kept-append : (es : List Element) (e : Element) → map kept_weight (es ++ e ∷ []) ≡ map kept_weight es ++ kept_weight e ∷ []
kept-append [] e = refl
kept-append (x ∷ es) e = ap (λ ws. kept_weight x ∷ ws) (kept-append es e)

pub kept-more : (after now : List ℕ) (es : List Element) (e : Element) (w : ℕ) → after ≡ now ++ w ∷ [] → now ≡ map kept_weight es → w ≡ kept_weight e
    → after ≡ map kept_weight (es ++ e ∷ [])
kept-more after now es e w h n k = h ∙ ap (λ ws. ws ++ w ∷ []) n ∙ ap (λ v. map kept_weight es ++ v ∷ []) k ∙ sym (kept-append es e)

at-most-sum : (most a b c : ℕ) → c ≡ a + b → min (min most a + b) most ≡ min most c
at-most-sum most a b c h = grind (arith, h)

one : (a : ℕ) → 0 + a ≡ a
one a = omega arith

pub whole-more : (after now : ℕ) (es : List Element) (e : Element) (w : ℕ) → after ≡ min (now + w) (2 ^ 128 - 1) → now ≡ whole_weight es → w ≡ kept_weight e
    → after ≡ whole_weight (es ++ e ∷ [])
whole-more after now es e w h n k =
    let sums : sum_by kept_weight (es ++ e ∷ []) ≡ sum_by kept_weight es + kept_weight e = sum_by-append kept_weight es (e ∷ []) ∙ ap (λ v. sum_by kept_weight es + v) (one (kept_weight e)) in
    h
    ∙ ap (λ v. min (v + w) (2 ^ 128 - 1)) n
    ∙ ap (λ v. min (whole_weight es + v) (2 ^ 128 - 1)) k
    ∙ at-most-sum (2 ^ 128 - 1) (sum_by kept_weight es) (kept_weight e) (sum_by kept_weight (es ++ e ∷ [])) sums

-- what is kept are the weights, where the elements can be weighed
kept-is : (e : Element) → objects_written e ≤ most_objects → kept_weight e ≡ weight e
kept-is e h = let few : nat_le (objects_written e) most_objects ≡ true = grind (arith, nat_tests) in ap (λ b. cond b (weight e) 0) few

pub whole-is : (es : List Element) → All (λ e. objects_written e ≤ most_objects) es → sum_by kept_weight es ≡ weight_of es
whole-is [] h = refl
whole-is (e ∷ es) h =
    sum_by-append kept_weight (e ∷ []) es
    ∙ ap (λ v. (0 + v) + sum_by kept_weight es) (kept-is e (All-head (λ x. objects_written x ≤ most_objects) e es h))
    ∙ ap (λ v. (0 + weight e) + v) (whole-is es (All-tail (λ x. objects_written x ≤ most_objects) e es h))
    ∙ sym (sum_by-append weight (e ∷ []) es)
