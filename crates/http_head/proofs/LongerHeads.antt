-- What is found of a head stays so, however the bytes go on.
use Rattle.std.proofs.Common.{◌≢◌, ◌≤◌, ℕ, List, ◌++◌, length, take, IsTrue, arith, sym, subst, refl}
use Rattle.std.proofs.lemmas.Grind.{common_steps}
use Rattle.std.proofs.lemmas.List.{take-append-le}
use Rattle.http_head.specs.declared.head.HeadEnd.{HeadEnd}
use Rattle.http_head.specs.declared.head.HeadEnd.TheVariants.{More, TooLong, At}
use Rattle.http_head.specs.Heads.{ends_head, FindsHeadEnd}

front_ends : (bytes more : List ℕ) (n : ℕ) → n ≤ length bytes → IsTrue (ends_head (take n (bytes ++ more))) → IsTrue (ends_head (take n bytes))
front_ends bytes more n within is = subst (λ (l : List ℕ). IsTrue (ends_head l)) (take-append-le n bytes more within) is

pub found_stays : (bytes more : List ℕ) (found : HeadEnd) → found ≢ More → FindsHeadEnd bytes found → FindsHeadEnd (bytes ++ more) found
found_stays bytes more More other x = absurd (other refl)
found_stays bytes more TooLong other (long, none) = (
  grind (arith, common_steps, long),
  λ n within is. none n within (front_ends bytes more n (omega (arith, within, long)) is),
)
found_stays bytes more (At end) other (within, x) =
    let inside : end ≤ length bytes = x.within in (
      within,
      record {
        within = grind (arith, common_steps, inside);
        ends = subst (λ (l : List ℕ). IsTrue (ends_head l)) (sym (take-append-le end bytes more inside)) x.ends;
        first = λ n less is. x.first n less (front_ends bytes more n (omega (arith, less, inside)) is);
      },
    )
