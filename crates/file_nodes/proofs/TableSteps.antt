-- Steps of the loops over a file's objects.
use Rattle.std.proofs.Common.{◌≡◌, ℕ, suc, ◌+◌, ◌<◌, List, [], ◌∷◌, ◌++◌, length, drop, map, get_or, Result, Ok, Err, refl, sym, ap, ◌∙◌, append_assoc, add-one, drop-cons, arith}
use Rattle.std.specs.Prelude.{slice_get}
use Rattle.compact_values.specs.declared.ids.ExGuid.{ExGuid}
use Rattle.file_nodes.specs.FileWalks.{together, arrived}
use Rattle.file_nodes.specs.Links.{total_by}
use Rattle.file_nodes.specs.declared.fault.NodeFault.{NodeFault}

-- one more item, of those that a list gives
pub one_more : {A B : Type 0} (f : A → B) (xs : List A) (i : ℕ) (d : A) (done more all : List B) → i < length xs → more ≡ done ++ f (get_or xs i d) ∷ [] → done ++ map f (drop i xs) ≡ all
    → more ++ map f (drop (i + 1) xs) ≡ all
one_more {A} {B} f xs i d done more all lt e h =
    ap (λ (l : List B). l ++ map f (drop (i + 1) xs)) e ∙ append_assoc done (f (get_or xs i d) ∷ []) (map f (drop (i + 1) xs))
    ∙ ap (λ (n : ℕ). done ++ f (get_or xs i d) ∷ map f (drop n xs)) (add-one i) ∙ ap (λ (l : List A). done ++ map f l) (sym (drop-cons xs i d lt)) ∙ h

together_more : (s n : ℕ) (r : Result ℕ NodeFault) → together (Ok s) (together (Ok n) r) ≡ together (Ok (s + n)) r
together_more s n (Ok m) = let e : s + (n + m) ≡ s + n + m = omega arith in ap Ok e
together_more s n (Err f) = refl

-- the length of one more file
pub total_step : (table : List (Result ℕ NodeFault)) (ids : List ExGuid) (places : List ℕ) (i sum size : ℕ) (d : ExGuid) (all : Result ℕ NodeFault) → length places ≡ length ids → i < length ids
    → Ok size ≡ arrived (get_or ids i d) (slice_get table (get_or places i 0)) → together (Ok sum) (total_by table (drop i ids) (drop i places)) ≡ all
    → together (Ok (sum + size)) (total_by table (drop (i + 1) ids) (drop (i + 1) places)) ≡ all
total_step table ids places i sum size d all same lt e h =
    let rest = total_by table (drop (suc i) ids) (drop (suc i) places) in
    let next : together (Ok sum) (together (arrived (get_or ids i d) (slice_get table (get_or places i 0))) rest) ≡ all =
    ap (λ (l : List ExGuid). together (Ok sum) (total_by table l (get_or places i 0 ∷ drop (suc i) places))) (sym (drop-cons ids i d lt))
    ∙ ap (λ (l : List ℕ). together (Ok sum) (total_by table (drop i ids) l)) (sym (drop-cons places i 0 (omega arith))) ∙ h in
    ap (λ (n : ℕ). together (Ok (sum + size)) (total_by table (drop n ids) (drop n places))) (add-one i)
    ∙ sym (together_more sum size rest) ∙ ap (λ (r : Result ℕ NodeFault). together (Ok sum) (together r rest)) e ∙ next
