-- A place in a history: the document there, and the calls that are left.
use Rattle.std.proofs.Common.{◌≡◌, ℕ, suc, zero, ◌≤◌, refl, sym, ◌∙◌, ap, arith, List, [], ◌∷◌, ◌++◌, length, take, drop, Some}
use Rattle.std.specs.List.{slice_get}
use Rattle.doc_model.specs.declared.call.Call.{Call}
use Rattle.doc_model.specs.declared.doc.Doc.{Doc}
use Rattle.doc_model.specs.rules.Apply.{apply, replay}
use Rattle.doc_model.specs.rules.Histories.{History}
use Rattle.doc_model.proofs.Replays.{replay-append}

module _ {X : Type 0} where
  drop-next : (k : ℕ) (xs : List X) (x : X) (rest : List X) → drop k xs ≡ x ∷ rest → drop (suc k) xs ≡ rest
  drop-next zero [] x rest e = cc
  drop-next zero (y ∷ ys) x rest e = cc
  drop-next (suc k) [] x rest e = cc
  drop-next (suc k) (y ∷ ys) x rest e = drop-next k ys x rest e

  drop-first : (k : ℕ) (xs : List X) (x : X) (rest : List X) → drop k xs ≡ x ∷ rest → slice_get xs k ≡ Some x
  drop-first zero [] x rest e = cc
  drop-first zero (y ∷ ys) x rest e = cc
  drop-first (suc k) [] x rest e = cc
  drop-first (suc k) (y ∷ ys) x rest e = drop-first k ys x rest e

  take-next : (k : ℕ) (xs : List X) (x : X) (rest : List X) → drop k xs ≡ x ∷ rest → take (suc k) xs ≡ take k xs ++ x ∷ []
  take-next zero [] x rest e = cc
  take-next zero (y ∷ ys) x rest e = cc
  take-next (suc k) [] x rest e = cc
  take-next (suc k) (y ∷ ys) x rest e = ap (λ (zs : List X). y ∷ zs) (take-next k ys x rest e)

  drop-none : (k : ℕ) (xs : List X) → drop k xs ≡ [] → length xs ≤ k
  drop-none k [] e = omega arith
  drop-none zero (y ∷ ys) e = cc
  drop-none (suc k) (y ∷ ys) e = let h = drop-none k ys e in omega arith

-- after so many calls the document is this one, and these are left
pub record IsAt (doc : Doc) (history : History) (k : ℕ) (d : Doc) (rest : History) : Type 0 where
  pub there : d ≡ replay doc (take k history)
  pub left : drop k history ≡ rest

module _ (doc : Doc) (history : History) where
  pub first-place : IsAt doc history 0 doc history
  first-place = record { there = refl; left = refl }

  module _ (k : ℕ) (d : Doc) where
    pub next-place : (item : ℕ × Call) (rest : History) → IsAt doc history k d (item ∷ rest) → IsAt doc history (suc k) (apply d item.1).doc rest
    next-place item rest p = record {
      there = ap (λ (x : Doc). (apply x item.1).doc) p.there ∙ sym (replay-append doc (take k history) (item ∷ []))
          ∙ sym (ap (λ (xs : History). replay doc xs) (take-next k history item rest p.left));
      left = drop-next k history item rest p.left;
    }

    pub call-at : (item : ℕ × Call) (rest : History) → IsAt doc history k d (item ∷ rest) → slice_get history k ≡ Some item
    call-at item rest p = drop-first k history item rest p.left

    pub last-place : IsAt doc history k d [] → length history ≤ k
    last-place p = drop-none k history p.left
