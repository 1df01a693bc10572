-- Elements with their serial numbers: in one list behind another, and those of them that were sent.
use Rattle.std.proofs.Common.{◌≡◌, ℕ, ◌+◌, refl, sym, ◌∙◌, ap, List, [], ◌∷◌, ◌++◌, map, filter, length, cond, arith}
use Rattle.std.proofs.lemmas.List.{map-append}
use Rattle.std.proofs.lemmas.List.Elements.{filter-append}
use Rattle.compact_values.specs.declared.ids.ExGuid.{ExGuid}
use Rattle.doc_model.specs.declared.element.Element.{Element}
use Rattle.doc_model.specs.declared.element.NumberedElement.{NumberedElement}
use Rattle.doc_model.specs.rules.Finding.{numbered_from}
use Rattle.doc_model.specs.rules.Puts.{is_sent}
use Rattle.plain_core.specs.Sending.{is_one_of}
use Rattle.plain_core.proofs.FoundPlaces.{any-id}

pub numbered-append : (n : ℕ) (xs ys : List Element) → numbered_from n (xs ++ ys) ≡ numbered_from n xs ++ numbered_from (n + length xs) ys
numbered-append n [] ys = ap (λ k. numbered_from k ys) (omega arith)
numbered-append n (x ∷ xs) ys =
    ap (λ rest. record { serial = n; element = x } ∷ rest)
    (numbered-append (n + 1) xs ys ∙ ap (λ k. numbered_from (n + 1) xs ++ numbered_from k ys) (omega arith))

module _ (es : List Element) where
  abbrev ids : List ExGuid
  ids = map (λ e. e.id) es

  pub sent-by-id : (ns : List NumberedElement) → filter (is_one_of ids) ns ≡ filter (is_sent es) ns
  sent-by-id [] = refl
  sent-by-id (n ∷ ns) =
      ap (λ b. cond b (n ∷ filter (is_one_of ids) ns) (filter (is_one_of ids) ns)) (any-id n.element.id es)
      ∙ ap (λ rest. cond (is_sent es n) (n ∷ rest) rest) (sent-by-id ns)

-- the numbers of those of the ids, in one list behind another
pub serials-both : (ids : List ExGuid) (added fresh : List Element)
    → map (λ k. k.serial) (filter (is_one_of ids) (numbered_from 1 added)) ++ map (λ k. k.serial) (filter (is_one_of ids) (numbered_from (length added + 1) fresh))
    ≡ map (λ k. k.serial) (filter (is_one_of ids) (numbered_from 1 (added ++ fresh)))
serials-both ids added fresh =
    let first = numbered_from 1 added in
    let then = numbered_from (1 + length added) fresh in
    ap (λ k. map (λ n. n.serial) (filter (is_one_of ids) first) ++ map (λ n. n.serial) (filter (is_one_of ids) (numbered_from k fresh))) (omega arith)
    ∙ sym (map-append (λ k. k.serial) (filter (is_one_of ids) first) (filter (is_one_of ids) then))
    ∙ ap (map (λ k. k.serial)) (sym (filter-append (is_one_of ids) first then))
    ∙ ap (λ ns. map (λ k. k.serial) (filter (is_one_of ids) ns)) (sym (numbered-append 1 added fresh))
