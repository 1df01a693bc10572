-- What a document has with the elements of an upload, as each joins it whose id isn't there yet.
use Rattle.std.proofs.Common.{◌≡◌, refl, sym, ◌∙◌, ap, Bool, true, false, not, ◌&&◌, ◌||◌, cond, List, [], ◌∷◌, ◌++◌, fold, filter, append-nil, append_assoc}
use Rattle.std.specs.List.{list_any, list_all}
use Rattle.std.proofs.lemmas.Bool.{false≢true}
use Rattle.std.proofs.lemmas.List.Elements.{filter-append}
use Rattle.std.proofs.lemmas.List.Folds.{list_any-append, list_all-append}
use Rattle.compact_values.specs.declared.ids.ExGuid.{ExGuid}
use Rattle.compact_values.specs.SameIds.{same_id}
use Rattle.compact_values.proofs.SameIds.{id-same}
use Rattle.doc_model.specs.declared.element.Element.{Element}
use Rattle.compact_values.specs.IdPlaces.{with_new}
use Rattle.doc_model.specs.rules.Puts.{same_ids, is_new, grown}

module _ (added : List Element) where
  abbrev new : List Element → List Element
  new es = filter (is_new added) es

  -- one whose id isn't among the added ones is among those that are new, where it is among all
  module _ (e : Element) where
    abbrev alike : List Element → Bool
    alike es = list_any (same_ids e) es

    keeps : (b c : Bool) (k : Element) (ks : List Element) → (b ≡ true → c ≡ true) → alike (new ks) ≡ alike ks
        → same_ids e k ≡ b → is_new added k ≡ c → alike (cond c (k ∷ new ks) (new ks)) ≡ (b || alike ks)
    keeps true true k ks h later p q = ap (λ t. t || alike (new ks)) p
    keeps true false k ks h later p q = absurd (false≢true (h refl))
    keeps false true k ks h later p q = ap (λ t. t || alike (new ks)) p ∙ later
    keeps false false k ks h later p q = later

    is_kept_new : (k : Element) → alike added ≡ false → same_ids e k ≡ true → is_new added k ≡ true
    is_kept_new k out p = ap (λ (id : ExGuid). not (list_any (λ x. same_id id x.id) added)) (sym (id-same e.id k.id p)) ∙ ap not out

    pub new-alike : (ks : List Element) → alike added ≡ false → alike (new ks) ≡ alike ks
    new-alike [] out = refl
    new-alike (k ∷ ks) out =
        keeps (same_ids e k) (is_new added k) k ks (λ p. is_kept_new k out p) (new-alike ks out) refl refl

    -- one step: the element joins what is there, and so what is new of all
    is_old : alike added ≡ true → is_new added e ≡ false
    is_old h = ap not h

    of_one : (c : Bool) → is_new added e ≡ c → new (e ∷ []) ≡ cond c (e ∷ []) []
    of_one c h = ap (λ b. cond b (e ∷ []) []) h

    joins : (a k : Bool) (ks : List Element) → alike added ≡ a → alike ks ≡ k → with_new same_ids (added ++ new ks) e ≡ added ++ new (with_new same_ids ks e)
    joins true true ks p q =
        ap (λ b. cond b (added ++ new ks) ((added ++ new ks) ++ e ∷ [])) (list_any-append (same_ids e) added (new ks) ∙ ap (λ b. b || alike (new ks)) p)
        ∙ sym (ap (λ b. added ++ new (cond b ks (ks ++ e ∷ []))) q)
    joins true false ks p q =
        ap (λ b. cond b (added ++ new ks) ((added ++ new ks) ++ e ∷ [])) (list_any-append (same_ids e) added (new ks) ∙ ap (λ b. b || alike (new ks)) p)
        ∙ sym (ap (λ b. added ++ new (cond b ks (ks ++ e ∷ []))) q
        ∙ ap (λ xs. added ++ xs) (filter-append (is_new added) ks (e ∷ []) ∙ ap (λ xs. new ks ++ xs) (of_one false (is_old p)) ∙ append-nil (new ks)))
    joins false true ks p q =
        ap (λ b. cond b (added ++ new ks) ((added ++ new ks) ++ e ∷ []))
        (list_any-append (same_ids e) added (new ks) ∙ ap (λ b. b || alike (new ks)) p ∙ new-alike ks p ∙ q)
        ∙ sym (ap (λ b. added ++ new (cond b ks (ks ++ e ∷ []))) q)
    joins false false ks p q =
        ap (λ b. cond b (added ++ new ks) ((added ++ new ks) ++ e ∷ []))
        (list_any-append (same_ids e) added (new ks) ∙ ap (λ b. b || alike (new ks)) p ∙ new-alike ks p ∙ q)
        ∙ append_assoc added (new ks) (e ∷ [])
        ∙ sym (ap (λ b. added ++ new (cond b ks (ks ++ e ∷ []))) q
        ∙ ap (λ xs. added ++ xs) (filter-append (is_new added) ks (e ∷ []) ∙ ap (λ xs. new ks ++ xs) (of_one true (ap not p))))

  grows-from : (ks es : List Element) → fold (with_new same_ids) (added ++ new ks) es ≡ added ++ new (fold (with_new same_ids) ks es)
  grows-from ks [] = refl
  grows-from ks (e ∷ es) =
      ap (λ xs. fold (with_new same_ids) xs es) (joins e (list_any (same_ids e) added) (list_any (same_ids e) ks) ks refl refl)
      ∙ grows-from (with_new same_ids ks e) es

  -- each element of an upload in turn, as the definition has them all at once
  pub grows : (es : List Element) → fold (with_new same_ids) added es ≡ grown added es
  grows es = ap (λ xs. fold (with_new same_ids) xs es) (sym (append-nil added)) ∙ grows-from [] es

-- what holds of all that is there and of all that joins holds of all that is there then
module _ (test : Element → Bool) where
  both : (a b : Bool) → a ≡ true → b ≡ true → (a && b) ≡ true
  both true b p q = q
  both false b p q = p

  head : (a b : Bool) → (a && b) ≡ true → (a ≡ true) × (b ≡ true)
  head true b h = (refl, h)
  head false b h = cc

  one : (e : Element) (b : Bool) (known : List Element) → list_all test known ≡ true → test e ≡ true → list_all test (cond b known (known ++ e ∷ [])) ≡ true
  one e true known h t = h
  one e false known h t = list_all-append test known (e ∷ []) ∙ both (list_all test known) (test e && true) h (both (test e) true t refl)

  pub all-joined : (known es : List Element) → list_all test known ≡ true → list_all test es ≡ true → list_all test (fold (with_new same_ids) known es) ≡ true
  all-joined known [] h t = h
  all-joined known (e ∷ es) h t =
      let split = head (test e) (list_all test es) t in
      all-joined (with_new same_ids known e) es (one e (list_any (same_ids e) known) known h split.0) split.1

-- and of all that is there with what is new of an upload
pub all-grown : (test : Element → Bool) (added es : List Element) → list_all test added ≡ true → list_all test es ≡ true → list_all test (grown added es) ≡ true
all-grown test added es h t = ap (list_all test) (sym (grows added es)) ∙ all-joined test added es h t
