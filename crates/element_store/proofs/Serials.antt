-- Serial numbers by ids, and what stands there.
use Rattle.std.proofs.Common.{◌≡◌, ℕ, suc, ◌+◌, refl, sym, ◌∙◌, ap, Bool, true, false, cond, List, [], ◌∷◌, ◌++◌, map, Option, Some, None, option_map, option_and_then, is_some, find, slice_get, arith}
use Rattle.std.specs.List.{AllByRecursion as Each, IsDistinct}
use Rattle.compact_values.specs.declared.ids.ExGuid.{ExGuid}
use Rattle.compact_values.specs.IdPlaces.{place_of}
use Rattle.compact_values.specs.SameIds.{same_id}
use Rattle.doc_model.specs.declared.element.Element.{Element}
use Rattle.doc_model.specs.rules.Finding.{find_element, numbered_from}
use Rattle.doc_model.proofs.Distinct.{distinct-push}
use Rattle.element_store.specs.Stored.{serial_of}

serial-from : (n : ℕ) (es : List Element) (id : ExGuid)
    → option_map (λ x. x.serial) (find (λ x. same_id x.element.id id) (numbered_from n es)) ≡ option_map (λ p. p + n) (place_of (map (λ e. e.id) es) id)
serial-from n [] id = refl
serial-from n (e ∷ es) id = by_test (same_id e.id id) (serial-from (n + 1) es id)
  where
    moved : (o : Option ℕ) → option_map (λ p. p + (n + 1)) o ≡ option_map (λ p. p + n) (option_map suc o)
    moved None = refl
    moved (Some p) = let k : p + (n + 1) ≡ suc p + n = omega arith in ap (λ (i : ℕ). Some i) k

    by_test : (b : Bool) → option_map (λ x. x.serial) (find (λ x. same_id x.element.id id) (numbered_from (n + 1) es)) ≡ option_map (λ p. p + (n + 1)) (place_of (map (λ x. x.id) es) id)
        → option_map (λ x. x.serial) (cond b (Some (record { serial = n; element = e })) (find (λ x. same_id x.element.id id) (numbered_from (n + 1) es)))
        ≡ option_map (λ p. p + n) (cond b (Some 0) (option_map suc (place_of (map (λ x. x.id) es) id)))
    by_test true ih = let k : n ≡ 0 + n = omega arith in ap (λ (i : ℕ). Some i) k
    by_test false ih = ih ∙ moved (place_of (map (λ x. x.id) es) id)

pub serial-place : (es : List Element) (id : ExGuid) (o : Option ℕ) → o ≡ place_of (map (λ e. e.id) es) id → option_map (λ p. p + 1) o ≡ serial_of es id
serial-place es id o h = ap (option_map (λ (p : ℕ). p + 1)) h ∙ sym (serial-from 1 es id)

pub element-place : (es : List Element) (id : ExGuid) → option_and_then (slice_get es) (place_of (map (λ e. e.id) es) id) ≡ find_element es id
element-place [] id = refl
element-place (e ∷ es) id = by_test (same_id e.id id) (place_of (map (λ x. x.id) es) id) (element-place es id)
  where
    by_test : (b : Bool) (o : Option ℕ) → option_and_then (slice_get es) o ≡ find_element es id
        → option_and_then (slice_get (e ∷ es)) (cond b (Some 0) (option_map suc o)) ≡ cond b (Some e) (find_element es id)
    by_test true o ih = refl
    by_test false None ih = ih
    by_test false (Some p) ih = ih

-- an id has a place where an element has it
pub place-there : (es : List Element) (id : ExGuid) → is_some (place_of (map (λ e. e.id) es) id) ≡ is_some (find_element es id)
place-there [] id = refl
place-there (e ∷ es) id = by_test (same_id e.id id) (place_of (map (λ x. x.id) es) id) (place-there es id)
  where
    by_test : (b : Bool) (o : Option ℕ) → is_some o ≡ is_some (find_element es id) → is_some (cond b (Some 0) (option_map suc o)) ≡ is_some (cond b (Some e) (find_element es id))
    by_test true o ih = refl
    by_test false None ih = ih
    by_test false (Some p) ih = ih

pub place-fresh : (es : List Element) (id : ExGuid) → find_element es id ≡ None → place_of (map (λ e. e.id) es) id ≡ None
place-fresh es id h = none (place_of (map (λ e. e.id) es) id) (place-there es id ∙ ap is_some h)
  where
    none : (o : Option ℕ) → is_some o ≡ false → o ≡ None
    none None k = refl
    none (Some p) k = cc

-- an element whose id none has keeps the ids distinct
fresh-each : (es : List Element) (e : Element) → find_element es e.id ≡ None → Each (λ x. same_id x.id e.id ≡ false) es
fresh-each [] e h = tt
fresh-each (x ∷ es) e h = by_test (same_id x.id e.id) refl (fresh-each es e) h
  where
    by_test : (b : Bool) → same_id x.id e.id ≡ b → (find_element es e.id ≡ None → Each (λ y. same_id y.id e.id ≡ false) es)
        → cond b (Some x) (find_element es e.id) ≡ None → Each (λ y. same_id y.id e.id ≡ false) (x ∷ es)
    by_test true k rest q = cc
    by_test false k rest q = (k, rest q)

pub distinct-more : (after es : List Element) (e : Element) → after ≡ es ++ e ∷ [] → IsDistinct same_id (map (λ x. x.id) es) → find_element es e.id ≡ None
    → IsDistinct same_id (map (λ x. x.id) after)
distinct-more after es e a d h = rw a (distinct-push same_id (λ x. x.id) es e d (fresh-each es e h))
