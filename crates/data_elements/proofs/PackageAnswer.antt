-- A package has one answer, where memory doesn't run out.
use Rattle.std.proofs.Common.{◌≡◌, ◌≢◌, ℕ, List, length, Result, Ok, Err, inl, inr, refl, ap, subst, arith}
use Rattle.compact_values.proofs.LittleEndian.{IsBytes}
use Rattle.stream_objects.specs.declared.tree.Tree.{Tree}
use Rattle.stream_objects.specs.Parts.{IsFirstBroken}
use Rattle.stream_objects.proofs.Broken.{Judges, one_broken, none_broken}
use Rattle.doc_model.specs.wire.Elements.{IsPackage}
use Rattle.doc_model.specs.readers.ElementSites.{InOwnForm, site_start, package_sites}
use Rattle.data_elements.specs.Reading.{package_at}
use Rattle.data_elements.specs.Answers.{Gives, IsPackageResult, IsOnly}
use Rattle.doc_model.specs.declared.element.Element.{Element}
use Rattle.data_elements.specs.declared.fault.ElementFault.{ElementFault}
use Rattle.data_elements.specs.declared.fault.ElementFault.TheVariants as faults
use Rattle.data_elements.proofs.ElementLaws.{judges_package, again_package}

module _ (input : List ℕ) (fits : IsBytes input) (t : Tree) where
  abbrev J : Result (List Element) ℕ → Type 0
  J = Judges (InOwnForm input) site_start (IsPackage input t) (package_sites input t)

  pub package_is : (es : List Element) → package_at input t ≡ Ok es → IsPackage input t es
  package_is es e = go (package_at input t) e (judges_package input fits t) where
    go : (r : Result (List Element) ℕ) → r ≡ Ok es → J r → IsPackage input t es
    go (Ok x) e j = let same : x ≡ es = cc in subst (IsPackage input t) same j.0
    go (Err p) e j = absurd cc

  pub broken_is : (place : ℕ) → package_at input t ≡ Err place → IsFirstBroken (InOwnForm input) site_start (package_sites input t) place
  broken_is place e = go (package_at input t) e (judges_package input fits t) where
    go : (r : Result (List Element) ℕ) → r ≡ Err place → J r → IsFirstBroken (InOwnForm input) site_start (package_sites input t) place
    go (Ok x) e j = absurd cc
    go (Err p) e j = let same : p ≡ place = cc in subst (IsFirstBroken (InOwnForm input) site_start (package_sites input t)) same j

  pub fault_is : (f : ElementFault) → Gives {V = List Element} (Err f) (package_at input t) → IsPackageResult input t (Err f)
  fault_is (faults.SchemaFault place) g = broken_is place g
  fault_is faults.NoMemory g = tt
  fault_is faults.TooMany g = absurd g

  same_elements : (x y : List Element) → IsPackage input t x → IsPackage input t y → x ≡ y
  same_elements x y p q =
      let a = again_package input fits t x p in
      let b = again_package input fits t y q in
      cc

  form_or_broken : (x : List Element) (place : ℕ) → IsPackage input t x → IsFirstBroken (InOwnForm input) site_start (package_sites input t) place → ⊥
  form_or_broken x place p b = go (package_at input t) (again_package input fits t x p) (judges_package input fits t) where
    go : (r : Result (List Element) ℕ) → r ≡ Ok x → J r → ⊥
    go (Ok y) e j = none_broken (InOwnForm input) site_start (package_sites input t) place j.1 b
    go (Err n) e j = absurd cc

  one_of_two : (x y : Result (List Element) ElementFault) → IsPackageResult input t x → IsPackageResult input t y → x ≢ Err faults.NoMemory → y ≢ Err faults.NoMemory → x ≡ y
  one_of_two (Err faults.NoMemory) y p q a b = absurd (a refl)
  one_of_two (Ok d) (Ok e) p q a b = ap (λ (l : List Element). Ok l) (same_elements d e p.0 q.0)
  one_of_two (Ok d) (Err (faults.SchemaFault n)) p q a b = absurd (form_or_broken d n p.0 q)
  one_of_two (Ok d) (Err faults.TooMany) p q a b = absurd (omega (arith, p.1, q.2, ap (λ (l : List Element). length l) (same_elements d q.0 p.0 q.1)))
  one_of_two (Ok d) (Err faults.NoMemory) p q a b = absurd (b refl)
  one_of_two (Err (faults.SchemaFault m)) (Ok e) p q a b = absurd (form_or_broken e m q.0 p)
  one_of_two (Err (faults.SchemaFault m)) (Err (faults.SchemaFault n)) p q a b = ap (λ (k : ℕ). Err (faults.SchemaFault k)) (one_broken (InOwnForm input) site_start (package_sites input t) m n p q)
  one_of_two (Err (faults.SchemaFault m)) (Err faults.TooMany) p q a b = absurd (form_or_broken q.0 m q.1 p)
  one_of_two (Err (faults.SchemaFault m)) (Err faults.NoMemory) p q a b = absurd (b refl)
  one_of_two (Err faults.TooMany) (Ok e) p q a b = absurd (omega (arith, q.1, p.2, ap (λ (l : List Element). length l) (same_elements e p.0 q.0 p.1)))
  one_of_two (Err faults.TooMany) (Err (faults.SchemaFault n)) p q a b = absurd (form_or_broken p.0 n p.1 q)
  one_of_two (Err faults.TooMany) (Err faults.TooMany) p q a b = refl
  one_of_two (Err faults.TooMany) (Err faults.NoMemory) p q a b = absurd (b refl)

  pub one_only : (x : Result (List Element) ElementFault) → IsPackageResult input t x → IsOnly (IsPackageResult input t) x
  one_only (Err faults.NoMemory) p other q some = inl refl
  one_only x p other q some = inr (one_of_two x other p q (λ e. absurd cc) some)
