-- A package of elements with their serial numbers has one answer, where memory doesn't run out.
use Rattle.std.proofs.Common.{◌≡◌, ◌≢◌, ℕ, List, Result, Ok, Err, inl, inr, refl, ap, subst}
use Rattle.compact_values.proofs.LittleEndian.{IsBytes}
use Rattle.stream_objects.specs.declared.tree.Tree.{Tree}
use Rattle.stream_objects.specs.Parts.{IsFirstBroken}
use Rattle.stream_objects.proofs.Broken.{Judges, one_broken, none_broken}
use Rattle.doc_model.specs.readers.ElementSites.{site_start, package_sites}
use Rattle.doc_model.specs.wire.NumberedElements.{IsNumberedPackage}
use Rattle.doc_model.specs.readers.NumberedSites.{InOwnForm}
use Rattle.doc_model.specs.declared.element.NumberedElement.{NumberedElement}
use Rattle.data_elements.specs.Answers.{Gives, IsNumberedResult, IsOnly}
use Rattle.data_elements.specs.NumberedReading.{numbered_package_at}
use Rattle.data_elements.specs.declared.fault.ElementFault.{ElementFault}
use Rattle.data_elements.specs.declared.fault.ElementFault.TheVariants as faults
use Rattle.data_elements.proofs.NumberedLaws.{judges_numbered_package, again_numbered_package}

module _ (input : List ℕ) (fits : IsBytes input) (t : Tree) where
  abbrev J : Result (List NumberedElement) ℕ → Type 0
  J = Judges (InOwnForm input) site_start (IsNumberedPackage input t) (package_sites input t)

  package_is : (ns : List NumberedElement) → numbered_package_at input t ≡ Ok ns → IsNumberedPackage input t ns
  package_is ns e = go (numbered_package_at input t) e (judges_numbered_package input fits t) where
    go : (r : Result (List NumberedElement) ℕ) → r ≡ Ok ns → J r → IsNumberedPackage input t ns
    go (Ok x) e j = let same : x ≡ ns = cc in subst (IsNumberedPackage input t) same j.0
    go (Err p) e j = absurd cc

  broken_is : (place : ℕ) → numbered_package_at input t ≡ Err place → IsFirstBroken (InOwnForm input) site_start (package_sites input t) place
  broken_is place e = go (numbered_package_at input t) e (judges_numbered_package input fits t) where
    go : (r : Result (List NumberedElement) ℕ) → r ≡ Err place → J r → IsFirstBroken (InOwnForm input) site_start (package_sites input t) place
    go (Ok x) e j = absurd cc
    go (Err p) e j = let same : p ≡ place = cc in subst (IsFirstBroken (InOwnForm input) site_start (package_sites input t)) same j

  pub numbered_is : (r : Result (List NumberedElement) ElementFault) → Gives r (numbered_package_at input t) → IsNumberedResult input t r
  numbered_is (Ok ns) g = package_is ns g
  numbered_is (Err (faults.SchemaFault place)) g = broken_is place g
  numbered_is (Err faults.NoMemory) g = tt
  numbered_is (Err faults.TooMany) g = absurd g

  form_or_broken : (ns : List NumberedElement) (place : ℕ) → IsNumberedPackage input t ns → IsFirstBroken (InOwnForm input) site_start (package_sites input t) place → ⊥
  form_or_broken ns place p b = go (numbered_package_at input t) (again_numbered_package input fits t ns p) (judges_numbered_package input fits t) where
    go : (r : Result (List NumberedElement) ℕ) → r ≡ Ok ns → J r → ⊥
    go (Ok y) e j = none_broken (InOwnForm input) site_start (package_sites input t) place j.1 b
    go (Err n) e j = absurd cc

  same_elements : (x y : List NumberedElement) → IsNumberedPackage input t x → IsNumberedPackage input t y → x ≡ y
  same_elements x y p q =
      let a = again_numbered_package input fits t x p in
      let b = again_numbered_package input fits t y q in
      cc

  one_of_two : (x y : Result (List NumberedElement) ElementFault) → IsNumberedResult input t x → IsNumberedResult input t y → x ≢ Err faults.NoMemory → y ≢ Err faults.NoMemory → x ≡ y
  one_of_two (Err faults.NoMemory) y p q a b = absurd (a refl)
  one_of_two (Err faults.TooMany) y p q a b = absurd p
  one_of_two x (Err faults.NoMemory) p q a b = absurd (b refl)
  one_of_two x (Err faults.TooMany) p q a b = absurd q
  one_of_two (Ok d) (Ok e) p q a b = ap (λ (l : List NumberedElement). Ok l) (same_elements d e p q)
  one_of_two (Ok d) (Err (faults.SchemaFault n)) p q a b = absurd (form_or_broken d n p q)
  one_of_two (Err (faults.SchemaFault m)) (Ok e) p q a b = absurd (form_or_broken e m q p)
  one_of_two (Err (faults.SchemaFault m)) (Err (faults.SchemaFault n)) p q a b = ap (λ (k : ℕ). Err (faults.SchemaFault k)) (one_broken (InOwnForm input) site_start (package_sites input t) m n p q)

  pub only_numbered : (x : Result (List NumberedElement) ElementFault) → IsNumberedResult input t x → IsOnly (IsNumberedResult input t) x
  only_numbered (Err faults.NoMemory) p other q some = inl refl
  only_numbered x p other q some = inr (one_of_two x other p q (λ e. absurd cc) some)

  -- what the reader answers is what reading on lists gives
  pub numbered_gives : (r : Result (List NumberedElement) ElementFault) → IsNumberedResult input t r → Gives r (numbered_package_at input t)
  numbered_gives (Ok ns) a = again_numbered_package input fits t ns a
  numbered_gives (Err (faults.SchemaFault place)) b = go (numbered_package_at input t) (judges_numbered_package input fits t) where
    go : (r : Result (List NumberedElement) ℕ) → J r → r ≡ Err place
    go (Ok ns) j = absurd (none_broken (InOwnForm input) site_start (package_sites input t) place j.1 b)
    go (Err n) j = ap Err (one_broken (InOwnForm input) site_start (package_sites input t) n place j b)
  numbered_gives (Err faults.NoMemory) a = tt
  numbered_gives (Err faults.TooMany) a = absurd a
