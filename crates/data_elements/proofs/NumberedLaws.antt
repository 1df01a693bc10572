-- What is read of elements with their serial numbers is what their objects say, or where the first of them that isn't in its
-- form starts.
use Rattle.std.proofs.Common.{◌≡◌, ℕ, List, [], ◌∷◌, ◌++◌, map, Option, Some, None, Result, Ok, Err, inl, inr, refl, sym, ap, subst, ◌∙◌, append_assoc}
use Rattle.std.specs.Prelude.{◌==◌}
use Rattle.std.specs.List.{AllByRecursion, flat_map}
use Rattle.std.proofs.lemmas.Bool.{cases_Bool}
use Rattle.std.proofs.lemmas.List.{append-nil}
use Rattle.compact_values.specs.declared.guid.Guid.{Guid}
use Rattle.compact_values.specs.declared.ids.ExGuid.{ExGuid}
use Rattle.compact_values.specs.declared.ids.Serial.{Serial}
use Rattle.compact_values.specs.declared.ids.Serial.TheVariants.{Null, Number}
use Rattle.compact_values.proofs.LittleEndian.{IsBytes}
use Rattle.stream_objects.specs.declared.tree.Tree.{Tree}
use Rattle.stream_objects.specs.declared.tree.Tree.TheViews.{out-Tree}
use Rattle.stream_objects.specs.Objects.{Each, children_of}
use Rattle.stream_objects.specs.Parts.{IsFirstBroken}
use Rattle.stream_objects.specs.Gathering.{and_then}
use Rattle.stream_objects.proofs.Broken.{Judges, all-append, broken_left, broken_right}
use Rattle.doc_model.specs.wire.ElementObjects.{ElementFields, PackageFields}
use Rattle.doc_model.specs.readers.ElementSites.{Site, element, child, member, has_place, members_in, child_sites, sites_behind, element_row, element_sites, package_sites, site_start}
use Rattle.doc_model.specs.readers.ElementSites as elements
use Rattle.doc_model.specs.wire.Elements.{SaysBody}
use Rattle.doc_model.specs.wire.NumberedElements.{IsNumbered, IsNumberedPackage}
use Rattle.doc_model.specs.readers.NumberedSites.{InOwnForm}
use Rattle.doc_model.specs.declared.element.Body.{Body}
use Rattle.doc_model.specs.declared.element.NumberedElement.{NumberedElement}
use Rattle.data_elements.specs.Rows.{package_row}
use Rattle.data_elements.specs.Reading.{body_at}
use Rattle.data_elements.specs.NumberedReading.{numbered_of, numbered_by, numbered_with, numbered_at, numbered_from, numbered_package_with, numbered_package_at}
use Rattle.data_elements.proofs.RowLaws.{element_found, element_again, package_found, package_again}
use Rattle.data_elements.proofs.ElementLaws.{judges_body, again_body}

module _ (input : List ℕ) (fits : IsBytes input) where
  abbrev Own : Site → Type 0
  Own = InOwnForm input

  abbrev Plain : Site → Type 0
  Plain = elements.InOwnForm input

  -- a part whose form has nothing to do with serial numbers
  abbrev Alike : Site → Type 0
  Alike p = (Plain p → Own p) × (Own p → Plain p)

  all_alike : (ps : List Site) → AllByRecursion Alike ps → AllByRecursion Plain ps → AllByRecursion Own ps
  all_alike [] a h = tt
  all_alike (p ∷ ps) a h = (a.0.0 h.0, all_alike ps a.1 h.1)

  broken_alike : (ps : List Site) (place : ℕ) → AllByRecursion Alike ps → IsFirstBroken Plain site_start ps place → IsFirstBroken Own site_start ps place
  broken_alike [] place a h = h
  broken_alike (p ∷ ps) place a (inl h) = inl (λ own. h.0 (a.0.1 own), h.1)
  broken_alike (p ∷ ps) place a (inr h) = inr (a.0.0 h.0, broken_alike ps place a.1 h.1)

  members_alike : (ts : List Tree) → AllByRecursion Alike (map member ts)
  members_alike [] = tt
  members_alike (t ∷ ts) = ((λ h. h, λ h. h), members_alike ts)

  child_alike : (kind : ℕ) (t : Tree) → AllByRecursion Alike (child_sites kind t)
  child_alike kind t =
      elim (cases_Bool (has_place kind t)) [
        | inl y ↦
            elim (cases_Bool (kind == 5)) [
              | inl five ↦ rw (y, five) ((λ h. h, λ h. h), members_alike (members_in t))
              | inr other ↦ rw (y, other) ((λ h. h, λ h. h), tt)
            ]
        | inr n ↦ rw n tt
      ]

  children_alike : (kind : ℕ) (ts : List Tree) → AllByRecursion Alike (flat_map (child_sites kind) ts)
  children_alike kind [] = tt
  children_alike kind (t ∷ ts) = all-append Alike site_start (child_sites kind t) (flat_map (child_sites kind) ts) (child_alike kind t) (children_alike kind ts)

  -- ---- an element

  abbrev pub JudgesNumbered : Tree → Result NumberedElement ℕ → Type 0
  JudgesNumbered t = Judges Own site_start (IsNumbered input t) (element_sites input t)

  abbrev JudgesWith : Tree → Option (ExGuid × (Serial × ℕ)) → Result NumberedElement ℕ → Type 0
  JudgesWith t o = Judges Own site_start (IsNumbered input t) (element t ∷ sites_behind o (out-Tree t).children)

  judges_numbered : (t : Tree) → JudgesNumbered t (numbered_at input t)
  unfolding numbered_at
  judges_numbered t = go (element_row input t) refl where
    made : (id : ExGuid) (guid : Guid) (value kind : ℕ) → ElementFields input t id (Number guid value) kind → (r : Result Body ℕ)
        → Judges Plain site_start (SaysBody input t kind) (element t ∷ flat_map (child_sites kind) (out-Tree t).children) r → JudgesWith t (Some (id, (Number guid value, kind))) (numbered_of id value r)
    made id guid value kind h (Ok body) j = (
      (guid, (kind, h, j.0)),
      (((id, guid, value, kind, h), j.1.0), all_alike (flat_map (child_sites kind) (out-Tree t).children) (children_alike kind (out-Tree t).children) j.1.1),
    )
    made id guid value kind h (Err place) (inl j) = inl (λ own. j.0 own.1, j.1)
    made id guid value kind h (Err place) (inr j) = inr (((id, guid, value, kind, h), j.0), broken_alike (flat_map (child_sites kind) (out-Tree t).children) place (children_alike kind (out-Tree t).children) j.1)

    by_serial : (id : ExGuid) (s : Serial) (kind : ℕ) → element_row input t ≡ Some (id, (s, kind)) → JudgesWith t (Some (id, (s, kind))) (numbered_by input t id kind s)
    by_serial id (Number guid value) kind e =
        let h = element_found input fits t (id, (Number guid value, kind)) e in
        made id guid value kind h (body_at input kind t) (judges_body input fits t id (Number guid value) kind h)
    by_serial id Null kind e = inl (
      λ own.
          let n = own.0 in
          let some = element_again input fits t (n.0, (Number n.1 n.2, n.3)) n.4 in
          let same : (id, (Null, kind)) ≡ (n.0, (Number n.1 n.2, n.3)) = cc in
          let serials : Null ≡ Number n.1 n.2 = ap (λ (x : ExGuid × (Serial × ℕ)). x.1.0) same in
          absurd cc,
      refl,
    )

    go : (o : Option (ExGuid × (Serial × ℕ))) → element_row input t ≡ o → JudgesWith t o (numbered_with input t o)
    go (Some f) e = by_serial f.0 f.1.0 f.1.1 e
    go None e = inl (λ own. let n = own.0 in let some = element_again input fits t (n.0, (Number n.1 n.2, n.3)) n.4 in absurd cc, refl)

  again_numbered : (t : Tree) (n : NumberedElement) → IsNumbered input t n → numbered_at input t ≡ Ok n
  unfolding numbered_at
  again_numbered t n h =
      ap (numbered_with input t) (element_again input fits t (n.element.id, (Number h.0 n.serial, h.1.0)) h.1.1)
      ∙ ap (numbered_of n.element.id n.serial) (again_body input fits t h.1.0 n.element.body h.1.2)

  -- ---- a package

  -- what was read of these elements behind others
  record Behind (ts : List Tree) (ns all : List NumberedElement) : Type 0 where
    new : List NumberedElement
    all_are : all ≡ ns ++ new
    each : Each (IsNumbered input) ts new

  abbrev JudgesElements : List Tree → List NumberedElement → Result (List NumberedElement) ℕ → Type 0
  JudgesElements ts ns = Judges Own site_start (Behind ts ns) (flat_map (element_sites input) ts)

  behind : (t : Tree) (ts : List Tree) (ns : List NumberedElement) (n : NumberedElement) → IsNumbered input t n → AllByRecursion Own (element_sites input t) → (r : Result (List NumberedElement) ℕ)
      → JudgesElements ts (ns ++ n ∷ []) r → JudgesElements (t ∷ ts) ns r
  behind t ts ns n h own (Ok all) j = (
    record { new = n ∷ j.0.new; all_are = j.0.all_are ∙ append_assoc ns (n ∷ []) j.0.new; each = (h, j.0.each) },
    all-append Own site_start (element_sites input t) (flat_map (element_sites input) ts) own j.1,
  )
  behind t ts ns n h own (Err place) j = broken_right Own site_start (element_sites input t) (flat_map (element_sites input) ts) place own j

  then_elements : (t : Tree) (ts : List Tree) (ns : List NumberedElement) → ((more : List NumberedElement) → JudgesElements ts more (numbered_from input more ts)) → (r : Result NumberedElement ℕ) → JudgesNumbered t r
      → JudgesElements (t ∷ ts) ns (and_then r (λ n. numbered_from input (ns ++ n ∷ []) ts))
  then_elements t ts ns rest (Ok n) j = behind t ts ns n j.0 j.1 (numbered_from input (ns ++ n ∷ []) ts) (rest (ns ++ n ∷ []))
  then_elements t ts ns rest (Err place) j = broken_left Own site_start (element_sites input t) (flat_map (element_sites input) ts) place j

  judges_elements : (ts : List Tree) (ns : List NumberedElement) → JudgesElements ts ns (numbered_from input ns ts)
  judges_elements [] ns = (record { new = []; all_are = sym (append-nil ns); each = tt }, tt)
  judges_elements (t ∷ ts) ns = then_elements t ts ns (judges_elements ts) (numbered_at input t) (judges_numbered t)

  pub judges_numbered_package : (t : Tree) → Judges Own site_start (IsNumberedPackage input t) (package_sites input t) (numbered_package_at input t)
  unfolding numbered_package_at
  judges_numbered_package t = go (package_row input t) refl where
    made : PackageFields input t → (r : Result (List NumberedElement) ℕ) → JudgesElements (children_of 0x01 t) [] r → Judges Own site_start (IsNumberedPackage input t) (package_sites input t) r
    made h (Ok all) j = ((h, subst (λ (l : List NumberedElement). Each (IsNumbered input) (children_of 0x01 t) l) (sym j.0.all_are) j.0.each), (h, j.1))
    made h (Err place) j = inr (h, j)

    go : (o : Option ℕ) → package_row input t ≡ o → Judges Own site_start (IsNumberedPackage input t) (package_sites input t) (numbered_package_with input t o)
    go (Some b) e = made (package_found input fits t b e) (numbered_from input [] (children_of 0x01 t)) (judges_elements (children_of 0x01 t) [])
    go None e = inl (λ own. let some = package_again input fits t own in absurd cc, refl)

  again_elements : (ts : List Tree) (ns acc : List NumberedElement) → Each (IsNumbered input) ts ns → numbered_from input acc ts ≡ Ok (acc ++ ns)
  again_elements [] [] acc h = ap Ok (sym (append-nil acc))
  again_elements [] (n ∷ ns) acc h = absurd h
  again_elements (t ∷ ts) [] acc h = absurd h
  again_elements (t ∷ ts) (n ∷ ns) acc h =
      ap (λ (r : Result NumberedElement ℕ). and_then r (λ x. numbered_from input (acc ++ x ∷ []) ts)) (again_numbered t n h.0) ∙ again_elements ts ns (acc ++ n ∷ []) h.1
      ∙ ap Ok (append_assoc acc (n ∷ []) ns)

  pub again_numbered_package : (t : Tree) (ns : List NumberedElement) → IsNumberedPackage input t ns → numbered_package_at input t ≡ Ok ns
  unfolding numbered_package_at
  again_numbered_package t ns h = ap (numbered_package_with input t) (package_again input fits t h.0) ∙ again_elements (children_of 0x01 t) ns [] h.1
