use Rattle.std.proofs.Common.{◌≡◌, ◌∙◌, refl, sym, ap, List, [], ◌∷◌, Some, option_and_then, find, slice_get}
use Rattle.compact_values.specs.SameIds.{same_cell}
use Rattle.doc_model.specs.declared.element.Element.{Element}
use Rattle.doc_model.specs.declared.element.ManifestMap.{ManifestMap}
use Rattle.doc_model.specs.declared.element.Root.{Root}
use Rattle.doc_model.specs.rules.Files.{current_revision}
use Rattle.doc_model.specs.rules.Finding.{Mappings, first, said, as_cell, as_storage}
use Rattle.plain_core.specs.Cataloging.{listed}
use Rattle.plain_core.specs.Sayings.{seen_mappings}
use Rattle.plain_core.proofs.root_chain.current_revision.Goals as goal

first-got : {X : Type 0} (xs : List X) → slice_get xs 0 ≡ first xs
first-got [] = refl
first-got (x ∷ xs) = refl

first-is : {X : Type 0} (xs ys : List X) (x : X) → ys ≡ xs → Some x ≡ slice_get ys 0 → first xs ≡ Some x
first-is xs ys x e h = let g = first-got xs in cc

of-root : (added : List Element) (maps : Mappings) (m : ManifestMap) (roots : List Root) (root : Root) → first maps.manifests ≡ Some m
    → Some roots ≡ said as_storage added m.target → first roots ≡ Some root
    → option_and_then (λ c. said as_cell added c.target) (find (λ c. same_cell c.cell root.cell) maps.cells) ≡ current_revision added maps
of-root added maps m roots root a b d = rw a (rw (sym b) (rw d refl))

pub returns : goal.returns
returns c =
    let added = listed c.args.catalog.now in
    let maps = seen_mappings c.args.maps in
    let root = c.in_ok-root.root.now in
    c.current_of_cell.ensures ∙ ap (λ cells. option_and_then (λ c. said as_cell added c.target) (find (λ c. same_cell c.cell root.cell) cells)) c.as_slice-3.ensures
    ∙ of-root added maps c.in_ok-mapping.mapping.now c.in_ok-roots.roots.now root
    (first-is maps.manifests c.as_slice.result.now c.in_ok-mapping.mapping.now c.as_slice.ensures c.in_ok-mapping.ensures.value) c.in_ok-roots.ensures
    (first-is c.in_ok-roots.roots.now c.as_slice-2.result.now root c.as_slice-2.ensures c.in_ok-root.ensures.value)
