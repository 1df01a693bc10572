-- The steps of naming each thing once.
use Rattle.std.proofs.Common.{◌≡◌, refl, sym, ◌∙◌, ap, List, [], ◌∷◌, ◌++◌, flat_map, fold, Option, Some, None, option_and_then}
use Rattle.std.proofs.lemmas.Grind.{flat_map-append}
use Rattle.std.proofs.lemmas.List.Sums.{fold-append}
use Rattle.compact_values.specs.declared.ids.ExGuid.{ExGuid}
use Rattle.compact_values.specs.SameIds.{same_id}
use Rattle.doc_model.specs.declared.element.Element.{Element}
use Rattle.doc_model.specs.declared.element.RevisionMap.{RevisionMap}
use Rattle.compact_values.specs.IdPlaces.{with_new}
use Rattle.doc_model.specs.rules.Finding.{as_revision, said}
use Rattle.doc_model.specs.rules.Reached.{each_once, groups_by, groups_of, mapping_of, named_groups}
use Rattle.doc_model.proofs.Once.{flat-once, joining}
use Rattle.plain_core.specs.Naming.{groups_in, targets_by}

-- ids that join, and then those to come
pub joins-on : (kept after ids rest total : List ExGuid) → after ≡ joining kept ids → joining kept (ids ++ rest) ≡ total → joining after rest ≡ total
joins-on kept after ids rest total a h = ap (λ (k : List ExGuid). joining k rest) a ∙ sym (fold-append (with_new same_id) kept ids rest) ∙ h

module _ (added : List Element) (maps : List RevisionMap) where
  abbrev targets : List ExGuid → List ExGuid
  targets rs = flat_map (λ r. targets_by (mapping_of maps r)) rs

  none-more : {X : Type 0} (xs : List X) → xs ++ [] ≡ xs
  none-more [] = refl
  none-more (x ∷ xs) = ap (λ ys. x ∷ ys) (none-more xs)

  by-targets : (rs : List ExGuid) → flat_map (groups_in added) (targets rs) ≡ flat_map (groups_of added maps) rs
  by-targets [] = refl
  by-targets (r ∷ rs) =
      flat_map-append (groups_in added) (targets_by (mapping_of maps r)) (targets rs)
      ∙ ap (λ gs. gs ++ flat_map (groups_in added) (targets rs)) (at (mapping_of maps r))
      ∙ ap (λ gs. groups_of added maps r ++ gs) (by-targets rs)
    where
      at : (o : Option RevisionMap) → flat_map (groups_in added) (targets_by o) ≡ groups_by (option_and_then (λ m. said as_revision added m.target) o)
      at None = refl
      at (Some m) = none-more (groups_in added m.target)

  -- the groups of the manifests to which revisions are mapped are those of the revisions
  pub groups-of-targets : (rs : List ExGuid) → each_once (flat_map (groups_in added) (each_once (targets rs))) ≡ named_groups added maps rs
  groups-of-targets rs = flat-once (groups_in added) (targets rs) ∙ ap each_once (by-targets rs)
