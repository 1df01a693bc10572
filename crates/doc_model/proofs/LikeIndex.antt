-- Two indexes that map the same name the same below themselves, and have the same file; and an index that is added to map
-- what another does maps just that.
use Rattle.std.proofs.Common.{◌≡◌, refl, sym, ◌∙◌, ap, Bool, true, false, ◌&&◌, cond, List, [], ◌∷◌, ◌++◌, ℕ, drop, Option, Some, None, option_map, option_and_then, unwrap_or}
use Rattle.std.specs.Prelude.{is_some}
use Rattle.std.specs.List.{list_all}
use Rattle.std.specs.Option.{option_or}
use Rattle.std.proofs.lemmas.List.Folds.{find-append}
use Rattle.compact_values.specs.declared.ids.ExGuid.{ExGuid}
use Rattle.compact_values.specs.SameIds.{same_id}
use Rattle.compact_values.proofs.SameIds.{same-id}
use Rattle.doc_model.specs.declared.element.Body.{Body}
use Rattle.doc_model.specs.declared.element.Body.TheVariants.{Index}
use Rattle.doc_model.specs.declared.element.Element.{Element}
use Rattle.doc_model.specs.declared.element.Name.{Name}
use Rattle.doc_model.specs.rules.Files.{file, file_of_chain, current_revision}
use Rattle.doc_model.specs.rules.Finding.{Mappings, find_element, said, as_index}
use Rattle.doc_model.specs.laws.Documents.{AllNamed}
use Rattle.doc_model.specs.rules.Reached.{chain, chains_end, longest, name, names, names_below, reached, reached_from}
use Rattle.doc_model.specs.rules.Versions.{index_like}
use Rattle.doc_model.proofs.Added.{same-added}
use Rattle.doc_model.proofs.EachItem.{all-each}
use Rattle.doc_model.proofs.SoundCommits.{reached-named}

module _ (added : List Element) (i j : ExGuid) (e : said as_index added i ≡ said as_index added j) where
  abbrev below : Option Mappings → List Name
  below o = unwrap_or (option_map (names_below added) o) []

  pub below-like : drop 1 (names added i) ≡ drop 1 (names added j)
  below-like = ap below e

  pub named-like : AllNamed added j → AllNamed added i
  named-like h = ap (λ o. list_all (λ n. n.found) (name i o ∷ below o)) e ∙ h

  abbrev file_under : Option Mappings → Option (List ℕ)
  file_under o = option_and_then (file_of_chain added) (option_and_then (λ maps. option_and_then (chain added maps.revisions longest) (current_revision added maps)) o)

  pub file-like : file added i ≡ file added j
  file-like = ap file_under e

  -- and where something is reached from the one, what the other names is reached from it
  abbrev reached_under : Bool → List Element → Option Mappings → Option (List Element)
  reached_under b es o = option_and_then (λ maps. cond (b && chains_end added maps) (Some es) None) o

  ends : (b : Bool) (es fs gs : List Element) (o : Option Mappings) → reached_under b es o ≡ Some fs → reached_under true gs o ≡ Some gs
  ends b es fs gs None h = cc
  ends b es fs gs (Some maps) h = at b (chains_end added maps) h
    where
      at : (b c : Bool) → cond (b && c) (Some es) None ≡ Some fs → cond c (Some gs) None ≡ Some gs
      at true true h = refl
      at true false h = cc
      at false c h = cc

  pub reached-like : (es : List Element) → reached added j ≡ Some es → reached added i ≡ Some (reached_from added i)
  reached-like es h =
      ap (reached_under (list_all (λ n. n.found) (names added i)) (reached_from added i)) e
      ∙ ap (λ b. reached_under b (reached_from added i) (said as_index added j)) (named-like (reached-named added j es h))
      ∙ ends (list_all (λ n. n.found) (names added j)) (reached_from added j) es (reached_from added i) (said as_index added j) h

-- the body of an index that maps what these do, or nothing
abbrev pub mapping : Option Mappings → Body
mapping o =
    let maps = unwrap_or o (record { manifests = []; cells = []; revisions = [] }) in Index maps.manifests maps.cells maps.revisions

module _ (added : List Element) (id index : ExGuid) (none : find_element added id ≡ None) (named : AllNamed added index) where
  abbrev element : Element
  element = index_like added id index

  abbrev after : List Element
  after = added ++ element ∷ []

  pub like-found : find_element after id ≡ Some element
  like-found =
      find-append (λ e. same_id e.id id) added (element ∷ [])
      ∙ ap (λ o. option_or o (find_element (element ∷ []) id)) none
      ∙ ap (λ b. cond b (Some element) None) (same-id id)

  pub maps-like : said as_index after id ≡ said as_index after index
  maps-like =
      ap (option_and_then (λ e. as_index e.body)) like-found
      ∙ as-some (said as_index added index) (all-each (λ n. n.found) (names added index) named).0
      ∙ sym (ap (option_and_then (λ e. as_index e.body)) (same-added added (element ∷ []) index named).0)
    where
      as-some : (o : Option Mappings) → is_some o ≡ true → as_index (mapping o) ≡ o
      as-some None h = cc
      as-some (Some maps) h = refl
