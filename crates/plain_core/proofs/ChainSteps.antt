-- The steps of going along a chain of bases.
use Rattle.std.proofs.Common.{◌≡◌, ℕ, zero, suc, ◌-◌, ◌<◌, refl, sym, ◌∙◌, ap, List, [], ◌∷◌, ◌++◌, Option, Some, None, option_map, option_and_then, append-nil, append_assoc, arith, sub-one}
use Rattle.compact_values.specs.declared.guid.Guid.{Guid}
use Rattle.compact_values.specs.declared.ids.ExGuid.{ExGuid}
use Rattle.compact_values.specs.declared.ids.ExGuid.TheVariants.{Null, Id}
use Rattle.doc_model.specs.declared.element.Element.{Element}
use Rattle.doc_model.specs.declared.element.RevisionMap.{RevisionMap}
use Rattle.doc_model.specs.rules.Finding.{Manifest}
use Rattle.doc_model.specs.rules.Reached.{chain, manifest_of}

module _ (added : List Element) (maps : List RevisionMap) where
  pub chain-null : (n : ℕ) → chain added maps n Null ≡ Some []
  unfolding chain
  chain-null zero = refl
  chain-null (suc n) = refl

  pub chain-zero : (g : Guid) (v : ℕ) → chain added maps 0 (Id g v) ≡ None
  unfolding chain
  chain-zero g v = refl

  pub chain-one : (n : ℕ) (g : Guid) (v : ℕ) → 0 < n
      → chain added maps n (Id g v) ≡ option_and_then (λ m. option_map (λ rest. m ∷ rest) (chain added maps (n - 1) m.base)) (manifest_of added maps (Id g v))
  unfolding chain
  chain-one zero g v p = absurd (omega arith)
  chain-one (suc n) g v p = rw sub-one

  at-manifest : (n : ℕ) (r : ExGuid) (g : Guid) (v : ℕ) (o : Option Manifest) → 0 < n → r ≡ Id g v → o ≡ manifest_of added maps r
      → chain added maps n r ≡ option_and_then (λ m. option_map (λ rest. m ∷ rest) (chain added maps (n - 1) m.base)) o
  at-manifest n r g v o p e m =
      ap (chain added maps n) e ∙ chain-one n g v p
      ∙ ap (option_and_then (λ x. option_map (λ rest. x ∷ rest) (chain added maps (n - 1) x.base))) (ap (manifest_of added maps) (sym e) ∙ sym m)

  -- what comes of a chain after these manifests
  abbrev pub after : List Manifest → ℕ → ExGuid → Option (List Manifest)
  after ms n r = option_map (λ rest. ms ++ rest) (chain added maps n r)

  pub chain-done : (n : ℕ) (ms : List Manifest) (r : ExGuid) (total : Option (List Manifest)) → r ≡ Null → after ms n r ≡ total → Some ms ≡ total
  chain-done n ms r total e h = ap Some (sym (append-nil ms)) ∙ sym (ap (option_map (λ rest. ms ++ rest)) (ap (chain added maps n) e ∙ chain-null n)) ∙ h

  pub chain-over : (n : ℕ) (ms : List Manifest) (r : ExGuid) (g : Guid) (v : ℕ) (total : Option (List Manifest)) → n ≡ 0 → r ≡ Id g v → after ms n r ≡ total → None ≡ total
  chain-over n ms r g v total z e h =
      sym (ap (option_map (λ rest. ms ++ rest)) (ap (λ k. chain added maps k r) z ∙ ap (chain added maps 0) e ∙ chain-zero g v)) ∙ h

  pub chain-none : (n : ℕ) (ms : List Manifest) (r : ExGuid) (g : Guid) (v : ℕ) (total : Option (List Manifest)) → 0 < n → r ≡ Id g v → None ≡ manifest_of added maps r
      → after ms n r ≡ total → None ≡ total
  chain-none n ms r g v total p e m h = sym (ap (option_map (λ rest. ms ++ rest)) (at-manifest n r g v None p e m)) ∙ h

  glue : (ms : List Manifest) (m : Manifest) (o : Option (List Manifest)) → option_map (λ rest. (ms ++ m ∷ []) ++ rest) o ≡ option_map (λ rest. ms ++ rest) (option_map (λ rest. m ∷ rest) o)
  glue ms m None = refl
  glue ms m (Some rest) = ap Some (append_assoc ms (m ∷ []) rest)

  pub chain-step : (n : ℕ) (ms next : List Manifest) (m : Manifest) (r : ExGuid) (g : Guid) (v : ℕ) (total : Option (List Manifest)) → 0 < n → r ≡ Id g v
      → Some m ≡ manifest_of added maps r → next ≡ ms ++ m ∷ [] → after ms n r ≡ total → after next (n - 1) m.base ≡ total
  chain-step n ms next m r g v total p e k x h =
      ap (λ l. after l (n - 1) m.base) x ∙ glue ms m (chain added maps (n - 1) m.base)
      ∙ sym (ap (option_map (λ rest. ms ++ rest)) (at-manifest n r g v (Some m) p e k)) ∙ h
