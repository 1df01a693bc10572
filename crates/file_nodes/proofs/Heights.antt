-- What a walk finds within some levels it finds within more.
use Rattle.std.proofs.Common.{◌≡◌, ◌≢◌, ℕ, zero, suc, ◌+◌, ◌-◌, ◌≤◌, Bool, true, false, List, [], ◌∷◌, length, map, Option, Some, None, Result, Ok, Err, inl, inr, eqb, refl, sym, ap, subst, ◌∙◌, arith}
use Rattle.std.specs.Prelude.{cond}
use Rattle.std.specs.Option.{option_map}
use Rattle.std.proofs.lemmas.Bool.{cases_Bool}
use Rattle.compact_values.specs.declared.ids.ExGuid.{ExGuid}
use Rattle.doc_model.specs.rules.Nodes.{node_size}
use Rattle.file_nodes.specs.FileWalks.{find_stored, together, total, arrived, arrive, judged, behind, walk}
use Rattle.file_nodes.specs.declared.fault.NodeFault.{NodeFault}
use Rattle.file_nodes.specs.declared.fault.NodeFault.TheVariants.{TooLarge}
use Rattle.file_nodes.specs.StoredObjects.{StoredObject}

-- ---- lengths that are found

together_parts : (x y : Result ℕ NodeFault) (k : ℕ) → together x y ≡ Ok k → (m : ℕ) × (n : ℕ) × (x ≡ Ok m) × (y ≡ Ok n) × (m + n ≡ k)
together_parts (Ok m) (Ok n) k e = (m, n, refl, refl, cc)
together_parts (Ok m) (Err f) k e = absurd cc
together_parts (Err f) y k e = absurd cc

total_grows : (w v : ExGuid → Result ℕ NodeFault) → ((id : ExGuid) (m : ℕ) → w id ≡ Ok m → v id ≡ Ok m) → (ids : List ExGuid) (k : ℕ) → total (map w ids) ≡ Ok k → total (map v ids) ≡ Ok k
total_grows w v h [] k e = e
total_grows w v h (id ∷ ids) k e =
    let p = together_parts (w id) (total (map w ids)) k e in
    ap (λ (x : Result ℕ NodeFault). together x (total (map v ids))) (h id p.0 p.2) ∙ ap (together (Ok p.0)) (total_grows w v h ids p.1 p.3) ∙ ap Ok p.4

arrived_grows : (id : ExGuid) (w v : StoredObject → Result ℕ NodeFault) → ((o : StoredObject) (m : ℕ) → w o ≡ Ok m → v o ≡ Ok m) → (found : Option StoredObject) (m : ℕ)
    → arrived id (option_map w found) ≡ Ok m → arrived id (option_map v found) ≡ Ok m
arrived_grows id w v h None m e = absurd cc
arrived_grows id w v h (Some o) m e = h o m e

behind_parts : (o : StoredObject) (said : Option ℕ) (found : Result ℕ NodeFault) (m : ℕ) → behind o said found ≡ Ok m → (k : ℕ) × (found ≡ Ok k) × (judged o said k ≡ Ok m)
behind_parts o said (Ok k) m e = (k, refl, e)
behind_parts o said (Err f) m e = absurd cc

module _ (objects : List StoredObject) where
  abbrev below : ℕ → StoredObject → Result ℕ NodeFault
  below n o = behind o (node_size o.bytes) (total (map (arrive objects (walk objects n)) o.references))

  -- an object by its parts
  pub leaf_walk : (n : ℕ) (o : StoredObject) → eqb (length o.references) 0 ≡ true → walk objects (suc n) o ≡ Ok (length o.bytes)
  unfolding walk
  leaf_walk n o e = ap (λ (b : Bool). cond b (Ok (length o.bytes)) (below n o)) e

  pub node_walk : (n : ℕ) (o : StoredObject) → eqb (length o.references) 0 ≡ false → walk objects (suc n) o ≡ below n o
  unfolding walk
  node_walk n o e = ap (λ (b : Bool). cond b (Ok (length o.bytes)) (below n o)) e

  no_walk : (o : StoredObject) (m : ℕ) → walk objects 0 o ≢ Ok m
  unfolding walk
  no_walk o m e = absurd cc

  grows : (n : ℕ) (o : StoredObject) (m : ℕ) → walk objects n o ≡ Ok m → walk objects (suc n) o ≡ Ok m
  grows zero o m e = absurd (no_walk o m e)
  grows (suc n) o m e =
      elim (cases_Bool (eqb (length o.references) 0)) [
        | inl y ↦ leaf_walk (suc n) o y ∙ sym (leaf_walk n o y) ∙ e
        | inr x ↦
            let p = behind_parts o (node_size o.bytes) (total (map (arrive objects (walk objects n)) o.references)) m (sym (node_walk n o x) ∙ e) in
            let found = total_grows (arrive objects (walk objects n)) (arrive objects (walk objects (suc n)))
            (λ id k. arrived_grows id (walk objects n) (walk objects (suc n)) (grows n) (find_stored objects id) k) o.references p.0 p.1 in
            node_walk (suc n) o x ∙ ap (behind o (node_size o.bytes)) found ∙ p.2
      ]

  grows_by : (k n : ℕ) (o : StoredObject) (m : ℕ) → walk objects n o ≡ Ok m → walk objects (k + n) o ≡ Ok m
  grows_by zero n o m e = let z : n ≡ 0 + n = omega arith in subst (λ (i : ℕ). walk objects i o ≡ Ok m) z e
  grows_by (suc k) n o m e = let z : suc (k + n) ≡ suc k + n = omega arith in subst (λ (i : ℕ). walk objects i o ≡ Ok m) z (grows (k + n) o m (grows_by k n o m e))

  pub grows_to : (n most : ℕ) → n ≤ most → (o : StoredObject) (m : ℕ) → walk objects n o ≡ Ok m → walk objects most o ≡ Ok m
  grows_to n most le o m e = let z : most - n + n ≡ most = omega arith in subst (λ (i : ℕ). walk objects i o ≡ Ok m) z (grows_by (most - n) n o m e)

-- ---- the faults of a walk

-- A file is never too large for a walk.
abbrev pub NotLarge : Result ℕ NodeFault → Type 0
NotLarge walked = walked ≢ Err TooLarge

together_fault : (x y : Result ℕ NodeFault) → NotLarge x → NotLarge y → NotLarge (together x y)
together_fault (Ok m) (Ok n) p q e = absurd cc
together_fault (Ok m) (Err f) p q e = q e
together_fault (Err f) y p q e = p e

total_fault : (w : ExGuid → Result ℕ NodeFault) → ((id : ExGuid) → NotLarge (w id)) → (ids : List ExGuid) → NotLarge (total (map w ids))
total_fault w h [] e = absurd cc
total_fault w h (id ∷ ids) e = together_fault (w id) (total (map w ids)) (h id) (total_fault w h ids) e

arrived_fault : (id : ExGuid) (w : StoredObject → Result ℕ NodeFault) → ((o : StoredObject) → NotLarge (w o)) → (found : Option StoredObject) → NotLarge (arrived id (option_map w found))
arrived_fault id w h None e = absurd cc
arrived_fault id w h (Some o) e = h o e

judged_fault : (o : StoredObject) (said : Option ℕ) (k : ℕ) → NotLarge (judged o said k)
judged_fault o None k e = absurd cc
judged_fault o (Some said) k e = elim (cases_Bool (eqb said k)) [ inl y ↦ let h = rw y at e in absurd cc | inr n ↦ let h = rw n at e in absurd cc ]

behind_fault : (o : StoredObject) (said : Option ℕ) (found : Result ℕ NodeFault) → NotLarge found → NotLarge (behind o said found)
behind_fault o said (Ok k) h e = judged_fault o said k e
behind_fault o said (Err f) h e = h e

module _ (objects : List StoredObject) where
  pub node_fault : (n : ℕ) → ((o : StoredObject) → NotLarge (walk objects n o)) → (o : StoredObject) → NotLarge (below objects n o)
  node_fault n h o =
      behind_fault o (node_size o.bytes) (total (map (arrive objects (walk objects n)) o.references))
      (total_fault (arrive objects (walk objects n)) (λ id. arrived_fault id (walk objects n) h (find_stored objects id)) o.references)

  pub walk_fault : (n : ℕ) (o : StoredObject) → NotLarge (walk objects n o)
  unfolding walk
  walk_fault zero o e = absurd cc
  walk_fault (suc n) o e =
      elim (cases_Bool (eqb (length o.references) 0)) [
        | inl y ↦ let h : Ok (length o.bytes) ≡ Err TooLarge = sym (leaf_walk objects n o y) ∙ e in absurd cc
        | inr x ↦ node_fault n (walk_fault n) o (sym (node_walk objects n o x) ∙ e)
      ]
