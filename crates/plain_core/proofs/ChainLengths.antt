-- Lengths of chains: each is one more than that of its base, and is the same however many revisions are let be.
use Rattle.std.proofs.Common.{◌≡◌, ℕ, zero, suc, ◌+◌, ◌-◌, ◌<◌, ◌≤◌, refl, sym, ◌∙◌, ap, subst, Bool, true, false, nat_le, cond, List, ◌∷◌, length, Option, Some, None, option_map, option_and_then, arith}
use Rattle.std.proofs.lemmas.Bool.Decides.{nat_tests}
use Rattle.std.specs.BTreeMap.{BTreeMap, get}
use Rattle.std.specs.Ordering.{is_eq}
use Rattle.compact_values.specs.declared.guid.Guid.{Guid}
use Rattle.compact_values.specs.declared.ids.ExGuid.{ExGuid}
use Rattle.compact_values.specs.declared.ids.ExGuid.TheVariants.{Null, Id}
use Rattle.compact_values.specs.IdPlaces.{key_of, key_order}
use Rattle.compact_values.specs.SameIds.{same_id}
use Rattle.compact_values.proofs.IdPlacing.{key-same}
use Rattle.compact_values.proofs.SameIds.{id-same}
use Rattle.doc_model.specs.declared.element.Element.{Element}
use Rattle.doc_model.specs.declared.element.RevisionMap.{RevisionMap}
use Rattle.doc_model.specs.rules.Finding.{Manifest}
use Rattle.doc_model.specs.rules.Reached.{chain, manifest_of}
use Rattle.plain_core.specs.Chaining.{chain_length, HasLength, TellsLengths}
use Rattle.plain_core.specs.Keys.{IdKey}
use Rattle.plain_core.proofs.ChainSteps.{chain-null, chain-zero, chain-one}

least : (k : ℕ) → nat_le 0 k ≡ true
least k = grind (arith, nat_tests)

none-below : (e : ℕ) → nat_le (suc e) 0 ≡ false
none-below e = grind (arith, nat_tests)

both-more : (e k : ℕ) → nat_le (suc e) (suc k) ≡ nat_le e k
both-more e k = grind (arith, nat_tests)

within : (a b : ℕ) → nat_le a b ≡ true → a ≤ b
within a b h = grind (arith, nat_tests)

is-within : (a b : ℕ) → a ≤ b → nat_le a b ≡ true
is-within a b h = grind (arith, nat_tests)

is-beyond : (a b : ℕ) → b < a → nat_le a b ≡ false
is-beyond a b h = grind (arith, nat_tests)

some-same : (a b : ℕ) → Some a ≡ Some b → a ≡ b
some-same a b h = cc

module _ (added : List Element) (maps : List RevisionMap) where
  abbrev len : ℕ → ExGuid → Option ℕ
  len n r = chain_length added maps n r

  pub length-null : (n : ℕ) (r : ExGuid) → r ≡ Null → len n r ≡ Some 0
  length-null n r e = ap (len n) e ∙ ap (option_map length) (chain-null added maps n)

  pub length-zero : (n : ℕ) (r : ExGuid) (g : Guid) (v : ℕ) → n ≡ 0 → r ≡ Id g v → len n r ≡ None
  length-zero n r g v z e = ap (λ k. len k r) z ∙ ap (len 0) e ∙ ap (option_map length) (chain-zero added maps g v)

  -- what follows from the manifest of a revision
  by-manifest : ℕ → Option Manifest → Option ℕ
  by-manifest n None = None
  by-manifest n (Some m) = option_map suc (len n m.base)

  length-step : (n : ℕ) (g : Guid) (v : ℕ) → 0 < n → len n (Id g v) ≡ by-manifest (n - 1) (manifest_of added maps (Id g v))
  unfolding by-manifest
  length-step n g v p = ap (option_map length) (chain-one added maps n g v p) ∙ at (manifest_of added maps (Id g v))
    where
      counted : (m : Manifest) (o : Option (List Manifest)) → option_map length (option_map (λ rest. m ∷ rest) o) ≡ option_map suc (option_map length o)
      counted m None = refl
      counted m (Some rest) = refl

      at : (o : Option Manifest) → option_map length (option_and_then (λ m. option_map (λ rest. m ∷ rest) (chain added maps (n - 1) m.base)) o) ≡ by-manifest (n - 1) o
      at None = refl
      at (Some m) = counted m (chain added maps (n - 1) m.base)

  pub length-none : (n : ℕ) (r : ExGuid) (g : Guid) (v : ℕ) → 0 < n → r ≡ Id g v → None ≡ manifest_of added maps r → len n r ≡ None
  unfolding by-manifest
  length-none n r g v p e m = ap (len n) e ∙ length-step n g v p ∙ ap (by-manifest (n - 1)) (ap (manifest_of added maps) (sym e) ∙ sym m)

  pub length-some : (n : ℕ) (r : ExGuid) (g : Guid) (v : ℕ) (m : Manifest) → 0 < n → r ≡ Id g v → Some m ≡ manifest_of added maps r → len n r ≡ option_map suc (len (n - 1) m.base)
  unfolding by-manifest
  length-some n r g v m p e k = ap (len n) e ∙ length-step n g v p ∙ ap (by-manifest (n - 1)) (ap (manifest_of added maps) (sym e) ∙ sym k)

  -- a chain has the length that it is found to have
  behind : (n : ℕ) (g : Guid) (v d : ℕ) (m : Manifest) → ((r : ExGuid) (c : ℕ) → len n r ≡ Some c → HasLength added maps r c) → Some m ≡ manifest_of added maps (Id g v)
      → (o : Option ℕ) → len n m.base ≡ o → option_map suc o ≡ Some d → HasLength added maps (Id g v) d
  behind n g v d m ih w None b e k = cc
  behind n g v d m ih w (Some c) b e zero =
      let f : d ≡ suc c = cc in
      length-zero 0 (Id g v) g v refl refl ∙ sym (ap (λ (t : Bool). cond t (Some d) None) (ap (λ (x : ℕ). nat_le x 0) f ∙ none-below c))
  behind n g v d m ih w (Some c) b e (suc k) =
      let f : suc c ≡ d = cc in
      let j : suc k - 1 ≡ k = omega arith in
      length-some (suc k) (Id g v) g v m (omega arith) refl w
      ∙ ap (λ (i : ℕ). option_map suc (len i m.base)) j
      ∙ ap (option_map suc) (ih m.base c b k)
      ∙ out (nat_le c k)
      ∙ ap (λ (t : Bool). cond t (Some (suc c)) None) (sym (both-more c k))
      ∙ ap (λ (x : ℕ). cond (nat_le x (suc k)) (Some x) None) f
    where
      out : (t : Bool) → option_map suc (cond t (Some c) None) ≡ cond t (Some (suc c)) None
      out true = refl
      out false = refl

  more : (n : ℕ) (g : Guid) (v d : ℕ) → ((r : ExGuid) (c : ℕ) → len n r ≡ Some c → HasLength added maps r c) → (o : Option Manifest) → o ≡ manifest_of added maps (Id g v)
      → len (suc n) (Id g v) ≡ Some d → HasLength added maps (Id g v) d
  more n g v d ih None w h k = let e : None ≡ Some d = sym (length-none (suc n) (Id g v) g v (omega arith) refl w) ∙ h in cc
  more n g v d ih (Some m) w h k =
      let j : suc n - 1 ≡ n = omega arith in
      behind n g v d m ih w (len n m.base) refl (sym (length-some (suc n) (Id g v) g v m (omega arith) refl w ∙ ap (λ (i : ℕ). option_map suc (len i m.base)) j) ∙ h) k

  pub has-length : (n : ℕ) (r : ExGuid) (d : ℕ) → len n r ≡ Some d → HasLength added maps r d
  has-length n Null d h k =
      let z : 0 ≡ d = some-same 0 d (sym (length-null n Null refl) ∙ h) in
      length-null k Null refl ∙ sym (ap (λ (t : Bool). cond t (Some 0) None) (least k)) ∙ ap (λ (x : ℕ). cond (nat_le x k) (Some x) None) z
  has-length zero (Id g v) d h k = let e : None ≡ Some d = sym (length-zero 0 (Id g v) g v refl refl) ∙ h in cc
  has-length (suc n) (Id g v) d h k = more n g v d (λ r c b. has-length n r c b) (manifest_of added maps (Id g v)) refl h k

  pub length-few : (n : ℕ) (r : ExGuid) (d : ℕ) → len n r ≡ Some d → d ≤ n
  length-few n r d h = at (nat_le d n) refl (sym (has-length n r d h n) ∙ h)
    where
      at : (b : Bool) → nat_le d n ≡ b → cond b (Some d) None ≡ Some d → d ≤ n
      at true t e = within d n t
      at false t e = cc

  pub length-more : (n : ℕ) (r : ExGuid) (g : Guid) (v : ℕ) (m : Manifest) (b : ℕ) → 0 < n → r ≡ Id g v → Some m ≡ manifest_of added maps r → len (n - 1) m.base ≡ Some b
      → Some (b + 1) ≡ len n r
  length-more n r g v m b p e k h =
      let j : b + 1 ≡ suc b = omega arith in
      ap (λ (x : ℕ). Some x) j ∙ sym (length-some n r g v m p e k ∙ ap (option_map suc) h)

  -- a length that is known tells whether the chain is let be
  pub known-within : (r : ExGuid) (d n : ℕ) → HasLength added maps r d → d ≤ n → Some d ≡ len n r
  known-within r d n h l = sym (h n ∙ ap (λ (b : Bool). cond b (Some d) None) (is-within d n l))

  pub known-beyond : (r : ExGuid) (d n : ℕ) → HasLength added maps r d → n < d → None ≡ len n r
  known-beyond r d n h l = sym (h n ∙ ap (λ (b : Bool). cond b (Some d) None) (is-beyond d n l))

  -- a length that is noted
  pub tells-more : (r : ExGuid) (d : ℕ) (old new : BTreeMap IdKey ℕ) → TellsLengths added maps old → HasLength added maps r d
      → ((q : IdKey) → get key_order new q ≡ cond (is_eq (key_order (key_of r) q)) (Some d) (get key_order old q)) → TellsLengths added maps new
  tells-more r d old new t l updates q e h =
      at (same_id r q) refl (sym (updates (key_of q) ∙ ap (λ (b : Bool). cond b (Some d) (get key_order old (key_of q))) (key-same r q)) ∙ h)
    where
      at : (b : Bool) → same_id r q ≡ b → cond b (Some d) (get key_order old (key_of q)) ≡ Some e → HasLength added maps q e
      at true s w = subst (λ (x : ExGuid). HasLength added maps x e) (id-same r q s) (subst (λ (x : ℕ). HasLength added maps r x) (some-same d e w) l)
      at false s w = t q e w
