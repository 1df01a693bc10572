-- A step of the table of editors leaves the editors few and distinct, and so the keys of each.
use Rattle.std.proofs.Common.{◌≡◌, ℕ, ◌+◌, ◌≤◌, ◌<◌, refl, sym, ap, subst, Bool, true, false, not, ◌&&◌, ◌||◌, cond, List, [], ◌∷◌, map, filter, find, length, nat_lt, nat_le, Option, Some, None, ⊎_elim, arith}
use Rattle.std.specs.Prelude.{bytes_eq, encode_utf8_all}
use Rattle.std.proofs.lemmas.Bool.Decides.{nat_tests}
use Rattle.std.proofs.lemmas.List.Elements.{All-filter, All-from_recursion, recursion_from_All}
use Rattle.std.specs.List.{AllByRecursion as Each, IsDistinct, list_any}
use Rattle.compact_values.specs.declared.guid.Guid.{Guid}
use Rattle.compact_values.specs.SameIds.{same_guid}
use Rattle.compact_values.proofs.SameIds.{guid-same}
use Rattle.doc_model.specs.declared.editor.Editor.{Editor}
use Rattle.doc_model.specs.declared.editor.EditorStep.{EditorStep}
use Rattle.doc_model.specs.declared.editor.EditorStep.TheVariants.{Join, Leave, Refresh, SetKey, RemoveKey}
use Rattle.doc_model.specs.declared.editor.Entry.{Entry}
use Rattle.doc_model.specs.rules.Editing.{EditorEffect, becomes, stays, refuses, edited, editor_effect, editors_after, editors_moved, entry, finds_no_place, is_editor, is_key, is_live_editor, is_long, join, live_editors, new_editor, on_editor, on_found, other_editors, remove_key, renewed, set_key, with_editor, with_entry, without_key}
use Rattle.doc_model.specs.rules.Limits.{most_editors, most_keys}
use Rattle.doc_model.specs.rules.Sound.{AreSoundEditors}
use Rattle.doc_model.proofs.Distinct.{distinct-filter, distinct-none}
use Rattle.doc_model.proofs.EachItem.{each-as, each-both, each-found}
use Rattle.doc_model.proofs.Placed.{placed, length-placed, length-there, each-placed, distinct-placed}
use Rattle.doc_model.proofs.SameContents.{exact-bytes}
use Rattle.doc_model.proofs.SoundParts.{length-filter}

-- keys are few, each once
abbrev AreKeys : List Entry → Type 0
AreKeys entries = (length entries ≤ most_keys) × IsDistinct bytes_eq (map (λ x. x.key) entries)

abbrev HasKeys : Editor → Type 0
HasKeys e = AreKeys e.entries

-- so have sound editors, and editors that are few and distinct with such keys are sound
keys-of : (editors : List Editor) → AreSoundEditors editors → Each HasKeys editors
keys-of editors s =
    each-both (λ e. length e.entries ≤ most_keys) (λ e. IsDistinct bytes_eq (map (λ x. x.key) e.entries)) editors
    (recursion_from_All (λ e. length e.entries ≤ most_keys) editors s.few_keys)
    (recursion_from_All (λ e. IsDistinct bytes_eq (map (λ x. x.key) e.entries)) editors s.distinct_keys)

with-keys : (editors : List Editor) → length editors ≤ most_editors → IsDistinct same_guid (map (λ e. e.client) editors) → Each HasKeys editors → AreSoundEditors editors
with-keys editors few distinct keys = record {
  few = few;
  distinct = distinct;
  few_keys = All-from_recursion (λ e. length e.entries ≤ most_keys) editors (each-as HasKeys (λ e. length e.entries ≤ most_keys) editors (λ e k. k.0) keys);
  distinct_keys =
      All-from_recursion (λ e. IsDistinct bytes_eq (map (λ x. x.key) e.entries)) editors
      (each-as HasKeys (λ e. IsDistinct bytes_eq (map (λ x. x.key) e.entries)) editors (λ e k. k.1) keys);
}

-- what a test keeps of them is sound
filter-sound : (p : Editor → Bool) (editors : List Editor) → AreSoundEditors editors → AreSoundEditors (filter p editors)
filter-sound p editors s = record {
  few = omega (arith, s.few, length-filter p editors);
  distinct = distinct-filter same_guid (λ e. e.client) p editors s.distinct;
  few_keys = All-filter p (λ e. length e.entries ≤ most_keys) editors s.few_keys;
  distinct_keys = All-filter p (λ e. IsDistinct bytes_eq (map (λ x. x.key) e.entries)) editors s.distinct_keys;
}

-- with a client, while there is room
module _ (client : Guid) (user : List ℕ) (until : ℕ) where
  with-is-placed : (editors : List Editor) → with_editor client user until editors ≡ placed (is_editor client) (renewed user until) (new_editor client user until) editors
  with-is-placed [] = refl
  with-is-placed (e ∷ es) = ap (λ (xs : List Editor). cond (is_editor client e) (renewed user until e ∷ es) (e ∷ xs)) (with-is-placed es)

  with-sound : (editors : List Editor) → AreSoundEditors editors → length (other_editors client editors) < most_editors → AreSoundEditors (with_editor client user until editors)
  with-sound editors s room =
      subst AreSoundEditors (sym (with-is-placed editors))
      (with-keys (placed (is_editor client) (renewed user until) (new_editor client user until) editors)
      (⊎_elim (λ e. omega (arith, e, s.few)) (λ e. omega (arith, e, room)) (length-placed (is_editor client) (renewed user until) (new_editor client user until) editors))
      (distinct-placed same_guid guid-same (λ e. e.client) client (renewed user until) (new_editor client user until) (λ e h. refl) refl editors s.distinct)
      (each-placed (is_editor client) (renewed user until) (new_editor client user until) HasKeys (λ e k. k) (omega arith, distinct-none bytes_eq) editors (keys-of editors s)))

-- with a client's editor changed, who keeps its client and gets sound keys
module _ (client : Guid) (change : Editor → Editor) (kept : (e : Editor) → (change e).client ≡ e.client) where
  clients-edited : (editors : List Editor) → map (λ e. e.client) (edited client change editors) ≡ map (λ e. e.client) editors
  clients-edited [] = refl
  clients-edited (e ∷ es) = at (is_editor client e) (clients-edited es)
    where
      at : (b : Bool) → map (λ e. e.client) (edited client change es) ≡ map (λ e. e.client) es
          → map (λ e. e.client) (cond b (change e ∷ es) (e ∷ edited client change es)) ≡ map (λ e. e.client) (e ∷ es)
      at true r = ap (λ (c : Guid). c ∷ map (λ e. e.client) es) (kept e)
      at false r = ap (λ (cs : List Guid). e.client ∷ cs) r

  length-edited : (editors : List Editor) → length (edited client change editors) ≡ length editors
  length-edited [] = refl
  length-edited (e ∷ es) = at (is_editor client e) (length-edited es)
    where
      at : (b : Bool) → length (edited client change es) ≡ length es → length (cond b (change e ∷ es) (e ∷ edited client change es)) ≡ length (e ∷ es)
      at true r = refl
      at false r = omega (arith, r)

  each-edited : (P : Editor → Type 0) (editors : List Editor) (own : Editor) → find (is_editor client) editors ≡ Some own → P (change own) → Each P editors → Each P (edited client change editors)
  each-edited P [] own f q h = tt
  each-edited P (e ∷ es) own f q h = at (is_editor client e) f (λ g. each-edited P es own g q h.1)
    where
      at : (b : Bool) → cond b (Some e) (find (is_editor client) es) ≡ Some own → (find (is_editor client) es ≡ Some own → Each P (edited client change es))
          → Each P (cond b (change e ∷ es) (e ∷ edited client change es))
      at true g later = let s : own ≡ e = cc in (subst (λ (x : Editor). P (change x)) s q, h.1)
      at false g later = (h.0, later g)

  edited-sound : (editors : List Editor) (own : Editor) → AreSoundEditors editors → find (is_editor client) editors ≡ Some own → HasKeys (change own) → AreSoundEditors (edited client change editors)
  edited-sound editors own s f q =
      with-keys (edited client change editors) (omega (arith, length-edited editors, s.few))
      (subst (IsDistinct same_guid) (sym (clients-edited editors)) s.distinct)
      (each-edited HasKeys editors own f q (keys-of editors s))

-- keys with one more that finds a place, and without one
module _ (key value : List ℕ) where
  with-entry-is-placed : (xs : List Entry) → with_entry key value xs ≡ placed (is_key key) (λ x. entry key value) (entry key value) xs
  with-entry-is-placed [] = refl
  with-entry-is-placed (x ∷ xs) = ap (λ (ys : List Entry). cond (is_key key x) (entry key value ∷ xs) (x ∷ ys)) (with-entry-is-placed xs)

  few-placed : (xs : List Entry) → length xs ≤ most_keys → finds_no_place key xs ≡ false → length (placed (is_key key) (λ x. entry key value) (entry key value) xs) ≤ most_keys
  few-placed xs few h = at (list_any (is_key key) xs) refl h
    where
      at : (b : Bool) → list_any (is_key key) xs ≡ b → (not b && nat_le most_keys (length xs)) ≡ false
          → length (placed (is_key key) (λ x. entry key value) (entry key value) xs) ≤ most_keys
      at true e g = omega (arith, few, length-there (is_key key) (λ x. entry key value) (entry key value) xs e)
      at false e g =
          let room : length xs < most_keys = grind (arith, nat_tests) in
          ⊎_elim (λ l. omega (arith, l, few)) (λ l. omega (arith, l, room, length-filter (λ x. not (is_key key x)) xs))
          (length-placed (is_key key) (λ x. entry key value) (entry key value) xs)

  with-entry-keys : (xs : List Entry) → AreKeys xs → finds_no_place key xs ≡ false → AreKeys (with_entry key value xs)
  with-entry-keys xs s h =
      subst AreKeys (sym (with-entry-is-placed xs))
      (few-placed xs s.0 h, distinct-placed bytes_eq exact-bytes.equal (λ x. x.key) key (λ x. entry key value) (entry key value) (λ x e. sym (exact-bytes.equal x.key key e)) refl xs s.1)

without-key-keys : (key : List ℕ) (xs : List Entry) → AreKeys xs → AreKeys (without_key key xs)
without-key-keys key xs s = (
  omega (arith, s.0, length-filter (λ x. not (is_key key x)) xs),
  distinct-filter bytes_eq (λ x. x.key) (λ x. not (is_key key x)) xs s.1,
)

-- an effect whose new editors are sound
abbrev EffectSound : EditorEffect → Type 0
EffectSound (becomes new) = AreSoundEditors new
EffectSound stays = Unit {0}
EffectSound (refuses c) = Unit {0}

choose : (b : Bool) (x y : EditorEffect) → (b ≡ true → EffectSound x) → (b ≡ false → EffectSound y) → EffectSound (cond b x y)
choose b x y p q = at b refl
  where
    at : (c : Bool) → b ≡ c → EffectSound (cond c x y)
    at true e = p e
    at false e = q e

on-editor-sound : (client : Guid) (editors : List Editor) (own : Editor → EditorEffect) → ((e : Editor) → find (is_editor client) editors ≡ Some e → EffectSound (own e))
    → EffectSound (on_editor client editors own)
on-editor-sound client editors own q = at (find (is_editor client) editors) q
  where
    at : (o : Option Editor) → ((e : Editor) → o ≡ Some e → EffectSound (own e)) → EffectSound (on_found o own)
    at None h = tt
    at (Some e) h = h e refl

less : (a b : ℕ) → nat_lt a b ≡ true → a < b
less a b h = grind (arith, nat_tests)

-- each step on editors that are sound
module _ (editors : List Editor) (s : AreSoundEditors editors) where
  found-keys : (client : Guid) (e : Editor) → find (is_editor client) editors ≡ Some e → HasKeys e
  found-keys client e f = each-found HasKeys (is_editor client) editors e (keys-of editors s) f

  join-sound : (client : Guid) (user : List ℕ) (until : ℕ) → EffectSound (join client user until editors)
  join-sound client user until =
      choose (nat_lt (length (other_editors client editors)) most_editors) _ _
      (λ h. with-sound client user until editors s (less (length (other_editors client editors)) most_editors h)) (λ h. tt)

  set-key-sound : (client : Guid) (key value : List ℕ) (e : Editor) → find (is_editor client) editors ≡ Some e → EffectSound (set_key client key value editors e)
  set-key-sound client key value e f =
      choose (is_long (encode_utf8_all key) || is_long value) _ _ (λ h. tt)
      (λ h. choose (finds_no_place key e.entries) _ _ (λ g. tt)
      (λ g. edited-sound client (λ x. record x { entries = with_entry key value x.entries }) (λ x. refl) editors e s f
      (with-entry-keys key value e.entries (found-keys client e f) g)))

  remove-key-sound : (client : Guid) (key : List ℕ) (e : Editor) → find (is_editor client) editors ≡ Some e → EffectSound (remove_key client key editors e)
  remove-key-sound client key e f =
      choose (list_any (is_key key) e.entries) _ _
      (λ h. edited-sound client (λ x. record x { entries = without_key key x.entries }) (λ x. refl) editors e s f
      (without-key-keys key e.entries (found-keys client e f))) (λ h. tt)

  effect-sound : (m : ℕ) (user : List ℕ) (step : EditorStep) → EffectSound (editor_effect m user step editors)
  effect-sound m user (Join client t) = join-sound client user (m + t)
  effect-sound m user (Leave client) = on-editor-sound client editors _ (λ e f. filter-sound (λ x. not (is_editor client x)) editors s)
  effect-sound m user (Refresh client t) =
      on-editor-sound client editors _ (λ e f. edited-sound client (λ x. record x { until = m + t }) (λ x. refl) editors e s f (found-keys client e f))
  effect-sound m user (SetKey client key value) = on-editor-sound client editors (set_key client key value editors) (set-key-sound client key value)
  effect-sound m user (RemoveKey client key) = on-editor-sound client editors (remove_key client key editors) (remove-key-sound client key)

editors-after : (old live : List Editor) (effect : EditorEffect) → AreSoundEditors old → EffectSound effect → AreSoundEditors (cond (editors_moved effect) (editors_after live effect) old)
editors-after old live (becomes new) s t = t
editors-after old live stays s t = s
editors-after old live (refuses c) s t = s

pub editors-sound : (editors : List Editor) (moment : ℕ) (user : List ℕ) (step : EditorStep) → AreSoundEditors editors
    → AreSoundEditors
    (cond (editors_moved (editor_effect moment user step (live_editors editors moment)))
    (editors_after (live_editors editors moment) (editor_effect moment user step (live_editors editors moment))) editors)
editors-sound editors moment user step s =
    let live = live_editors editors moment in
    editors-after editors live (editor_effect moment user step live) s (effect-sound live (filter-sound (is_live_editor moment) editors s) moment user step)
