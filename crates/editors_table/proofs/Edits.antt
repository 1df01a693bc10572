-- To change the editor of a client is to write another in its place, and to join is to do so or to come at the end.
use Rattle.std.proofs.Common.{◌≡◌, ◌∙◌, ℕ, ◌+◌, ◌≤◌, not, refl, ap, Bool, true, false, cond, List, [], ◌∷◌, ◌++◌, find, length, Some, None, nat_lt, arith, one-add}
use Rattle.std.specs.List.{position, position_or_len}
use Rattle.std.proofs.Math.ListN.{set}
use Rattle.std.proofs.lemmas.List.{set_past}
use Rattle.std.proofs.lemmas.Option.{cond_some}
use Rattle.std.proofs.lemmas.Bool.Decides.{nat_tests}
use Rattle.compact_values.specs.declared.guid.Guid.{Guid}
use Rattle.doc_model.specs.declared.editor.Editor.{Editor}
use Rattle.doc_model.specs.rules.Editing.{is_editor, edited, renewed, new_editor, with_editor}

module _ (client : Guid) where
  -- only the client's first editor changes
  pub edited_found : (change : Editor → Editor) (editors : List Editor) (own : Editor) → find (is_editor client) editors ≡ Some own
      → edited client (λ x. change own) editors ≡ edited client change editors
  edited_found change [] own f = refl
  edited_found change (e ∷ es) own f = at (is_editor client e) f (λ g. edited_found change es own g)
    where
      at : (b : Bool) → cond b (Some e) (find (is_editor client) es) ≡ Some own
          → (find (is_editor client) es ≡ Some own → edited client (λ x. change own) es ≡ edited client change es)
          → cond b (change own ∷ es) (e ∷ edited client (λ x. change own) es) ≡ cond b (change e ∷ es) (e ∷ edited client change es)
      at true g later = let s : own ≡ e = cc in ap (λ (x : Editor). change x ∷ es) s
      at false g later = ap (λ (xs : List Editor). e ∷ xs) (later g)

  -- a client who is there joins at its place, and another at the end
  module _ (user : List ℕ) (until : ℕ) where
    pub joins_found : (editors : List Editor) (own : Editor) → find (is_editor client) editors ≡ Some own
        → edited client (λ x. renewed user until own) editors ≡ with_editor client user until editors
    joins_found [] own f = cc
    joins_found (e ∷ es) own f = at (is_editor client e) f (λ g. joins_found es own g)
      where
        at : (b : Bool) → cond b (Some e) (find (is_editor client) es) ≡ Some own
            → (find (is_editor client) es ≡ Some own → edited client (λ x. renewed user until own) es ≡ with_editor client user until es)
            → cond b (renewed user until own ∷ es) (e ∷ edited client (λ x. renewed user until own) es) ≡ cond b (renewed user until e ∷ es) (e ∷ with_editor client user until es)
        at true g later = let s : own ≡ e = cc in ap (λ (x : Editor). renewed user until x ∷ es) s
        at false g later = ap (λ (xs : List Editor). e ∷ xs) (later g)

    pub joins_new : (editors : List Editor) → find (is_editor client) editors ≡ None → with_editor client user until editors ≡ editors ++ new_editor client user until ∷ []
    joins_new [] f = refl
    joins_new (e ∷ es) f = at (is_editor client e) f (λ g. joins_new es g)
      where
        at : (b : Bool) → cond b (Some e) (find (is_editor client) es) ≡ None
            → (find (is_editor client) es ≡ None → with_editor client user until es ≡ es ++ new_editor client user until ∷ [])
            → cond b (renewed user until e ∷ es) (e ∷ with_editor client user until es) ≡ e ∷ es ++ new_editor client user until ∷ []
        at true g later = cc
        at false g later = ap (λ (xs : List Editor). e ∷ xs) (later g)

  -- another editor in its place is written there
  replaced_first : (new : Editor) (editors : List Editor) → edited client (λ x. new) editors ≡ set editors (position_or_len (is_editor client) editors) new
  replaced_first new [] = refl
  replaced_first new (e ∷ es) = at (is_editor client e) (replaced_first new es)
    where
      at : (b : Bool) → edited client (λ x. new) es ≡ set es (position_or_len (is_editor client) es) new
          → cond b (new ∷ es) (e ∷ edited client (λ x. new) es) ≡ set (e ∷ es) (cond (not b) (1 + position_or_len (is_editor client) es) 0) new
      at true r = refl
      at false r = rw one-add (ap (λ (xs : List Editor). e ∷ xs) r)

  pub replaced_at : (new : Editor) (editors : List Editor) (place : ℕ) → position (is_editor client) editors ≡ Some place → edited client (λ x. new) editors ≡ set editors place new
  replaced_at new editors place h =
      let first = cond_some (nat_lt (position_or_len (is_editor client) editors) (length editors)) _ _ h in
      replaced_first new editors ∙ ap (λ (i : ℕ). set editors i new) first.1

  pub replaced_nowhere : (new : Editor) (editors : List Editor) → position (is_editor client) editors ≡ None → edited client (λ x. new) editors ≡ editors
  replaced_nowhere new editors h = replaced_first new editors ∙ set_past editors (position_or_len (is_editor client) editors) new (past (position_or_len (is_editor client) editors) (length editors) h)
    where
      past : (i n : ℕ) → cond (nat_lt i n) (Some i) None ≡ None → n ≤ i
      past i n g = at (nat_lt i n) refl g
        where
          at : (b : Bool) → nat_lt i n ≡ b → cond b (Some i) None ≡ None → n ≤ i
          at true e none = cc
          at false e none = grind (arith, nat_tests)
