-- Characters and references: what is read is pieces, and pieces are read.
use Rattle.std.proofs.Common.{◌≡◌, ◌≢◌, ℕ, ◌⊎◌, inl, inr, Bool, true, false, cond, eqb, not, List, [], ◌∷◌, ◌++◌, Option, Some, None, refl, sym, ap, subst, ◌∙◌, append_assoc}
use Rattle.std.specs.Prelude.{encode_utf8}
use Rattle.std.specs.Str.{is_utf8, IsUtf8, chars}
use Rattle.std.proofs.lemmas.Bool.{false≢true, eqb-true, eqb-false, ne_eqb}
use Rattle.std.proofs.lemmas.Str.{IsUtf8-from_is_utf8}
use Rattle.std.proofs.lemmas.List.{append-nil}
use Rattle.envelope_grammar.specs.Bytes.{every}
use Rattle.envelope_grammar.specs.Grammar.{Piece, Plain, Reference, ArePieces, as_written, as_meant, character_of, SpellsText}
use Rattle.envelope_grammar.specs.Reading.{in_front, referred, meaning, characters, text_of}
use Rattle.envelope_grammar.proofs.Values.{characters-utf8}
use Rattle.envelope_grammar.proofs.Runs.{and_parts, bind_some, guard_some, some_is}

-- ---- pieces are read

not_true : (b : Bool) → not b ≡ true → b ≡ false
not_true false h = refl
not_true true h = absurd (false≢true h)

name_again : (name before more : List ℕ) (c : ℕ) → every (λ b. not (eqb b 59)) name ≡ true → character_of (before ++ name) ≡ Some c
    → meaning (Some before) (name ++ (59 ∷ more)) ≡ in_front (encode_utf8 c) (meaning None more)
unfolding meaning
name_again [] before more c h e =
    let here : character_of before ≡ Some c = ap character_of (sym (append-nil before)) ∙ e in
    rw here refl
name_again (b ∷ name) before more c h e =
    let parts = and_parts (not (eqb b 59)) (every (λ b. not (eqb b 59)) name) h in
    let means : character_of ((before ++ b ∷ []) ++ name) ≡ Some c = ap character_of (append_assoc before (b ∷ []) name) ∙ e in
    rw (not_true (eqb b 59) parts.0) (name_again name (before ++ b ∷ []) more c parts.1 means)

pub pieces_again : (pieces : List Piece) → ArePieces pieces → meaning None (as_written pieces) ≡ Some (as_meant pieces)
unfolding meaning
pieces_again [] h = refl
pieces_again (Plain b ∷ pieces) h = rw (ne_eqb b 38 h.0, pieces_again pieces h.1) refl
pieces_again (Reference name c ∷ pieces) h = name_again name [] (as_written pieces) c h.0.0 h.0.1 ∙ rw (pieces_again pieces h.1) refl

pub text_again : (value written : List ℕ) → SpellsText value written → text_of written ≡ Some value
unfolding text_of
text_again value written h = rw (h.spelled, pieces_again h.pieces h.are, h.meant) (characters-utf8 (as_meant h.pieces) h.utf8)

-- ---- what is read is pieces

-- Behind a `&` and a part of the name: the rest of it, and pieces behind it.
pub record IsNamed (before w v : List ℕ) : Type 0 where
  pub name : List ℕ
  pub character : ℕ
  pub pieces : List Piece
  pub free : every (λ b. not (eqb b 59)) name ≡ true
  pub means : character_of (before ++ name) ≡ Some character
  pub are : ArePieces pieces
  pub spelled : w ≡ name ++ (59 ∷ as_written pieces)
  pub meant : v ≡ encode_utf8 character ++ as_meant pieces

pub record ArePiecesOf (w v : List ℕ) : Type 0 where
  pub pieces : List Piece
  pub are : ArePieces pieces
  pub spelled : w ≡ as_written pieces
  pub meant : v ≡ as_meant pieces

in_front_some : (a v : List ℕ) (o : Option (List ℕ)) → in_front a o ≡ Some v → (x : List ℕ) × (o ≡ Some x) × (v ≡ a ++ x)
in_front_some a v (Some x) e = (x, refl, cc)
in_front_some a v None e = absurd cc

referred_some : (o : Option ℕ) (r : Option (List ℕ)) (v : List ℕ) → referred o r ≡ Some v → (c : ℕ) × (o ≡ Some c) × (in_front (encode_utf8 c) r ≡ Some v)
referred_some (Some c) r v e = (c, refl, e)
referred_some None r v e = absurd cc

-- the cases of the byte at the front
at_plain : (b : ℕ) (w v : List ℕ) (t : Bool) → eqb b 38 ≡ t → cond t (meaning (Some []) w) (in_front (b ∷ []) (meaning None w)) ≡ Some v
    → ((b ≡ 38) × (meaning (Some []) w ≡ Some v)) ⊎ ((b ≢ 38) × (in_front (b ∷ []) (meaning None w) ≡ Some v))
at_plain b w v true e h = inl (eqb-true b 38 e, h)
at_plain b w v false e h = inr (eqb-false b 38 e, h)

at_name : (before : List ℕ) (b : ℕ) (w v : List ℕ) (t : Bool) → eqb b 59 ≡ t
    → cond t (referred (character_of before) (meaning None w)) (meaning (Some (before ++ b ∷ [])) w) ≡ Some v
    → ((b ≡ 59) × (referred (character_of before) (meaning None w) ≡ Some v)) ⊎ ((eqb b 59 ≡ false) × (meaning (Some (before ++ b ∷ [])) w ≡ Some v))
at_name before b w v true e h = inl (eqb-true b 59 e, h)
at_name before b w v false e h = inr (e, h)

mutual
  unfolding meaning

  pub pieces_take : (w v : List ℕ) → meaning None w ≡ Some v → ArePiecesOf w v
  pieces_take [] v e = record { pieces = []; are = tt; spelled = refl; meant = cc }
  pieces_take (b ∷ w) v e =
      elim (at_plain b w v (eqb b 38) refl e) [
        | inl h ↦
            let n = named_take [] w v h.1 in
            record { pieces = Reference n.name n.character ∷ n.pieces; are = ((n.free, n.means), n.are); spelled = cc; meant = n.meant }
        | inr h ↦
            let x = in_front_some (b ∷ []) v (meaning None w) h.1 in
            let p = pieces_take w x.0 x.1 in
            record { pieces = Plain b ∷ p.pieces; are = (h.0, p.are); spelled = cc; meant = cc }
      ]

  pub named_take : (before w v : List ℕ) → meaning (Some before) w ≡ Some v → IsNamed before w v
  named_take before [] v e = absurd cc
  named_take before (b ∷ w) v e =
      elim (at_name before b w v (eqb b 59) refl e) [
        | inl h ↦
            let c = referred_some (character_of before) (meaning None w) v h.1 in
            let x = in_front_some (encode_utf8 c.0) v (meaning None w) c.2 in
            let p = pieces_take w x.0 x.1 in
            record { name = []; character = c.0; pieces = p.pieces; free = refl; means = ap character_of (append-nil before) ∙ c.1; are = p.are; spelled = cc; meant = cc }
        | inr h ↦
            let n = named_take (before ++ b ∷ []) w v h.1 in
            record { name = b ∷ n.name; character = n.character; pieces = n.pieces; free = rw h.0 n.free; means = ap character_of (sym (append_assoc before (b ∷ []) n.name)) ∙ n.means; are = n.are; spelled = ap (λ (r : List ℕ). b ∷ r) n.spelled; meant = n.meant }
      ]

pub text_takes : (written value : List ℕ) → text_of written ≡ Some value → SpellsText value written
unfolding text_of
text_takes written value e =
    let m = bind_some (meaning None written) characters value e in
    let p = pieces_take written m.0 m.1 in
    let g = guard_some (is_utf8 m.0) (Some (chars m.0)) value m.2 in
    record { pieces = p.pieces; are = p.are; spelled = p.spelled; utf8 = subst IsUtf8 p.meant (IsUtf8-from_is_utf8 m.0 g.0); meant = sym (some_is _ _ g.1) ∙ ap chars p.meant }
