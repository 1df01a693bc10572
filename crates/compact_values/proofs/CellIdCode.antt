-- The reader of cell ids recognises their spellings, and finds the half without a form.
use Rattle.std.proofs.Common.{◌≡◌, ℕ, inl, inr, List, [], ◌∷◌, ◌++◌, length, take, drop, refl, sym, ap, subst, ◌∙◌, append_assoc, arith}
use Rattle.std.proofs.lemmas.List.{take-append-drop, length-take, drop_at}
use Rattle.compact_values.specs.Both.{SpellsBoth, read_both}
use Rattle.compact_values.specs.Reading.{Reading, Value, Cut, Malformed}
use Rattle.compact_values.specs.Ids.{SpellsExGuid, SpellsCellId, exguid}
use Rattle.compact_values.specs.IdReading.{read_as, exguid_at}
use Rattle.compact_values.specs.Placed.{LacksInCellId, Ends, NoForm, joined, second_half, both_halves, cell_id_at}
use Rattle.compact_values.specs.declared.ids.ExGuid.{ExGuid}
use Rattle.compact_values.specs.declared.ids.ExGuid.TheVariants as exguids
use Rattle.compact_values.specs.declared.ids.CellId.{CellId}
use Rattle.compact_values.proofs.LittleEndian.{IsBytes}
use Rattle.compact_values.proofs.Codes.{Recognises, IsBytes-drop, cases_reading}
use Rattle.compact_values.proofs.BothCode.{both_code}
use Rattle.compact_values.proofs.IdCode.{as_code, exguid_code}
use Rattle.compact_values.proofs.Parts.{IsBytes-behind, no_form, is_malformed, RecognisesParts}

cell_of : ExGuid × ExGuid → CellId
cell_of p = record { first = p.0; second = p.1 }

halves_code : Recognises SpellsCellId (λ b. read_as cell_of (read_both exguid_at exguid_at b))
unfolding cell_of
halves_code = as_code (SpellsBoth SpellsExGuid SpellsExGuid) (read_both exguid_at exguid_at) SpellsCellId cell_of (λ c. (c.first, c.second)) (λ c. refl)
    (λ p bytes s. record { range = (s.first.range, s.second.range); bytes_are = s.bytes_are ∙ ap (λ (l : List ℕ). l ++ s.back) s.first.bytes_are ∙ ap (λ (l : List ℕ). exguid p.0 ++ l) s.second.bytes_are })
    (λ c bytes s. record {
      front = exguid c.first;
      back = exguid c.second;
      first = record { range = s.range.0; bytes_are = refl };
      second = record { range = s.range.1; bytes_are = refl };
      bytes_are = s.bytes_are;
    })
    (both_code SpellsExGuid SpellsExGuid exguid_at exguid_at exguid_code exguid_code exguids.Null (0 ∷ []) (record { range = tt; bytes_are = refl }))

joined_halves : (b : List ℕ) → joined (cell_id_at b) ≡ read_as cell_of (read_both exguid_at exguid_at b)
unfolding cell_of cell_id_at
joined_halves b =
    elim (cases_reading (exguid_at b)) [
      | inl r ↦
          elim (cases_reading (exguid_at (drop r.1 b))) [
            | inl s ↦ rw (r.2, s.2) refl
            | inr (inl s) ↦ rw (r.2, s) refl
            | inr (inr s) ↦ rw (r.2, s) refl
          ]
      | inr (inl r) ↦ rw r refl
      | inr (inr r) ↦ rw r refl
    ]

cell_code : Recognises SpellsCellId (λ b. joined (cell_id_at b))
cell_code = record {
  again = λ v b more s. joined_halves (b ++ more) ∙ halves_code.again v b more s;
  takes = λ b v used fits e. halves_code.takes b v used fits (sym (joined_halves b) ∙ e);
  cut = λ b fits e. halves_code.cut b fits (sym (joined_halves b) ∙ e);
  stays = λ b more fits e. joined_halves (b ++ more) ∙ halves_code.stays b more fits (sym (joined_halves b) ∙ e);
}

lacks_second : (b : List ℕ) (n : ℕ) (first : ExGuid) (used : ℕ) (r : Reading ExGuid) → IsBytes b → exguid_at b ≡ Value first used → exguid_at (drop used b) ≡ r → second_half first used r ≡ NoForm n → LacksInCellId b n
lacks_second b n first used (Value second more) fits e f g = absurd cc
lacks_second b n first used Cut fits e f g = absurd cc
lacks_second b n first used Malformed fits e f g =
    let t = exguid_code.takes b first used fits e in
    let place : used ≡ n = cc in
    inr (record {
      value = first;
      front = take used b;
      rest = drop used b;
      inner = 0;
      spelled = t.1;
      bytes_are = sym (take-append-drop used b);
      lacks = (refl, no_form SpellsExGuid exguid_at exguid_code (drop used b) (IsBytes-drop used b fits) f);
      place = omega (arith, place, length-take used b, t.0);
    })

lacks : (b : List ℕ) (n : ℕ) → IsBytes b → cell_id_at b ≡ NoForm n → LacksInCellId b n
unfolding cell_id_at
lacks b n fits e =
    elim (cases_reading (exguid_at b)) [
      | inl r ↦ lacks_second b n r.0 r.1 (exguid_at (drop r.1 b)) fits r.2 refl (sym (ap (λ (q : Reading ExGuid). both_halves q b) r.2) ∙ e)
      | inr (inl r) ↦ let bad : Ends ≡ NoForm n = sym (ap (λ (q : Reading ExGuid). both_halves q b) r) ∙ e in absurd cc
      | inr (inr r) ↦
          let none : NoForm 0 ≡ NoForm n = sym (ap (λ (q : Reading ExGuid). both_halves q b) r) ∙ e in
          let place : n ≡ 0 = cc in
          inl (place, no_form SpellsExGuid exguid_at exguid_code b fits r)
    ]

lacking : (b more : List ℕ) (n : ℕ) → IsBytes b → LacksInCellId b n → cell_id_at (b ++ more) ≡ NoForm n
unfolding cell_id_at
lacking b more n fits (inl h) = rw (exguid_code.stays b more fits (is_malformed SpellsExGuid exguid_at exguid_code b fits h.1), h.0) refl
lacking b more n fits (inr h) =
    let parts : b ++ more ≡ h.front ++ (h.rest ++ more) = ap (λ (l : List ℕ). l ++ more) h.bytes_are ∙ append_assoc h.front h.rest more in
    let rest_fits = IsBytes-behind h.front h.rest (subst (λ (l : List ℕ). IsBytes l) h.bytes_are fits) in
    let first : exguid_at (b ++ more) ≡ Value h.value (length h.front) = ap exguid_at parts ∙ exguid_code.again h.value h.front (h.rest ++ more) h.spelled in
    let behind : drop (length h.front) (b ++ more) ≡ h.rest ++ more = ap (λ (l : List ℕ). drop (length h.front) l) parts ∙ drop_at h.front (h.rest ++ more) (length h.front) refl in
    let second : exguid_at (h.rest ++ more) ≡ Malformed = exguid_code.stays h.rest more rest_fits (is_malformed SpellsExGuid exguid_at exguid_code h.rest rest_fits h.lacks.1) in
    let place : length h.front ≡ n = omega (arith, h.place, h.lacks.0) in
    rw (first, behind, second) (ap (λ (k : ℕ). NoForm k) place)

pub cell_id_parts : RecognisesParts SpellsCellId LacksInCellId cell_id_at
cell_id_parts = record { code = cell_code; lacks = lacks; lacking = lacking }
