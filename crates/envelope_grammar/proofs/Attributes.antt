-- Attributes: what is read is an attribute, and an attribute is read.
use Rattle.std.proofs.Common.{◌≡◌, ℕ, ◌≤◌, ◌⊎◌, inl, inr, Bool, true, false, cond, eqb, leb, not, ◌&&◌, ◌||◌, List, [], ◌∷◌, ◌++◌, length, take, drop, Some, None, refl, sym, ap, subst, ◌∙◌, append_assoc, arith}
use Rattle.std.proofs.lemmas.Bool.{leb-true, le-leb, eqb-true}
use Rattle.std.proofs.lemmas.List.{take-append-drop, take_at, drop_at, length-take, take_all}
use Rattle.envelope_grammar.specs.declared.tag.Attribute.{Attribute}
use Rattle.envelope_grammar.specs.Bytes.{is_white, is_name_byte, every, run_len}
use Rattle.envelope_grammar.specs.Grammar.{◌▸◌, Then, Is, begins, White, SpellsText, SpellsQuoted, SpellsAttribute}
use Rattle.envelope_grammar.specs.Reading.{◌>>=◌, before, past, past_white, name_at, text_of, value_until, quoted_at, attribute_at}
use Rattle.envelope_grammar.proofs.Runs.{and_parts, run_len-append, run_len-all, run_every, past_white-append, past_white-takes, begins-append, eqb_same, past_takes, bind_some, guard_some, some_is}
use Rattle.envelope_grammar.proofs.Names.{StopsName, name_again, name_takes}
use Rattle.envelope_grammar.proofs.Texts.{text_again, text_takes}

-- ---- values

value_again : (q : ℕ) (value written more : List ℕ) → every (λ b. not (eqb b q)) written ≡ true → every (λ b. not (eqb b 60)) written ≡ true → length written ≤ 4096 → SpellsText value written
    → value_until q (written ++ (q ∷ more)) ≡ Some (value, more)
unfolding value_until
value_again q value written more free plain short text =
    let stop : begins (λ b. not (eqb b q)) (q ∷ more) ≡ false = rw (eqb_same q) refl in
    let len = run_len-append (λ b. not (eqb b q)) written (q ∷ more) free stop in
    let le : leb (length written) 4096 ≡ true = le-leb _ _ short in
    rw (len, drop_at written (q ∷ more) (length written) refl, take_at written (q ∷ more) (length written) refl, eqb_same q, le, run_len-all (λ b. not (eqb b 60)) written plain, eqb_same (length written), text_again value written text) refl

quote_test : (q : ℕ) → (q ≡ 34) ⊎ (q ≡ 39) → eqb q 34 || eqb q 39 ≡ true
quote_test q (inl h) = rw h refl
quote_test q (inr h) = rw h refl

pub or_cases : (a b : Bool) → a || b ≡ true → (a ≡ true) ⊎ (b ≡ true)
or_cases true b h = inl refl
or_cases false b h = inr h

test_quote : (q : ℕ) → eqb q 34 || eqb q 39 ≡ true → (q ≡ 34) ⊎ (q ≡ 39)
test_quote q h = elim (or_cases (eqb q 34) (eqb q 39) h) [ inl e ↦ inl (eqb-true q 34 e) | inr e ↦ inr (eqb-true q 39 e) ]

pub quoted_again : (value b more : List ℕ) → SpellsQuoted value b → quoted_at (b ++ more) ≡ Some (value, more)
unfolding quoted_at
quoted_again value b more h =
    let whole : b ++ more ≡ h.quote ∷ (h.written ++ (h.quote ∷ more)) = ap (λ (l : List ℕ). l ++ more) h.bytes_are ∙ ap (λ (l : List ℕ). h.quote ∷ l) (append_assoc h.written (h.quote ∷ []) more) in
    rw (whole, quote_test h.quote h.is_quote) (value_again h.quote value h.written more h.inside h.no_tag h.short h.text)

value_takes : (q : ℕ) (bytes value rest : List ℕ) → (q ≡ 34) ⊎ (q ≡ 39) → value_until q bytes ≡ Some (value, rest) → (b : List ℕ) × SpellsQuoted value b × (q ∷ bytes ≡ b ++ rest)
unfolding value_until
value_takes q bytes value rest is_q e =
    let p = λ (b : ℕ). not (eqb b q) in
    let len = run_len p bytes in
    let written = take len bytes in
    let first = bind_some (past q (drop len bytes)) (λ r. cond (leb len 4096 && eqb (run_len (λ b. not (eqb b 60)) written) len) (text_of written >>= before r) None) (value, rest) e in
    let g = guard_some (leb len 4096 && eqb (run_len (λ b. not (eqb b 60)) written) len) (text_of written >>= before first.0) (value, rest) first.2 in
    let tests = and_parts (leb len 4096) (eqb (run_len (λ b. not (eqb b 60)) written) len) g.0 in
    let t = bind_some (text_of written) (before first.0) (value, rest) g.1 in
    let pair : (t.0, first.0) ≡ (value, rest) = some_is _ _ t.2 in
    let behind = past_takes q (drop len bytes) first.0 first.1 in
    let runs : run_len (λ b. not (eqb b 60)) written ≡ len = eqb-true _ _ tests.1 in
    let small : length written ≤ len = omega (arith, length-take len bytes) in
    let plain : every (λ b. not (eqb b 60)) written ≡ true =
    let all : take len written ≡ written = take_all len written small in
    subst (λ (l : List ℕ). every (λ b. not (eqb b 60)) l ≡ true) all (subst (λ (n : ℕ). every (λ b. not (eqb b 60)) (take n written) ≡ true) runs (run_every (λ b. not (eqb b 60)) written)) in
    let spelled : SpellsQuoted t.0 (q ∷ written ++ (q ∷ [])) = record {
      quote = q;
      written = written;
      is_quote = is_q;
      inside = run_every p bytes;
      no_tag = plain;
      short = let le = leb-true _ _ tests.0 in omega arith;
      text = text_takes written t.0 t.1;
      bytes_are = refl;
    } in
    let parts : q ∷ bytes ≡ (q ∷ written ++ (q ∷ [])) ++ first.0 =
    ap (λ (l : List ℕ). q ∷ l) (sym (take-append-drop len bytes) ∙ ap (λ (l : List ℕ). written ++ l) behind ∙ sym (append_assoc written (q ∷ []) first.0)) in
    subst (λ (x : List ℕ × List ℕ). (b : List ℕ) × SpellsQuoted x.0 b × (q ∷ bytes ≡ b ++ x.1)) pair (q ∷ written ++ (q ∷ []), spelled, parts)

pub quoted_takes : (bytes value rest : List ℕ) → quoted_at bytes ≡ Some (value, rest) → (b : List ℕ) × SpellsQuoted value b × (bytes ≡ b ++ rest)
unfolding quoted_at
quoted_takes [] value rest e = absurd cc
quoted_takes (q ∷ bytes) value rest e =
    let g = guard_some (eqb q 34 || eqb q 39) (value_until q bytes) (value, rest) e in
    value_takes q bytes value rest (test_quote q g.0) g.1

-- ---- what white space and quotes are not

white_cases : (c : ℕ) → is_white c ≡ true → ((c ≡ 32) ⊎ (c ≡ 9)) ⊎ ((c ≡ 13) ⊎ (c ≡ 10))
white_cases c h =
    elim (or_cases (eqb c 32 || eqb c 9 || eqb c 13) (eqb c 10) h) [
      | inr e ↦ inr (inr (eqb-true c 10 e))
      | inl f ↦
          elim (or_cases (eqb c 32 || eqb c 9) (eqb c 13) f) [
            | inr e ↦ inr (inl (eqb-true c 13 e))
            | inl g ↦ elim (or_cases (eqb c 32) (eqb c 9) g) [ inl e ↦ inl (inl (eqb-true c 32 e)) | inr e ↦ inl (inr (eqb-true c 9 e)) ]
          ]
    ]

-- a test that rejects the four rejects white space
pub rejects_white : (p : ℕ → Bool) → p 32 ≡ false → p 9 ≡ false → p 13 ≡ false → p 10 ≡ false → (c : ℕ) → is_white c ≡ true → p c ≡ false
rejects_white p a b d e c h =
    elim (white_cases c h) [
      | inl x ↦ elim x [ inl k ↦ rw k a | inr k ↦ rw k b ]
      | inr x ↦ elim x [ inl k ↦ rw k d | inr k ↦ rw k e ]
    ]

pub stops_name : (w more : List ℕ) → White w → begins is_name_byte more ≡ false → begins (λ c. eqb c 58) more ≡ false → StopsName (w ++ more)
stops_name w more h byte colon = record {
  byte = begins-append is_name_byte w more (rejects_white is_name_byte refl refl refl refl) h byte;
  colon = begins-append (λ c. eqb c 58) w more (rejects_white (λ c. eqb c 58) refl refl refl refl) h colon;
}

quoted_begins : (value b more : List ℕ) → SpellsQuoted value b → begins is_white (b ++ more) ≡ false
quoted_begins value b more h =
    elim h.is_quote [
      | inl q ↦ rw (h.bytes_are, q) refl
      | inr q ↦ rw (h.bytes_are, q) refl
    ]

-- ---- attributes

pub regroup : {P Q : List ℕ → Type 0} (b more : List ℕ) (h : Then P Q b) → b ++ more ≡ h.front ++ (h.back ++ more)
regroup b more h = ap (λ (l : List ℕ). l ++ more) h.bytes_are ∙ append_assoc h.front h.back more

pub attribute_again : (a : Attribute) (b more : List ℕ) → SpellsAttribute a b → attribute_at (b ++ more) ≡ Some (a, more)
unfolding attribute_at
attribute_again a b more h =
    let h1 = h.second in
    let h2 = h1.second in
    let h3 = h2.second in
    let value = h3.back ++ more in
    let behind = h3.front ++ value in
    let e0 : b ++ more ≡ h.front ++ (h.back ++ more) = regroup b more h in
    let e1 : h.back ++ more ≡ h1.front ++ (h1.back ++ more) = regroup h.back more h1 in
    let e2 : h1.back ++ more ≡ 61 ∷ behind = regroup h1.back more h2 ∙ (rw h2.first (ap (λ (l : List ℕ). 61 ∷ l) (regroup h2.back more h3))) in
    let whole : b ++ more ≡ h.front ++ (h1.front ++ (61 ∷ behind)) = e0 ∙ ap (λ (l : List ℕ). h.front ++ l) (e1 ∙ ap (λ (l : List ℕ). h1.front ++ l) e2) in
    rw (whole, name_again a.name h.front (h1.front ++ (61 ∷ behind)) h.first (stops_name h1.front (61 ∷ behind) h1.first refl refl), past_white-append h1.front (61 ∷ behind) h1.first refl, past_white-append h3.front value h3.first (quoted_begins a.value h3.back more h3.second), quoted_again a.value h3.back more h3.second)
    refl

pub attribute_takes : (bytes : List ℕ) (a : Attribute) (rest : List ℕ) → attribute_at bytes ≡ Some (a, rest) → (b : List ℕ) × SpellsAttribute a b × (bytes ≡ b ++ rest)
unfolding attribute_at
attribute_takes bytes a rest e =
    let n = bind_some (name_at bytes) (λ name. past 61 (past_white name.1) >>= λ behind. quoted_at (past_white behind) >>= λ value. Some (record { name = name.0; value = value.0 }, value.1)) (a, rest) e in
    let p = bind_some (past 61 (past_white n.0.1)) (λ behind. quoted_at (past_white behind) >>= λ value. Some (record { name = n.0.0; value = value.0 }, value.1)) (a, rest) n.2 in
    let q = bind_some (quoted_at (past_white p.0)) (λ value. Some (record { name = n.0.0; value = value.0 }, value.1)) (a, rest) p.2 in
    let made : Attribute = record { name = n.0.0; value = q.0.0 } in
    let pair : (made, q.0.1) ≡ (a, rest) = some_is _ _ q.2 in
    let name = name_takes bytes n.0.0 n.0.1 n.1 in
    let w1 = past_white-takes n.0.1 in
    let here = past_takes 61 (past_white n.0.1) p.0 p.1 in
    let w2 = past_white-takes p.0 in
    let value = quoted_takes (past_white p.0) q.0.0 q.0.1 q.1 in
    let t3 : (White ▸ SpellsQuoted q.0.0) (w2.0 ++ value.0) = record { front = w2.0; back = value.0; first = w2.1; second = value.1; bytes_are = refl } in
    let t2 : (Is (61 ∷ []) ▸ White ▸ SpellsQuoted q.0.0) (61 ∷ (w2.0 ++ value.0)) = record { front = 61 ∷ []; back = w2.0 ++ value.0; first = refl; second = t3; bytes_are = refl } in
    let t1 : (White ▸ Is (61 ∷ []) ▸ White ▸ SpellsQuoted q.0.0) (w1.0 ++ (61 ∷ (w2.0 ++ value.0))) = record { front = w1.0; back = 61 ∷ (w2.0 ++ value.0); first = w1.1; second = t2; bytes_are = refl } in
    let t0 : SpellsAttribute made (name.0 ++ (w1.0 ++ (61 ∷ (w2.0 ++ value.0)))) = record { front = name.0; back = w1.0 ++ (61 ∷ (w2.0 ++ value.0)); first = name.1; second = t1; bytes_are = refl } in
    let whole : bytes ≡ (name.0 ++ (w1.0 ++ (61 ∷ (w2.0 ++ value.0)))) ++ q.0.1 =
    name.2
    ∙ ap (λ (l : List ℕ). name.0 ++ l) (w1.2 ∙ ap (λ (l : List ℕ). w1.0 ++ l) (here ∙ ap (λ (l : List ℕ). 61 ∷ l) (w2.2 ∙ ap (λ (l : List ℕ). w2.0 ++ l) value.2)))
    ∙ (simp append_assoc) in
    subst (λ (x : Attribute × List ℕ). (b : List ℕ) × SpellsAttribute x.0 b × (bytes ≡ b ++ x.1)) pair (name.0 ++ (w1.0 ++ (61 ∷ (w2.0 ++ value.0))), t0, whole)
