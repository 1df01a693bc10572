-- Skipped elements: what is read is one, and one is read.
use Rattle.std.proofs.Common.{◌≡◌, ℕ, zero, suc, ◌≤◌, ◌⊎◌, inl, inr, Bool, true, false, cond, eqb, not, List, [], ◌∷◌, ◌++◌, length, take, drop, Option, Some, None, refl, sym, ap, subst, ◌∙◌, append_assoc, arith}
use Rattle.std.proofs.lemmas.List.{length-append, take_at, drop_at, take-append-drop}
use Rattle.envelope_grammar.specs.declared.tag.Tag.{Tag}
use Rattle.envelope_grammar.specs.Bytes.{run_len}
use Rattle.envelope_grammar.specs.Grammar.{◌▸◌, Is, begins, SpellsEndName, Element, Behind, SpellsText, SpellsOwn, IsMixed, IsSkippedBehind}
use Rattle.envelope_grammar.specs.Reading.{◌>>=◌, before, past, text_of, Step, More, Last, all_of, tag_at, end_tag_at, own_text_at, inside_from, inside_step, past_content, skipped}
use Rattle.envelope_grammar.proofs.Runs.{run_len-append, run_every, past-elsewhere, past_takes, bind_some, some_is, pair_is}
use Rattle.envelope_grammar.proofs.Texts.{text_again, text_takes}
use Rattle.envelope_grammar.proofs.Attributes.{regroup}
use Rattle.envelope_grammar.proofs.TagLaws.{tag_again, tag_takes, end_again, end_takes}
use Rattle.envelope_grammar.proofs.Steps.{ReadsSteps, all_again, all_takes}

own_again : (text b more : List ℕ) → SpellsOwn text b → begins (λ c. not (eqb c 60)) more ≡ false → own_text_at (b ++ more) ≡ Some (text, more)
unfolding own_text_at
own_again text b more h stop =
    let len = run_len-append (λ c. not (eqb c 60)) b more h.0 stop in
    rw (len, take_at b more (length b) refl, drop_at b more (length b) refl, text_again text b h.1) refl

own_takes : (bytes text rest : List ℕ) → own_text_at bytes ≡ Some (text, rest) → (b : List ℕ) × SpellsOwn text b × (bytes ≡ b ++ rest)
unfolding own_text_at
own_takes bytes text rest e =
    let len = run_len (λ c. not (eqb c 60)) bytes in
    let t = bind_some (text_of (take len bytes)) (before (drop len bytes)) (text, rest) e in
    let p = pair_is {A = List ℕ} {B = List ℕ} (t.0, drop len bytes) (text, rest) t.2 in
    let own : SpellsOwn text (take len bytes) = (run_every (λ c. not (eqb c 60)) bytes, subst (λ (v : List ℕ). SpellsText v (take len bytes)) p.0 (text_takes (take len bytes) t.0 t.1)) in
    (take len bytes, own, sym (take-append-drop len bytes) ∙ ap (λ (l : List ℕ). take len bytes ++ l) p.1)

-- What stands behind a start tag is read past.
pub record ReadsBehind (B : Tag → List ℕ → Type 0) (skip : Tag → List ℕ → Option (List ℕ)) : Type 0 where
  pub again : (tag : Tag) (b more : List ℕ) → B tag b → skip tag (b ++ more) ≡ Some more
  pub takes : (tag : Tag) (bytes rest : List ℕ) → skip tag bytes ≡ Some rest → (b : List ℕ) × B tag b × (bytes ≡ b ++ rest)

module _ (B : Tag → List ℕ → Type 0) (skip : Tag → List ℕ → Option (List ℕ)) (reads : ReadsBehind B skip) where
  abbrev Item : List ℕ → List ℕ → Type 0
  Item text = SpellsOwn text ▸ Element B

  abbrev End : List ℕ → List ℕ → Type 0
  End text = SpellsOwn text ▸ Is (60 ∷ 47 ∷ [])

  abbrev Always : List ℕ → Type 0
  Always more = Unit {0}

  inside_more : (text b rest : List ℕ) → Item text b → inside_step skip (b ++ rest) ≡ Some (More text, rest)
  unfolding inside_step
  inside_more text b rest h =
      let element = h.second in
      let t = tag_again element.tag element.spelled.front (element.spelled.back ++ rest) element.spelled.first in
      let e1 : h.back ++ rest ≡ 60 ∷ t.0 = regroup h.back rest element.spelled ∙ t.1 in
      let whole : b ++ rest ≡ h.front ++ (60 ∷ t.0) = regroup b rest h ∙ ap (λ (l : List ℕ). h.front ++ l) e1 in
      rw (whole, own_again text h.front (60 ∷ t.0) h.first refl, past-elsewhere 47 t.0 t.3, t.2, reads.again element.tag element.spelled.back rest element.spelled.second) refl

  inside_last : (text b rest : List ℕ) → End text b → Unit {0} → inside_step skip (b ++ rest) ≡ Some (Last text, rest)
  unfolding inside_step
  inside_last text b rest h stop =
      let whole : b ++ rest ≡ h.front ++ (60 ∷ 47 ∷ rest) = regroup b rest h ∙ ap (λ (l : List ℕ). h.front ++ (l ++ rest)) h.second in
      rw (whole, own_again text h.front (60 ∷ 47 ∷ rest) h.first refl) refl

  item_some : (text b : List ℕ) → Item text b → 1 ≤ length b
  item_some text b h =
      let t = h.second.spelled in
      let one : length t.first.front ≡ 1 = ap length t.first.first in
      omega (arith, ap length h.bytes_are, length-append h.front h.back, ap length t.bytes_are, length-append t.front t.back, ap length t.first.bytes_are, length-append t.first.front t.first.back)

  end_some : (text b rest : List ℕ) → End text b → Unit {0} → 1 ≤ length (b ++ rest)
  end_some text b rest h stop =
      let two : length h.back ≡ 2 = ap length h.second in
      omega (arith, length-append b rest, ap length h.bytes_are, length-append h.front h.back)

  inside_takes_by : (bytes text behind : List ℕ) (o : Option (List ℕ)) (s : Step (List ℕ) (List ℕ)) (rest : List ℕ) (own : (b : List ℕ) × SpellsOwn text b × (bytes ≡ b ++ (60 ∷ behind)))
      → past 47 behind ≡ o → inside_from skip text behind o ≡ Some (s, rest)
      → ((s ≡ Last text) × ((b : List ℕ) × End text b × (bytes ≡ b ++ rest))) ⊎ ((s ≡ More text) × ((b : List ℕ) × Item text b × (bytes ≡ b ++ rest)))
  inside_takes_by bytes text behind (Some after) s rest own p e =
      let q = pair_is {A = Step (List ℕ) (List ℕ)} {B = List ℕ} (Last text, after) (s, rest) e in
      let t : End text (own.0 ++ (60 ∷ 47 ∷ [])) = record { front = own.0; back = 60 ∷ 47 ∷ []; first = own.1; second = refl; bytes_are = refl } in
      let here : behind ≡ 47 ∷ rest = past_takes 47 behind after p ∙ ap (λ (l : List ℕ). 47 ∷ l) q.1 in
      let whole : bytes ≡ (own.0 ++ (60 ∷ 47 ∷ [])) ++ rest = own.2 ∙ ap (λ (l : List ℕ). own.0 ++ (60 ∷ l)) here ∙ sym (append_assoc own.0 (60 ∷ 47 ∷ []) rest) in
      inl (sym q.0, (own.0 ++ (60 ∷ 47 ∷ []), t, whole))
  inside_takes_by bytes text behind None s rest own p e =
      let g = bind_some (tag_at behind) (λ tag. skip tag.0 tag.1 >>= λ r. Some (More text, r)) (s, rest) e in
      let k = bind_some (skip g.0.0 g.0.1) (λ r. Some (More text, r)) (s, rest) g.2 in
      let q = pair_is {A = Step (List ℕ) (List ℕ)} {B = List ℕ} (More text, k.0) (s, rest) k.2 in
      let tag = tag_takes behind g.0.0 g.0.1 g.1 in
      let inner = reads.takes g.0.0 g.0.1 k.0 k.1 in
      let element : Element B (tag.0 ++ inner.0) = record { tag = g.0.0; spelled = record { front = tag.0; back = inner.0; first = tag.1; second = inner.1; bytes_are = refl } } in
      let t : Item text (own.0 ++ (tag.0 ++ inner.0)) = record { front = own.0; back = tag.0 ++ inner.0; first = own.1; second = element; bytes_are = refl } in
      let whole : bytes ≡ (own.0 ++ (tag.0 ++ inner.0)) ++ rest =
      own.2 ∙ ap (λ (l : List ℕ). own.0 ++ l) (tag.2 ∙ ap (λ (l : List ℕ). tag.0 ++ l) (inner.2 ∙ ap (λ (l : List ℕ). inner.0 ++ l) q.1)) ∙ (simp append_assoc) in
      inr (sym q.0, (own.0 ++ (tag.0 ++ inner.0), t, whole))

  inside_cases : (bytes : List ℕ) (s : Step (List ℕ) (List ℕ)) (rest : List ℕ) → inside_step skip bytes ≡ Some (s, rest)
      → (text : List ℕ) × (((s ≡ Last text) × ((b : List ℕ) × End text b × (bytes ≡ b ++ rest))) ⊎ ((s ≡ More text) × ((b : List ℕ) × Item text b × (bytes ≡ b ++ rest))))
  unfolding inside_step
  inside_cases bytes s rest e =
      let own = bind_some (own_text_at bytes) (λ text. past 60 text.1 >>= λ behind. inside_from skip text.0 behind (past 47 behind)) (s, rest) e in
      let open_ = bind_some (past 60 own.0.1) (λ behind. inside_from skip own.0.0 behind (past 47 behind)) (s, rest) own.2 in
      let o = own_takes bytes own.0.0 own.0.1 own.1 in
      let here = past_takes 60 own.0.1 open_.0 open_.1 in
      (own.0.0, inside_takes_by bytes own.0.0 open_.0 (past 47 open_.0) s rest (o.0, o.1, o.2 ∙ ap (λ (l : List ℕ). o.0 ++ l) here) refl open_.2)

  inside_takes : (bytes text rest : List ℕ) → inside_step skip bytes ≡ Some (More text, rest) → (b : List ℕ) × Item text b × (bytes ≡ b ++ rest)
  inside_takes bytes text rest e =
      let c = inside_cases bytes (More text) rest e in
      elim c.1 [
        | inl h ↦ let m = h.0 in absurd cc
        | inr h ↦ let m = h.0 in let same : c.0 ≡ text = cc in subst (λ (v : List ℕ). (b : List ℕ) × Item v b × (bytes ≡ b ++ rest)) same h.1
      ]

  inside_ends : (bytes text rest : List ℕ) → inside_step skip bytes ≡ Some (Last text, rest) → (b : List ℕ) × End text b × (bytes ≡ b ++ rest)
  inside_ends bytes text rest e =
      let c = inside_cases bytes (Last text) rest e in
      elim c.1 [
        | inl h ↦ let m = h.0 in let same : c.0 ≡ text = cc in subst (λ (v : List ℕ). (b : List ℕ) × End v b × (bytes ≡ b ++ rest)) same h.1
        | inr h ↦ let m = h.0 in absurd cc
      ]

  pub inside_steps : ReadsSteps Item End Always (inside_step skip)
  inside_steps = record { more = inside_more; some = item_some; last = inside_last; end = end_some; takes = inside_takes; ends = inside_ends }

  -- what stands behind the start tag of an element with such content
  behind_again : (tag : Tag) (b more : List ℕ) → Behind (Is []) (IsMixed (Element B)) tag b → cond tag.closed (Some (b ++ more)) (past_content skip (b ++ more) >>= end_tag_at tag.name) ≡ Some more
  behind_again tag b more (inl h) = rw (h.0, h.1) refl
  behind_again tag b more (inr h) =
      let parts = h.1 in
      let mixed = parts.first in
      let content = all_again Item End Always (inside_step skip) inside_steps mixed.texts mixed.last parts.front (parts.back ++ more) mixed.mixed tt in
      rw (h.0, regroup b more parts, content) (end_again tag.name parts.back more parts.second)

  behind_takes : (tag : Tag) (t : Bool) (bytes rest : List ℕ) → tag.closed ≡ t → cond t (Some bytes) (past_content skip bytes >>= end_tag_at tag.name) ≡ Some rest
      → (b : List ℕ) × Behind (Is []) (IsMixed (Element B)) tag b × (bytes ≡ b ++ rest)
  behind_takes tag true bytes rest c e = ([], inl (c, refl), some_is bytes rest e)
  behind_takes tag false bytes rest c e =
      let p = bind_some (past_content skip bytes) (end_tag_at tag.name) rest e in
      let m = bind_some (all_of (inside_step skip) bytes) (λ inside. Some inside.2) p.0 p.1 in
      let t = all_takes Item End Always (inside_step skip) inside_steps bytes m.0.0 m.0.1 m.0.2 m.1 in
      let z = end_takes tag.name p.0 rest p.2 in
      let same : m.0.2 ≡ p.0 = some_is m.0.2 p.0 m.2 in
      let mixed : IsMixed (Element B) t.0 = record { texts = m.0.0; last = m.0.1; mixed = t.1 } in
      let both : (IsMixed (Element B) ▸ SpellsEndName tag.name) (t.0 ++ z.0) = record { front = t.0; back = z.0; first = mixed; second = z.1; bytes_are = refl } in
      (t.0 ++ z.0, inr (c, both), t.2 ∙ ap (λ (l : List ℕ). t.0 ++ l) (same ∙ z.2) ∙ sym (append_assoc t.0 z.0 rest))

pub skipped_reads : (levels : ℕ) → ReadsBehind (IsSkippedBehind levels) (skipped levels)
unfolding skipped IsSkippedBehind
skipped_reads zero = record { again = λ tag b more h. absurd h; takes = λ tag bytes rest e. absurd cc }
skipped_reads (suc levels) =
    let inner = skipped_reads levels in
    record {
      again = behind_again (IsSkippedBehind levels) (skipped levels) inner;
      takes = λ tag bytes rest e. behind_takes (IsSkippedBehind levels) (skipped levels) inner tag tag.closed bytes rest refl e;
    }
