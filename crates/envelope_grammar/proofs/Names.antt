-- Names: what is read is a name, and a name is read.
use Rattle.std.proofs.Common.{◌≡◌, ℕ, ◌+◌, inl, inr, Bool, true, false, eqb, leb, ◌&&◌, ◌||◌, List, [], ◌∷◌, ◌++◌, length, take, drop, Option, Some, None, refl, sym, ap, subst, ◌∙◌, append_assoc, add-one, arith}
use Rattle.std.proofs.lemmas.Bool.{leb-true, le-leb}
use Rattle.std.proofs.lemmas.List.{take-append-drop, take_at, drop_at, length-take}
use Rattle.envelope_grammar.specs.declared.tag.Name.{Name}
use Rattle.envelope_grammar.specs.Bytes.{is_name_byte, is_name_start, run_len}
use Rattle.envelope_grammar.specs.Grammar.{begins, IsWord, SpellsName}
use Rattle.envelope_grammar.specs.Reading.{past, word_at, name_from, name_at}
use Rattle.envelope_grammar.proofs.Runs.{and_parts, run_len-append, run_every, run_stops, past_takes, past-elsewhere, bind_some, guard_some, some_is}

begins-front : (p : ℕ → Bool) (a more : List ℕ) → begins p a ≡ true → begins p (a ++ more) ≡ true
begins-front p [] more h = absurd cc
begins-front p (b ∷ a) more h = h

pub word_again : (w more : List ℕ) → IsWord w → begins is_name_byte more ≡ false → word_at (w ++ more) ≡ Some (w, more)
unfolding word_at
word_again w more h stop =
    let len = run_len-append is_name_byte w more h.rest stop in
    let start = begins-front is_name_start w more h.start in
    let short : leb (length w) 256 ≡ true = le-leb _ _ h.short in
    rw (len, start, short, take_at w more (length w) refl, drop_at w more (length w) refl) refl

begins-take : (p q : ℕ → Bool) (bytes : List ℕ) → ((b : ℕ) → p b ≡ true → q b ≡ true) → begins p bytes ≡ true → begins p (take (run_len q bytes) bytes) ≡ true
begins-take p q [] sub h = absurd cc
begins-take p q (b ∷ bytes) sub h = rw (sub b h) (more (run_len q bytes))
  where
    more : (n : ℕ) → begins p (take (n + 1) (b ∷ bytes)) ≡ true
    more n = simp add-one h

or_left : (a b : Bool) → a ≡ true → a || b ≡ true
or_left true b h = refl
or_left false b h = absurd cc

start_is_byte : (b : ℕ) → is_name_start b ≡ true → is_name_byte b ≡ true
start_is_byte b h = rw h refl

pub word_takes : (bytes w rest : List ℕ) → word_at bytes ≡ Some (w, rest) → IsWord w × (bytes ≡ w ++ rest) × (begins is_name_byte rest ≡ false)
unfolding word_at
word_takes bytes w rest e =
    let len = run_len is_name_byte bytes in
    let g = guard_some (begins is_name_start bytes && leb len 256) (Some (take len bytes, drop len bytes)) (w, rest) e in
    let tests = and_parts (begins is_name_start bytes) (leb len 256) g.0 in
    let pair : (take len bytes, drop len bytes) ≡ (w, rest) = some_is _ _ g.1 in
    let w-is : take len bytes ≡ w = ap (λ (p : List ℕ × List ℕ). p.0) pair in
    let rest-is : drop len bytes ≡ rest = ap (λ (p : List ℕ × List ℕ). p.1) pair in
    let word : IsWord (take len bytes) = record {
      start = begins-take is_name_start is_name_byte bytes start_is_byte tests.0;
      rest = run_every is_name_byte bytes;
      short = omega (arith, leb-true _ _ tests.1, length-take len bytes);
    } in (
      subst IsWord w-is word,
      rw (← w-is, ← rest-is) (sym (take-append-drop len bytes)),
      subst (λ (r : List ℕ). begins is_name_byte r ≡ false) rest-is (run_stops is_name_byte bytes),
    )

-- what follows a name
pub record StopsName (more : List ℕ) : Type 0 where
  pub byte : begins is_name_byte more ≡ false
  pub colon : begins (λ c. eqb c 58) more ≡ false

pub name_again : (name : Name) (b more : List ℕ) → SpellsName name b → StopsName more → name_at (b ++ more) ≡ Some (name, more)
unfolding name_at
name_again name b more (inl h) stop =
    let plain : record { prefix = []; local = name.local } ≡ name = ap (λ (p : List ℕ). record name { prefix = p }) (sym h.0) in
    rw (h.2, word_again name.local more h.1 stop.byte, past-elsewhere 58 more stop.colon) (ap (λ (n : Name). Some (n, more)) plain)
name_again name b more (inr h) stop =
    let regroup : (name.prefix ++ 58 ∷ name.local) ++ more ≡ name.prefix ++ (58 ∷ (name.local ++ more)) = append_assoc name.prefix (58 ∷ name.local) more in
    rw (h.2, regroup, word_again name.prefix (58 ∷ (name.local ++ more)) h.0 refl, word_again name.local more h.1 stop.byte) refl

name_from_takes : (word rest : List ℕ) (o : Option (List ℕ)) (name : Name) (after : List ℕ) → past 58 rest ≡ o → IsWord word → name_from word rest o ≡ Some (name, after)
    → (b : List ℕ) × SpellsName name b × (word ++ rest ≡ b ++ after)
name_from_takes word rest None name after p w e =
    let pair : (record { prefix = []; local = word }, rest) ≡ (name, after) = some_is _ _ e in
    let made : Name = record { prefix = []; local = word } in
    let spelled : SpellsName made word = inl (refl, w, refl) in
    subst (λ (x : Name × List ℕ). (b : List ℕ) × SpellsName x.0 b × (word ++ rest ≡ b ++ x.1)) pair (word, spelled, refl)
name_from_takes word rest (Some behind) name after p w e =
    let second = bind_some (word_at behind) (λ s. Some (record { prefix = word; local = s.0 }, s.1)) (name, after) e in
    let t = word_takes behind second.0.0 second.0.1 second.1 in
    let here = past_takes 58 rest behind p in
    let made : Name = record { prefix = word; local = second.0.0 } in
    let pair : (made, second.0.1) ≡ (name, after) = some_is _ _ second.2 in
    let spelled : SpellsName made (word ++ 58 ∷ second.0.0) = inr (w, t.0, refl) in
    let whole : word ++ rest ≡ (word ++ 58 ∷ second.0.0) ++ second.0.1 = ap (λ (r : List ℕ). word ++ r) (here ∙ ap (λ (r : List ℕ). 58 ∷ r) t.1) ∙ sym (append_assoc word (58 ∷ second.0.0) second.0.1) in
    subst (λ (x : Name × List ℕ). (b : List ℕ) × SpellsName x.0 b × (word ++ rest ≡ b ++ x.1)) pair (word ++ 58 ∷ second.0.0, spelled, whole)

pub name_takes : (bytes : List ℕ) (name : Name) (after : List ℕ) → name_at bytes ≡ Some (name, after) → (b : List ℕ) × SpellsName name b × (bytes ≡ b ++ after)
unfolding name_at
name_takes bytes name after e =
    let first = bind_some (word_at bytes) (λ f. name_from f.0 f.1 (past 58 f.1)) (name, after) e in
    let t = word_takes bytes first.0.0 first.0.1 first.1 in
    let n = name_from_takes first.0.0 first.0.1 (past 58 first.0.1) name after refl t.0 first.2 in
    (n.0, n.1, t.1 ∙ n.2)
