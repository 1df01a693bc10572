-- The loops that look for the end of the declaration and for a word in it.
use Rattle.std.proofs.Common.{◌≡◌, ℕ, ◌+◌, ◌<◌, ◌≤◌, inl, inr, List, [], ◌∷◌, ◌++◌, length, get_or, take, drop, Bool, true, false, cond, eqb, not, ◌&&◌, subst, Option, Some, None, refl, sym, ap, ◌∙◌, append_assoc}
use Rattle.std.specs.Str.{IsUtf8, is_utf8}
use Rattle.std.proofs.lemmas.Str.{IsUtf8-from_is_utf8, is_utf8-from_IsUtf8}
use Rattle.std.proofs.lemmas.List.{drop_more, drop_all, take_more, append-nil}
use Rattle.std.specs.Prelude.{codes}
use Rattle.envelope_grammar.specs.Bytes.{is_white}
use Rattle.envelope_grammar.specs.Grammar.{◌▸◌, Is, begins}
use Rattle.envelope_grammar.specs.Reading.{◌>>=◌, past}
use Rattle.envelope_grammar.proofs.Runs.{and_parts, and_both, bind_some, guard_some, some_is, pair_is, past_takes}
use Rattle.envelope_grammar.specs.Front.{or_all, past_word, past_mark, end_from, until_end, behind_first, encoding_fine, declaration_from, past_declaration, Mark, lacks_end, IsDeclared, Declaration}

abbrev pub end_front : List ℕ → Option (List ℕ × List ℕ) → Option (List ℕ × List ℕ)
end_front front read = read >>= λ x. Some (front ++ x.0, x.1)

regroup : (front : List ℕ) (b : ℕ) (read : Option (List ℕ × List ℕ)) → end_front front (read >>= λ x. Some (b ∷ x.0, x.1)) ≡ end_front (front ++ b ∷ []) read
regroup front b (Some x) = ap (λ (l : List ℕ). Some (l, x.1)) (simp append_assoc)
regroup front b None = refl

pub end_here : (bytes : List ℕ) (i : ℕ) (rest : List ℕ) → i < length bytes → past_word (63 ∷ 62 ∷ []) (drop i bytes) ≡ Some rest → end_front (take i bytes) (until_end (drop i bytes)) ≡ Some (take i bytes, rest)
unfolding until_end
end_here bytes i rest lt h =
    let here = drop_more bytes i 0 lt in
    let p : past_word (63 ∷ 62 ∷ []) (get_or bytes i 0 ∷ drop (i + 1) bytes) ≡ Some rest = ap (past_word (63 ∷ 62 ∷ [])) (sym here) ∙ h in
    ap (λ (l : List ℕ). end_front (take i bytes) (until_end l)) here ∙ rw p (ap (λ (l : List ℕ). Some (l, rest)) (append-nil (take i bytes)))

pub end_later : (bytes : List ℕ) (i : ℕ) → i < length bytes → past_word (63 ∷ 62 ∷ []) (drop i bytes) ≡ None
    → end_front (take i bytes) (until_end (drop i bytes)) ≡ end_front (take (i + 1) bytes) (until_end (drop (i + 1) bytes))
unfolding until_end
end_later bytes i lt h =
    let here = drop_more bytes i 0 lt in
    let p : past_word (63 ∷ 62 ∷ []) (get_or bytes i 0 ∷ drop (i + 1) bytes) ≡ None = ap (past_word (63 ∷ 62 ∷ [])) (sym here) ∙ h in
    ap (λ (l : List ℕ). end_front (take i bytes) (until_end l)) here
    ∙ rw p (regroup (take i bytes) (get_or bytes i 0) (until_end (drop (i + 1) bytes)) ∙ ap (λ (l : List ℕ). end_front l (until_end (drop (i + 1) bytes))) (sym (take_more bytes i 0 lt)))

pub end_never : (bytes : List ℕ) (i : ℕ) → length bytes ≤ i → end_front (take i bytes) (until_end (drop i bytes)) ≡ None
unfolding until_end
end_never bytes i le = ap (λ (l : List ℕ). end_front (take i bytes) (until_end l)) (drop_all i bytes le)

pub first_here : (word bytes : List ℕ) (i : ℕ) (rest : List ℕ) → i < length bytes → past_word word (drop i bytes) ≡ Some rest → behind_first word (drop i bytes) ≡ Some rest
unfolding behind_first
first_here word bytes i rest lt h =
    let here = drop_more bytes i 0 lt in
    let p : past_word word (get_or bytes i 0 ∷ drop (i + 1) bytes) ≡ Some rest = ap (past_word word) (sym here) ∙ h in
    ap (behind_first word) here ∙ rw p refl

pub first_later : (word bytes : List ℕ) (i : ℕ) → i < length bytes → past_word word (drop i bytes) ≡ None → behind_first word (drop i bytes) ≡ behind_first word (drop (i + 1) bytes)
unfolding behind_first
first_later word bytes i lt h =
    let here = drop_more bytes i 0 lt in
    let p : past_word word (get_or bytes i 0 ∷ drop (i + 1) bytes) ≡ None = ap (past_word word) (sym here) ∙ h in
    ap (behind_first word) here ∙ rw p refl

pub first_never : (word bytes : List ℕ) (i : ℕ) → length bytes ≤ i → behind_first word (drop i bytes) ≡ None
unfolding behind_first
first_never word bytes i le = ap (behind_first word) (drop_all i bytes le)

not_utf8_by : (bytes : List ℕ) (t : Bool) → is_utf8 bytes ≡ t → ¬ IsUtf8 bytes → false ≡ t
not_utf8_by bytes true e h = absurd (h (IsUtf8-from_is_utf8 bytes e))
not_utf8_by bytes false e h = refl

pub not_utf8 : (bytes : List ℕ) → ¬ IsUtf8 bytes → false ≡ is_utf8 bytes
not_utf8 bytes h = not_utf8_by bytes (is_utf8 bytes) refl h

pub so_utf8 : (bytes : List ℕ) → IsUtf8 bytes → true ≡ is_utf8 bytes
so_utf8 bytes h = sym (is_utf8-from_IsUtf8 bytes h)

-- ---- words, and the end of the declaration

pub word_takes : (word bytes rest : List ℕ) → past_word word bytes ≡ Some rest → bytes ≡ word ++ rest
word_takes [] bytes rest h = some_is bytes rest h
word_takes (w ∷ word) bytes rest h =
    let first = bind_some (past w bytes) (past_word word) rest h in
    past_takes w bytes first.0 first.1 ∙ ap (λ (l : List ℕ). w ∷ l) (word_takes word first.0 rest first.2)

not_end : (b : ℕ) (content rest : List ℕ) (t u : Bool) → eqb b 63 ≡ t → begins (λ c. eqb c 62) content ≡ u → not (t && u) ≡ true
    → past_word (63 ∷ 62 ∷ []) (b ∷ (content ++ (63 ∷ 62 ∷ rest))) ≡ None
not_end b content rest false u e f h = rw e refl
not_end b [] rest true u e f h = rw e refl
not_end b (c ∷ content) rest true false e f h = rw (e, f) refl
not_end b (c ∷ content) rest true true e f h = absurd cc

until_again : (content rest : List ℕ) → lacks_end content ≡ true → until_end (content ++ (63 ∷ 62 ∷ rest)) ≡ Some (content, rest)
unfolding until_end
until_again [] rest h = refl
until_again (b ∷ content) rest h =
    let parts = and_parts (not (eqb b 63 && begins (λ c. eqb c 62) content)) (lacks_end content) h in
    rw (not_end b content rest (eqb b 63) (begins (λ c. eqb c 62) content) refl refl parts.0, until_again content rest parts.1) refl

lacks_by : (b : ℕ) (content rest : List ℕ) (t u : Bool) → eqb b 63 ≡ t → begins (λ c. eqb c 62) content ≡ u
    → past_word (63 ∷ 62 ∷ []) (b ∷ (content ++ (63 ∷ 62 ∷ rest))) ≡ None → not (t && u) ≡ true
lacks_by b content rest false u e f h = refl
lacks_by b content rest true false e f h = refl
lacks_by b [] rest true true e f h = absurd cc
lacks_by b (c ∷ content) rest true true e f h = absurd (let g = rw (e, f) at h in cc)

abbrev pub IsUntil : List ℕ → List ℕ → List ℕ → Type 0
IsUntil bytes content rest = (bytes ≡ content ++ (63 ∷ 62 ∷ rest)) × (lacks_end content ≡ true)

until_by : (b : ℕ) (bytes content rest : List ℕ) (o : Option (List ℕ)) → past_word (63 ∷ 62 ∷ []) (b ∷ bytes) ≡ o → end_from b o (until_end bytes) ≡ Some (content, rest)
    → ((c r : List ℕ) → until_end bytes ≡ Some (c, r) → IsUntil bytes c r) → IsUntil (b ∷ bytes) content rest
until_by b bytes content rest (Some r) e h more =
    let p = pair_is {A = List ℕ} {B = List ℕ} ([], r) (content, rest) h in
    subst (λ (c : List ℕ). IsUntil (b ∷ bytes) c rest) p.0 (word_takes (63 ∷ 62 ∷ []) (b ∷ bytes) r e ∙ ap (λ (l : List ℕ). 63 ∷ 62 ∷ l) p.1, refl)
until_by b bytes content rest None e h more =
    let x = bind_some (until_end bytes) (λ y. Some (b ∷ y.0, y.1)) (content, rest) h in
    let p = pair_is {A = List ℕ} {B = List ℕ} (b ∷ x.0.0, x.0.1) (content, rest) x.2 in
    let m = more x.0.0 x.0.1 x.1 in
    let whole : b ∷ bytes ≡ b ∷ (x.0.0 ++ (63 ∷ 62 ∷ x.0.1)) = ap (λ (l : List ℕ). b ∷ l) m.0 in
    let none = ap (past_word (63 ∷ 62 ∷ [])) (sym whole) ∙ e in
    let lacks = and_both (not (eqb b 63 && begins (λ c. eqb c 62) x.0.0)) (lacks_end x.0.0) (lacks_by b x.0.0 x.0.1 (eqb b 63) (begins (λ c. eqb c 62) x.0.0) refl refl none) m.1 in
    let made : IsUntil (b ∷ bytes) (b ∷ x.0.0) x.0.1 = (whole, lacks) in
    subst (λ (r : List ℕ). IsUntil (b ∷ bytes) content r) p.1 (subst (λ (c : List ℕ). IsUntil (b ∷ bytes) c x.0.1) p.0 made)

until_takes : (bytes content rest : List ℕ) → until_end bytes ≡ Some (content, rest) → IsUntil bytes content rest
unfolding until_end
until_takes [] content rest h = absurd cc
until_takes (b ∷ bytes) content rest h = until_by b bytes content rest (past_word (63 ∷ 62 ∷ []) (b ∷ bytes)) refl h (until_takes bytes)

-- ---- the mark and the declaration

mark_takes_by : (text : List ℕ) (o : Option (List ℕ)) → past_word (239 ∷ 187 ∷ 191 ∷ []) text ≡ o → (m : List ℕ) × Mark m × (text ≡ m ++ or_all text o)
mark_takes_by text None e = ([], inl refl, refl)
mark_takes_by text (Some r) e = (239 ∷ 187 ∷ 191 ∷ [], inr refl, word_takes (239 ∷ 187 ∷ 191 ∷ []) text r e)

pub mark_takes : (text : List ℕ) → (m : List ℕ) × Mark m × (text ≡ m ++ past_mark text)
mark_takes text = mark_takes_by text (past_word (239 ∷ 187 ∷ 191 ∷ []) text) refl

begins_white : (content rest : List ℕ) → begins is_white (content ++ (63 ∷ 62 ∷ rest)) ≡ true → begins is_white content ≡ true
begins_white [] rest h = absurd cc
begins_white (b ∷ content) rest h = h

still_white : (content more : List ℕ) → begins is_white content ≡ true → begins is_white (content ++ more) ≡ true
still_white [] more h = absurd cc
still_white (b ∷ content) more h = h

declaration_by : (bytes rest : List ℕ) (o : Option (List ℕ)) → past_word (codes "<?xml") bytes ≡ o → declaration_from bytes o ≡ Some rest → (d : List ℕ) × Declaration d × (bytes ≡ d ++ rest)
declaration_by bytes rest None e h = ([], inl refl, some_is bytes rest h)
declaration_by bytes rest (Some behind) e h =
    let g = guard_some (begins is_white behind) (until_end behind >>= (λ x. cond (encoding_fine x.0) (Some x.1) None)) rest h in
    let x = bind_some (until_end behind) (λ x. cond (encoding_fine x.0) (Some x.1) None) rest g.1 in
    let f = guard_some (encoding_fine x.0.0) (Some x.0.1) rest x.2 in
    let same : x.0.1 ≡ rest = some_is x.0.1 rest f.1 in
    let u = until_takes behind x.0.0 x.0.1 x.1 in
    let white = begins_white x.0.0 x.0.1 (ap (begins is_white) (sym u.0) ∙ g.0) in
    let content : IsDeclared x.0.0 = record { white = white; without_end = u.1; encoding = f.0 } in
    let ends : (IsDeclared ▸ Is (63 ∷ 62 ∷ [])) (x.0.0 ++ (63 ∷ 62 ∷ [])) = record { front = x.0.0; back = 63 ∷ 62 ∷ []; first = content; second = refl; bytes_are = refl } in
    let all : (Is (codes "<?xml") ▸ IsDeclared ▸ Is (63 ∷ 62 ∷ [])) (codes "<?xml" ++ (x.0.0 ++ (63 ∷ 62 ∷ []))) = record { front = codes "<?xml"; back = x.0.0 ++ (63 ∷ 62 ∷ []); first = refl; second = ends; bytes_are = refl } in
    let whole : bytes ≡ (codes "<?xml" ++ (x.0.0 ++ (63 ∷ 62 ∷ []))) ++ rest =
    word_takes (codes "<?xml") bytes behind e ∙ ap (λ (l : List ℕ). codes "<?xml" ++ l) (u.0 ∙ ap (λ (l : List ℕ). x.0.0 ++ (63 ∷ 62 ∷ l)) same)
    ∙ sym (append_assoc (codes "<?xml") (x.0.0 ++ (63 ∷ 62 ∷ [])) rest ∙ ap (λ (l : List ℕ). codes "<?xml" ++ l) (append_assoc x.0.0 (63 ∷ 62 ∷ []) rest)) in
    (codes "<?xml" ++ (x.0.0 ++ (63 ∷ 62 ∷ [])), inr all, whole)

pub declaration_takes : (bytes rest : List ℕ) → past_declaration bytes ≡ Some rest → (d : List ℕ) × Declaration d × (bytes ≡ d ++ rest)
unfolding past_declaration
declaration_takes bytes rest h = declaration_by bytes rest (past_word (codes "<?xml") bytes) refl h

pub declared_again : (d rest : List ℕ) → (Is (codes "<?xml") ▸ IsDeclared ▸ Is (63 ∷ 62 ∷ [])) d → past_declaration (d ++ rest) ≡ Some rest
unfolding past_declaration
declared_again d rest h =
    let inner = h.second in
    let content = inner.front in
    let behind : List ℕ = content ++ (63 ∷ 62 ∷ rest) in
    let back : h.back ++ rest ≡ behind = ap (λ (l : List ℕ). l ++ rest) (inner.bytes_are ∙ ap (λ (l : List ℕ). content ++ l) inner.second) ∙ append_assoc content (63 ∷ 62 ∷ []) rest in
    let whole : d ++ rest ≡ codes "<?xml" ++ behind =
    ap (λ (l : List ℕ). l ++ rest) (h.bytes_are ∙ ap (λ (l : List ℕ). l ++ h.back) h.first) ∙ append_assoc (codes "<?xml") h.back rest ∙ ap (λ (l : List ℕ). codes "<?xml" ++ l) back in
    rw (whole, still_white content (63 ∷ 62 ∷ rest) inner.first.white, until_again content rest inner.first.without_end, inner.first.encoding) refl
