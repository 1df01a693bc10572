-- What may stand before the envelope: a byte order mark, and a declaration.
use Rattle.std.specs.Prelude.{◌≡◌, ◌⊎◌, ℕ, Bool, true, false, ◌&&◌, ◌||◌, not, List, [], ◌∷◌, ◌==◌, nat_lt, length, take, Option, Some, None, codes, if◌then◌else◌}
use Rattle.std.specs.Str.{IsUtf8, is_utf8, str_eq_ignore_ascii_case}
use Rattle.envelope_grammar.specs.Bytes.{is_white, run_len}
use Rattle.envelope_grammar.specs.Grammar.{◌▸◌, Is, begins, SpellsDocument}
use Rattle.envelope_grammar.specs.Reading.{◌>>=◌, past, document_at}
use Rattle.envelope_grammar.specs.declared.raw.RawRequest.{RawRequest}

-- behind this word
abbrev pub past_word : List ℕ → List ℕ → Option (List ℕ)
past_word [] bytes = Some bytes
past_word (w ∷ word) bytes = past w bytes >>= past_word word

abbrev pub or_all : List ℕ → Option (List ℕ) → List ℕ
or_all bytes (Some rest) = rest
or_all bytes None = bytes

abbrev pub past_mark : List ℕ → List ℕ
past_mark bytes = or_all bytes (past_word (239 ∷ 187 ∷ 191 ∷ []) bytes)

abbrev pub end_from : ℕ → Option (List ℕ) → Option (List ℕ × List ℕ) → Option (List ℕ × List ℕ)
end_from b (Some rest) later = Some ([], rest)
end_from b None later = later >>= λ x. Some (b ∷ x.0, x.1)

-- up to the first `?>`, and behind it
unfoldable pub until_end : List ℕ → Option (List ℕ × List ℕ)
until_end [] = None
until_end (b ∷ bytes) = end_from b (past_word (63 ∷ 62 ∷ []) (b ∷ bytes)) (until_end bytes)

abbrev pub or_later : Option (List ℕ) → Option (List ℕ) → Option (List ℕ)
or_later (Some rest) later = Some rest
or_later None later = later

-- behind the first place of this word
unfoldable pub behind_first : List ℕ → List ℕ → Option (List ℕ)
behind_first word [] = None
behind_first word (b ∷ bytes) = or_later (past_word word (b ∷ bytes)) (behind_first word bytes)

-- a quoted utf-8 in any case, or nothing
abbrev pub names_utf8 : Option (List ℕ) → Bool
names_utf8 None = true
names_utf8 (Some []) = false
names_utf8 (Some (q ∷ rest)) =
    let len = run_len (λ b. not (b == q)) rest in
    (q == 34 || q == 39) && nat_lt len (length rest) && str_eq_ignore_ascii_case (take len rest) (codes "utf-8")

abbrev pub encoding_fine : List ℕ → Bool
encoding_fine content = names_utf8 (behind_first (codes "encoding=") content)

abbrev pub declaration_from : List ℕ → Option (List ℕ) → Option (List ℕ)
declaration_from bytes None = Some bytes
declaration_from bytes (Some behind) =
    if begins is_white behind then until_end behind >>= (λ x. if encoding_fine x.0 then Some x.1 else None) else None

-- behind the declaration, or all where there is none
unfoldable pub past_declaration : List ℕ → Option (List ℕ)
past_declaration bytes = declaration_from bytes (past_word (codes "<?xml") bytes)

unfoldable pub text_at : List ℕ → Option (List RawRequest)
text_at text = if is_utf8 text then past_declaration (past_mark text) >>= document_at else None

-- ---- the grammar

-- a byte order mark, or nothing
abbrev pub Mark : List ℕ → Type 0
Mark bytes = (bytes ≡ []) ⊎ (bytes ≡ 239 ∷ 187 ∷ 191 ∷ [])

-- no `?>` stands in it
abbrev pub lacks_end : List ℕ → Bool
lacks_end [] = true
lacks_end (b ∷ bytes) = not (b == 63 && begins (λ c. c == 62) bytes) && lacks_end bytes

-- White space and any characters, where the first `encoding=` is followed by utf-8 in quotes.
pub record IsDeclared (content : List ℕ) : Type 0 where
  pub white : begins is_white content ≡ true
  pub without_end : lacks_end content ≡ true
  pub encoding : encoding_fine content ≡ true

-- a declaration, or nothing
abbrev pub Declaration : List ℕ → Type 0
Declaration bytes = (bytes ≡ []) ⊎ (Is (codes "<?xml") ▸ IsDeclared ▸ Is (63 ∷ 62 ∷ [])) bytes

-- The text is UTF-8: a byte order mark and a declaration, where they are there, and the document.
pub record IsEnvelopeText (requests : List RawRequest) (text : List ℕ) : Type 0 where
  pub utf8 : IsUtf8 text
  pub spelled : (Mark ▸ Declaration ▸ SpellsDocument requests) text
