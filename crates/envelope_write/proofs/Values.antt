-- What is written of a value: pieces that mean it, in which no quote and no tag stands, and UTF-8.
use Rattle.std.proofs.Common.{◌≡◌, ◌≢◌, ℕ, ◌+◌, ◌/◌, ◌%◌, ◌<◌, ◌≤◌, Bool, true, false, cond, ltb, eqb, not, List, [], ◌∷◌, ◌++◌, Some, refl, sym, ap, subst, ◌∙◌, append_assoc, arith, lit<}
use Rattle.std.specs.Prelude.{codes}
use Rattle.std.specs.Str.{IsUtf8, IsAscii, chars}
use Rattle.std.proofs.lemmas.Bool.{eqb-true, eqb-false, ne_eqb, ltb-true}
use Rattle.std.proofs.lemmas.List.{append-nil}
use Rattle.std.proofs.lemmas.Str.{chars-encodes, encode_ascii, IsUtf8-nil, IsUtf8-append, IsUtf8-from_ascii}
use Rattle.std.proofs.lemmas.Str.Ascii.{IsAscii-nil, IsAscii-cons}
use Rattle.std.proofs.Math.Utf8.{encode, encodes, scalar, scalars}
use Rattle.envelope_grammar.specs.Bytes.{every}
use Rattle.envelope_grammar.specs.Grammar.{Piece, Plain, Reference, IsPiece, ArePieces, as_written, as_meant, character_of, number_of, SpellsText}
use Rattle.envelope_grammar.proofs.Runs.{and_parts, and_both}
use Rattle.envelope_write.specs.Xml.{escape, escaped}
use Rattle.envelope_write.specs.WellFormed.{SpellsValue}

abbrev pub no_quote : ℕ → Bool
no_quote b = not (eqb b 34)

abbrev pub no_tag : ℕ → Bool
no_tag b = not (eqb b 60)

pub every-append : (p : ℕ → Bool) (a b : List ℕ) → every p a ≡ true → every p b ≡ true → every p (a ++ b) ≡ true
every-append p [] b h k = k
every-append p (x ∷ a) b h k =
    let parts = and_parts (p x) (every p a) h in
    and_both (p x) (every p (a ++ b)) parts.0 (every-append p a b parts.1 k)

-- What is written of a byte: one piece that means it.
pub record Written (b : ℕ) (bytes : List ℕ) : Type 0 where
  pub piece : Piece
  pub fine : IsPiece piece
  pub spelled : (rest : List Piece) → as_written (piece ∷ rest) ≡ bytes ++ as_written rest
  pub meant : (rest : List Piece) → as_meant (piece ∷ rest) ≡ b ∷ as_meant rest
  pub inside : every no_quote bytes ≡ true
  pub untagged : every no_tag bytes ≡ true

written_plain : (b : ℕ) → eqb b 38 ≡ false → eqb b 60 ≡ false → eqb b 34 ≡ false → b ≢ 38 → Written b (b ∷ [])
written_plain b amp tag quote ne = record {
  piece = Plain b;
  fine = ne;
  spelled = λ rest. refl;
  meant = λ rest. refl;
  inside = rw quote refl;
  untagged = rw tag refl;
}

written_reference : (b : ℕ) (name : List ℕ) → b < 128 → every (λ c. not (eqb c 59)) name ≡ true → character_of name ≡ Some b
    → every no_quote (38 ∷ name ++ (59 ∷ [])) ≡ true → every no_tag (38 ∷ name ++ (59 ∷ [])) ≡ true → Written b (38 ∷ name ++ (59 ∷ []))
written_reference b name low free means quote tag = record {
  piece = Reference name b;
  fine = (free, means);
  spelled = λ rest. ap (λ (l : List ℕ). 38 ∷ l) (sym (append_assoc name (59 ∷ []) (as_written rest)));
  meant = λ rest. ap (λ (l : List ℕ). l ++ as_meant rest) (encode_ascii b low);
  inside = quote;
  untagged = tag;
}

-- ---- the cases of `escape`

written_by : (b : ℕ) (amp less more quote tab line return : Bool)
    → eqb b 38 ≡ amp → eqb b 60 ≡ less → eqb b 62 ≡ more → eqb b 34 ≡ quote → eqb b 9 ≡ tab → eqb b 10 ≡ line → eqb b 13 ≡ return
    → Written b (
    cond amp (codes "&amp;") (cond less (codes "&lt;") (cond more (codes "&gt;") (cond quote (codes "&quot;")
    (cond tab (codes "&#9;") (cond line (codes "&#10;") (cond return (codes "&#13;") (b ∷ []))))))))
unfolding character_of number_of
written_by b true less more quote tab line return a l m q t n r =
    subst (λ (x : ℕ). Written x (codes "&amp;")) (sym (eqb-true b 38 a)) (written_reference 38 (codes "amp") (lit< tt) refl refl refl refl)
written_by b false true more quote tab line return a l m q t n r =
    subst (λ (x : ℕ). Written x (codes "&lt;")) (sym (eqb-true b 60 l)) (written_reference 60 (codes "lt") (lit< tt) refl refl refl refl)
written_by b false false true quote tab line return a l m q t n r =
    subst (λ (x : ℕ). Written x (codes "&gt;")) (sym (eqb-true b 62 m)) (written_reference 62 (codes "gt") (lit< tt) refl refl refl refl)
written_by b false false false true tab line return a l m q t n r =
    subst (λ (x : ℕ). Written x (codes "&quot;")) (sym (eqb-true b 34 q)) (written_reference 34 (codes "quot") (lit< tt) refl refl refl refl)
written_by b false false false false true line return a l m q t n r =
    subst (λ (x : ℕ). Written x (codes "&#9;")) (sym (eqb-true b 9 t)) (written_reference 9 (codes "#9") (lit< tt) refl refl refl refl)
written_by b false false false false false true return a l m q t n r =
    subst (λ (x : ℕ). Written x (codes "&#10;")) (sym (eqb-true b 10 n)) (written_reference 10 (codes "#10") (lit< tt) refl refl refl refl)
written_by b false false false false false false true a l m q t n r =
    subst (λ (x : ℕ). Written x (codes "&#13;")) (sym (eqb-true b 13 r)) (written_reference 13 (codes "#13") (lit< tt) refl refl refl refl)
written_by b false false false false false false false a l m q t n r = written_plain b a l q (eqb-false b 38 a)

written : (b : ℕ) → Written b (escape b)
unfolding escape
written b = written_by b _ _ _ _ _ _ _ refl refl refl refl refl refl refl

-- ---- whole values

pub record AreWritten (value bytes : List ℕ) : Type 0 where
  pub pieces : List Piece
  pub are : ArePieces pieces
  pub spelled : bytes ≡ as_written pieces
  pub meant : as_meant pieces ≡ value
  pub inside : every no_quote bytes ≡ true
  pub untagged : every no_tag bytes ≡ true

pub are_written : (value : List ℕ) → AreWritten value (escaped value)
unfolding escaped
are_written [] = record { pieces = []; are = tt; spelled = refl; meant = refl; inside = refl; untagged = refl }
are_written (b ∷ value) =
    let one = written b in
    let rest = are_written value in
    record {
      pieces = one.piece ∷ rest.pieces;
      are = (one.fine, rest.are);
      spelled = ap (λ (l : List ℕ). escape b ++ l) rest.spelled ∙ sym (one.spelled rest.pieces);
      meant = one.meant rest.pieces ∙ ap (λ (l : List ℕ). b ∷ l) rest.meant;
      inside = every-append no_quote (escape b) (escaped value) one.inside rest.inside;
      untagged = every-append no_tag (escape b) (escaped value) one.untagged rest.untagged;
    }

pub text_spelled : (value : List ℕ) → IsUtf8 value → SpellsText (chars value) (escaped value)
text_spelled value h =
    let all = are_written value in
    record {
      pieces = all.pieces;
      are = all.are;
      spelled = all.spelled;
      utf8 = subst IsUtf8 (sym all.meant) h;
      meant = ap chars (sym all.meant);
    }

pub value_spelled : (value : List ℕ) → IsUtf8 value → SpellsValue (chars value) (34 ∷ escaped value ++ (34 ∷ []))
value_spelled value h =
    let all = are_written value in
    record { written = escaped value; inside = all.inside; no_tag = all.untagged; text = text_spelled value h; bytes_are = refl }

-- ---- UTF-8

abbrev pub is_ascii : ℕ → Bool
is_ascii b = ltb b 128

each_ascii : (bytes : List ℕ) → every is_ascii bytes ≡ true → IsAscii bytes
each_ascii [] h = IsAscii-nil
each_ascii (b ∷ bytes) h =
    let parts = and_parts (is_ascii b) (every is_ascii bytes) h in
    IsAscii-cons b bytes (ltb-true b 128 parts.0) (each_ascii bytes parts.1)

pub ascii_utf8 : (bytes : List ℕ) → every is_ascii bytes ≡ true → IsUtf8 bytes
ascii_utf8 bytes h = IsUtf8-from_ascii bytes (each_ascii bytes h)

escaped-append : (a b : List ℕ) → escaped (a ++ b) ≡ escaped a ++ escaped b
unfolding escaped
escaped-append [] b = refl
escaped-append (x ∷ a) b = ap (λ (l : List ℕ). escape x ++ l) (escaped-append a b) ∙ sym (append_assoc (escape x) (escaped a) (escaped b))

differs : (b n : ℕ) → n < b → eqb b n ≡ false
differs b n h = ne_eqb b n (λ e. absurd (omega (arith, e)))

escape_high : (b : ℕ) → 128 ≤ b → escape b ≡ b ∷ []
unfolding escape
escape_high b h = rw (
  differs b 38 (omega arith),
  differs b 60 (omega arith),
  differs b 62 (omega arith),
  differs b 34 (omega arith),
  differs b 9 (omega arith),
  differs b 10 (omega arith),
  differs b 13 (omega arith),
) refl

escaped_high : (b : ℕ) (bytes : List ℕ) → 128 ≤ b → escaped bytes ≡ bytes → escaped (b ∷ bytes) ≡ b ∷ bytes
unfolding escaped
escaped_high b bytes h e = rw (escape_high b h, e) refl

escaped-nil : escaped [] ≡ []
unfolding escaped
escaped-nil = refl

next_high : (n : ℕ) → escaped ((128 + n) ∷ []) ≡ (128 + n) ∷ []
next_high n = escaped_high (128 + n) [] (omega arith) escaped-nil

two_high : (a n : ℕ) → 128 ≤ a → escaped (a ∷ (128 + n) ∷ []) ≡ a ∷ (128 + n) ∷ []
two_high a n h = escaped_high a ((128 + n) ∷ []) h (next_high n)

three_high : (a m n : ℕ) → 128 ≤ a → escaped (a ∷ (128 + m) ∷ (128 + n) ∷ []) ≡ a ∷ (128 + m) ∷ (128 + n) ∷ []
three_high a m n h = escaped_high a ((128 + m) ∷ (128 + n) ∷ []) h (two_high (128 + m) n (omega arith))

four_high : (a k m n : ℕ) → 128 ≤ a → escaped (a ∷ (128 + k) ∷ (128 + m) ∷ (128 + n) ∷ []) ≡ a ∷ (128 + k) ∷ (128 + m) ∷ (128 + n) ∷ []
four_high a k m n h = escaped_high a ((128 + k) ∷ (128 + m) ∷ (128 + n) ∷ []) h (three_high (128 + k) m n (omega arith))

-- a character beyond ASCII stands for itself
wide : (c : ℕ) (two three : Bool) → let bytes : List ℕ = cond two ((192 + c / 64) ∷ (128 + c % 64) ∷ []) (
    cond three ((224 + c / 4096) ∷ (128 + c / 64 % 64) ∷ (128 + c % 64) ∷ []) ((240 + c / 262144) ∷ (128 + c / 4096 % 64) ∷ (128 + c / 64 % 64) ∷ (128 + c % 64) ∷ [])) in
    escaped bytes ≡ bytes
wide c true three = two_high (192 + c / 64) (c % 64) (omega arith)
wide c false true = three_high (224 + c / 4096) (c / 64 % 64) (c % 64) (omega arith)
wide c false false = four_high (240 + c / 262144) (c / 4096 % 64) (c / 64 % 64) (c % 64) (omega arith)

-- what is written of a character is UTF-8
utf8_by : (amp less more quote tab line return : Bool) (own : List ℕ) → IsUtf8 own → IsUtf8 (
    cond amp (codes "&amp;") (cond less (codes "&lt;") (cond more (codes "&gt;") (cond quote (codes "&quot;")
    (cond tab (codes "&#9;") (cond line (codes "&#10;") (cond return (codes "&#13;") own)))))))
utf8_by true less more quote tab line return own h = ascii_utf8 (codes "&amp;") refl
utf8_by false true more quote tab line return own h = ascii_utf8 (codes "&lt;") refl
utf8_by false false true quote tab line return own h = ascii_utf8 (codes "&gt;") refl
utf8_by false false false true tab line return own h = ascii_utf8 (codes "&quot;") refl
utf8_by false false false false true line return own h = ascii_utf8 (codes "&#9;") refl
utf8_by false false false false false true return own h = ascii_utf8 (codes "&#10;") refl
utf8_by false false false false false false true own h = ascii_utf8 (codes "&#13;") refl
utf8_by false false false false false false false own h = h

escape_ascii : (b : ℕ) → b < 128 → IsUtf8 (escape b)
unfolding escape
escape_ascii b low = utf8_by _ _ _ _ _ _ _ (b ∷ []) (IsUtf8-from_ascii (b ∷ []) (IsAscii-cons b [] low IsAscii-nil))

escaped_one : (b : ℕ) → escaped (b ∷ []) ≡ escape b
unfolding escaped
escaped_one b = append-nil (escape b)

character_by : (c : ℕ) (ascii : Bool) → ltb c 128 ≡ ascii → scalar c ≡ true → IsUtf8 (escaped (encode c))
unfolding encode
character_by c true low h = rw low (subst IsUtf8 (sym (escaped_one c)) (escape_ascii c (ltb-true c 128 low)))
character_by c false low h =
    let same : escaped (encode c) ≡ encode c = rw low (wide c (ltb c 2048) (ltb c 65536)) in
    subst IsUtf8 (sym same) (c ∷ [], (and_both (scalar c) true h refl, append-nil (encode c)))

characters : (cs : List ℕ) → scalars cs ≡ true → IsUtf8 (escaped (encodes cs))
characters [] h = subst IsUtf8 (sym escaped-nil) IsUtf8-nil
characters (c ∷ cs) h =
    let parts = and_parts (scalar c) (scalars cs) h in
    subst IsUtf8 (sym (escaped-append (encode c) (encodes cs)))
    (IsUtf8-append (escaped (encode c)) (escaped (encodes cs)) (character_by c (ltb c 128) refl parts.0) (characters cs parts.1))

pub escaped_utf8 : (value : List ℕ) → IsUtf8 value → IsUtf8 (escaped value)
escaped_utf8 value h = subst (λ (l : List ℕ). IsUtf8 (escaped l)) h.1.1 (characters h.0 h.1.0)

-- what is written of a text means it
pub text_means : (text : List ℕ) → scalars text ≡ true → SpellsText text (escaped (encodes text))
text_means text h = subst (λ (t : List ℕ). SpellsText t (escaped (encodes text))) (chars-encodes text h) (text_spelled (encodes text) (text, (h, refl)))
