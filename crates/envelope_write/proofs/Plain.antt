-- Numbers, GUIDs, words and base64 are ASCII, and what stands for itself in a text.
use Rattle.std.proofs.Common.{◌≡◌, ◌≢◌, ℕ, zero, suc, ◌+◌, ◌*◌, ◌/◌, ◌%◌, inl, Bool, true, false, cond, eqb, not, ◌&&◌, List, [], ◌∷◌, length, replicate, refl, sym, ap, subst, arith}
use Rattle.std.specs.Prelude.{codes, decimal, encode_utf8_all, slice_index}
use Rattle.std.specs.Fmt.{digits, digits_onto, digit_glyph}
use Rattle.std.specs.Str.{IsUtf8, chars}
use Rattle.std.proofs.lemmas.Bool.{eqb-false, lt-ltb}
use Rattle.std.proofs.lemmas.Str.{encodes-IsAscii, IsUtf8-from_ascii}
use Rattle.base64.specs.Engines.{standard}
use Rattle.base64.specs.GeneralPurpose.{encode_of}
use Rattle.base64.specs.Rfc4648.{encode_symbols, padding_len}
use Rattle.compact_values.specs.GuidText.{text_of_guid}
use Rattle.compact_values.specs.declared.guid.Guid.{Guid}
use Rattle.envelope_grammar.specs.Bytes.{every}
use Rattle.envelope_grammar.specs.Grammar.{Piece, Plain, ArePieces, as_written, as_meant, SpellsOwn}
use Rattle.envelope_grammar.proofs.Runs.{and_parts, and_both}
use Rattle.uuid.specs.Text.{lower}
use Rattle.uuid.proofs.TextLemmas.{hyphenated_ascii}
use Rattle.std.specs.Int.{w128, to_be_bytes}
use Rattle.doc_model.specs.declared.lock.Coauthors.{Coauthors}
use Rattle.doc_model.specs.declared.lock.Coauthors.TheVariants.{Nobody, Alone, Several}
use Rattle.doc_model.specs.declared.lock.LockKind.{LockKind}
use Rattle.doc_model.specs.declared.lock.LockKind.TheVariants as kinds
use Rattle.doc_model.specs.declared.reply.Code.{Code}
use Rattle.doc_model.specs.declared.reply.Code.TheVariants as code
use Rattle.doc_model.specs.declared.reply.Reply.TheVariants.{Refused}
use Rattle.doc_model.specs.declared.reply.Submitted.{Submitted}
use Rattle.doc_model.specs.declared.reply.Submitted.TheVariants.{Answered, DiskFault, JournalFull, NoMemory}
use Rattle.envelope_read.specs.declared.outcome.CellWord.{CellWord}
use Rattle.envelope_read.specs.declared.outcome.CellWord.TheVariants as cells
use Rattle.envelope_read.specs.declared.outcome.Outcome.{Outcome}
use Rattle.envelope_read.specs.declared.outcome.Outcome.TheVariants.{Plain as Called, Cell, NotSupported, BadArgument, NoDocument, Skipped}
use Rattle.envelope_read.specs.declared.outcome.Skip.{Skip}
use Rattle.envelope_read.specs.declared.outcome.Skip.TheVariants as skips
use Rattle.envelope_write.specs.Words.{code_word, submitted_word, cell_word, skip_word, error_code, result_code, truth, lock_word, status_word}
use Rattle.envelope_write.proofs.Values.{no_tag, is_ascii, ascii_utf8, every-append}

-- ---- numbers

glyph_ascii : (n : ℕ) → is_ascii (digit_glyph false (n % 10)) ≡ true
glyph_ascii n = rw (lt-ltb (n % 10) 10 (omega arith)) (lt-ltb (48 + n % 10) 128 (omega arith))

digits_by : (last : Bool) (one more : List ℕ) → every is_ascii one ≡ true → every is_ascii more ≡ true → every is_ascii (cond last one more) ≡ true
digits_by true one more h k = h
digits_by false one more h k = k

digits_ascii : (k n : ℕ) (behind : List ℕ) → every is_ascii behind ≡ true → every is_ascii (digits_onto k 10 false n behind) ≡ true
digits_ascii zero n behind h = h
digits_ascii (suc k) n behind h =
    let here : every is_ascii (digit_glyph false (n % 10) ∷ behind) ≡ true = and_both (is_ascii (digit_glyph false (n % 10))) (every is_ascii behind) (glyph_ascii n) h in
    digits_by (eqb (n / 10) 0) (digit_glyph false (n % 10) ∷ behind) (digits_onto k 10 false (n / 10) (digit_glyph false (n % 10) ∷ behind)) here
    (digits_ascii k (n / 10) (digit_glyph false (n % 10) ∷ behind) here)

pub decimal_utf8 : (n : ℕ) → IsUtf8 (decimal n)
unfolding digits
decimal_utf8 n = ascii_utf8 (decimal n) (digits_ascii 64 n [] refl)

-- ---- GUIDs

pub guid_utf8 : (guid : Guid) → IsUtf8 (encode_utf8_all (text_of_guid guid))
guid_utf8 guid =
    let ascii = hyphenated_ascii lower (to_be_bytes w128 guid.number) (inl refl) in
    subst IsUtf8 (sym (encodes-IsAscii (text_of_guid guid) ascii)) (IsUtf8-from_ascii (text_of_guid guid) ascii)

-- ---- words

code_ascii : (c : Code) → every is_ascii (code_word c) ≡ true
code_ascii code.StorageLimit = refl
code_ascii code.AlreadyLocked = refl
code_ascii code.NotLocked = refl
code_ascii code.TooManyCoauthors = refl
code_ascii code.ManyClients = refl
code_ascii code.LeftOnFailedConversion = refl
code_ascii code.EditorsFull = refl
code_ascii code.NoNumbers = refl
code_ascii code.EditorUnknown = refl
code_ascii code.MetadataFull = refl
code_ascii code.MetadataLong = refl
code_ascii code.VersionUnknown = refl
code_ascii code.InvalidObject = refl
code_ascii code.NotSupported = refl
code_ascii code.Coherency = refl
code_ascii code.NotFound = refl
code_ascii code.Unserializable = refl

submitted_ascii : (s : Submitted) → every is_ascii (submitted_word s) ≡ true
submitted_ascii (Answered (Refused c)) = code_ascii c
submitted_ascii (Answered reply) = refl
submitted_ascii DiskFault = refl
submitted_ascii JournalFull = refl
submitted_ascii NoMemory = refl

cell_ascii : (w : CellWord) → every is_ascii (cell_word w) ≡ true
cell_ascii cells.Fine = refl
cell_ascii cells.CellFail = refl
cell_ascii cells.Locked = refl
cell_ascii cells.Disk = refl
cell_ascii cells.Full = refl
cell_ascii cells.Memory = refl

skip_ascii : (s : Skip) → every is_ascii (skip_word s) ≡ true
skip_ascii skips.NotExecuted = refl
skip_ascii skips.OnSuccessFailed = refl
skip_ascii skips.OnFailSucceeded = refl
skip_ascii skips.OnNotSupportedSupported = refl
skip_ascii skips.BadDependency = refl

error_ascii : (o : Outcome) → every is_ascii (error_code o) ≡ true
error_ascii (Called s) = submitted_ascii s
error_ascii (Cell bytes word) = cell_ascii word
error_ascii NotSupported = refl
error_ascii BadArgument = refl
error_ascii NoDocument = refl
error_ascii (Skipped why) = skip_ascii why

pub error_utf8 : (o : Outcome) → IsUtf8 (error_code o)
error_utf8 o = ascii_utf8 (error_code o) (error_ascii o)

result_by : (success : Bool) → IsUtf8 (cond success (codes "0") (codes "2147500037"))
result_by true = ascii_utf8 (codes "0") refl
result_by false = ascii_utf8 (codes "2147500037") refl

pub result_utf8 : (word : List ℕ) → IsUtf8 (result_code word)
result_utf8 word = result_by _

pub truth_utf8 : (alone : Bool) → IsUtf8 (truth alone)
truth_utf8 true = ascii_utf8 (codes "True") refl
truth_utf8 false = ascii_utf8 (codes "False") refl

pub lock_utf8 : (kind : LockKind) → IsUtf8 (lock_word kind)
lock_utf8 kinds.Exclusive = ascii_utf8 (codes "ExclusiveLock") refl
lock_utf8 kinds.Schema = ascii_utf8 (codes "SchemaLock") refl

pub status_utf8 : (status : Coauthors) → IsUtf8 (status_word status)
status_utf8 Nobody = ascii_utf8 (codes "None") refl
status_utf8 Alone = ascii_utf8 (codes "Alone") refl
status_utf8 Several = ascii_utf8 (codes "Coauthoring") refl

-- ---- base64

-- an ASCII byte that stands for itself in a text
abbrev is_symbol : ℕ → Bool
is_symbol b = is_ascii b && (not (eqb b 60) && not (eqb b 38))

abbrev table : List ℕ
table = standard.encode_table

symbol_at : (all : List ℕ) (i : ℕ) → every is_symbol all ≡ true → is_symbol (slice_index all i) ≡ true
symbol_at [] i h = refl
symbol_at (b ∷ all) zero h = (and_parts (is_symbol b) (every is_symbol all) h).0
symbol_at (b ∷ all) (suc i) h = symbol_at all i (and_parts (is_symbol b) (every is_symbol all) h).1

symbol : (i : ℕ) → is_symbol (slice_index table i) ≡ true
symbol i = symbol_at table i refl

record AreSymbols (bytes : List ℕ) : Type 0 where
  each : every is_symbol bytes ≡ true

none : AreSymbols []
none = record { each = refl }

more : {bytes : List ℕ} (i : ℕ) → AreSymbols bytes → AreSymbols (slice_index table i ∷ bytes)
more {bytes} i h = record { each = and_both (is_symbol (slice_index table i)) (every is_symbol bytes) (symbol i) h.each }

symbols : (m : List ℕ) → AreSymbols (encode_symbols table m)
unfolding encode_symbols
symbols [] = none
symbols (a ∷ []) = more (a / 4) (more (a % 4 * 16) none)
symbols (a ∷ b ∷ []) = more (a / 4) (more (a % 4 * 16 + b / 16) (more (b % 16 * 4) none))
symbols (a ∷ b ∷ c ∷ rest) = more (a / 4) (more (a % 4 * 16 + b / 16) (more (b % 16 * 4 + c / 64) (more (c % 64) (symbols rest))))

padding : (n : ℕ) → every is_symbol (replicate n 61) ≡ true
padding zero = refl
padding (suc n) = padding n

base64_symbols : (m : List ℕ) → every is_symbol (encode_of standard m) ≡ true
base64_symbols m = every-append is_symbol (encode_symbols table m) (replicate (padding_len (length m)) 61) (symbols m).each (padding (padding_len (length m)))

-- symbols are pieces that mean themselves
record AreThemselves (bytes : List ℕ) : Type 0 where
  pieces : List Piece
  are : ArePieces pieces
  spelled : bytes ≡ as_written pieces
  meant : as_meant pieces ≡ bytes
  ascii : every is_ascii bytes ≡ true
  untagged : every no_tag bytes ≡ true

not_by : (t : Bool) → not t ≡ true → t ≡ false
not_by false h = refl
not_by true h = cc

not_same : (b n : ℕ) → not (eqb b n) ≡ true → b ≢ n
not_same b n h = eqb-false b n (not_by (eqb b n) h)

are_themselves : (bytes : List ℕ) → every is_symbol bytes ≡ true → AreThemselves bytes
are_themselves [] h = record { pieces = []; are = tt; spelled = refl; meant = refl; ascii = refl; untagged = refl }
are_themselves (b ∷ bytes) h =
    let parts = and_parts (is_symbol b) (every is_symbol bytes) h in
    let own = and_parts (is_ascii b) (not (eqb b 60) && not (eqb b 38)) parts.0 in
    let both = and_parts (not (eqb b 60)) (not (eqb b 38)) own.1 in
    let rest = are_themselves bytes parts.1 in
    record {
      pieces = Plain b ∷ rest.pieces;
      are = (not_same b 38 both.1, rest.are);
      spelled = ap (λ (l : List ℕ). b ∷ l) rest.spelled;
      meant = ap (λ (l : List ℕ). b ∷ l) rest.meant;
      ascii = and_both (is_ascii b) (every is_ascii bytes) own.0 rest.ascii;
      untagged = and_both (no_tag b) (every no_tag bytes) both.0 rest.untagged;
    }

pub base64_utf8 : (m : List ℕ) → IsUtf8 (encode_of standard m)
base64_utf8 m = ascii_utf8 (encode_of standard m) (are_themselves (encode_of standard m) (base64_symbols m)).ascii

pub base64_own : (m : List ℕ) → SpellsOwn (chars (encode_of standard m)) (encode_of standard m)
base64_own m =
    let all = are_themselves (encode_of standard m) (base64_symbols m) in (
      all.untagged,
      record {
        pieces = all.pieces;
        are = all.are;
        spelled = all.spelled;
        utf8 = subst IsUtf8 (sym all.meant) (base64_utf8 m);
        meant = ap chars (sym all.meant);
      },
    )
