use Rattle.std.proofs.Common.{◌≡◌, ℕ, true, false, List, Some, None, refl, sym, ap}
use Rattle.std.specs.Prelude.{if◌then◌else◌, Bool, Option}
use Rattle.std.specs.Str.{chars, is_utf8, IsUtf8}
use Rattle.std.proofs.lemmas.Str.{IsUtf8-from_is_utf8, is_utf8-from_IsUtf8}
use Rattle.change_record.specs.Taking.{text_of}
use Rattle.change_record.proofs.kinds.text_of.Goals as goal

there : (bytes : List ℕ) → IsUtf8 bytes → text_of bytes ≡ Some (chars bytes)
there bytes is = ap (λ (b : Bool). if b then Some (chars bytes) else None) (is_utf8-from_IsUtf8 bytes is)

absent : (bytes : List ℕ) → (IsUtf8 bytes → ⊥) → text_of bytes ≡ None
absent bytes not = go (is_utf8 bytes) refl where
  go : (b : Bool) → is_utf8 bytes ≡ b → ◌≡◌ {A = Option (List ℕ)} (if b then Some (chars bytes) else None) None
  go true e = absurd (not (IsUtf8-from_is_utf8 bytes e))
  go false e = refl

pub returns-in_ok-from_str-in-Ok : goal.returns-in_ok-from_str-in-Ok
returns-in_ok-from_str-in-Ok c =
    let here = there c.args.bytes.now c.in-Ok.ensures.cases.1 in
    let text = c.in_ok-from_str-in-Ok.ensures in
    let same = c.in-Ok.ensures.cases.0 in
    cc

pub returns-in-Err : goal.returns-in-Err
returns-in-Err c = sym (absent c.args.bytes.now c.in-Err.ensures.cases.0)
