use Rattle.std.proofs.Common.{◌≡◌, ◌<◌, ◌^◌, IfOk, Result, Ok, Err, Option, Some, ℕ, List, inl, refl, sym, ap, subst, ◌∙◌, arith}
use Rattle.std.specs.Str.{IsAscii, chars}
use Rattle.std.specs.Int.{w128, to_be_bytes}
use Rattle.std.specs.Option.{option_map}
use Rattle.std.proofs.lemmas.Str.{chars-IsAscii}
use Rattle.uuid.specs.Text.{lower, hyphenated_text, parsed}
use Rattle.uuid.proofs.TextLemmas.{hyphenated_ascii}
use Rattle.compact_values.specs.GuidText.{guid_of_text_bytes, guid_in_text}
use Rattle.compact_values.specs.declared.guid.Guid.{Guid}
use Rattle.compact_values.proofs.GuidLemmas.{guid_again}
use Rattle.compact_values.proofs.guid.number_text.Goals as goal

-- the text is the characters that were written
written : {E : Type 0} (r : Result (List ℕ) E) (bytes text : List ℕ) → IfOk r (λ t. t ≡ chars text) → text ≡ hyphenated_text lower bytes → IfOk r (λ t. t ≡ hyphenated_text lower bytes)
written (Ok t) bytes text e f =
    let ascii : IsAscii text = subst (λ (l : List ℕ). IsAscii l) (sym f) (hyphenated_ascii lower bytes (inl refl)) in
    e ∙ chars-IsAscii text ascii ∙ f
written (Err x) bytes text e f = tt

-- what `uuid` reads in it is the number
read_back : {E : Type 0} (r : Result (List ℕ) E) (n : ℕ) (bytes text : List ℕ) → n < 2 ^ 128 → bytes ≡ to_be_bytes w128 n → Some bytes ≡ parsed text → IfOk r (λ t. t ≡ text)
    → IfOk r (λ t. guid_in_text t ≡ Some (record { number = n }))
read_back (Ok t) n bytes text lt b p e =
    let make : ℕ → Option Guid = λ m. Some (record { number = m }) in
    ap guid_in_text e ∙ ap (λ (o : Option (List ℕ)). option_map guid_of_text_bytes o) (sym p) ∙ ap (λ (l : List ℕ). Some (guid_of_text_bytes l)) b ∙ ap make (guid_again n lt)
read_back (Err x) n bytes text lt b p e = tt

pub returns-clause-text : goal.returns-clause-text
returns-clause-text c =
    let bytes = c.hyphenated.ensures ∙ c.from_u128-uuid.ensures in
    rw (← bytes) (written c.from_str.result c.hyphenated.result c.encode_lower-text.result.now c.from_str.ensures c.encode_lower-text.ensures.text)

pub returns-clause-back : goal.returns-clause-back
returns-clause-back c =
    let bytes = c.hyphenated.ensures ∙ c.from_u128-uuid.ensures in
    let text = written c.from_str.result c.hyphenated.result c.encode_lower-text.result.now c.from_str.ensures c.encode_lower-text.ensures.text in
    read_back c.from_str.result c.args.number c.hyphenated.result c.encode_lower-text.result.now (omega arith) bytes c.encode_lower-text.ensures.parsed
    (subst (λ (l : List ℕ). IfOk c.from_str.result (λ t. t ≡ l)) (sym c.encode_lower-text.ensures.text) text)
