-- Readers of values that are made of values, and what follows for their answers.
use Rattle.std.proofs.Common.{◌≡◌, ◌≢◌, ◌⊎◌, ℕ, suc, ◌+◌, ◌-◌, ◌≤◌, inl, inr, List, [], ◌∷◌, ◌++◌, length, take, drop, Result, Ok, Err, refl, sym, ap, subst, ◌∙◌, arith}
use Rattle.std.proofs.lemmas.List.{append-nil, take-append-drop}
use Rattle.compact_values.specs.Answers.{IsFoundAt, IsShortAt}
use Rattle.compact_values.specs.Reading.{Reading, Value, Cut, Malformed, answer_at}
use Rattle.compact_values.specs.Placed.{HasNoForm, LacksItself, IsOutOfFormIn, IsRefusedAt, PartReading, Whole, Ends, NoForm, joined, answer_in, single}
use Rattle.compact_values.specs.declared.fault.ValueFault.{ValueFault}
use Rattle.compact_values.specs.declared.fault.ValueFault.TheVariants.{Short, OutOfForm, NoMemory}
use Rattle.compact_values.proofs.LittleEndian.{IsBytes}
use Rattle.compact_values.proofs.Codes.{Recognises, IsBytes-drop, cases_reading, IsFoundAt-of, IsShortAt-of}

pub IsBytes-behind : (front rest : List ℕ) → IsBytes (front ++ rest) → IsBytes rest
IsBytes-behind [] rest fits i = fits i
IsBytes-behind (b ∷ front) rest fits i = IsBytes-behind front rest (λ j. fits (suc j)) i

-- ---- where no value stands

module _ {V : Type 0} (Spells : V → List ℕ → Type 0) (read : List ℕ → Reading V) (code : Recognises Spells read) (b : List ℕ) (fits : IsBytes b) where
  pub no_form : read b ≡ Malformed → HasNoForm Spells b
  no_form e v front rest more s same =
      let bad = code.stays b more fits e in
      let good = code.again v front rest s in
      let there : read (b ++ more) ≡ read (front ++ rest) = ap read same in
      absurd cc

  pub is_malformed : HasNoForm Spells b → read b ≡ Malformed
  is_malformed h =
      elim (cases_reading (read b)) [
        | inl r ↦ absurd (h r.0 (take r.1 b) (drop r.1 b) [] (code.takes b r.0 r.1 fits r.2).1 (append-nil b ∙ sym (take-append-drop r.1 b)))
        | inr (inl r) ↦ let e = code.cut b fits r in absurd (h e.0 (b ++ e.1) [] e.1 e.3 (sym (append-nil (b ++ e.1))))
        | inr (inr r) ↦ r
      ]

-- ---- readers with parts

-- The reader recognises the spellings of this kind of value, and finds the first part without a form.
pub record RecognisesParts {V : Type 0} (Spells : V → List ℕ → Type 0) (Lacks : List ℕ → ℕ → Type 0) (read : List ℕ → PartReading V) : Type 0 where
  pub code : Recognises Spells (λ b. joined (read b))
  pub lacks : (b : List ℕ) (n : ℕ) → IsBytes b → read b ≡ NoForm n → Lacks b n
  pub lacking : (b more : List ℕ) (n : ℕ) → IsBytes b → Lacks b n → read (b ++ more) ≡ NoForm n

pub cases_parts : {V : Type 0} (r : PartReading V) → ((v : V) × (used : ℕ) × (r ≡ Whole v used)) ⊎ ((r ≡ Ends) ⊎ ((n : ℕ) × (r ≡ NoForm n)))
cases_parts (Whole v used) = inl (v, used, refl)
cases_parts Ends = inr (inl refl)
cases_parts (NoForm n) = inr (inr (n, refl))

pub joined_value : {V : Type 0} (r : PartReading V) (v : V) (used : ℕ) → joined r ≡ Value v used → r ≡ Whole v used
joined_value (Whole w n) v used e = cc
joined_value Ends v used e = absurd cc
joined_value (NoForm n) v used e = absurd cc

joined_cut : {V : Type 0} (r : PartReading V) → joined r ≡ Cut → r ≡ Ends
joined_cut (Whole w n) e = absurd cc
joined_cut Ends e = refl
joined_cut (NoForm n) e = absurd cc

joined_malformed : {V : Type 0} (r : PartReading V) → joined r ≡ Malformed → (n : ℕ) × (r ≡ NoForm n)
joined_malformed (Whole w n) e = absurd cc
joined_malformed Ends e = absurd cc
joined_malformed (NoForm n) e = (n, refl)

-- a value without parts
pub single_parts : {V : Type 0} (Spells : V → List ℕ → Type 0) (read : List ℕ → Reading V) → Recognises Spells read → RecognisesParts Spells (LacksItself Spells) (λ b. single (read b))
single_parts {V} Spells read code = record { code = joined_code; lacks = lacks; lacking = lacking } where
  same : (r : Reading V) → joined (single r) ≡ r
  same (Value v used) = refl
  same Cut = refl
  same Malformed = refl

  joined_code : Recognises Spells (λ b. joined (single (read b)))
  joined_code = record {
    again = λ v b more s. same (read (b ++ more)) ∙ code.again v b more s;
    takes = λ b v used fits e. code.takes b v used fits (sym (same (read b)) ∙ e);
    cut = λ b fits e. code.cut b fits (sym (same (read b)) ∙ e);
    stays = λ b more fits e. same (read (b ++ more)) ∙ code.stays b more fits (sym (same (read b)) ∙ e);
  }

  lacks_by : (r : Reading V) (n : ℕ) → single r ≡ NoForm n → (r ≡ Malformed) × (n ≡ 0)
  lacks_by (Value v used) n e = absurd cc
  lacks_by Cut n e = absurd cc
  lacks_by Malformed n e = (refl, cc)

  lacks : (b : List ℕ) (n : ℕ) → IsBytes b → single (read b) ≡ NoForm n → LacksItself Spells b n
  lacks b n fits e = let p = lacks_by (read b) n e in (p.1, no_form Spells read code b fits p.0)

  lacking : (b more : List ℕ) (n : ℕ) → IsBytes b → LacksItself Spells b n → single (read (b ++ more)) ≡ NoForm n
  lacking b more n fits h = rw (code.stays b more fits (is_malformed Spells read code b fits h.1), h.0) refl

-- ---- the answers

module _ {V : Type 0} (Spells : V → List ℕ → Type 0) (Lacks : List ℕ → ℕ → Type 0) (read : List ℕ → PartReading V) (parts : RecognisesParts Spells Lacks read)
    (bytes : List ℕ) (at : ℕ) (le : at ≤ length bytes) (fits : IsBytes bytes) (answer : Result (V × ℕ) ValueFault) (e : answer ≡ answer_in (length bytes) at (read (drop at bytes))) where
  abbrev len : ℕ
  len = length bytes

  abbrev rest : List ℕ
  rest = drop at bytes

  abbrev other : Result (V × ℕ) ValueFault
  other = answer_at len at (joined (read rest))

  to_ok : (r : PartReading V) (x : V × ℕ) → answer_in len at r ≡ Ok x → answer_at len at (joined r) ≡ Ok x
  to_ok (Whole v used) x f = f
  to_ok Ends x f = absurd cc
  to_ok (NoForm n) x f = absurd cc

  of_ok : (r : PartReading V) (x : V × ℕ) → answer_at len at (joined r) ≡ Ok x → answer_in len at r ≡ Ok x
  of_ok (Whole v used) x f = f
  of_ok Ends x f = absurd cc
  of_ok (NoForm n) x f = absurd cc

  to_short : (r : PartReading V) (place : ℕ) → answer_in len at r ≡ Err (Short place) → answer_at len at (joined r) ≡ Err (Short place)
  to_short (Whole v used) place f = absurd cc
  to_short Ends place f = f
  to_short (NoForm n) place f = absurd cc

  of_short : (r : PartReading V) (place : ℕ) → answer_at len at (joined r) ≡ Err (Short place) → answer_in len at r ≡ Err (Short place)
  of_short (Whole v used) place f = absurd cc
  of_short Ends place f = f
  of_short (NoForm n) place f = absurd cc

  pub found_parts : IsFoundAt Spells bytes at answer
  found_parts v next =
      let both = IsFoundAt-of Spells (λ b. joined (read b)) parts.code bytes at le fits other refl v next in
      (λ ok. both.0 (to_ok (read rest) (v, next) (sym e ∙ ok)), λ h. e ∙ of_ok (read rest) (v, next) (both.1 h))

  pub short_parts : IsShortAt Spells bytes at answer
  short_parts place =
      let both = IsShortAt-of Spells (λ b. joined (read b)) parts.code bytes at le fits other refl place in
      (λ err. both.0 (to_short (read rest) place (sym e ∙ err)), λ h. e ∙ of_short (read rest) place (both.1 h))

  no_form_at : (r : PartReading V) (place : ℕ) → answer_in len at r ≡ Err (OutOfForm place) → (n : ℕ) × (r ≡ NoForm n) × (place ≡ at + n)
  no_form_at (Whole v used) place f = absurd cc
  no_form_at Ends place f = absurd cc
  no_form_at (NoForm n) place f = (n, refl, cc)

  pub out_of_form_parts : IsOutOfFormIn Lacks bytes at answer
  out_of_form_parts place = (
    λ err.
        let n = no_form_at (read rest) place (sym e ∙ err) in
        let count : n.0 ≡ place - at = omega (arith, n.2) in
        (omega (arith, n.2), subst (λ (k : ℕ). Lacks rest k) count (parts.lacks rest n.0 (IsBytes-drop at bytes fits) n.1)),
    λ h.
        let same : rest ++ [] ≡ rest = append-nil rest in
        let is : read rest ≡ NoForm (place - at) = ap read (sym same) ∙ parts.lacking rest [] (place - at) (IsBytes-drop at bytes fits) h.1 in
        let sum : at + (place - at) ≡ place = omega (arith, h.0) in
        e ∙ ap (λ (r : PartReading V). answer_in len at r) is ∙ ap (λ (n : ℕ). Err (OutOfForm n)) sum,
  )

  pub refused_parts : IsRefusedAt Spells bytes at answer
  refused_parts = (
    λ err.
        let n = no_form_at (read rest) err.0 (sym e ∙ err.1) in
        no_form Spells (λ b. joined (read b)) parts.code rest (IsBytes-drop at bytes fits) (ap joined n.1),
    λ h.
        let n = joined_malformed (read rest) (is_malformed Spells (λ b. joined (read b)) parts.code rest (IsBytes-drop at bytes fits) h) in
        (at + n.0, e ∙ ap (λ (r : PartReading V). answer_in len at r) n.1),
  )

  pub parts_take_no_memory : answer ≢ Err NoMemory
  parts_take_no_memory f = go (read rest) (sym e ∙ f) where
    go : (r : PartReading V) → answer_in len at r ≢ Err NoMemory
    go (Whole v used) g = absurd cc
    go Ends g = absurd cc
    go (NoForm n) g = absurd cc
