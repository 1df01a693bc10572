-- Taking a value from the front of bytes follows its spelling.
use Rattle.std.proofs.Common.{◌≡◌, ℕ, List, [], ◌∷◌, ◌++◌, length, take, drop, Option, Some, None, inl, inr, refl, sym, ap, subst, ◌∙◌, append_assoc}
use Rattle.std.proofs.lemmas.List.{append-nil, take-append-drop, drop_at}
use Rattle.compact_values.specs.Both.{SpellsBoth}
use Rattle.compact_values.specs.Compact.{SpellsCompact}
use Rattle.compact_values.specs.Ids.{SpellsGuid, SpellsExGuid, SpellsSerial, SpellsCellId, SpellsLong}
use Rattle.compact_values.specs.IdReading.{guid_at, long_at, exguid_at, serial_at}
use Rattle.compact_values.specs.ItemReading.{item_at}
use Rattle.compact_values.specs.Items.{SpellsItem, SpellsIds, SpellsCells}
use Rattle.compact_values.specs.Placed.{joined, cell_id_at, ids_at, cells_at}
use Rattle.compact_values.specs.Reading.{Reading, Value, Cut, Malformed, compact_at}
use Rattle.compact_values.specs.Sequences.{Begins, SpellsByte}
use Rattle.compact_values.specs.Taking.{taken, take_byte, take_compact, take_long, take_guid, take_exguid, take_serial, take_cell_id, take_item, take_ids, take_cells, with_first, then_take, take_both, if_all, if_some}
use Rattle.compact_values.proofs.LittleEndian.{IsBytes}
use Rattle.compact_values.proofs.Codes.{Recognises, cases_reading}
use Rattle.compact_values.proofs.CompactCode.{compact_code}
use Rattle.compact_values.proofs.IdCode.{guid_code, long_code, exguid_code, serial_code}
use Rattle.compact_values.proofs.CellIdCode.{cell_id_parts}
use Rattle.compact_values.proofs.ItemCode.{item_code}
use Rattle.compact_values.proofs.IdArrays.{ids_parts, cells_parts}
use Rattle.compact_values.proofs.Parts.{IsBytes-behind}

-- What is taken is a spelling at the front with what is behind it, and each spelling at the front is taken.
pub record Takes {V : Type 0} (Spells : V → List ℕ → Type 0) (get : List ℕ → Option (V × List ℕ)) : Type 0 where
  pub found : (b : List ℕ) (v : V) (rest : List ℕ) → IsBytes b → get b ≡ Some (v, rest) → (front : List ℕ) × Spells v front × (b ≡ front ++ rest)
  pub again : (v : V) (front rest : List ℕ) → Spells v front → get (front ++ rest) ≡ Some (v, rest)

pub some_pair : {A B : Type 0} (p q : A × B) → Some p ≡ Some q → (p.0 ≡ q.0) × (p.1 ≡ q.1)
some_pair {A} {B} p q e =
    let pair : p ≡ q = cc in
    (ap (λ (r : A × B). r.0) pair, ap (λ (r : A × B). r.1) pair)

-- a reader that recognises spellings takes them
pub takes_code : {V : Type 0} (Spells : V → List ℕ → Type 0) (read : List ℕ → Reading V) → Recognises Spells read → Takes Spells (λ b. taken (read b) b)
takes_code {V} Spells read code = record {
  found = λ b v rest fits e.
      elim (cases_reading (read b)) [
        | inl r ↦
            let same : taken (Value r.0 r.1) b ≡ Some (v, rest) = ap (λ (q : Reading V). taken q b) (sym r.2) ∙ e in
            let pair = some_pair (r.0, drop r.1 b) (v, rest) same in
            let t = code.takes b r.0 r.1 fits r.2 in
            (take r.1 b, subst (λ (x : V). Spells x (take r.1 b)) pair.0 t.1, sym (take-append-drop r.1 b) ∙ ap (λ (l : List ℕ). take r.1 b ++ l) pair.1)
        | inr (inl r) ↦
            let same : taken {V = V} Cut b ≡ Some (v, rest) = ap (λ (q : Reading V). taken q b) (sym r) ∙ e in
            absurd cc
        | inr (inr r) ↦
            let same : taken {V = V} Malformed b ≡ Some (v, rest) = ap (λ (q : Reading V). taken q b) (sym r) ∙ e in
            absurd cc
      ];
  again = λ v front rest s.
      ap (λ (q : Reading V). taken q (front ++ rest)) (code.again v front rest s) ∙ ap (λ (l : List ℕ). Some (v, l)) (drop_at front rest (length front) refl);
}

-- ---- each kind of value

pub takes_compact : Takes SpellsCompact take_compact
unfolding take_compact
takes_compact = takes_code SpellsCompact compact_at compact_code

pub takes_long : Takes SpellsLong take_long
unfolding take_long
takes_long = takes_code SpellsLong long_at long_code

pub takes_guid : Takes SpellsGuid take_guid
unfolding take_guid
takes_guid = takes_code SpellsGuid guid_at guid_code

pub takes_exguid : Takes SpellsExGuid take_exguid
unfolding take_exguid
takes_exguid = takes_code SpellsExGuid exguid_at exguid_code

pub takes_serial : Takes SpellsSerial take_serial
unfolding take_serial
takes_serial = takes_code SpellsSerial serial_at serial_code

pub takes_cell_id : Takes SpellsCellId take_cell_id
unfolding take_cell_id
takes_cell_id = takes_code SpellsCellId (λ b. joined (cell_id_at b)) cell_id_parts.code

pub takes_item : Takes SpellsItem take_item
unfolding take_item
takes_item = takes_code SpellsItem item_at item_code

pub takes_ids : Takes SpellsIds take_ids
unfolding take_ids
takes_ids = takes_code SpellsIds (λ b. joined (ids_at b)) ids_parts.code

pub takes_cells : Takes SpellsCells take_cells
unfolding take_cells
takes_cells = takes_code SpellsCells (λ b. joined (cells_at b)) cells_parts.code

pub takes_byte : Takes SpellsByte take_byte
unfolding take_byte
takes_byte = record { found = found_byte; again = again_byte } where
  found_byte : (b : List ℕ) (v : ℕ) (rest : List ℕ) → IsBytes b → take_byte b ≡ Some (v, rest) → (front : List ℕ) × SpellsByte v front × (b ≡ front ++ rest)
  found_byte [] v rest fits e = absurd cc
  found_byte (x ∷ bytes) v rest fits e = let pair = some_pair (x, bytes) (v, rest) e in (v ∷ [], refl, ap (λ (y : ℕ). y ∷ bytes) pair.0 ∙ ap (λ (l : List ℕ). v ∷ l) pair.1)

  again_byte : (v : ℕ) (front rest : List ℕ) → SpellsByte v front → take_byte (front ++ rest) ≡ Some (v, rest)
  again_byte v front rest s = rw s refl

-- ---- two values

module _ {A B : Type 0} (SpellsFirst : A → List ℕ → Type 0) (SpellsSecond : B → List ℕ → Type 0) (first : List ℕ → Option (A × List ℕ)) (second : List ℕ → Option (B × List ℕ))
    (one : Takes SpellsFirst first) (two : Takes SpellsSecond second) where
  Found : A × B → List ℕ → List ℕ → Type 0
  Found v rest b = (front : List ℕ) × SpellsBoth SpellsFirst SpellsSecond v front × (b ≡ front ++ rest)

  found_second : (a : A) (middle b : List ℕ) (o : Option (B × List ℕ)) (v : A × B) (rest : List ℕ) → IsBytes b → first b ≡ Some (a, middle) → second middle ≡ o
      → with_first a o ≡ Some (v, rest) → Found v rest b
  unfolding Found
  found_second a middle b (Some x) v rest fits e f g =
      let p = one.found b a middle fits e in
      let q = two.found middle x.0 x.1 (IsBytes-behind p.0 middle (λ i. rw (← p.2) (fits i))) f in
      let pair = some_pair ((a, x.0), x.1) (v, rest) g in
      let all : SpellsBoth SpellsFirst SpellsSecond (a, x.0) (p.0 ++ q.0) = record { front = p.0; back = q.0; first = p.1; second = q.1; bytes_are = refl } in (
        p.0 ++ q.0,
        subst (λ (w : A × B). SpellsBoth SpellsFirst SpellsSecond w (p.0 ++ q.0)) pair.0 all,
        p.2 ∙ ap (λ (l : List ℕ). p.0 ++ l) (q.2 ∙ ap (λ (l : List ℕ). q.0 ++ l) pair.1) ∙ sym (append_assoc p.0 q.0 rest),
      )
  found_second a middle b None v rest fits e f g = absurd cc

  found_first : (b : List ℕ) (o : Option (A × List ℕ)) (v : A × B) (rest : List ℕ) → IsBytes b → first b ≡ o → then_take o second ≡ Some (v, rest) → Found v rest b
  found_first b (Some x) v rest fits e g = found_second x.0 x.1 b (second x.1) v rest fits e refl g
  found_first b None v rest fits e g = absurd cc

  pub takes_both : Takes (SpellsBoth SpellsFirst SpellsSecond) (take_both first second)
  unfolding Found
  takes_both = record {
    found = λ b v rest fits e. found_first b (first b) v rest fits refl e;
    again = λ v front rest s.
        let parts : front ++ rest ≡ s.front ++ (s.back ++ rest) = ap (λ (l : List ℕ). l ++ rest) s.bytes_are ∙ append_assoc s.front s.back rest in
        ap (take_both first second) parts ∙ ap (λ (o : Option (A × List ℕ)). then_take o second) (one.again v.0 s.front (s.back ++ rest) s.first)
        ∙ ap (with_first v.0) (two.again v.1 s.back rest s.second);
  }

-- ---- all of the fields, or their beginning

pub record Gets {V : Type 0} (Spells : V → List ℕ → Type 0) (get : List ℕ → Option V) : Type 0 where
  pub found : (b : List ℕ) (v : V) → IsBytes b → get b ≡ Some v → Spells v b
  pub again : (b : List ℕ) (v : V) → Spells v b → get b ≡ Some v

module _ {V : Type 0} (Spells : V → List ℕ → Type 0) (get : List ℕ → Option (V × List ℕ)) (takes : Takes Spells get) where
  all_found : (b : List ℕ) (v : V) (o : Option (V × List ℕ)) → IsBytes b → get b ≡ o → if_all o ≡ Some v → Spells v b
  all_found b v (Some (w, [])) fits e g =
      let p = takes.found b w [] fits e in
      let value : w ≡ v = cc in
      let whole : p.0 ≡ b = sym (append-nil p.0) ∙ sym p.2 in
      subst (λ (x : V). Spells x b) value (subst (λ (l : List ℕ). Spells w l) whole p.1)
  all_found b v (Some (w, x ∷ rest)) fits e g = absurd cc
  all_found b v None fits e g = absurd cc

  pub gets_all : Gets Spells (λ b. if_all (get b))
  gets_all = record {
    found = λ b v fits e. all_found b v (get b) fits refl e;
    again = λ b v s.
        let whole : get b ≡ Some (v, []) = rw append-nil at (takes.again v b [] s) in
        ap if_all whole;
  }

  some_found : (b : List ℕ) (v : V) (o : Option (V × List ℕ)) → IsBytes b → get b ≡ o → if_some o ≡ Some v → Begins Spells v b
  some_found b v (Some x) fits e g =
      let p = takes.found b x.0 x.1 fits e in
      let value : x.0 ≡ v = cc in
      record { front = p.0; rest = x.1; spelled = subst (λ (y : V). Spells y p.0) value p.1; bytes_are = p.2 }
  some_found b v None fits e g = absurd cc

  pub gets_some : Gets (Begins Spells) (λ b. if_some (get b))
  gets_some = record {
    found = λ b v fits e. some_found b v (get b) fits refl e;
    again = λ b v s. ap (λ (l : List ℕ). if_some (get l)) s.bytes_are ∙ ap if_some (takes.again v s.front s.rest s.spelled);
  }
