-- What is under a name, by slots.
use Rattle.std.proofs.Common.{◌≡◌, ◌⊎◌, inl, inr, ⊎_elim, ◌↔◌, ◌∙◌, refl, sym, ap, subst, arith, ℕ, zero, suc, ◌+◌, ◌<◌, ◌≤◌, List, [], ◌∷◌, ◌++◌, length, Bool, true, false, not, cond, if◌then◌else◌, true≢false, Option, Some, None, slice_index_or, slice_set, map, take, Contains, bytes_eq, nat_lt, is_some}
use Rattle.std.proofs.lemmas.Bool.Decides.{nat_tests}
use Rattle.std.specs.Option.{unwrap_or}
use Rattle.std.specs.List.{position_or_len}
use Rattle.std.specs.Cmp.Lexicographic.{bytes_decides}
use Rattle.std.specs.Str.{IsUtf8, chars, encode_utf8_all}
use Rattle.compact_values.proofs.Texts.{encodes-chars}
use Rattle.host_edge.specs.MemDisks.{DiskState}
use Rattle.document_store.specs.Shelves.{Under, Nothing, Stands, Lent, Shelf, put, IsPublished, ArePublished}
use Rattle.document_store.specs.MemStores.{MemLent, name_of, content_of, shelf_of, slot_of, filled}
use Rattle.document_store.specs.declared.slot.Slot.{Slot}

abbrev pub place : List ℕ → List Slot → ℕ
place name slots = position_or_len (λ slot. bytes_eq (name_of slot) name) slots

same_if : {A : Type 0} (b : Bool) (u v w : A) → (if b then u else v) ≡ (if b then u else (if b then w else v))
same_if true u v w = refl
same_if false u v w = refl

swap_if : {A : Type 0} (p q : Bool) (u v w : A) → (p ≡ true → q ≡ true → ⊥) → (if p then u else (if q then v else w)) ≡ (if q then v else (if p then u else w))
swap_if true true u v w apart = absurd (apart refl refl)
swap_if true false u v w apart = refl
swap_if false true u v w apart = refl
swap_if false false u v w apart = refl

apart : (n one other : List ℕ) → bytes_eq one other ≡ false → bytes_eq n one ≡ true → bytes_eq n other ≡ true → ⊥
apart n one other differ a b = true≢false (sym ((bytes_decides one other).1 (sym ((bytes_decides n one).0 a) ∙ (bytes_decides n other).0 b)) ∙ differ)

flipped : (name other : List ℕ) (b : Bool) → bytes_eq name other ≡ b → bytes_eq other name ≡ false → b ≡ false
flipped name other true is differ = absurd (true≢false (sym ((bytes_decides other name).1 (sym ((bytes_decides name other).0 is))) ∙ differ))
flipped name other false is differ = refl

at_front : (b : Bool) (n : ℕ) → 0 ≡ cond (not b) (1 + n) 0 → b ≡ true
at_front true n is = refl
at_front false n is = absurd (omega (arith, is))

behind : (b : Bool) (k n : ℕ) → suc k ≡ cond (not b) (1 + n) 0 → (b ≡ false) × (k ≡ n)
behind true k n is = absurd (omega (arith, is))
behind false k n is = (refl, omega (arith, is))

-- the first slot with the name is filled anew
pub shelf_of-set : (name : List ℕ) (d : Option DiskState) (slots : List Slot) (j : ℕ) (s : Slot) (n : List ℕ) → j ≡ place name slots → j < length slots → s ≡ slice_index_or slots j s
    → shelf_of (slice_set slots j (filled s d)) n ≡ put name (content_of d) (shelf_of slots) n
shelf_of-set name d [] j s n here lt is = absurd (omega (arith, lt))
shelf_of-set name d (x ∷ more) zero s n here lt is =
    let named : name_of x ≡ name = (bytes_decides (name_of x) name).0 (at_front (bytes_eq (name_of x) name) (place name more) here) in
    let also_named : name_of s ≡ name = ap name_of is ∙ named in
    ap (λ (l : List ℕ). if bytes_eq n l then content_of d else shelf_of more n) also_named
    ∙ same_if (bytes_eq n name) (content_of d) (shelf_of more n) (content_of x.disk)
    ∙ ap (λ (l : List ℕ). if bytes_eq n name then content_of d else (if bytes_eq n l then content_of x.disk else shelf_of more n)) (sym named)
shelf_of-set name d (x ∷ more) (suc j) s n here lt is =
    let later = behind (bytes_eq (name_of x) name) j (place name more) here in
    ap (λ (u : Under MemLent). if bytes_eq n (name_of x) then content_of x.disk else u) (shelf_of-set name d more j s n later.1 (omega (arith, lt)) is)
    ∙ swap_if (bytes_eq n (name_of x)) (bytes_eq n name) (content_of x.disk) (content_of d) (shelf_of more n) (apart n (name_of x) name later.0)

-- the first slot with the name says what is under it
pub shelf_of-at : (name : List ℕ) (slots : List Slot) (j : ℕ) (s : Slot) → j ≡ place name slots → j < length slots → s ≡ slice_index_or slots j s → shelf_of slots name ≡ content_of s.disk
shelf_of-at name [] j s here lt is = absurd (omega (arith, lt))
shelf_of-at name (x ∷ more) zero s here lt is =
    let named : name_of x ≡ name = (bytes_decides (name_of x) name).0 (at_front (bytes_eq (name_of x) name) (place name more) here) in
    ap (λ (b : Bool). if b then content_of x.disk else shelf_of more name) ((bytes_decides name (name_of x)).1 (sym named)) ∙ ap (λ (slot : Slot). content_of slot.disk) (sym is)
shelf_of-at name (x ∷ more) (suc j) s here lt is =
    let later = behind (bytes_eq (name_of x) name) j (place name more) here in
    ap (λ (b : Bool). if b then content_of x.disk else shelf_of more name) (flipped name (name_of x) (bytes_eq name (name_of x)) refl later.0) ∙ shelf_of-at name more j s later.1 (omega (arith, lt)) is

never_nothing : (disk : Option DiskState) → content_of disk ≡ Nothing → ⊥
never_nothing None is = subst IsPublished is tt
never_nothing (Some d) is = subst IsPublished is tt

missed : (b : Bool) (disk : Option DiskState) (u : Under MemLent) → (if b then content_of disk else u) ≡ Nothing → (b ≡ false) × (u ≡ Nothing)
missed true disk u is = absurd (never_nothing disk is)
missed false disk u is = (refl, is)

-- a slot with a new name is put behind the others
pub shelf_of-push : (slots : List Slot) (s : Slot) (n : List ℕ) → shelf_of slots (name_of s) ≡ Nothing → shelf_of (slots ++ s ∷ []) n ≡ put (name_of s) (content_of s.disk) (shelf_of slots) n
shelf_of-push [] s n none = refl
shelf_of-push (x ∷ more) s n none =
    let by = missed (bytes_eq (name_of s) (name_of x)) x.disk (shelf_of more (name_of s)) none in
    ap (λ (u : Under MemLent). if bytes_eq n (name_of x) then content_of x.disk else u) (shelf_of-push more s n by.1)
    ∙ swap_if (bytes_eq n (name_of x)) (bytes_eq n (name_of s)) (content_of x.disk) (content_of s.disk) (shelf_of more n) (λ a b. apart n (name_of s) (name_of x) by.0 b a)

-- without a slot there is nothing under a name
beyond : (b : Bool) (m n : ℕ) → 1 + m ≤ cond (not b) (1 + n) 0 → (b ≡ false) × (m ≤ n)
beyond true m n le = absurd (omega (arith, le))
beyond false m n le = (refl, omega (arith, le))

pub shelf_of-none : (name : List ℕ) (slots : List Slot) → length slots ≤ place name slots → shelf_of slots name ≡ Nothing
shelf_of-none name [] le = refl
shelf_of-none name (x ∷ more) le =
    let by = beyond (bytes_eq (name_of x) name) (length more) (place name more) (omega (arith, le)) in
    ap (λ (b : Bool). if b then content_of x.disk else shelf_of more name) (flipped name (name_of x) (bytes_eq name (name_of x)) refl by.0) ∙ shelf_of-none name more by.1

always_published : (disk : Option DiskState) → IsPublished (content_of disk)
always_published None = tt
always_published (Some disk) = tt

-- one slot more publishes its name
pub published-push : (slots : List Slot) (s : Slot) (n : List ℕ) → IsPublished (shelf_of (slots ++ s ∷ []) n) → IsPublished (shelf_of slots n) ⊎ (name_of s ≡ n)
published-push [] s n is = only (bytes_eq n (name_of s)) refl is
  where
    only : (b : Bool) → bytes_eq n (name_of s) ≡ b → IsPublished (if b then content_of s.disk else Nothing) → IsPublished (shelf_of [] n) ⊎ (name_of s ≡ n)
    only true hit is = inr (sym ((bytes_decides n (name_of s)).0 hit))
    only false miss is = inl is
published-push (x ∷ more) s n is = by (bytes_eq n (name_of x)) is (published-push more s n)
  where
    by : (b : Bool) → IsPublished (if b then content_of x.disk else shelf_of (more ++ s ∷ []) n) → (IsPublished (shelf_of (more ++ s ∷ []) n) → IsPublished (shelf_of more n) ⊎ (name_of s ≡ n))
        → IsPublished (if b then content_of x.disk else shelf_of more n) ⊎ (name_of s ≡ n)
    by true is ih = inl (always_published x.disk)
    by false is ih = ih is

pub push-published : (slots : List Slot) (s : Slot) (n : List ℕ) → IsPublished (shelf_of slots n) ⊎ (name_of s ≡ n) → IsPublished (shelf_of (slots ++ s ∷ []) n)
push-published [] s n (inl is) = absurd is
push-published [] s n (inr is) = subst (λ (b : Bool). IsPublished (if b then content_of s.disk else Nothing)) (sym ((bytes_decides n (name_of s)).1 (sym is))) (always_published s.disk)
push-published (x ∷ more) s n is = by (bytes_eq n (name_of x)) is (push-published more s n)
  where
    by : (b : Bool) → IsPublished (if b then content_of x.disk else shelf_of more n) ⊎ (name_of s ≡ n) → (IsPublished (shelf_of more n) ⊎ (name_of s ≡ n) → IsPublished (shelf_of (more ++ s ∷ []) n))
        → IsPublished (if b then content_of x.disk else shelf_of (more ++ s ∷ []) n)
    by true is ih = always_published x.disk
    by false is ih = ih is

-- ---- what `slot_of` answers

found_at : (b : Bool) (k at n : ℕ) → nat_lt k n ≡ b → ◌≡◌ {A = Option ℕ} (Some at) (cond b (Some k) None) → (at ≡ k) × (k < n)
found_at true k at n is found = (ap (λ (o : Option ℕ). unwrap_or o 0) found, grind (arith, nat_tests))
found_at false k at n is found = absurd (true≢false (ap (λ (o : Option ℕ). is_some o) found))

pub found : (name : List ℕ) (slots lent : List Slot) (r : Option ℕ) (at : ℕ) → r ≡ Some at → r ≡ slot_of name lent → lent ≡ slots → (at ≡ place name slots) × (at < length slots)
found name slots lent r at some is same =
    let here = found_at (nat_lt (place name slots) (length slots)) (place name slots) at (length slots) refl (sym some ∙ is ∙ ap (slot_of name) same) in
    (here.0, omega (arith, here))

not_found_at : (b : Bool) (k n : ℕ) → nat_lt k n ≡ b → ◌≡◌ {A = Option ℕ} None (cond b (Some k) None) → n ≤ k
not_found_at true k n is found = absurd (true≢false (sym (ap (λ (o : Option ℕ). is_some o) found)))
not_found_at false k n is found = grind (arith, nat_tests)

pub not_found : (name : List ℕ) (slots lent : List Slot) (r : Option ℕ) → r ≡ None → r ≡ slot_of name lent → lent ≡ slots → shelf_of slots name ≡ Nothing
not_found name slots lent r none is same =
    shelf_of-none name slots (not_found_at (nat_lt (place name slots) (length slots)) (place name slots) (length slots) refl (sym none ∙ is ∙ ap (slot_of name) same))

-- the shelf after the found slot is filled anew
pub put_found : (name : List ℕ) (d : Option DiskState) (slots lent : List Slot) (r : Option ℕ) (at : ℕ) (s : Slot) → r ≡ Some at → r ≡ slot_of name lent → lent ≡ slots → s ≡ slice_index_or slots at s
    → shelf_of (slice_set slots at (filled s d)) ≡ put name (content_of d) (shelf_of slots)
put_found name d slots lent r at s some is same here =
    let by = found name slots lent r at some is same in
    λ i n. shelf_of-set name d slots at s n by.0 by.1 here i

pub stands_found : (name : List ℕ) (slots lent : List Slot) (r : Option ℕ) (at : ℕ) (s : Slot) → r ≡ Some at → r ≡ slot_of name lent → lent ≡ slots → s ≡ slice_index_or slots at s → shelf_of slots name ≡ content_of s.disk
stands_found name slots lent r at s some is same here = let by = found name slots lent r at some is same in shelf_of-at name slots at s by.0 by.1 here

encodes : (name : List ℕ) → IsUtf8 name → (t : List ℕ) → t ≡ chars name → encode_utf8_all t ≡ name
encodes name utf8 t is = ap encode_utf8_all is ∙ sym (encodes-chars name utf8)

-- the shelf after a slot with a new name is put behind the others
pub push_found : (name t : List ℕ) (slots lent after : List Slot) (r : Option ℕ) → r ≡ None → r ≡ slot_of name lent → lent ≡ slots → IsUtf8 name → t ≡ chars name
    → after ≡ slots ++ record { name = t; disk = None } ∷ [] → shelf_of after ≡ put name Lent (shelf_of slots)
push_found name t slots lent after r none is same utf8 text after_is =
    let s : Slot = record { name = t; disk = None } in
    let named : name_of s ≡ name = encodes name utf8 t text in
    let free : shelf_of slots (name_of s) ≡ Nothing = ap (shelf_of slots) named ∙ not_found name slots lent r none is same in
    ap shelf_of after_is ∙ (λ i n. shelf_of-push slots s n free i) ∙ ap (λ (l : List ℕ). put {D = MemLent} l Lent (shelf_of slots)) named

-- what a crash inside a publish leaves
pub left_inside : (name : List ℕ) (before after : Shelf MemLent) → after ≡ put name Lent before → (other : List ℕ) (u : Under MemLent) → (u ≡ before other) ⊎ (u ≡ after other)
    → (u ≡ before other) ⊎ ((other ≡ name) × (u ≡ Lent))
left_inside name before after is other u (inl old) = inl old
left_inside name before after is other u (inr new) = by (bytes_eq other name) refl (new ∙ ap (λ (shelf : Shelf MemLent). shelf other) is)
  where
    by : (b : Bool) → bytes_eq other name ≡ b → u ≡ (if b then Lent else before other) → (u ≡ before other) ⊎ ((other ≡ name) × (u ≡ Lent))
    by true hit is_lent = inr ((bytes_decides other name).0 hit, is_lent)
    by false miss is_old = inl is_old

-- ---- the names of slots, one after the other

pub none_listed : (names : List (List ℕ)) → names ≡ [] → ArePublished {D = MemLent} (shelf_of []) (map encode_utf8_all names)
none_listed names is = record { each = λ n there. absurd (nowhere names n is there); all = λ n published. absurd published }
  where
    nowhere : (names : List (List ℕ)) (n : List ℕ) → names ≡ [] → Contains (map encode_utf8_all names) n → ⊥
    nowhere names n is there = empty (subst (λ (l : List (List ℕ)). Contains (map encode_utf8_all l) n) is there)
      where
        empty : Contains {X = List ℕ} [] n → ⊥
        empty there = omega (arith, there.1)

take_one : (slots : List Slot) (i : ℕ) (s : Slot) → i < length slots → s ≡ slice_index_or slots i s → take (suc i) slots ≡ take i slots ++ s ∷ []
take_one [] i s lt is = absurd (omega (arith, lt))
take_one (x ∷ more) zero s lt is = ap (λ (y : Slot). y ∷ []) (sym is)
take_one (x ∷ more) (suc i) s lt is = ap (λ (l : List Slot). x ∷ l) (take_one more i s (omega (arith, lt)) is)

pub listed_more : (slots : List Slot) (i : ℕ) (s : Slot) (names after : List (List ℕ)) (text : List ℕ) → i < length slots → s ≡ slice_index_or slots i s → text ≡ s.name
    → ArePublished (shelf_of (take i slots)) (map encode_utf8_all names)
    → ((other : List ℕ) → (Contains (map encode_utf8_all after) other) ↔ (Contains (map encode_utf8_all names) other ⊎ (encode_utf8_all text ≡ other)))
    → ArePublished (shelf_of (take (i + 1) slots)) (map encode_utf8_all after)
listed_more slots i s names after text lt is text_is so added =
    let next : i + 1 ≡ suc i = omega arith in
    subst (λ (l : List Slot). ArePublished (shelf_of l) (map encode_utf8_all after)) (sym (ap (λ (n : ℕ). take n slots) next ∙ take_one slots i s lt is)) (record {
      each = λ n there. push-published (take i slots) s n (⊎_elim (λ a. inl (so.each n a)) (λ e. inr (ap encode_utf8_all (sym text_is) ∙ e)) ((added n).0 there));
      all = λ n published. (added n).1 (⊎_elim (λ a. inl (so.all n a)) (λ e. inr (ap encode_utf8_all text_is ∙ e)) (published-push (take i slots) s n published));
    })
