-- Runs of bytes of one kind, and single bytes.
use Rattle.std.proofs.Common.{◌≡◌, ℕ, ◌+◌, ◌≤◌, Bool, true, false, cond, eqb, ◌&&◌, List, [], ◌∷◌, ◌++◌, length, take, drop, Option, Some, None, refl, sym, ap, subst, ◌∙◌, add-one, arith}
use Rattle.std.proofs.lemmas.Bool.{false≢true, eqb-true}
use Rattle.std.proofs.lemmas.Bool.Decides.{nat_tests}
use Rattle.std.proofs.lemmas.List.{take-append-drop, take_all, drop_at, append-nil}
use Rattle.std.specs.Str.{bytes_eq}
use Rattle.envelope_grammar.specs.Bytes.{is_white, every, run_len}
use Rattle.envelope_grammar.specs.Grammar.{begins, White}
use Rattle.envelope_grammar.specs.Reading.{◌>>=◌, past, past_white}

pub and_parts : (a b : Bool) → a && b ≡ true → (a ≡ true) × (b ≡ true)
and_parts true b h = (refl, h)
and_parts false b h = absurd (false≢true h)

pub and_both : (a b : Bool) → a ≡ true → b ≡ true → a && b ≡ true
and_both true b p q = q
and_both false b p q = absurd (false≢true p)

-- a run up to what isn't of the kind
pub run_len-append : (p : ℕ → Bool) (a more : List ℕ) → every p a ≡ true → begins p more ≡ false → run_len p (a ++ more) ≡ length a
run_len-append p [] [] h stop = refl
run_len-append p [] (b ∷ more) h stop = rw stop refl
run_len-append p (b ∷ a) more h stop =
    let parts = and_parts (p b) (every p a) h in
    rw (parts.0, run_len-append p a more parts.1 stop) (omega arith)

by_test : (p : ℕ → Bool) (b : ℕ) (bytes : List ℕ) (t : Bool) → p b ≡ t → every p (take (run_len p bytes) bytes) ≡ true
    → every p (take (cond t (run_len p bytes + 1) 0) (b ∷ bytes)) ≡ true
by_test p b bytes true e h = rw add-one (and_both (p b) (every p (take (run_len p bytes) bytes)) e h)
by_test p b bytes false e h = refl

pub run_every : (p : ℕ → Bool) (bytes : List ℕ) → every p (take (run_len p bytes) bytes) ≡ true
run_every p [] = refl
run_every p (b ∷ bytes) = by_test p b bytes (p b) refl (run_every p bytes)

stops_by_test : (p : ℕ → Bool) (b : ℕ) (bytes : List ℕ) (t : Bool) → p b ≡ t → begins p (drop (run_len p bytes) bytes) ≡ false
    → begins p (drop (cond t (run_len p bytes + 1) 0) (b ∷ bytes)) ≡ false
stops_by_test p b bytes true e h = rw add-one h
stops_by_test p b bytes false e h = e

pub run_stops : (p : ℕ → Bool) (bytes : List ℕ) → begins p (drop (run_len p bytes) bytes) ≡ false
run_stops p [] = refl
run_stops p (b ∷ bytes) = stops_by_test p b bytes (p b) refl (run_stops p bytes)

-- white space
pub past_white-append : (w more : List ℕ) → White w → begins is_white more ≡ false → past_white (w ++ more) ≡ more
past_white-append w more h stop = ap (λ (n : ℕ). drop n (w ++ more)) (run_len-append is_white w more h stop) ∙ drop_at w more (length w) refl

pub past_white-takes : (bytes : List ℕ) → (w : List ℕ) × White w × (bytes ≡ w ++ past_white bytes)
past_white-takes bytes = (take (run_len is_white bytes) bytes, run_every is_white bytes, sym (take-append-drop (run_len is_white bytes) bytes))

-- what rejects white space and what follows it rejects both
pub begins-append : (p : ℕ → Bool) (w more : List ℕ) → ((c : ℕ) → is_white c ≡ true → p c ≡ false) → White w → begins p more ≡ false → begins p (w ++ more) ≡ false
begins-append p [] more rejects h stop = stop
begins-append p (c ∷ w) more rejects h stop = rejects c (and_parts (is_white c) (every is_white w) h).0

pub eqb_same : (n : ℕ) → eqb n n ≡ true
eqb_same n = grind (arith, nat_tests)

pub run_len-all : (p : ℕ → Bool) (a : List ℕ) → every p a ≡ true → run_len p a ≡ length a
run_len-all p a h = ap (run_len p) (sym (append-nil a)) ∙ run_len-append p a [] h refl

pub every_from_run : (p : ℕ → Bool) (a : List ℕ) → run_len p a ≡ length a → every p a ≡ true
every_from_run p a h =
    let whole : take (run_len p a) a ≡ a = take_all (run_len p a) a (omega arith) in
    subst (λ (l : List ℕ). every p l ≡ true) whole (run_every p a)

-- one byte
pub past-here : (b : ℕ) (bytes : List ℕ) → past b (b ∷ bytes) ≡ Some bytes
past-here b bytes = rw (eqb_same b) refl

past_takes_by : (b c : ℕ) (bytes rest : List ℕ) (t : Bool) → eqb c b ≡ t → cond t (Some bytes) None ≡ Some rest → c ∷ bytes ≡ b ∷ rest
past_takes_by b c bytes rest true e h = let same = eqb-true c b e in cc
past_takes_by b c bytes rest false e h = absurd cc

pub past_takes : (b : ℕ) (bytes rest : List ℕ) → past b bytes ≡ Some rest → bytes ≡ b ∷ rest
past_takes b [] rest h = absurd cc
past_takes b (c ∷ bytes) rest h = past_takes_by b c bytes rest (eqb c b) refl h

pub past-elsewhere : (b : ℕ) (bytes : List ℕ) → begins (λ c. eqb c b) bytes ≡ false → past b bytes ≡ None
past-elsewhere b [] h = refl
past-elsewhere b (c ∷ bytes) h = rw h refl

-- the value of a step that did not fail
pub bind_some : {A B : Type 0} (r : Option A) (f : A → Option B) (y : B) → (r >>= f) ≡ Some y → (x : A) × (r ≡ Some x) × (f x ≡ Some y)
bind_some (Some x) f y e = (x, refl, e)
bind_some None f y e = absurd cc

-- a test that did not fail
pub guard_some : {A : Type 0} (b : Bool) (o : Option A) (y : A) → cond b o None ≡ Some y → (b ≡ true) × (o ≡ Some y)
guard_some true o y e = (refl, e)
guard_some false o y e = absurd cc

pub some_is : {A : Type 0} (x y : A) → Some x ≡ Some y → x ≡ y
some_is x y e = cc

run_le_by : (n m : ℕ) (t : Bool) → n ≤ m → cond t (n + 1) 0 ≤ m + 1
run_le_by n m true h = omega arith
run_le_by n m false h = omega arith

pub run_len_le : (p : ℕ → Bool) (bytes : List ℕ) → run_len p bytes ≤ length bytes
run_len_le p [] = omega arith
run_len_le p (b ∷ bytes) = let h = run_le_by (run_len p bytes) (length bytes) (p b) (run_len_le p bytes) in omega (arith, h)

pub pair_is : {A B : Type 0} (x y : A × B) → Some x ≡ Some y → (x.0 ≡ y.0) × (x.1 ≡ y.1)
pair_is {A} {B} x y e = let p : x ≡ y = some_is x y e in (ap (λ (q : A × B). q.0) p, ap (λ (q : A × B). q.1) p)

pub bytes_same : (a : List ℕ) → bytes_eq a a ≡ true
bytes_same [] = refl
bytes_same (b ∷ a) = rw (eqb_same b) (bytes_same a)

bytes_eq_by : (b c : ℕ) (a d : List ℕ) → eqb b c && bytes_eq a d ≡ true → (bytes_eq a d ≡ true → a ≡ d) → b ∷ a ≡ c ∷ d
bytes_eq_by b c a d h more =
    let parts = and_parts (eqb b c) (bytes_eq a d) h in
    let first = eqb-true b c parts.0 in
    let others = more parts.1 in
    cc

pub bytes_eq_true : (a d : List ℕ) → bytes_eq a d ≡ true → a ≡ d
bytes_eq_true [] [] h = refl
bytes_eq_true [] (c ∷ d) h = absurd (false≢true h)
bytes_eq_true (b ∷ a) [] h = absurd (false≢true h)
bytes_eq_true (b ∷ a) (c ∷ d) h = bytes_eq_by b c a d h (bytes_eq_true a d)
