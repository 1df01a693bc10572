-- The loops over Requests and SubRequests, item by item.
use Rattle.std.proofs.Common.{◌≡◌, ℕ, ◌+◌, ◌-◌, ◌<◌, ◌≤◌, true, false, ltb, List, [], ◌∷◌, ◌++◌, length, get_or, drop, Option, Some, None, Result, Ok, Err, refl, sym, ap, ◌∙◌, append_assoc, arith}
use Rattle.std.proofs.lemmas.Bool.{lt-ltb, le-ltb}
use Rattle.std.proofs.lemmas.Bool.Decides.{nat_tests}
use Rattle.std.proofs.lemmas.List.{drop_more, drop_all, append-nil}
use Rattle.envelope_grammar.specs.declared.raw.RawRequest.{RawRequest}
use Rattle.envelope_grammar.specs.declared.raw.RawSub.{RawSub}
use Rattle.std.specs.Prelude.{codes}
use Rattle.envelope_grammar.specs.Front.{text_at}
use Rattle.envelope_grammar.specs.declared.tag.Attribute.{Attribute}
use Rattle.envelope_read.specs.Asked.{what_of, data_attributes, data_text, sub_of}
use Rattle.envelope_read.specs.Depending.{depend_of}
use Rattle.envelope_read.specs.Lookup.{bytes_of, text_of}
use Rattle.envelope_read.specs.declared.collection.Depend.{Depend}
use Rattle.envelope_read.specs.declared.collection.What.{What}
use Rattle.envelope_read.specs.Verdicts.{most_subs, sub_count, then_ok, subs_from, ask_with, asks_from, verdict_by, verdict}
use Rattle.envelope_read.specs.declared.collection.Ask.{Ask}
use Rattle.envelope_read.specs.declared.collection.SubAsk.{SubAsk}

here : {A : Type 0} (xs : List A) (i : ℕ) (x : A) → x ≡ get_or xs i x → i < length xs → drop i xs ≡ x ∷ drop (i + 1) xs
here {A} xs i x is lt = drop_more xs i x lt ∙ ap (λ (y : A). y ∷ drop (i + 1) xs) (sym is)

-- ---- how many

shifted : (left n more : ℕ) → n ≤ left → ltb (left - n) more ≡ ltb left (n + more)
shifted left n more h = grind (arith, nat_tests)

module _ (requests : List RawRequest) (i : ℕ) (x : RawRequest) (is : x ≡ get_or requests i x) (lt : i < length requests) where
  pub counted : sub_count (drop i requests) ≡ length x.subs + sub_count (drop (i + 1) requests)
  unfolding sub_count
  counted = ap sub_count (here requests i x is lt)

  pub over_here : (left : ℕ) → left < length x.subs → ltb left (sub_count (drop i requests)) ≡ true
  over_here left over = lt-ltb _ _ (omega (arith, counted))

  pub fewer_left : (left : ℕ) → length x.subs ≤ left → ltb (left - length x.subs) (sub_count (drop (i + 1) requests)) ≡ ltb left (sub_count (drop i requests))
  fewer_left left fits = shifted left (length x.subs) (sub_count (drop (i + 1) requests)) fits ∙ ap (ltb left) (sym counted)

pub none_left : (requests : List RawRequest) (i left : ℕ) → length requests ≤ i → ltb left (sub_count (drop i requests)) ≡ false
unfolding sub_count
none_left requests i left le = ap (λ (rs : List RawRequest). ltb left (sub_count rs)) (drop_all i requests le) ∙ le-ltb _ _ (omega arith)

-- ---- what was read, and what is still read

abbrev pub prepended : {A : Type 0} → List A → Result (List A) ℕ → Result (List A) ℕ
prepended front read = then_ok read (λ xs. Ok (front ++ xs))

prepended-nil : {A : Type 0} (read : Result (List A) ℕ) → prepended [] read ≡ read
prepended-nil (Ok xs) = refl
prepended-nil (Err n) = refl

longer : {A : Type 0} (front : List A) (y : A) (read : Result (List A) ℕ) → prepended front (then_ok read (λ xs. Ok (y ∷ xs))) ≡ prepended (front ++ y ∷ []) read
longer {A} front y (Ok xs) = ap (λ (l : List A). Ok l) (sym (append_assoc front (y ∷ []) xs))
longer front y (Err n) = refl

pub subs_start : (n : ℕ) (subs : List RawSub) → prepended [] (subs_from (n + 0) (drop 0 subs)) ≡ subs_from n subs
subs_start n subs = let none : n + 0 ≡ n = omega arith in rw none (prepended-nil (subs_from n subs))

module _ (subs : List RawSub) (i n : ℕ) (x : RawSub) (is : x ≡ get_or subs i x) (lt : i < length subs) (front : List SubAsk) where
  pub sub_more : (y : SubAsk) → sub_of x ≡ Some y → prepended front (subs_from n (drop i subs)) ≡ prepended (front ++ y ∷ []) (subs_from (n + 1) (drop (i + 1) subs))
  unfolding subs_from
  sub_more y h = ap (λ (l : List RawSub). prepended front (subs_from n l)) (here subs i x is lt) ∙ rw h (longer front y (subs_from (n + 1) (drop (i + 1) subs)))

  pub sub_bad : sub_of x ≡ None → prepended front (subs_from n (drop i subs)) ≡ Err n
  unfolding subs_from
  sub_bad h = ap (λ (l : List RawSub). prepended front (subs_from n l)) (here subs i x is lt) ∙ rw h refl

pub subs_end : (subs : List RawSub) (i n : ℕ) (front : List SubAsk) → length subs ≤ i → prepended front (subs_from n (drop i subs)) ≡ Ok front
unfolding subs_from
subs_end subs i n front le = ap (λ (l : List RawSub). prepended front (subs_from n l)) (drop_all i subs le) ∙ ap (λ (l : List SubAsk). Ok l) (append-nil front)

pub asks_start : (requests : List RawRequest) → prepended [] (asks_from 0 requests) ≡ asks_from 0 requests
asks_start requests = prepended-nil (asks_from 0 requests)

module _ (requests : List RawRequest) (i n : ℕ) (x : RawRequest) (is : x ≡ get_or requests i x) (lt : i < length requests) (front : List Ask) where
  pub ask_more : (ys : List SubAsk) → subs_from n x.subs ≡ Ok ys
      → prepended front (asks_from n (drop i requests)) ≡ prepended (front ++ ask_with x ys ∷ []) (asks_from (n + length x.subs) (drop (i + 1) requests))
  unfolding asks_from
  ask_more ys h = ap (λ (l : List RawRequest). prepended front (asks_from n l)) (here requests i x is lt) ∙ rw h (longer front (ask_with x ys) (asks_from (n + length x.subs) (drop (i + 1) requests)))

  pub ask_bad : (e : ℕ) → subs_from n x.subs ≡ Err e → prepended front (asks_from n (drop i requests)) ≡ Err e
  unfolding asks_from
  ask_bad e h = ap (λ (l : List RawRequest). prepended front (asks_from n l)) (here requests i x is lt) ∙ rw h refl

pub asks_end : (requests : List RawRequest) (i n : ℕ) (front : List Ask) → length requests ≤ i → prepended front (asks_from n (drop i requests)) ≡ Ok front
unfolding asks_from
asks_end requests i n front le = ap (λ (l : List RawRequest). prepended front (asks_from n l)) (drop_all i requests le) ∙ ap (λ (l : List Ask). Ok l) (append-nil front)

-- ---- one subrequest

pub sub_is : (sub : RawSub) (kind text : List ℕ) (a b : List Attribute) (o : Option What) (what : What) (token : List ℕ) (depend : Depend)
    → a ≡ sub.attributes → kind ≡ bytes_of (codes "Type") a → b ≡ data_attributes sub.payload → text ≡ data_text sub.payload → o ≡ what_of kind b text → o ≡ Some what
    → token ≡ text_of (codes "SubRequestToken") a → depend ≡ depend_of a → ◌≡◌ {A = Option SubAsk} (Some (record { token = token; depend = depend; what = what })) (sub_of sub)
unfolding sub_of
sub_is sub kind text a b o what token depend ea ek eb et eo es etoken edepend =
    let h : what_of kind b text ≡ Some what = sym eo ∙ es in
    let read = rw (ek, eb, et, ea) at h in
    rw (etoken, edepend, ea, read) refl

-- ---- the verdict

pub none_verdict : (text : List ℕ) → text_at text ≡ None → verdict text ≡ Err 400
unfolding verdict
none_verdict text h = rw h refl

pub many_verdict : (text : List ℕ) (requests : List RawRequest) → text_at text ≡ Some requests → ltb most_subs (sub_count requests) ≡ true → verdict text ≡ Err 413
unfolding verdict
many_verdict text requests h many = rw (h, many) refl

pub read_verdict : (text : List ℕ) (requests : List RawRequest) (r : Result (List Ask) ℕ) → text_at text ≡ Some requests → ltb most_subs (sub_count requests) ≡ false
    → asks_from 0 requests ≡ r → verdict text ≡ verdict_by r
unfolding verdict
read_verdict text requests r h few read = rw (h, few, read) refl
