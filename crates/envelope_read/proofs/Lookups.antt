-- The loop that looks for an attribute.
use Rattle.std.proofs.Common.{◌≡◌, ℕ, ◌+◌, ◌<◌, ◌≤◌, true, false, List, [], ◌∷◌, length, get_or, drop, Option, Some, None, refl, sym, ap, ◌∙◌}
use Rattle.std.proofs.lemmas.List.{drop_more, drop_all}
use Rattle.envelope_grammar.specs.declared.tag.Attribute.{Attribute}
use Rattle.envelope_read.specs.Lookup.{is_called, value_of, first_of}
use Rattle.envelope_read.specs.Depending.{depend_on, depend_from}
use Rattle.envelope_read.specs.declared.collection.DependWord.{DependWord}

pub found_here : (word : List ℕ) (attributes : List Attribute) (i : ℕ) (x : Attribute) → x ≡ get_or attributes i x → i < length attributes → true ≡ is_called word x.name
    → value_of word (drop i attributes) ≡ Some x.value
unfolding value_of
found_here word attributes i x is lt h =
    ap (value_of word) (drop_more attributes i x lt ∙ ap (λ (y : Attribute). y ∷ drop (i + 1) attributes) (sym is)) ∙ rw (← h) refl

pub found_later : (word : List ℕ) (attributes : List Attribute) (i : ℕ) (x : Attribute) → x ≡ get_or attributes i x → i < length attributes → false ≡ is_called word x.name
    → value_of word (drop i attributes) ≡ value_of word (drop (i + 1) attributes)
unfolding value_of
found_later word attributes i x is lt h =
    ap (value_of word) (drop_more attributes i x lt ∙ ap (λ (y : Attribute). y ∷ drop (i + 1) attributes) (sym is)) ∙ rw (← h) refl

pub found_never : (word : List ℕ) (attributes : List Attribute) (i : ℕ) → length attributes ≤ i → value_of word (drop i attributes) ≡ None
unfolding value_of
found_never word attributes i le = ap (value_of word) (drop_all i attributes le)

-- ---- what is carried, and on what one depends

pub first_none : (a b c : Option (List ℕ)) → a ≡ None → b ≡ None → first_of a (first_of b c) ≡ c
first_none a b c e f = rw (e, f) refl

pub has_token : (token : List ℕ) (word : Option DependWord) → ¬ (token ≡ []) → depend_on token word ≡ depend_from token word
has_token [] word some = absurd (some refl)
has_token (c ∷ token) word some = refl
