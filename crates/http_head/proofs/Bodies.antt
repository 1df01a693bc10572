-- What a whole body is, by its framing.
use Rattle.std.proofs.Common.{◌≡◌, ◌⊎◌, ◌<◌, ◌≤◌, ◌-◌, ℕ, List, [], ◌∷◌, ◌++◌, length, take, Some, arith, ap, sym, subst, refl, ◌∙◌, inl, inr, append_assoc, append-nil}
use Rattle.std.proofs.lemmas.Grind.{common_steps}
use Rattle.http_head.specs.declared.body.Framing.TheVariants.{Length, Chunks}
use Rattle.http_head.specs.declared.body.Place.{Place}
use Rattle.http_head.specs.declared.body.Place.TheVariants.{Counted, Line, Chunk, ChunkReturn, ChunkFeed, LastReturn, LastFeed, Whole, Malformed, TooLarge}
use Rattle.http_head.specs.declared.body.Fed.{Fed}
use Rattle.http_head.specs.declared.body.Framing.{Framing}
use Rattle.http_head.specs.declared.body.Fed.TheVariants.{More, Done, Bad}
use Rattle.http_head.specs.Bodies.{Reading, Goes, Feeds, fresh, counted, settled, IsBodyOf}
use Rattle.http_head.specs.Chunked.{IsChunked}
use Rattle.http_head.proofs.Chunking.{reading, whole_stays, from_is, chunked_goes, goes_chunked}
use Rattle.http_head.proofs.Cutting.{each_as_whole, outcomes_are_one}
use Rattle.http_head.proofs.Goings.{Goes-counted, counted_more}
use Rattle.http_head.proofs.Settling.{none_is}

done_place : (place : Place) (used told : ℕ) → settled place used ≡ Some (Done told) → place ≡ Whole
done_place (Counted left) used told e = absurd (none_is _ e)
done_place Line used told e = absurd (none_is _ e)
done_place (Chunk left) used told e = absurd (none_is _ e)
done_place ChunkReturn used told e = absurd (none_is _ e)
done_place ChunkFeed used told e = absurd (none_is _ e)
done_place LastReturn used told e = absurd (none_is _ e)
done_place LastFeed used told e = absurd (none_is _ e)
done_place Whole used told e = refl
done_place Malformed used told e = absurd (cc)
done_place TooLarge used told e = absurd (cc)

-- a body whose length was told
none_or_some : (n : ℕ) → (n ≡ 0) ⊎ (0 < n)
none_or_some n = grind (arith, common_steps)

record IsAll (bytes line body : List ℕ) (n : ℕ) (t : Reading) : Type 0 where
  pub count : length bytes ≡ n
  pub is : t ≡ reading Whole line (body ++ bytes)

all_none : (bytes line body : List ℕ) (t : Reading) → Goes (reading Whole line body) bytes t → IsAll bytes line body 0 t
all_none bytes line body t goes = let e = whole_stays bytes line body t goes in record {
  count = ap length e.0;
  is = e.1 ∙ ap (λ (l : List ℕ). reading Whole line l) (sym (append-nil body) ∙ ap (λ (l : List ℕ). body ++ l) (sym e.0));
}

all_more : (byte : ℕ) (bytes line body : List ℕ) (n : ℕ) (t : Reading) → 0 < n → IsAll bytes line (body ++ byte ∷ []) (n - 1) t → IsAll (byte ∷ bytes) line body n t
all_more byte bytes line body n t some x = record {
  count = let e = x.count in omega (arith, e);
  is = x.is ∙ ap (λ (l : List ℕ). reading Whole line l) (append_assoc body (byte ∷ []) bytes);
}

goes_all : (bytes line body : List ℕ) (n : ℕ) (t : Reading) → t.place ≡ Whole → Goes (reading (counted n) line body) bytes t → IsAll bytes line body n t
goes_all [] line body n t whole goes = elim (none_or_some n) [
  | inl none ↦ subst (λ (k : ℕ). IsAll [] line body k t) (sym none)
      (all_none [] line body t (from_is _ _ t [] (ap (λ (k : ℕ). reading (counted k) line body) none) goes))
  | inr some ↦ let e : t.place ≡ counted n = ap (λ (r : Reading). r.place) goes in
      let f : counted n ≡ Counted n = counted_more n some in absurd (cc (e, f, whole))
]
goes_all (byte ∷ bytes) line body n t whole goes = elim (none_or_some n) [
  | inl none ↦ subst (λ (k : ℕ). IsAll (byte ∷ bytes) line body k t) (sym none)
      (all_none (byte ∷ bytes) line body t (from_is _ _ t (byte ∷ bytes) (ap (λ (k : ℕ). reading (counted k) line body) none) goes))
  | inr some ↦ let g = from_is _ (reading (Counted n) line body) t (byte ∷ bytes) (ap (λ (p : Place). reading p line body) (counted_more n some)) goes in
      all_more byte bytes line body n t some (goes_all bytes line (body ++ byte ∷ []) (n - 1) t whole (from_is g.0 _ t bytes g.1 g.2))
]

count_taken : (bytes : List ℕ) (n : ℕ) → n ≤ length bytes → length (take n bytes) ≡ n
count_taken bytes n within = grind (arith, common_steps)

none_after : (n m : ℕ) → m ≡ n → counted (n - m) ≡ Whole
none_after n m is = grind (arith, common_steps)

all_goes : (bytes : List ℕ) (n : ℕ) → n ≤ length bytes → (n ≡ 0) ⊎ (0 < n) → Goes (reading (counted n) [] []) (take n bytes) (reading Whole [] (take n bytes))
all_goes bytes n within (inl none) = subst (λ (k : ℕ). Goes (reading (counted k) [] []) (take k bytes) (reading Whole [] (take k bytes))) (sym none) refl
all_goes bytes n within (inr some) =
    let count = count_taken bytes n within in
    subst (λ (p : Place). Goes (reading p [] []) (take n bytes) (reading Whole [] (take n bytes))) (sym (counted_more n some))
    (subst (λ (p : Place). Goes (reading (Counted n) [] []) (take n bytes) (reading p [] (take n bytes))) (none_after n (length (take n bytes)) count)
    (Goes-counted n [] [] (take n bytes) (omega (arith, count)) (λ _. omega (arith, count))))

-- both ways, for each framing
pub length_found : (n used : ℕ) (bytes body : List ℕ) → IsBodyOf (Length n) bytes used body → (used ≡ n) × (n ≤ length bytes) × (body ≡ take n bytes)
length_found n used bytes body (t, x, is) =
    let a = goes_all (take used bytes) [] [] n t (done_place t.place used used x.answer) x.goes in
    let e : used ≡ n = sym (count_taken bytes used x.within) ∙ a.count in
    let w : used ≤ length bytes = x.within in
    (e, omega (arith, e, w), sym is ∙ ap (λ (r : Reading). r.body) a.is ∙ ap (λ (k : ℕ). take k bytes) e)

pub length_holds : (n used : ℕ) (bytes body : List ℕ) → (used ≡ n) × (n ≤ length bytes) × (body ≡ take n bytes) → IsBodyOf (Length n) bytes used body
length_holds n used bytes body (is, within, body_is) =
    subst (λ (k : ℕ). IsBodyOf (Length n) bytes k body) (sym is)
    (reading Whole [] (take n bytes), record { within = within; goes = all_goes bytes n within (none_or_some n); answer = refl }, sym body_is)

pub chunks_found : (used : ℕ) (bytes body : List ℕ) → IsBodyOf Chunks bytes used body → (used ≤ length bytes) × IsChunked (take used bytes) body
chunks_found used bytes body (t, x, is) =
    let e : t ≡ reading Whole t.line t.body = ap (λ (p : Place). reading p t.line t.body) (done_place t.place used used x.answer) in (
      x.within,
      subst (IsChunked (take used bytes)) is (goes_chunked (take used bytes) t.body t.line
          (subst (λ (r : Reading). Goes (reading Line [] []) (take used bytes) r) e x.goes)),
    )

pub chunks_hold : (used : ℕ) (bytes body : List ℕ) → (used ≤ length bytes) × IsChunked (take used bytes) body → IsBodyOf Chunks bytes used body
chunks_hold used bytes body (within, x) =
    (reading Whole [] body, record { within = within; goes = chunked_goes (take used bytes) body x; answer = refl }, refl)

-- what is refused is no body, however it goes on
bad_not_more : (status : ℕ) → ◌≡◌ {A = Fed} (Bad status) More → ⊥
bad_not_more status e = cc

bad_not_done : (status used : ℕ) → ◌≡◌ {A = Fed} (Bad status) (Done used) → ⊥
bad_not_done status used e = cc

pub refused_stays : (framing : Framing) (bytes more body : List ℕ) (t : Reading) (status used : ℕ) → Feeds (fresh framing) bytes t (Bad status)
    → IsBodyOf framing (bytes ++ more) used body → ⊥
refused_stays framing bytes more body t status used x (u, y, is) =
    let whole : Feeds (fresh framing) (bytes ++ more) t (Bad status) =
    subst (λ (l : List ℕ). Feeds (fresh framing) (bytes ++ l) t (Bad status)) (append-nil more)
    (each_as_whole (bytes ∷ more ∷ []) (fresh framing) t (Bad status) (inl (x, bad_not_more status))) in
    bad_not_done status used (outcomes_are_one (fresh framing) t u (bytes ++ more) (Bad status) (Done used) whole y).1
