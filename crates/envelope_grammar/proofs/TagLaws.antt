-- Tags: what is read is a tag, and a tag is read.
use Rattle.std.proofs.Common.{◌≡◌, ℕ, ◌≤◌, ◌⊎◌, inl, inr, Bool, true, false, cond, eqb, ◌&&◌, ◌||◌, List, [], ◌∷◌, ◌++◌, length, take, Option, Some, None, refl, sym, ap, subst, ◌∙◌, append_assoc, arith}
use Rattle.std.specs.Str.{bytes_eq}
use Rattle.std.proofs.lemmas.Bool.{eqb-true, eqb-false, ne_eqb, false≢true}
use Rattle.std.proofs.lemmas.List.{length-append, length-take, take-append-drop}
use Rattle.envelope_grammar.specs.declared.tag.Name.{Name}
use Rattle.envelope_grammar.specs.declared.tag.Attribute.{Attribute}
use Rattle.envelope_grammar.specs.declared.tag.Tag.{Tag}
use Rattle.envelope_grammar.specs.Bytes.{is_white, is_name_byte, is_name_start, every, run_len}
use Rattle.envelope_grammar.specs.Grammar.{◌▸◌, Is, begins, White, Space, SpellsName, SpellsAttribute, SpellsAttributes, tag_end, SpellsTag, SpellsEndName}
use Rattle.envelope_grammar.specs.Reading.{◌>>=◌, past, past_white, name_at, attribute_at, Step, More, Last, one_more, is_tag_end, attribute_step, all_of, tag_end_from, tag_end_at, tag_at, end_tag_at}
use Rattle.envelope_grammar.proofs.Runs.{and_parts, run_len-append, run_every, run_len_le, past_white-append, past_white-takes, past_takes, bind_some, guard_some, some_is, pair_is, bytes_same, bytes_eq_true}
use Rattle.envelope_grammar.proofs.Names.{StopsName, name_again, name_takes}
use Rattle.envelope_grammar.proofs.Attributes.{or_cases, rejects_white, stops_name, regroup, attribute_again, attribute_takes}
use Rattle.envelope_grammar.proofs.Steps.{ReadsSteps, all_again, all_takes}

-- ---- what a name begins with

name_begins : (name : Name) (b more : List ℕ) (p : ℕ → Bool) → ((c : ℕ) → is_name_start c ≡ true → p c ≡ false) → SpellsName name b → begins p (b ++ more) ≡ false
name_begins name b more p rejects (inl h) = rw h.2 (word name.local more h.1.start)
  where
    word : (w rest : List ℕ) → begins is_name_start w ≡ true → begins p (w ++ rest) ≡ false
    word [] rest s = absurd (false≢true s)
    word (c ∷ w) rest s = rejects c s
name_begins name b more p rejects (inr h) = rw h.2 (word name.prefix h.0.start)
  where
    word : (w : List ℕ) → begins is_name_start w ≡ true → begins p ((w ++ 58 ∷ name.local) ++ more) ≡ false
    word [] s = absurd (false≢true s)
    word (c ∷ w) s = rejects c s

-- a test of single bytes that are no letters
rejects_start : (p : ℕ → Bool) (n : ℕ) → is_name_start n ≡ false → (c : ℕ) → is_name_start c ≡ true → eqb c n ≡ false
rejects_start p n rejected c taken = ne_eqb c n (λ same. false≢true (sym rejected ∙ ap is_name_start (sym same) ∙ taken))

or_none : (a b : Bool) → a ≡ false → b ≡ false → a || b ≡ false
or_none a b p q = rw (p, q) refl

not_white : (c : ℕ) → is_name_start c ≡ true → is_white c ≡ false
not_white c h = or_none (eqb c 32 || eqb c 9 || eqb c 13) (eqb c 10) (or_none (eqb c 32 || eqb c 9) (eqb c 13) (or_none (eqb c 32) (eqb c 9) (rejects_start is_white 32 refl c h) (rejects_start is_white 9 refl c h)) (rejects_start is_white 13 refl c h)) (rejects_start is_white 10 refl c h)

pub not_tag_end : (c : ℕ) → is_name_start c ≡ true → is_tag_end c ≡ false
not_tag_end c h = or_none (eqb c 62) (eqb c 47) (rejects_start is_tag_end 62 refl c h) (rejects_start is_tag_end 47 refl c h)

attribute_begins : (a : Attribute) (b more : List ℕ) (p : ℕ → Bool) → ((c : ℕ) → is_name_start c ≡ true → p c ≡ false) → SpellsAttribute a b → begins p (b ++ more) ≡ false
attribute_begins a b more p rejects h = rw (regroup b more h) (name_begins a.name h.front (h.back ++ more) p rejects h.first)

-- ---- the steps over attributes

abbrev Item : Attribute → List ℕ → Type 0
Item a = Space ▸ SpellsAttribute a

abbrev End : Unit {0} → List ℕ → Type 0
End e = White

abbrev pub StopsAttributes : List ℕ → Type 0
StopsAttributes more = begins is_tag_end more ≡ true

tag_end_not_white : (more : List ℕ) → StopsAttributes more → begins is_white more ≡ false
tag_end_not_white [] h = refl
tag_end_not_white (c ∷ more) h = elim (or_cases (eqb c 62) (eqb c 47) h) [ inl e ↦ rw (eqb-true c 62 e) refl | inr e ↦ rw (eqb-true c 47 e) refl ]

attribute_more : (a : Attribute) (b rest : List ℕ) → Item a b → attribute_step (b ++ rest) ≡ Some (More a, rest)
unfolding attribute_step
attribute_more a b rest h =
    let behind = h.back ++ rest in
    let here = attribute_begins a h.back rest is_white not_white h.second in
    let stop = attribute_begins a h.back rest is_tag_end not_tag_end h.second in
    let some : eqb (length h.front) 0 ≡ false = ne_eqb (length h.front) 0 (λ e. let one = h.first.0 in omega arith) in
    rw (regroup b rest h, past_white-append h.front behind h.first.1 here, stop, run_len-append is_white h.front behind h.first.1 here, some, attribute_again a h.back rest h.second) refl

attribute_last : (e : Unit {0}) (b rest : List ℕ) → White b → StopsAttributes rest → attribute_step (b ++ rest) ≡ Some (Last e, rest)
unfolding attribute_step
attribute_last e b rest h stop = rw (past_white-append b rest h (tag_end_not_white rest stop), stop) refl

-- the cases of a step
step_cases : (t u : Bool) (bytes : List ℕ) (white : List ℕ) (s : Step Attribute (Unit {0})) (rest : List ℕ)
    → cond t (Some (Last tt, white)) (cond u None (attribute_at white >>= one_more)) ≡ Some (s, rest)
    → ((t ≡ true) × (Last tt ≡ s) × (white ≡ rest)) ⊎ ((u ≡ false) × (attribute_at white >>= one_more ≡ Some (s, rest)))
step_cases true u bytes white s rest h = let p = pair_is {A = Step Attribute (Unit {0})} {B = List ℕ} (Last tt, white) (s, rest) h in inl (refl, p.0, p.1)
step_cases false true bytes white s rest h = absurd cc
step_cases false false bytes white s rest h = inr (refl, h)

attribute_step_takes : (bytes : List ℕ) (a : Attribute) (rest : List ℕ) → attribute_step bytes ≡ Some (More a, rest) → (b : List ℕ) × Item a b × (bytes ≡ b ++ rest)
unfolding attribute_step
attribute_step_takes bytes a rest e =
    elim (step_cases (begins is_tag_end (past_white bytes)) (eqb (run_len is_white bytes) 0) bytes (past_white bytes) (More a) rest e) [
      | inl h ↦ let m = h.1 in absurd cc
      | inr h ↦
          let x = bind_some (attribute_at (past_white bytes)) one_more (More a, rest) h.1 in
          let parts = pair_is {A = Step Attribute (Unit {0})} {B = List ℕ} (More x.0.0, x.0.1) (More a, rest) x.2 in
          let same : x.0.0 ≡ a = let m = parts.0 in cc in
          let t0 = attribute_takes (past_white bytes) x.0.0 x.0.1 x.1 in
          let t = subst (λ (y : Attribute). (b : List ℕ) × SpellsAttribute y b × (past_white bytes ≡ b ++ rest)) same (subst (λ (r : List ℕ). (b : List ℕ) × SpellsAttribute x.0.0 b × (past_white bytes ≡ b ++ r)) parts.1 t0) in
          let len = run_len is_white bytes in
          let ne = eqb-false len 0 h.0 in
          let le = run_len_le is_white bytes in
          let space : Space (take len bytes) = (omega (arith, length-take len bytes), run_every is_white bytes) in
          let item : Item a (take len bytes ++ t.0) = record { front = take len bytes; back = t.0; first = space; second = t.1; bytes_are = refl } in
          let whole : bytes ≡ (take len bytes ++ t.0) ++ rest = sym (take-append-drop len bytes) ∙ ap (λ (l : List ℕ). take len bytes ++ l) t.2 ∙ sym (append_assoc (take len bytes) t.0 rest) in
          (take len bytes ++ t.0, item, whole)
    ]

attribute_step_ends : (bytes : List ℕ) (end : Unit {0}) (rest : List ℕ) → attribute_step bytes ≡ Some (Last end, rest) → (b : List ℕ) × White b × (bytes ≡ b ++ rest)
unfolding attribute_step
attribute_step_ends bytes end rest e =
    elim (step_cases (begins is_tag_end (past_white bytes)) (eqb (run_len is_white bytes) 0) bytes (past_white bytes) (Last end) rest e) [
      | inl h ↦
          let same = h.2 in
          let w = past_white-takes bytes in
          (w.0, w.1, w.2 ∙ ap (λ (l : List ℕ). w.0 ++ l) same)
      | inr h ↦
          let x = bind_some (attribute_at (past_white bytes)) one_more (Last end, rest) h.1 in
          let parts = pair_is {A = Step Attribute (Unit {0})} {B = List ℕ} (More x.0.0, x.0.1) (Last end, rest) x.2 in
          let m = parts.0 in
          absurd cc
    ]

item_some : (a : Attribute) (b : List ℕ) → Item a b → 1 ≤ length b
item_some a b h = let one = h.first.0 in omega (arith, ap length h.bytes_are, length-append h.front h.back)

end_some : (e : Unit {0}) (b rest : List ℕ) → White b → StopsAttributes rest → 1 ≤ length (b ++ rest)
end_some e b [] h stop = absurd (false≢true stop)
end_some e b (c ∷ rest) h stop = omega (arith, length-append b (c ∷ rest))

attribute_steps : ReadsSteps Item End StopsAttributes attribute_step
attribute_steps = record {
  more = attribute_more;
  some = item_some;
  last = attribute_last;
  end = end_some;
  takes = attribute_step_takes;
  ends = attribute_step_ends;
}

-- ---- tags

tag_end_again : (closed : Bool) (more : List ℕ) → tag_end_at (tag_end closed ++ more) ≡ Some (closed, more)
unfolding tag_end_at
tag_end_again true more = refl
tag_end_again false more = refl

tag_end_takes_by : (bytes : List ℕ) (o : Option (List ℕ)) (closed : Bool) (rest : List ℕ) → past 62 bytes ≡ o → tag_end_from bytes o ≡ Some (closed, rest) → bytes ≡ tag_end closed ++ rest
tag_end_takes_by bytes (Some after) closed rest p e =
    let pair : (false, after) ≡ (closed, rest) = some_is _ _ e in
    subst (λ (x : Bool × List ℕ). bytes ≡ tag_end x.0 ++ x.1) pair (past_takes 62 bytes after p)
tag_end_takes_by bytes None closed rest p e =
    let a = bind_some (past 47 bytes) (λ behind. past 62 behind >>= λ r. Some (true, r)) (closed, rest) e in
    let b = bind_some (past 62 a.0) (λ r. Some (true, r)) (closed, rest) a.2 in
    let pair : (true, b.0) ≡ (closed, rest) = some_is _ _ b.2 in
    let whole : bytes ≡ 47 ∷ (62 ∷ b.0) = past_takes 47 bytes a.0 a.1 ∙ ap (λ (l : List ℕ). 47 ∷ l) (past_takes 62 a.0 b.0 b.1) in
    subst (λ (x : Bool × List ℕ). bytes ≡ tag_end x.0 ++ x.1) pair whole

tag_end_takes : (bytes : List ℕ) (closed : Bool) (rest : List ℕ) → tag_end_at bytes ≡ Some (closed, rest) → bytes ≡ tag_end closed ++ rest
unfolding tag_end_at
tag_end_takes bytes closed rest e = tag_end_takes_by bytes (past 62 bytes) closed rest refl e

tag_end_stops : (closed : Bool) (more : List ℕ) → StopsAttributes (tag_end closed ++ more)
tag_end_stops true more = refl
tag_end_stops false more = refl

-- attributes and the end of a tag stop a name
attributes_stop : (attributes : List Attribute) (b more : List ℕ) → SpellsAttributes attributes b → StopsAttributes more → StopsName (b ++ more)
attributes_stop [] b more h stop = stops_name b more h (byte more stop) (colon more stop)
  where
    byte : (l : List ℕ) → StopsAttributes l → begins is_name_byte l ≡ false
    byte [] s = refl
    byte (c ∷ l) s = elim (or_cases (eqb c 62) (eqb c 47) s) [ inl e ↦ rw (eqb-true c 62 e) refl | inr e ↦ rw (eqb-true c 47 e) refl ]

    colon : (l : List ℕ) → StopsAttributes l → begins (λ c. eqb c 58) l ≡ false
    colon [] s = refl
    colon (c ∷ l) s = elim (or_cases (eqb c 62) (eqb c 47) s) [ inl e ↦ rw (eqb-true c 62 e) refl | inr e ↦ rw (eqb-true c 47 e) refl ]
attributes_stop (a ∷ attributes) b more h stop =
    let item = h.first in
    let parts : b ++ more ≡ item.front ++ (item.back ++ (h.back ++ more)) = regroup b more h ∙ regroup h.front (h.back ++ more) item in
    subst StopsName (sym parts) (space item.front (item.back ++ (h.back ++ more)) item.first)
  where
    space : (w rest : List ℕ) → Space w → StopsName (w ++ rest)
    space [] rest s = absurd (omega (arith, s.0))
    space (c ∷ w) rest s =
        let white = (and_parts (is_white c) (every is_white w) s.1).0 in
        record { byte = rejects_white is_name_byte refl refl refl refl c white; colon = rejects_white (λ c. eqb c 58) refl refl refl refl c white }

pub tag_again : (tag : Tag) (b more : List ℕ) → SpellsTag tag b → (c : List ℕ) × (b ++ more ≡ 60 ∷ c) × (tag_at c ≡ Some (tag, more)) × (begins (λ x. eqb x 47) c ≡ false)
unfolding tag_at
tag_again tag b more h =
    let h1 = h.second in
    let h2 = h1.second in
    let end = tag_end tag.closed ++ more in
    let rest = h2.front ++ end in
    let e2 : h1.back ++ more ≡ rest = regroup h1.back more h2 ∙ ap (λ (l : List ℕ). h2.front ++ (l ++ more)) h2.second in
    let e1 : h.back ++ more ≡ h1.front ++ rest = regroup h.back more h1 ∙ ap (λ (l : List ℕ). h1.front ++ l) e2 in
    let e0 : b ++ more ≡ 60 ∷ (h1.front ++ rest) = regroup b more h ∙ ap (λ (l : List ℕ). l ++ (h.back ++ more)) h.first ∙ ap (λ (l : List ℕ). 60 ∷ l) e1 in
    let stop = attributes_stop tag.attributes h2.front end h2.first (tag_end_stops tag.closed more) in
    let read : tag_at (h1.front ++ rest) ≡ Some (tag, more) =
    rw (name_again tag.name h1.front rest h1.first stop, all_again Item End StopsAttributes attribute_step attribute_steps tag.attributes tt h2.front end h2.first (tag_end_stops tag.closed more), tag_end_again tag.closed more) refl in
    (h1.front ++ rest, e0, read, name_begins tag.name h1.front rest (λ x. eqb x 47) (rejects_start is_white 47 refl) h1.first)

pub tag_takes : (c : List ℕ) (tag : Tag) (rest : List ℕ) → tag_at c ≡ Some (tag, rest) → (b : List ℕ) × SpellsTag tag b × (60 ∷ c ≡ b ++ rest)
unfolding tag_at
tag_takes c tag rest e =
    let n = bind_some (name_at c) (λ name. all_of attribute_step name.1 >>= λ attributes. tag_end_at attributes.2 >>= λ end. Some (record { name = name.0; attributes = attributes.0; closed = end.0 }, end.1)) (tag, rest) e in
    let a = bind_some (all_of attribute_step n.0.1) (λ attributes. tag_end_at attributes.2 >>= λ end. Some (record { name = n.0.0; attributes = attributes.0; closed = end.0 }, end.1)) (tag, rest) n.2 in
    let z = bind_some (tag_end_at a.0.2) (λ end. Some (record { name = n.0.0; attributes = a.0.0; closed = end.0 }, end.1)) (tag, rest) a.2 in
    let made : Tag = record { name = n.0.0; attributes = a.0.0; closed = z.0.0 } in
    let pair : (made, z.0.1) ≡ (tag, rest) = some_is _ _ z.2 in
    let name = name_takes c n.0.0 n.0.1 n.1 in
    let attributes = all_takes Item End StopsAttributes attribute_step attribute_steps n.0.1 a.0.0 a.0.1 a.0.2 a.1 in
    let end = tag_end_takes a.0.2 z.0.0 z.0.1 z.1 in
    let close = tag_end z.0.0 in
    let t2 : (SpellsAttributes a.0.0 ▸ Is close) (attributes.0 ++ close) = record { front = attributes.0; back = close; first = attributes.1; second = refl; bytes_are = refl } in
    let t1 : (SpellsName n.0.0 ▸ SpellsAttributes a.0.0 ▸ Is close) (name.0 ++ (attributes.0 ++ close)) = record { front = name.0; back = attributes.0 ++ close; first = name.1; second = t2; bytes_are = refl } in
    let t0 : SpellsTag made (60 ∷ (name.0 ++ (attributes.0 ++ close))) = record { front = 60 ∷ []; back = name.0 ++ (attributes.0 ++ close); first = refl; second = t1; bytes_are = refl } in
    let whole : 60 ∷ c ≡ (60 ∷ (name.0 ++ (attributes.0 ++ close))) ++ z.0.1 =
    ap (λ (l : List ℕ). 60 ∷ l) (name.2 ∙ ap (λ (l : List ℕ). name.0 ++ l) (attributes.2 ∙ ap (λ (l : List ℕ). attributes.0 ++ l) end) ∙ (simp append_assoc)) in
    subst (λ (x : Tag × List ℕ). (b : List ℕ) × SpellsTag x.0 b × (60 ∷ c ≡ b ++ x.1)) pair (60 ∷ (name.0 ++ (attributes.0 ++ close)), t0, whole)

-- ---- end tags

pub end_again : (name : Name) (b more : List ℕ) → SpellsEndName name b → end_tag_at name (b ++ more) ≡ Some more
unfolding end_tag_at
end_again name b more h =
    let h1 = h.second in
    let rest = h1.front ++ (62 ∷ more) in
    let whole : b ++ more ≡ h.front ++ rest = regroup b more h ∙ ap (λ (l : List ℕ). h.front ++ l) (regroup h.back more h1 ∙ ap (λ (l : List ℕ). h1.front ++ (l ++ more)) h1.second) in
    rw (whole, name_again name h.front rest h.first (stops_name h1.front (62 ∷ more) h1.first refl refl), bytes_same name.prefix, bytes_same name.local, past_white-append h1.front (62 ∷ more) h1.first refl) refl

pub end_takes : (name : Name) (bytes rest : List ℕ) → end_tag_at name bytes ≡ Some rest → (b : List ℕ) × SpellsEndName name b × (bytes ≡ b ++ rest)
unfolding end_tag_at
end_takes name bytes rest e =
    let n = bind_some (name_at bytes) (λ found. cond (bytes_eq found.0.prefix name.prefix && bytes_eq found.0.local name.local) (past 62 (past_white found.1)) None) rest e in
    let g = guard_some (bytes_eq n.0.0.prefix name.prefix && bytes_eq n.0.0.local name.local) (past 62 (past_white n.0.1)) rest n.2 in
    let tests = and_parts (bytes_eq n.0.0.prefix name.prefix) (bytes_eq n.0.0.local name.local) g.0 in
    let prefix = bytes_eq_true n.0.0.prefix name.prefix tests.0 in
    let local = bytes_eq_true n.0.0.local name.local tests.1 in
    let same : n.0.0 ≡ name = ap (λ (p : List ℕ). record n.0.0 { prefix = p }) prefix ∙ ap (λ (l : List ℕ). record name { local = l }) local in
    let t = name_takes bytes n.0.0 n.0.1 n.1 in
    let w = past_white-takes n.0.1 in
    let here = past_takes 62 (past_white n.0.1) rest g.1 in
    let t1 : (White ▸ Is (62 ∷ [])) (w.0 ++ (62 ∷ [])) = record { front = w.0; back = 62 ∷ []; first = w.1; second = refl; bytes_are = refl } in
    let t0 : SpellsEndName name (t.0 ++ (w.0 ++ (62 ∷ []))) = record { front = t.0; back = w.0 ++ (62 ∷ []); first = subst (λ (m : Name). SpellsName m t.0) same t.1; second = t1; bytes_are = refl } in
    let whole : bytes ≡ (t.0 ++ (w.0 ++ (62 ∷ []))) ++ rest = t.2 ∙ ap (λ (l : List ℕ). t.0 ++ l) (w.2 ∙ ap (λ (l : List ℕ). w.0 ++ l) here) ∙ (simp append_assoc) in
    (t.0 ++ (w.0 ++ (62 ∷ [])), t0, whole)
