-- The uploads that aren't complete stay sound: a put drops some of them, and a part adds one.
use Rattle.std.proofs.Common.{◌≡◌, ℕ, ◌+◌, ◌≤◌, refl, Bool, true, false, not, cond, List, [], ◌∷◌, ◌++◌, filter, length, nat_lt, Option, Some, None, option_map, unwrap_or, arith}
use Rattle.std.specs.List.{AllByRecursion as Each, All, sum_by}
use Rattle.std.proofs.lemmas.List.{length_push}
use Rattle.std.proofs.lemmas.List.Elements.{recursion_from_All, All-filter, All-push, All-weaker}
use Rattle.std.proofs.lemmas.List.Sums.{sum_by-cons, sum_by_push}
use Rattle.compact_values.specs.declared.ids.ExGuid.{ExGuid}
use Rattle.compact_values.specs.SameIds.{same_id}
use Rattle.doc_model.specs.declared.call.Put.{Put}
use Rattle.doc_model.specs.declared.doc.Doc.{Doc}
use Rattle.doc_model.specs.declared.doc.Part.{Part}
use Rattle.doc_model.specs.declared.element.Element.{Element}
use Rattle.doc_model.specs.rules.Limits.{day, most_objects, most_parts, most_parts_weight}
use Rattle.doc_model.specs.rules.Puts.{find_part, pending, sent, is_kept, other_parts, too_many_parts}
use Rattle.doc_model.specs.rules.Sound.{IsSoundElement, IsSoundPart, AreSoundParts, part_weight}
use Rattle.doc_model.specs.rules.Weights.{objects_written, weight_of}
use Rattle.doc_model.proofs.Distinct.{distinct-filter, distinct-push}
use Rattle.doc_model.proofs.EachItem.{each-as, each-append, each-found, each-passes}
use Rattle.doc_model.proofs.SoundElements.{element-later}
use Rattle.doc_model.proofs.Reasons.{and-both, not-less, not-true, or-neither}

-- a test keeps no more items, and no more weight
pub length-filter : {X : Type 0} (p : X → Bool) (xs : List X) → length (filter p xs) ≤ length xs
length-filter p [] = omega arith
length-filter p (x ∷ xs) = at (p x) (length-filter p xs)
  where
    at : (b : Bool) → length (filter p xs) ≤ length xs → length (cond b (x ∷ filter p xs) (filter p xs)) ≤ length (x ∷ xs)
    at true r = omega (arith, r)
    at false r = omega (arith, r)

pub sum-filter : {X : Type 0} (f : X → ℕ) (p : X → Bool) (xs : List X) → sum_by f (filter p xs) ≤ sum_by f xs
sum-filter f p [] = omega arith
sum-filter f p (x ∷ xs) = at (p x) (sum-filter f p xs)
  where
    at : (b : Bool) → sum_by f (filter p xs) ≤ sum_by f xs → sum_by f (cond b (x ∷ filter p xs) (filter p xs)) ≤ sum_by f (x ∷ xs)
    at true r = omega (arith, r, sum_by-cons f x xs, sum_by-cons f x (filter p xs))
    at false r = omega (arith, r, sum_by-cons f x xs)

part-later : (d d' : Doc) → d'.guid ≡ d.guid → d.drawn ≤ d'.drawn → (p : Part) → IsSoundPart d p → IsSoundPart d' p
part-later d d' g le p s = All-weaker (IsSoundElement d) (IsSoundElement d') (element-later d d' g le) p.elements s

-- sound parts stay so while more is drawn
pub parts-later : (d d' : Doc) → d'.guid ≡ d.guid → d.drawn ≤ d'.drawn → (parts : List Part) → AreSoundParts d parts → AreSoundParts d' parts
parts-later d d' g le parts s = record {
  few = s.few;
  light = s.light;
  distinct = s.distinct;
  sound = All-weaker (IsSoundPart d) (IsSoundPart d') (part-later d d' g le) parts s.sound;
}

-- what is kept of them is sound
pub others-sound : (d : Doc) (parts : List Part) (moment : ℕ) (index : ExGuid) → AreSoundParts d parts → AreSoundParts d (other_parts parts moment index)
others-sound d parts moment index s = record {
  few = omega (arith, s.few, length-filter (is_kept moment index) parts);
  light = omega (arith, s.light, sum-filter part_weight (is_kept moment index) parts);
  distinct = distinct-filter same_id (λ p. p.index) (is_kept moment index) parts s.distinct;
  sound = All-filter (is_kept moment index) (IsSoundPart d) parts s.sound;
}

-- and is for other indexes
others-differ : (parts : List Part) (moment : ℕ) (index : ExGuid) → Each (λ p. same_id p.index index ≡ false) (other_parts parts moment index)
others-differ parts moment index =
    each-as (λ p. is_kept moment index p ≡ true) (λ p. same_id p.index index ≡ false) (other_parts parts moment index)
    (λ p h. not-true (same_id p.index index) (and-both (not (same_id p.index index)) (nat_lt moment (p.moment + day)) h).0)
    (each-passes (is_kept moment index) parts)

-- with one more part, where they are few and light with it
pub with-part : (d : Doc) (parts : List Part) (part : Part) (moment : ℕ) → AreSoundParts d parts → IsSoundPart d part
    → too_many_parts (other_parts parts moment part.index) part.elements ≡ false → AreSoundParts d (other_parts parts moment part.index ++ part ∷ [])
with-part d parts part moment s sound few =
    let others = other_parts parts moment part.index in
    let o = others-sound d parts moment part.index s in
    let t = or-neither (nat_lt most_parts (length others + 1)) (nat_lt most_parts_weight (sum_by part_weight others + weight_of part.elements)) few in
    record {
      few = omega (arith, length_push others part, not-less most_parts (length others + 1) t.0);
      light = omega (arith, sum_by_push part_weight others part, not-less most_parts_weight (sum_by part_weight others + weight_of part.elements) t.1);
      distinct = distinct-push same_id (λ p. p.index) others part o.distinct (others-differ parts moment part.index);
      sound = All-push (IsSoundPart d) others part o.sound sound;
    }

-- what is sent with the pending elements is written in few objects
abbrev IsFew : Element → Type 0
IsFew e = objects_written e ≤ most_objects

pending-few : (d : Doc) (parts : List Part) (index : ExGuid) → AreSoundParts d parts → Each IsFew (pending parts index)
pending-few d parts index s = at (find_part parts index) (λ p e. each-found (IsSoundPart d) (λ p. same_id p.index index) parts p (recursion_from_All (IsSoundPart d) parts s.sound) e)
  where
    at : (o : Option Part) → ((p : Part) → o ≡ Some p → IsSoundPart d p) → Each IsFew (unwrap_or (option_map (λ p. p.elements) o) [])
    at None h = tt
    at (Some p) h = each-as (IsSoundElement d) IsFew p.elements (λ e s. s.few_objects) (recursion_from_All (IsSoundElement d) p.elements (h p refl))

pub sent-few : (d : Doc) (parts : List Part) (p : Put) → AreSoundParts d parts → All IsFew p.elements → Each IsFew (sent parts p)
sent-few d parts p s h = each-append IsFew (pending parts p.index) p.elements (pending-few d parts p.index s) (recursion_from_All IsFew p.elements h)
