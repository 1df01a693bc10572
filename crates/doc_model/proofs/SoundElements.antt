-- What a put adds is sound: each of its ids is new, drawn and not null, and each is written in few objects.
use Rattle.std.proofs.Common.{◌≡◌, ◌≢◌, ◌≤◌, refl, sym, ◌∙◌, ap, Bool, true, false, ◌&&◌, List, ◌++◌, map, nat_lt, arith}
use Rattle.std.proofs.lemmas.Bool.{false≢true}
use Rattle.std.specs.List.{AllByRecursion as Each, IsDistinct, list_any}
use Rattle.compact_values.specs.declared.guid.Guid.{Guid}
use Rattle.compact_values.specs.declared.ids.ExGuid.{ExGuid}
use Rattle.compact_values.specs.declared.ids.ExGuid.TheVariants.{Null, Id}
use Rattle.compact_values.specs.SameIds.{same_guid, same_id}
use Rattle.compact_values.proofs.SameIds.{id-same, same-id, same-guid}
use Rattle.doc_model.specs.declared.doc.Doc.{Doc}
use Rattle.doc_model.specs.declared.element.Element.{Element}
use Rattle.doc_model.specs.rules.Finding.{firsts}
use Rattle.doc_model.specs.rules.Limits.{most_objects}
use Rattle.doc_model.specs.rules.Puts.{fresh, same_ids, is_new, is_foreign, is_invalid, grown, has_invalid}
use Rattle.doc_model.specs.rules.Sound.{IsDrawn, IsSoundElement}
use Rattle.doc_model.specs.rules.Weights.{objects_written}
use Rattle.doc_model.proofs.Distinct.{distinct-filter, distinct-firsts, distinct-more, each-firsts}
use Rattle.doc_model.proofs.EachItem.{each-as, each-both, each-filter, each-passes, none-each}
use Rattle.doc_model.proofs.Reasons.{not-less, not-true, or-neither}

-- the test of ids doesn't tell which of the two is first
same-id-flips : (a b : ExGuid) → same_id a b ≡ same_id b a
same-id-flips a b = by (same_id a b) refl (same_id b a) refl
  where
    by : (s : Bool) → same_id a b ≡ s → (t : Bool) → same_id b a ≡ t → s ≡ t
    by true p true q = refl
    by true p false q = absurd (false≢true (sym q ∙ ap (same_id b) (id-same a b p) ∙ same-id b))
    by false p true q = absurd (false≢true (sym p ∙ ap (same_id a) (id-same b a q) ∙ same-id a))
    by false p false q = refl

-- an id that anybody may use is drawn and not null
abbrev pub IsOwned : Doc → ExGuid → Type 0
IsOwned doc id = IsDrawn doc id × (id ≢ Null)

owned : (doc : Doc) (id : ExGuid) → is_foreign doc.guid doc.drawn id ≡ false → IsOwned doc id
owned doc Null h = cc
owned doc (Id g v) h = (λ e. not-less doc.drawn v (at (same_guid g doc.guid) (ap (λ (x : Guid). same_guid x doc.guid) e ∙ same-guid doc.guid) h), λ e. cc)
  where
    at : (b : Bool) → b ≡ true → (b && nat_lt doc.drawn v) ≡ false → nat_lt doc.drawn v ≡ false
    at true e h = h
    at false e h = cc

pub each-owned : (doc : Doc) (es : List Element) → has_invalid doc.guid doc.drawn doc.added es ≡ false → Each (λ e. IsOwned doc e.id) es
each-owned doc es h =
    let all = grown doc.added es in
    each-as (λ e. is_invalid doc.guid doc.drawn all e ≡ false) (λ e. IsOwned doc e.id) es
    (λ e i. owned doc e.id (or-neither (is_foreign doc.guid doc.drawn e.id) _ i).0)
    (none-each (is_invalid doc.guid doc.drawn all) es h)

-- what is new of some elements
pub each-fresh : (P : Element → Type 0) (added es : List Element) → Each P es → Each P (fresh added es)
each-fresh P added es h = each-filter P (is_new added) (firsts same_ids es) (each-firsts P same_ids es h)

-- has an id that no added element has
abbrev pub IsNew : List Element → Element → Type 0
IsNew added e = Each (λ x. same_ids e x ≡ false) added

pub fresh-new : (added es : List Element) → Each (IsNew added) (fresh added es)
fresh-new added es =
    each-as (λ e. is_new added e ≡ true) (IsNew added) (fresh added es) (λ e h. none-each (same_ids e) added (not-true (list_any (same_ids e) added) h))
    (each-passes (is_new added) (firsts same_ids es))

pub distinct-added : (added es : List Element) → IsDistinct same_id (map (λ e. e.id) added) → IsDistinct same_id (map (λ e. e.id) (added ++ fresh added es))
distinct-added added es d =
    distinct-more same_id (λ e. e.id) added (fresh added es) d
    (distinct-filter same_id (λ e. e.id) (is_new added) (firsts same_ids es) (distinct-firsts same_id (λ e. e.id) same-id-flips es))
    (each-as (IsNew added) (λ e. Each (λ x. same_id x.id e.id ≡ false) added) (fresh added es)
    (λ e n. each-as (λ x. same_ids e x ≡ false) (λ x. same_id x.id e.id ≡ false) added (λ x h. same-id-flips x.id e.id ∙ h) n) (fresh-new added es))

-- an element stays sound while more is drawn
drawn-later : (d d' : Doc) → d'.guid ≡ d.guid → d.drawn ≤ d'.drawn → (id : ExGuid) → IsDrawn d id → IsDrawn d' id
drawn-later d d' g le Null s = tt
drawn-later d d' g le (Id k v) s = λ e. omega (arith, s (e ∙ g), le)

pub element-later : (d d' : Doc) → d'.guid ≡ d.guid → d.drawn ≤ d'.drawn → (e : Element) → IsSoundElement d e → IsSoundElement d' e
element-later d d' g le e s = record { drawn = drawn-later d d' g le e.id s.drawn; few_objects = s.few_objects }

-- what is sent is sound where nothing of it is invalid, and each is written in few objects
pub each-sound : (doc : Doc) (es : List Element) → Each (λ e. IsOwned doc e.id) es → Each (λ e. objects_written e ≤ most_objects) es → Each (IsSoundElement doc) es
each-sound doc es o w =
    each-as (λ e. IsOwned doc e.id × (objects_written e ≤ most_objects)) (IsSoundElement doc) es (λ e h. record { drawn = h.0.0; few_objects = h.1 })
    (each-both (λ e. IsOwned doc e.id) (λ e. objects_written e ≤ most_objects) es o w)
