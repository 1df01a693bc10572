use Rattle.std.proofs.Common.{◌≡◌, sym, ◌∙◌, ap, cond, None, Some, length, take, ◌++◌, ◌∷◌, []}
use Rattle.std.proofs.Math.Seq.{take-append_seam}
use Rattle.std.specs.BTreeMap.{get}
use Rattle.std.specs.Ordering.{is_eq}
use Rattle.compact_values.specs.IdPlaces.{place_of, key_of, key_order, with_new}
use Rattle.compact_values.specs.SameIds.{same_id}
use Rattle.compact_values.proofs.IdPlacing.{new-joins, first-kept, joins-new, joins-known, key-same}
use Rattle.compact_values.proofs.id_index.IdIndex.join.Goals as goal

-- the id joins at the end
pub invariant_of-self-in-Ok-None : goal.invariant_of-self-in-Ok-None
invariant_of-self-in-Ok-None c =
    let ids = c.self.inside.ids in
    let places = c.self.inside.places in
    let id = c.args.id in
    let new : place_of ids id ≡ None =
    sym (c.self.invariant id) ∙ ap (get key_order places) (sym c.key_of-key.ensures) ∙ sym c.in-Ok-None.ensures.old ∙ c.in-Ok-None.field-0-is in
    λ q.
    c.in-Ok-None.ensures.updates.0 (key_of q)
    ∙ ap (λ k. cond (is_eq (key_order k (key_of q))) (Some c.len-place.result) (get key_order places (key_of q))) c.key_of-key.ensures
    ∙ ap (λ b. cond b (Some c.len-place.result) (get key_order places (key_of q))) (key-same id q)
    ∙ ap (λ n. cond (same_id id q) (Some n) (get key_order places (key_of q))) c.len-place.ensures
    ∙ ap (λ o. cond (same_id id q) (Some (length ids)) o) (c.self.invariant q)
    ∙ sym (new-joins ids id q new)
    ∙ ap (λ xs. place_of xs q) (sym c.in_ok-push.ensures.ok)

-- the id was there already, and is taken off again
put-back : (c : goal.In-Ok) → c.truncate.new.self ≡ c.self.inside.ids
put-back c =
    c.truncate.ensures ∙ ap (λ n. take n c.push.new.self) c.len-place.ensures ∙ ap (take (length c.self.inside.ids)) c.in_ok-push.ensures.ok
    ∙ take-append_seam c.self.inside.ids (c.args.id ∷ [])

pub invariant_of-self-in-Ok-Some : goal.invariant_of-self-in-Ok-Some
invariant_of-self-in-Ok-Some c =
    let ids = c.self.inside.ids in
    let places = c.self.inside.places in
    let id = c.args.id in
    let known : place_of ids id ≡ Some c.in-Ok-Some.first =
    sym (c.self.invariant id) ∙ ap (get key_order places) (sym c.key_of-key.ensures) ∙ sym c.in-Ok-Some.ensures.old ∙ c.in-Ok-Some.field-0-is in
    λ q.
    c.in-Ok.ensures.updates.0 (key_of q)
    ∙ ap (λ o. cond (is_eq (key_order c.key_of-key.result (key_of q))) (Some c.in-Ok-Some.first) o) (c.in-Ok-Some.ensures.updates.0 (key_of q))
    ∙ ap (λ k. cond (is_eq (key_order k (key_of q))) (Some c.in-Ok-Some.first) (cond (is_eq (key_order k (key_of q))) (Some c.len-place.result) (get key_order places (key_of q)))) c.key_of-key.ensures
    ∙ ap (λ b. cond b (Some c.in-Ok-Some.first) (cond b (Some c.len-place.result) (get key_order places (key_of q)))) (key-same id q)
    ∙ ap (λ o. cond (same_id id q) (Some c.in-Ok-Some.first) (cond (same_id id q) (Some c.len-place.result) o)) (c.self.invariant q)
    ∙ first-kept ids id q c.in-Ok-Some.first c.len-place.result known
    ∙ ap (λ xs. place_of xs q) (sym (put-back c))

pub returns-in-Ok-None-clause-ok : goal.returns-in-Ok-None-clause-ok
returns-in-Ok-None-clause-ok c =
    let new : place_of c.self.inside.ids c.args.id ≡ None =
    sym (c.self.invariant c.args.id) ∙ ap (get key_order c.self.inside.places) (sym c.key_of-key.ensures) ∙ sym c.in-Ok-None.ensures.old ∙ c.in-Ok-None.field-0-is in
    c.in_ok-push.ensures.ok ∙ sym (joins-new c.self.inside.ids c.args.id new) ∙ ap (λ xs. with_new same_id xs c.args.id) c.self.view_is

pub returns-in-Ok-clause-ok : goal.returns-in-Ok-clause-ok
returns-in-Ok-clause-ok c =
    let known : place_of c.self.inside.ids c.args.id ≡ Some c.in-Ok-Some.first =
    sym (c.self.invariant c.args.id) ∙ ap (get key_order c.self.inside.places) (sym c.key_of-key.ensures) ∙ sym c.in-Ok-Some.ensures.old ∙ c.in-Ok-Some.field-0-is in
    put-back c ∙ sym (joins-known c.self.inside.ids c.args.id c.in-Ok-Some.first known) ∙ ap (λ xs. with_new same_id xs c.args.id) c.self.view_is
