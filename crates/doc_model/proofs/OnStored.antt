-- A put commits on the stored index alone, and commits with one index are one.
use Rattle.std.proofs.Common.{◌≡◌, ◌≢◌, ℕ, zero, suc, refl, sym, ap, Bool, true, false, ◌&&◌, ◌||◌, cond, List, [], ◌∷◌, length, Option, Some, None, ◌==◌, inl, inr, ⊎_elim, ◌∙◌, arith, map}
use Rattle.std.proofs.lemmas.Bool.Decides.{nat_tests}
use Rattle.std.proofs.lemmas.Bool.{false≢true}
use Rattle.std.specs.List.{IsDistinct, AllByRecursion, slice_get}
use Rattle.compact_values.specs.declared.ids.ExGuid.{ExGuid}
use Rattle.compact_values.specs.SameIds.{same_id}
use Rattle.compact_values.proofs.SameIds.{id-same, same-id}
use Rattle.doc_model.specs.declared.call.Put.{Put}
use Rattle.doc_model.specs.declared.doc.Doc.{Doc}
use Rattle.doc_model.specs.declared.doc.Commit.{Commit}
use Rattle.doc_model.specs.declared.reply.Code.{Code}
use Rattle.doc_model.specs.laws.Documents.{ExpectsStored, CommitsOnStored, OneCommitOfIndex}
use Rattle.doc_model.specs.rules.Pulls.{stored_index}
use Rattle.doc_model.specs.rules.Puts.{put, is_part, part_refusal, commit_refusal, kept, committed, is_expected, commit_reasons, sent_to, added_by}
use Rattle.doc_model.specs.rules.Effects.{Effect, unless}
use Rattle.doc_model.proofs.Reasons.{and-both, none-holds, not-false, or-either}

no_commits : (cs : List Commit) → (length cs == 0) ≡ true → cs ≡ []
no_commits [] h = refl
no_commits (c ∷ cs) h = absurd (grind (arith, nat_tests))

expects : (doc : Doc) (p : Put) → p.last_writer_wins ≡ false → is_expected doc.commits p ≡ true → ExpectsStored doc p
expects doc p l h = ⊎_elim
    (λ x. ⊎_elim (λ y. absurd (false≢true (sym l ∙ y))) (λ y. inl (id-same _ _ y)) (or-either p.last_writer_wins (same_id p.expected (stored_index doc.commits)) x))
    (λ x. let t = and-both p.imply_null (length doc.commits == 0) x in inr (t.0, no_commits doc.commits t.1))
    (or-either (p.last_writer_wins || same_id p.expected (stored_index doc.commits)) (p.imply_null && length doc.commits == 0) h)

-- where a put changes the commits, nothing refused the commit
accepted : (part : Bool) (o q : Option Code) (doc : Doc) (k d : Effect) → k.doc.commits ≡ doc.commits
    → (cond part (unless o doc k) (unless q doc d)).doc.commits ≢ doc.commits → q ≡ None
accepted true None q doc k d e ne = absurd (ne e)
accepted true (Some c) q doc k d e ne = absurd (ne refl)
accepted false o None doc k d e ne = refl
accepted false o (Some c) doc k d e ne = absurd (ne refl)

pub put-accepted : (doc : Doc) (m : ℕ) (user : List ℕ) (p : Put) → (put doc m user p).doc.commits ≢ doc.commits → commit_refusal doc m p ≡ None
put-accepted doc m user p ne = accepted (is_part p) (part_refusal doc m p) (commit_refusal doc m p) doc (kept doc m p) (committed doc m user p) refl ne

pub on-stored : CommitsOnStored
on-stored doc m user p l ne =
    let none = none-holds (commit_reasons doc m p (sent_to doc p) (added_by doc p)) (put-accepted doc m user p ne) in
    expects doc p l (not-false (is_expected doc.commits p) none.1.1.1.0)

some-injective : {x y : Commit} → Some x ≡ Some y → x ≡ y
some-injective e = cc

none≢some : {x : Commit} → None ≡ Some x → ⊥
none≢some e = cc

-- what stands in a list whose keys differ from one isn't of that key
not-after : (key : ExGuid) (cs : List Commit) (j : ℕ) (b : Commit) → AllByRecursion (λ y. same_id key y ≡ false) (map (λ c. c.index) cs) → slice_get cs j ≡ Some b → key ≡ b.index → ⊥
not-after key [] j b d q e = absurd (none≢some q)
not-after key (c ∷ cs) zero b d q e =
    let s : c ≡ b = some-injective q in
    false≢true (sym d.0 ∙ ap (λ (x : Commit). same_id key x.index) s ∙ ap (same_id key) (sym e) ∙ same-id key)
not-after key (c ∷ cs) (suc j) b d q e = not-after key cs j b d.1 q e

-- commits whose indexes differ stand at one place each
one-place : (cs : List Commit) (i j : ℕ) (a b : Commit) → IsDistinct same_id (map (λ c. c.index) cs) → slice_get cs i ≡ Some a → slice_get cs j ≡ Some b
    → a.index ≡ b.index → i ≡ j
unfolding IsDistinct
one-place [] i j a b d p q e = absurd (none≢some p)
one-place (c ∷ cs) zero zero a b d p q e = refl
one-place (c ∷ cs) zero (suc j) a b d p q e = absurd (not-after c.index cs j b d.0 q (ap (λ (x : Commit). x.index) (some-injective p) ∙ e))
one-place (c ∷ cs) (suc i) zero a b d p q e = absurd (not-after c.index cs i a d.0 p (ap (λ (x : Commit). x.index) (some-injective q) ∙ sym e))
one-place (c ∷ cs) (suc i) (suc j) a b d p q e = ap (λ n. suc n) (one-place cs i j a b d.1 p q e)

pub one-commit : OneCommitOfIndex
one-commit doc i j a b sound p q e = one-place doc.commits i j a b sound.distinct_commits p q e
