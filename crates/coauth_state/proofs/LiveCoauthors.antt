-- The coauthors of the live lock are counted among all members of the lock.
use Rattle.std.proofs.Common.{◌≡◌, ◌∙◌, ℕ, refl, sym, ap, Bool, true, false, ◌&&◌, cond, List, [], ◌∷◌, length, filter, count_by}
use Rattle.std.proofs.lemmas.List.Sums.{length-filter}
use Rattle.compact_values.specs.declared.guid.Guid.{Guid}
use Rattle.doc_model.specs.declared.lock.Member.{Member}
use Rattle.doc_model.specs.rules.Locks.{shared_by, is_live}
use Rattle.doc_model.specs.rules.LockSteps.{coauthors_of, coauthors_by}

abbrev is_coauthor : Member → Bool
is_coauthor x = x.coauthor

abbrev is_live_coauthor : ℕ → Member → Bool
is_live_coauthor m x = is_live m x && x.coauthor

-- one member, as it is live or not, before others that agree
one_more : (b : Bool) (x : Member) (all live : List Member) → all ≡ filter is_coauthor live
    → cond (b && x.coauthor) (x ∷ all) all ≡ filter is_coauthor (cond b (x ∷ live) live)
one_more true x all live e = ap (λ xs. cond x.coauthor (x ∷ xs) xs) e
one_more false x all live e = e

in_two_steps : (m : ℕ) (ms : List Member) → filter (is_live_coauthor m) ms ≡ filter is_coauthor (filter (is_live m) ms)
in_two_steps m [] = refl
in_two_steps m (x ∷ xs) = one_more (is_live m x) x (filter (is_live_coauthor m) xs) (filter (is_live m) xs) (in_two_steps m xs)

count_live : (m : ℕ) (ms : List Member) → count_by (is_live_coauthor m) ms ≡ count_by is_coauthor (filter (is_live m) ms)
count_live m ms = sym (length-filter (is_live_coauthor m) ms) ∙ ap length (in_two_steps m ms) ∙ length-filter is_coauthor (filter (is_live m) ms)

-- nobody shares a lock without members
counted : (schema : Guid) (ms : List Member) → coauthors_by (count_by is_coauthor ms) ≡ coauthors_of (shared_by schema ms)
counted schema [] = refl
counted schema (x ∷ xs) = refl

pub live_coauthors : (schema : Guid) (m : ℕ) (ms : List Member)
    → coauthors_by (count_by (λ x. is_live m x && x.coauthor) ms) ≡ coauthors_of (shared_by schema (filter (is_live m) ms))
live_coauthors schema m ms = ap coauthors_by (count_live m ms) ∙ counted schema (filter (is_live m) ms)
