-- Where the stored index is the same as it was, nothing was committed in between.
use Rattle.std.proofs.Common.{◌≡◌, ◌≢◌, ◌-◌, refl, sym, ◌∙◌, ap, Bool, true, false, cond, List, [], ◌∷◌, ◌++◌, length, Some, None}
use Rattle.std.specs.Prelude.{is_some}
use Rattle.std.proofs.lemmas.Bool.{false≢true}
use Rattle.std.proofs.lemmas.List.Elements.{recursion_from_All}
use Rattle.std.specs.List.{AllByRecursion as Each, All, slice_get}
use Rattle.compact_values.specs.declared.ids.ExGuid.{ExGuid}
use Rattle.compact_values.specs.declared.ids.ExGuid.TheVariants.{Null}
use Rattle.compact_values.specs.SameIds.{same_id}
use Rattle.compact_values.proofs.SameIds.{id-same}
use Rattle.doc_model.specs.declared.doc.Doc.{Doc}
use Rattle.doc_model.specs.declared.doc.Commit.{Commit}
use Rattle.doc_model.specs.declared.element.Element.{Element}
use Rattle.doc_model.specs.rules.Apply.{replay}
use Rattle.doc_model.specs.rules.Finding.{find_element}
use Rattle.doc_model.specs.laws.Documents.{EqualIndexEqualCommits}
use Rattle.doc_model.specs.rules.Pulls.{stored_index}
use Rattle.doc_model.specs.rules.Sound.{IsSoundCommit, Sound}
use Rattle.doc_model.proofs.Added.{names-found}
use Rattle.doc_model.proofs.Following.{histories-follow}
use Rattle.doc_model.proofs.LastCommit.{All-slice, last-commit, nothing-more, slice-front}
use Rattle.doc_model.proofs.OnStored.{one-commit}
use Rattle.doc_model.proofs.SoundCommits.{reached-named}

-- no index that is committed is null
null-not-found : (added : List Element) → Each (λ e. e.id ≢ Null) added → find_element added Null ≡ None
null-not-found [] h = refl
null-not-found (e ∷ es) h = at (same_id e.id Null) refl (null-not-found es h.1)
  where
    at : (b : Bool) → same_id e.id Null ≡ b → find_element es Null ≡ None → cond b (Some e) (find_element es Null) ≡ None
    at true p r = absurd (h.0 (id-same e.id Null p))
    at false p r = r

not-null : (doc : Doc) (c : Commit) → Sound doc → IsSoundCommit doc c → c.index ≢ Null
not-null doc c s t e =
    let there = (names-found doc.added c.index (reached-named doc.added c.index t.elements t.reached)).0 in
    false≢true (ap (λ o. is_some o) (sym (null-not-found doc.added (recursion_from_All (λ x. x.id ≢ Null) doc.added s.no_null)))
    ∙ ap (λ (i : ExGuid). is_some (find_element doc.added i)) (sym e) ∙ there)

-- so what has a null stored index has no commit
no-commit : (doc : Doc) → Sound doc → (cs : List Commit) → All (IsSoundCommit doc) cs → stored_index cs ≡ Null → cs ≡ []
no-commit doc s [] h e = refl
no-commit doc s (x ∷ xs) h e =
    let last = last-commit (x ∷ xs) (λ n. cc) in
    absurd (not-null doc last.0 s (All-slice (IsSoundCommit doc) (x ∷ xs) (length (x ∷ xs) - 1) last.0 h last.1) (sym last.2 ∙ e))

-- and more commits have another index
module _ (doc later : Doc) (s : Sound later) (more : List Commit) (grows : later.commits ≡ doc.commits ++ more) (same : stored_index later.commits ≡ stored_index doc.commits) where
  some-before : (x : Commit) (xs : List Commit) → doc.commits ≡ x ∷ xs → later.commits ≡ doc.commits
  some-before x xs e =
      let some : doc.commits ≢ [] = λ n. let c : x ∷ xs ≡ [] = sym e ∙ n in cc in
      let before = last-commit doc.commits some in
      let some_later : later.commits ≢ [] = λ n. let c : (x ∷ xs) ++ more ≡ [] = ap (λ (cs : List Commit). cs ++ more) (sym e) ∙ sym grows ∙ n in cc in
      let after = last-commit later.commits some_later in
      let place : slice_get later.commits (length doc.commits - 1) ≡ Some before.0 =
      ap (λ (cs : List Commit). slice_get cs (length doc.commits - 1)) grows ∙ slice-front doc.commits more (length doc.commits - 1) before.0 before.1 in
      let one : length later.commits - 1 ≡ length doc.commits - 1 =
      one-commit later (length later.commits - 1) (length doc.commits - 1) after.0 before.0 s after.1 place (sym after.2 ∙ same ∙ before.2) in
      grows ∙ nothing-more doc.commits more some (ap (λ (cs : List Commit). length cs - 1) (sym grows) ∙ one)

  unchanged : later.commits ≡ doc.commits
  unchanged = by-before doc.commits refl
    where
      by-before : (cs : List Commit) → doc.commits ≡ cs → later.commits ≡ doc.commits
      by-before [] e = no-commit later s later.commits s.commits (same ∙ ap (λ (cs : List Commit). stored_index cs) e) ∙ sym e
      by-before (x ∷ xs) e = some-before x xs e

pub equal-commits : EqualIndexEqualCommits
equal-commits doc calls s v same =
    let t = histories-follow doc calls s v in
    unchanged doc (replay doc calls) t.0 t.1.versions t.1.commits same
