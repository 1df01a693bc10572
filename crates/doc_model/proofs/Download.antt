-- What a client that knows nothing is sent has the document's file.
use Rattle.std.proofs.Common.{◌≡◌, ◌≢◌, ℕ, ◌+◌, ◌-◌, refl, sym, ◌∙◌, ap, Bool, true, false, ◌&&◌, ◌||◌, cond, List, [], ◌∷◌, map, filter, find, length, Some, unwrap_or}
use Rattle.std.specs.List.{AllByRecursion as Each}
use Rattle.std.proofs.lemmas.Bool.{false≢true}
use Rattle.compact_values.specs.declared.guid.Guid.{Guid}
use Rattle.compact_values.specs.declared.ids.ExGuid.{ExGuid}
use Rattle.compact_values.specs.SameIds.{same_id}
use Rattle.compact_values.proofs.SameIds.{id-same, same-id}
use Rattle.doc_model.specs.declared.element.Element.{Element}
use Rattle.doc_model.specs.declared.element.Name.{Name}
use Rattle.doc_model.specs.declared.doc.Commit.{Commit}
use Rattle.doc_model.specs.rules.Finding.{find_element, numbered_from}
use Rattle.doc_model.specs.rules.Files.{file}
use Rattle.doc_model.specs.laws.Documents.{DownloadsTheFile, DownloadsWhatIsReached, DownloadsNothing, ReadsTheFile}
use Rattle.doc_model.specs.rules.Pulls.{stored_index, named_ids, lacking, is_lacking}
use Rattle.doc_model.specs.rules.Reached.{is_among, names, reached, reached_from}
use Rattle.doc_model.specs.declared.doc.Doc.{Doc}
use Rattle.doc_model.specs.rules.Sound.{IsSoundCommit}
use Rattle.doc_model.specs.rules.Versions.{last_file}
use Rattle.doc_model.specs.declared.reply.Reply.TheVariants.{File}
use Rattle.std.specs.Prelude.{is_some}
use Rattle.doc_model.proofs.Agree.{file-same}
use Rattle.doc_model.proofs.LastCommit.{some-commits, last-commit, All-slice}
use Rattle.doc_model.proofs.SoundCommits.{reached-from-named}
use Rattle.doc_model.proofs.EachItem.{each-as}

-- the elements under these ids
abbrev among : List ExGuid → List Element → List Element
among ids added = filter (λ e. is_among ids e.id) added

-- what is found under one of the ids is found among them
found-among : (ids : List ExGuid) (id : ExGuid) (added : List Element) → is_among ids id ≡ true → find_element (among ids added) id ≡ find_element added id
found-among ids id [] h = refl
found-among ids id (e ∷ es) h = by-tests (is_among ids e.id) refl (same_id e.id id) refl (found-among ids id es h)
  where
    by-tests : (a : Bool) → is_among ids e.id ≡ a → (s : Bool) → same_id e.id id ≡ s → find_element (among ids es) id ≡ find_element es id
        → find (λ x. same_id x.id id) (cond a (e ∷ among ids es) (among ids es)) ≡ cond s (Some e) (find_element es id)
    by-tests true p true q r = rw q
    by-tests true p false q r = rw q r
    by-tests false p true q r = absurd (false≢true (sym p ∙ ap (is_among ids) (id-same e.id id q) ∙ h))
    by-tests false p false q r = r

-- each of some names is among the ids of all
each-among : (ns ms : List Name) → ((id : ExGuid) → is_among (map (λ n. n.id) ms) id ≡ true → is_among (map (λ n. n.id) ns) id ≡ true)
    → Each (λ n. is_among (map (λ n. n.id) ns) n.id ≡ true) ms
each-among ns [] f = tt
each-among ns (m ∷ ms) f = (f m.id (ap (λ b. b || is_among (map (λ n. n.id) ms) m.id) (same-id m.id)), each-among ns ms (λ id h. f id (or-right (same_id id m.id) (is_among (map (λ n. n.id) ms) id) h)))
  where
    or-right : (a b : Bool) → b ≡ true → (a || b) ≡ true
    or-right true b h = refl
    or-right false b h = h

-- an empty knowledge lacks what is named
lacking-elements : (guid : Guid) (ids : List ExGuid) (n : ℕ) (added : List Element)
    → map (λ e. e.element) (filter (is_lacking guid [] ids) (numbered_from n added)) ≡ among ids added
lacking-elements guid ids n [] = refl
lacking-elements guid ids n (e ∷ es) = by-test (is_among ids e.id) (lacking-elements guid ids (n + 1) es)
  where
    by-test : (a : Bool) → map (λ e. e.element) (filter (is_lacking guid [] ids) (numbered_from (n + 1) es)) ≡ among ids es
        → map (λ e. e.element) (cond (a && true) (record { serial = n; element = e } ∷ filter (is_lacking guid [] ids) (numbered_from (n + 1) es)) (filter (is_lacking guid [] ids) (numbered_from (n + 1) es)))
        ≡ cond a (e ∷ among ids es) (among ids es)
    by-test true r = ap (λ xs. e ∷ xs) r
    by-test false r = r

module _ (doc : Doc) (some : doc.commits ≢ []) where
  -- an empty knowledge is sent what is named from the stored index
  pulled-among : map (λ e. e.element) (lacking doc.guid [] (named_ids doc.added doc.commits) doc.added) ≡ reached_from doc.added (stored_index doc.commits)
  pulled-among =
      lacking-elements doc.guid (named_ids doc.added doc.commits) 1 doc.added
      ∙ ap (λ (b : Bool). among (cond b [] (map (λ n. n.id) (names doc.added (stored_index doc.commits)))) doc.added) (some-commits doc.commits some)

pub downloads : DownloadsTheFile
downloads doc some =
    let index = stored_index doc.commits in
    let ns = names doc.added index in
    let ids = map (λ (n : Name). n.id) ns in
    ap (λ xs. file xs index) (pulled-among doc some)
    ∙ file-same doc.added (among ids doc.added) index
    (each-as (λ n. is_among ids n.id ≡ true) (λ n. find_element (among ids doc.added) n.id ≡ find_element doc.added n.id) ns
    (λ n h. found-among ids n.id doc.added h) (each-among ns ns (λ id h. h)))

-- all that is reached, and a file, where the document is sound
pub downloads-reached : DownloadsWhatIsReached
downloads-reached doc s some =
    let last = last-commit doc.commits some in
    let c : IsSoundCommit doc last.0 = All-slice (IsSoundCommit doc) doc.commits (length doc.commits - 1) last.0 s.commits last.1 in
    let reached-there = ap (λ (i : ExGuid). reached doc.added i) last.2 ∙ c.reached in (
      reached-from-named doc.added (stored_index doc.commits) c.elements reached-there ∙ ap (λ (es : List Element). Some es) (sym (pulled-among doc some)),
      ap (λ (i : ExGuid). is_some (file doc.added i)) last.2 ∙ ap (λ o. is_some o) c.file,
    )

-- without a commit nothing is named, so nothing is lacking
none-lacking : (guid : Guid) (n : ℕ) (added : List Element) → filter (is_lacking guid [] []) (numbered_from n added) ≡ []
none-lacking guid n [] = refl
none-lacking guid n (e ∷ es) = none-lacking guid (n + 1) es

pub downloads-nothing : DownloadsNothing
downloads-nothing doc none =
    let e : named_ids doc.added doc.commits ≡ [] = ap (λ (cs : List Commit). named_ids doc.added cs) none in (
      ap (λ (cs : List Commit). stored_index cs) none,
      ap (λ ids. map (λ x. x.element) (lacking doc.guid [] ids doc.added)) e ∙ ap (map (λ x. x.element)) (none-lacking doc.guid 1 doc.added),
      ap (λ (cs : List Commit). last_file doc.added cs) none,
    )

-- who reads the file reads that of a download
last-file : (doc : Doc) (cs : List Commit) → doc.commits ≡ cs
    → last_file doc.added doc.commits ≡ unwrap_or (file (map (λ x. x.element) (lacking doc.guid [] (named_ids doc.added doc.commits) doc.added)) (stored_index doc.commits)) []
last-file doc [] e =
    let none = downloads-nothing doc e in
    none.2 ∙ sym (ap (λ (es : List Element). unwrap_or (file es (stored_index doc.commits)) []) none.1)
last-file doc (x ∷ xs) e =
    let some : doc.commits ≢ [] = λ h. cc in
    ap (λ (b : Bool). cond b [] (unwrap_or (file doc.added (stored_index doc.commits)) [])) (some-commits doc.commits some)
    ∙ sym (ap (λ o. unwrap_or o []) (downloads doc some))

pub reads-the-file : ReadsTheFile
reads-the-file doc moment user = ap (λ (bytes : List ℕ). File bytes) (last-file doc doc.commits refl)
