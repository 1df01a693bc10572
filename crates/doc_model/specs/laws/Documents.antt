-- What holds of every document and every call.
use Rattle.std.specs.Prelude.{◌≡◌, ◌≢◌, ◌⊎◌, ℕ, ◌+◌, true, false, IsTrue, List, [], ◌∷◌, ◌++◌, length, map, drop, Option, Some, None, is_some, unwrap_or}
use Rattle.std.specs.List.{All, list_all, slice_get}
use Rattle.compact_values.specs.declared.guid.Guid.{Guid}
use Rattle.compact_values.specs.declared.ids.ExGuid.{ExGuid}
use Rattle.compact_values.specs.declared.ids.ExGuid.TheVariants.{Null}
use Rattle.doc_model.specs.declared.call.Call.{Call}
use Rattle.doc_model.specs.declared.call.Put.{Put}
use Rattle.doc_model.specs.declared.doc.Doc.{Doc}
use Rattle.doc_model.specs.declared.doc.Commit.{Commit}
use Rattle.doc_model.specs.declared.element.Element.{Element}
use Rattle.doc_model.specs.declared.reply.Reply.{Reply}
use Rattle.doc_model.specs.declared.call.Sub.TheVariants.{ReadFile}
use Rattle.doc_model.specs.declared.reply.Code.{Code}
use Rattle.doc_model.specs.declared.reply.Code.TheVariants.{LeftOnFailedConversion}
use Rattle.doc_model.specs.declared.reply.Reply.TheVariants.{Pulled, File, Refused}
use Rattle.doc_model.specs.rules.Apply.{apply, by_kind, empty_doc, replay}
use Rattle.doc_model.specs.rules.Files.{file, root_chain}
use Rattle.doc_model.specs.rules.Finding.{find_element}
use Rattle.doc_model.specs.rules.Pulls.{stored_index, pull}
use Rattle.doc_model.specs.rules.Puts.{put}
use Rattle.doc_model.specs.rules.Reached.{names, reached}
use Rattle.doc_model.specs.rules.Sound.{Sound, Valid}
use Rattle.doc_model.specs.rules.Versions.{version, restore, last_file}

-- A call that doesn't move leaves the document equal.
abbrev pub UnmovedIsEqual : Type 0
UnmovedIsEqual = (doc : Doc) (call : Call) → (apply doc call).moved ≡ false → (apply doc call).doc ≡ doc

-- A call that is refused doesn't move, but for one step of the lock: a client whose change to an exclusive lock fails may ask
-- to leave the shared one then.
abbrev pub RefusedStays : Type 0
RefusedStays =
    (doc : Doc) (call : Call) (c : Code) → (apply doc call).reply ≡ Refused c → c ≢ LeftOnFailedConversion → (apply doc call).moved ≡ false

-- the index that a put expects is the stored one, or it takes any for null and nothing was committed
abbrev pub ExpectsStored : Doc → Put → Type 0
ExpectsStored doc p = (p.expected ≡ stored_index doc.commits) ⊎ ((p.imply_null ≡ true) × (doc.commits ≡ []))

-- Where a put that doesn't win as the last writer changes the commits, it expected the stored index.
abbrev pub CommitsOnStored : Type 0
CommitsOnStored =
    (doc : Doc) (moment : ℕ) (user : List ℕ) (p : Put) → p.last_writer_wins ≡ false → (put doc moment user p).doc.commits ≢ doc.commits
    → ExpectsStored doc p

-- Of a document that is kept, commits with one index are one commit.
abbrev pub OneCommitOfIndex : Type 0
OneCommitOfIndex =
    (doc : Doc) (i j : ℕ) (a b : Commit) → Sound doc → slice_get doc.commits i ≡ Some a → slice_get doc.commits j ≡ Some b → a.index ≡ b.index → i ≡ j

-- Where a call changes the commits, they are the old ones and one more, under an index that none of them has.
abbrev pub CommitsNewIndex : Type 0
CommitsNewIndex =
    (doc : Doc) (call : Call) → Sound doc → (apply doc call).doc.commits ≢ doc.commits
    → (c : Commit) × ((apply doc call).doc.commits ≡ doc.commits ++ c ∷ []) × All (λ x. x.index ≢ c.index) doc.commits

-- Where the stored index is the same as it was, nothing was committed in between.
abbrev pub EqualIndexEqualCommits : Type 0
EqualIndexEqualCommits =
    (doc : Doc) (calls : List (ℕ × Call)) → Sound doc → All (λ item. Valid item.1) calls
    → stored_index (replay doc calls).commits ≡ stored_index doc.commits → (replay doc calls).commits ≡ doc.commits

-- Where all that an index names is there, elements that are added later change nothing of it.
abbrev pub AllNamed : List Element → ExGuid → Type 0
AllNamed added index = IsTrue (list_all (λ n. n.found) (names added index))

abbrev pub NamesStay : Type 0
NamesStay = (added more : List Element) (index : ExGuid) → AllNamed added index → names (added ++ more) index ≡ names added index

-- elements whose ids are new
abbrev pub AreNew : List Element → List Element → Type 0
AreNew added more = All (λ e. find_element added e.id ≡ None) more

abbrev pub ReachedStays : Type 0
ReachedStays = (added more : List Element) (index : ExGuid) → AllNamed added index → AreNew added more → reached (added ++ more) index ≡ reached added index

abbrev pub ChainStays : Type 0
ChainStays = (added more : List Element) (index : ExGuid) → AllNamed added index → root_chain (added ++ more) index ≡ root_chain added index

abbrev pub FileStays : Type 0
FileStays = (added more : List Element) (index : ExGuid) → AllNamed added index → file (added ++ more) index ≡ file added index

-- the index and the elements that a pull answers
abbrev pub pulled_index : Reply → ExGuid
pulled_index (Pulled guid index elements knowledge) = index
pulled_index _ = Null

abbrev pub pulled_elements : Reply → List Element
pulled_elements (Pulled guid index elements knowledge) = map (λ e. e.element) elements
pulled_elements _ = []

-- What a client that knows nothing is sent has, alone, the file that the document has at the index which is answered.
abbrev pub DownloadsTheFile : Type 0
DownloadsTheFile =
    (doc : Doc) → doc.commits ≢ []
    → file (pulled_elements (pull doc [])) (pulled_index (pull doc [])) ≡ file doc.added (pulled_index (pull doc []))

-- It is all that is reached from that index, and the file is there.
abbrev pub DownloadsWhatIsReached : Type 0
DownloadsWhatIsReached =
    (doc : Doc) → Sound doc → doc.commits ≢ []
    → (reached doc.added (pulled_index (pull doc [])) ≡ Some (pulled_elements (pull doc []))) × IsTrue (is_some (file doc.added (pulled_index (pull doc []))))

-- Without a commit the answered index is null, no element is sent, and the file is empty.
abbrev pub DownloadsNothing : Type 0
DownloadsNothing =
    (doc : Doc) → doc.commits ≡ [] → (pulled_index (pull doc []) ≡ Null) × (pulled_elements (pull doc []) ≡ []) × (last_file doc.added doc.commits ≡ [])

-- Who reads the file reads what those elements have, and nothing where they have none.
abbrev pub ReadsTheFile : Type 0
ReadsTheFile =
    (doc : Doc) (moment : ℕ) (user : List ℕ)
    → (by_kind doc moment user ReadFile).reply ≡ File (unwrap_or (file (pulled_elements (pull doc [])) (pulled_index (pull doc []))) [])

-- Every call that may be made leaves a sound document sound, and a document without anything is sound.
abbrev pub KeepsSound : Type 0
KeepsSound = (doc : Doc) (call : Call) → Sound doc → Valid call → Sound (apply doc call).doc

abbrev pub EmptyIsSound : Type 0
EmptyIsSound = (guid : Guid) → Sound (empty_doc guid)

-- A document that stands later in a history: its elements and versions begin with those of the earlier one, and the file at
-- each of those versions is the same.
pub record Follows (doc later : Doc) : Type 0 where
  pub more : List Element
  pub added : later.added ≡ doc.added ++ more
  pub versions : List Commit
  pub commits : later.commits ≡ doc.commits ++ versions
  pub files : All (λ c. file later.added c.index ≡ file doc.added c.index) doc.commits

-- No call takes an element or a version away, or changes the file at a version.
abbrev pub CallsFollow : Type 0
CallsFollow = (doc : Doc) (call : Call) → Sound doc → Follows doc (apply doc call).doc

-- The same of lists of calls that may be made; and the document stays sound.
abbrev pub HistoriesFollow : Type 0
HistoriesFollow =
    (doc : Doc) (calls : List (ℕ × Call)) → Sound doc → All (λ item. Valid item.1) calls → Sound (replay doc calls) × Follows doc (replay doc calls)

-- A later document has one more version, at whose index the file is that of an earlier one, and which names the same below
-- itself.
pub record Restores (doc later : Doc) (c : Commit) : Type 0 where
  pub one_more : length later.commits ≡ length doc.commits + 1
  pub file : file later.added (stored_index later.commits) ≡ file doc.added c.index
  pub below : drop 1 (names later.added (stored_index later.commits)) ≡ drop 1 (names doc.added c.index)

-- A restore of a version that isn't refused does that.
abbrev pub RestoresTheFile : Type 0
RestoresTheFile =
    (doc : Doc) (moment : ℕ) (user : List ℕ) (number : ℕ) (carried : Option Guid) (c : Commit) → Sound doc → version doc.commits number ≡ Some c
    → (restore doc moment user number carried).moved ≡ true → Restores doc (restore doc moment user number carried).doc c
