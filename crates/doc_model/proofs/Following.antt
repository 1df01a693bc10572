-- Elements and versions are only added, and the file at a version stays.
use Rattle.std.proofs.Common.{◌≡◌, ℕ, ◌+◌, refl, sym, ◌∙◌, ap, subst, append_assoc, Bool, true, false, not, cond, List, [], ◌∷◌, ◌++◌, get_or, Option, Some, None}
use Rattle.std.proofs.lemmas.List.{append-nil}
use Rattle.std.proofs.lemmas.List.Elements.{All-from_recursion, recursion_from_All, All-weaker}
use Rattle.std.specs.List.{AllByRecursion as Each, All}
use Rattle.doc_model.specs.declared.call.Call.{Call}
use Rattle.doc_model.specs.declared.call.Put.{Put}
use Rattle.doc_model.specs.declared.call.Sub.{Sub}
use Rattle.doc_model.specs.declared.call.Sub.TheVariants as sub
use Rattle.doc_model.specs.declared.doc.Doc.{Doc}
use Rattle.doc_model.specs.declared.doc.Commit.{Commit}
use Rattle.doc_model.specs.declared.element.Element.{Element}
use Rattle.doc_model.specs.declared.reply.Code.{Code}
use Rattle.doc_model.specs.rules.Apply.{apply, by_kind, replay}
use Rattle.doc_model.specs.rules.Drawing.{can_draw}
use Rattle.doc_model.specs.rules.Editing.{edit}
use Rattle.doc_model.specs.rules.Files.{file}
use Rattle.doc_model.specs.laws.Documents.{Follows, CallsFollow, HistoriesFollow}
use Rattle.doc_model.specs.rules.Locking.{do_lock}
use Rattle.doc_model.specs.rules.Locks.{live, allowed}
use Rattle.doc_model.specs.rules.Puts.{is_part, part_refusal, commit_refusal, kept, committed, fresh, sent_to}
use Rattle.doc_model.specs.rules.Sound.{IsSoundCommit, Sound, Valid}
use Rattle.doc_model.specs.rules.Effects.{Effect, unless}
use Rattle.doc_model.specs.rules.Versions.{version, restore_version, restore_refusal, restored, index_like, new_index}
use Rattle.doc_model.proofs.Added.{file-stays}
use Rattle.doc_model.proofs.EachItem.{each-as, each-both, each-front}
use Rattle.doc_model.proofs.KeepsSound.{keeps-sound}
use Rattle.doc_model.proofs.SoundCommits.{reached-named}

-- a document with the same elements and versions
same-content : (doc later : Doc) → later.added ≡ doc.added → later.commits ≡ doc.commits → Follows doc later
same-content doc later a c = record {
  more = [];
  added = a ∙ sym (append-nil doc.added);
  versions = [];
  commits = c ∙ sym (append-nil doc.commits);
  files = λ k d lt. ap (λ (es : List Element). file es (get_or doc.commits k d).index) a;
}

either : (doc : Doc) (b : Bool) (x y : Effect) → Follows doc x.doc → Follows doc y.doc → Follows doc (cond b x y).doc
either doc true x y p q = p
either doc false x y p q = q

unless-refused : (doc : Doc) (o : Option Code) (done : Effect) → Follows doc done.doc → Follows doc (unless o doc done).doc
unless-refused doc None done p = p
unless-refused doc (Some c) done p = same-content doc doc refl refl

module _ (doc : Doc) (s : Sound doc) where
  -- more elements change no file
  files-stay : (more : List Element) → All (λ c. file (doc.added ++ more) c.index ≡ file doc.added c.index) doc.commits
  files-stay more =
      All-weaker (IsSoundCommit doc) (λ c. file (doc.added ++ more) c.index ≡ file doc.added c.index)
      (λ c t. file-stays doc.added more c.index (reached-named doc.added c.index t.elements t.reached)) doc.commits s.commits

  committed-follows : (m : ℕ) (user : List ℕ) (p : Put) → Follows doc (committed doc m user p).doc
  committed-follows m user p = record {
    more = fresh doc.added (sent_to doc p);
    added = refl;
    versions = record { index = p.index; moment = m; user = user } ∷ [];
    commits = refl;
    files = files-stay (fresh doc.added (sent_to doc p));
  }

  -- a restore adds an element and a version
  restored-follows : (m : ℕ) (user : List ℕ) (c : Commit) → Follows doc (restored doc m user c).doc
  restored-follows m user c = record {
    more = index_like doc.added (new_index doc) c.index ∷ [];
    added = refl;
    versions = record { index = new_index doc; moment = m; user = user } ∷ [];
    commits = refl;
    files = files-stay (index_like doc.added (new_index doc) c.index ∷ []);
  }

  version-follows : (m : ℕ) (user : List ℕ) (o : Option Commit) → Follows doc (restore_version doc m user o).doc
  version-follows m user None = same-content doc doc refl refl
  version-follows m user (Some c) = unless-refused doc (restore_refusal doc c) (restored doc m user c) (restored-follows m user c)

  kind-follows : (m : ℕ) (user : List ℕ) (what : Sub) → Follows doc (by_kind doc m user what).doc
  kind-follows m user sub.Access = same-content doc doc refl refl
  kind-follows m user (sub.Pull knowledge) = same-content doc doc refl refl
  kind-follows m user (sub.Put p) =
      either doc (is_part p) _ _ (unless-refused doc (part_refusal doc m p) (kept doc m p) (same-content doc (kept doc m p).doc refl refl))
      (unless-refused doc (commit_refusal doc m p) (committed doc m user p) (committed-follows m user p))
  kind-follows m user (sub.Lock step) = same-content doc (do_lock doc m step).doc refl refl
  kind-follows m user (sub.Draw count) =
      either doc (can_draw doc count) _ _ (same-content doc (record doc { drawn = doc.drawn + count }) refl refl) (same-content doc doc refl refl)
  kind-follows m user (sub.Editor step) = same-content doc (edit doc m user step).doc refl refl
  kind-follows m user sub.Versions = same-content doc doc refl refl
  kind-follows m user (sub.Restore number carried) =
      either doc (not (allowed (live doc.lock m) carried)) _ _ (same-content doc doc refl refl) (version-follows m user (version doc.commits number))
  kind-follows m user sub.ReadFile = same-content doc doc refl refl
  kind-follows m user sub.AmIAlone = same-content doc doc refl refl
  kind-follows m user sub.WhoAmI = same-content doc doc refl refl

pub calls-follow : CallsFollow
calls-follow doc call s = kind-follows doc s call.moment call.user call.sub

-- what follows what follows a document follows it
follows-both : (a b c : Doc) → Follows a b → Follows b c → Follows a c
follows-both a b c p q = record {
  more = p.more ++ q.more;
  added = q.added ∙ ap (λ (es : List Element). es ++ q.more) p.added ∙ append_assoc a.added p.more q.more;
  versions = p.versions ++ q.versions;
  commits = q.commits ∙ ap (λ (cs : List Commit). cs ++ q.versions) p.commits ∙ append_assoc a.commits p.versions q.versions;
  files =
      let later : Commit → Type 0 = λ x. file c.added x.index ≡ file b.added x.index in
      let sooner : Commit → Type 0 = λ x. file b.added x.index ≡ file a.added x.index in
      All-from_recursion (λ x. file c.added x.index ≡ file a.added x.index) a.commits
      (each-as (λ x. later x × sooner x) (λ x. file c.added x.index ≡ file a.added x.index) a.commits (λ x t. t.0 ∙ t.1)
      (each-both later sooner a.commits
      (each-front later a.commits p.versions (subst (Each later) p.commits (recursion_from_All later b.commits q.files))) (recursion_from_All sooner a.commits p.files)));
}

replay-follows : (doc : Doc) (calls : List (ℕ × Call)) → Sound doc → Each (λ item. Valid item.1) calls → Sound (replay doc calls) × Follows doc (replay doc calls)
replay-follows doc [] s v = (s, same-content doc doc refl refl)
replay-follows doc (x ∷ xs) s v =
    let next = (apply doc x.1).doc in
    let rest = replay-follows next xs (keeps-sound doc x.1 s v.0) v.1 in
    (rest.0, follows-both doc next (replay next xs) (calls-follow doc x.1 s) rest.1)

pub histories-follow : HistoriesFollow
histories-follow doc calls s v = replay-follows doc calls s (recursion_from_All (λ item. Valid item.1) calls v)
