-- What a plan leads to that adds elements and a version.
use Rattle.std.proofs.Common.{◌≡◌, ℕ, ◌+◌, ◌≤◌, ◌<◌, refl, sym, ◌∙◌, ap, subst, Bool, true, false, not, ◌&&◌, ◌||◌, nat_le, nat_lt, cond, List, [], ◌∷◌, ◌++◌, length, Option, Some, None, unwrap_or, arith}
use Rattle.std.specs.Prelude.{is_some, is_none}
use Rattle.std.proofs.lemmas.Bool.Decides.{nat_tests}
use Rattle.std.specs.List.{AllByRecursion as Each}
use Rattle.compact_values.specs.declared.guid.Guid.{Guid}
use Rattle.compact_values.specs.declared.ids.ExGuid.{ExGuid}
use Rattle.doc_model.specs.declared.call.Put.{Put}
use Rattle.doc_model.specs.declared.doc.Commit.{Commit}
use Rattle.doc_model.specs.declared.doc.Doc.{Doc}
use Rattle.doc_model.specs.declared.doc.Part.{Part}
use Rattle.doc_model.specs.declared.element.Element.{Element}
use Rattle.doc_model.specs.declared.reply.Code.TheVariants as code
use Rattle.doc_model.specs.rules.Drawing.{last_number}
use Rattle.doc_model.specs.rules.Files.{file}
use Rattle.doc_model.specs.rules.Limits.{most_file, most_reached_weight}
use Rattle.doc_model.specs.rules.Puts.{commit_reasons, commit_refusal, committed, added_by, sent_to, fresh, has_chains, has_invalid, other_parts, too_large, too_much_added}
use Rattle.doc_model.specs.rules.Reached.{absent, reached_from}
use Rattle.doc_model.specs.rules.Effects.{first_refusal}
use Rattle.doc_model.specs.rules.Versions.{added_by_restore, index_like, new_index, next_id, restore_refusal, restored}
use Rattle.doc_model.specs.rules.Weights.{weight_of}
use Rattle.doc_model.proofs.Reasons.{NoneHolds, none-holds, not-less, or-neither}
use Rattle.doc_model.proofs.SoundCommits.{all-found}
use Rattle.doc_model.proofs.SoundElements.{IsOwned, each-fresh, each-owned}
use Rattle.plain_core.specs.Keeping.{joined, may_join}
use Rattle.plain_core.specs.Weighing.{is_few, all_few, few_parts}
use Rattle.plain_core.specs.Wholes.{is_usable, all_usable, is_small, is_whole}
use Rattle.plain_core.proofs.FewObjects.{all-both, all-later, both}
use Rattle.plain_core.proofs.Wholes.{like-whole, next-usable, usable-later, usable-owned, whole-by}

-- elements that are some of such that may join, where the document has the others
join-by : (doc : Doc) (new all : List Element) (c : Commit) → doc.added ++ new ≡ all → all_few all ≡ true → all_usable doc.guid doc.drawn all ≡ true
    → is_whole all c.index ≡ true → may_join doc new c ≡ true
join-by doc new all c e few usable whole =
    both (all_few new && all_usable doc.guid doc.drawn new) (is_whole (doc.added ++ new) c.index)
    (both (all_few new) (all_usable doc.guid doc.drawn new) (all-later is_few doc.added new (ap all_few e ∙ few))
    (all-later (is_usable doc.guid doc.drawn) doc.added new (ap (all_usable doc.guid doc.drawn) e ∙ usable)))
    (ap (λ (es : List Element). is_whole es c.index) e ∙ whole)

-- ---- an upload that nothing speaks against

small-by : (o : Option (List ℕ)) → is_none o ≡ false → length (unwrap_or o []) ≤ most_file → is_small o ≡ true
small-by None e le = cc
small-by (Some bytes) e le = grind (arith, nat_tests)

module _ (doc : Doc) (moment : ℕ) (p : Put) (accepted : commit_refusal doc moment p ≡ None) where
  abbrev all : List Element
  all = added_by doc p

  none : NoneHolds (commit_reasons doc moment p (sent_to doc p) all)
  none = none-holds (commit_reasons doc moment p (sent_to doc p) all) accepted

  -- at its index all is there, with a file
  upload-whole : is_whole all p.index ≡ true
  upload-whole =
      let file_there = (or-neither (not (has_chains all p.index)) (is_none (file all p.index)) none.1.1.1.1.1.1.0).1 in
      let small = (or-neither (nat_lt most_file (length (unwrap_or (file all p.index) []))) (nat_lt most_reached_weight (weight_of (reached_from all p.index))) none.1.1.1.1.1.1.1.0).0 in
      whole-by all p.index (all-found all p.index none.1.1.1.1.1.0) (small-by (file all p.index) file_there (not-less most_file (length (unwrap_or (file all p.index) [])) small))

  -- and its elements may be used
  upload-usable : all_usable doc.guid doc.drawn doc.added ≡ true → all_usable doc.guid doc.drawn all ≡ true
  upload-usable usable =
      let es = sent_to doc p in
      let owned : Each (λ e. IsOwned doc e.id) es = each-owned doc es none.1.0 in
      all-both (is_usable doc.guid doc.drawn) doc.added (fresh doc.added es) usable
      (usable-owned doc (fresh doc.added es) (each-fresh (λ e. IsOwned doc e.id) doc.added es owned))

  pub upload-leads : (user : List ℕ) (new : List Element) (c : Commit) (parts : List Part) → doc.added ++ new ≡ all → all_few all ≡ true
      → all_usable doc.guid doc.drawn doc.added ≡ true → few_parts parts ≡ true
      → c ≡ record { index = p.index; moment = moment; user = user } → parts ≡ other_parts doc.parts moment p.index
      → cond (may_join doc new c && few_parts parts) (Some (record (joined doc new c) { parts = parts })) None ≡ Some (committed doc moment user p).doc
  upload-leads user new c parts e few usable light is kept =
      let whole : is_whole all c.index ≡ true = ap (λ (x : Commit). is_whole all x.index) is ∙ upload-whole in
      let joins = both (may_join doc new c) (few_parts parts) (join-by doc new all c e few (upload-usable usable) whole) light in
      let then_ : Doc = record (joined doc new c) { parts = parts } in
      ap (λ b. cond b (Some then_) None) joins
      ∙ ap (λ (es : List Element). Some (record doc { added = es; commits = doc.commits ++ c ∷ []; parts = parts })) e
      ∙ ap (λ (x : Commit). Some (record doc { added = all; commits = doc.commits ++ x ∷ []; parts = parts })) is
      ∙ ap (λ (ps : List Part). Some (record doc { added = all; commits = doc.commits ++ record { index = p.index; moment = moment; user = user } ∷ []; parts = ps })) kept

-- ---- a version that is restored

module _ (doc : Doc) (old : Commit) (usable : all_usable doc.guid doc.drawn doc.added ≡ true) (whole : is_whole doc.added old.index ≡ true) where
  abbrev restoring : List Element
  restoring = added_by_restore doc old

  pub restore-whole : is_whole restoring (new_index doc) ≡ true
  restore-whole = like-whole doc.guid doc.drawn doc.added old.index usable whole

  more : (n : ℕ) → nat_le n (n + 1) ≡ true
  more n = grind (arith, nat_tests)

  pub restore-leads : (moment : ℕ) (user : List ℕ) (new : List Element) (c : Commit) → doc.added ++ new ≡ restoring → all_few restoring ≡ true
      → c ≡ record { index = new_index doc; moment = moment; user = user }
      → (let then_drawn = record doc { drawn = doc.drawn + 1 } in
      cond (nat_le doc.drawn (doc.drawn + 1) && may_join then_drawn new c) (Some (joined then_drawn new c)) None) ≡ Some (restored doc moment user old).doc
  restore-leads moment user new c e few is =
      let then_drawn : Doc = record doc { drawn = doc.drawn + 1 } in
      let later : all_usable doc.guid (doc.drawn + 1) restoring ≡ true =
      all-both (is_usable doc.guid (doc.drawn + 1)) doc.added (index_like doc.added (new_index doc) old.index ∷ [])
      (usable-later doc.guid doc.drawn (doc.drawn + 1) doc.added (more doc.drawn) usable)
      (both (is_usable doc.guid (doc.drawn + 1) (index_like doc.added (new_index doc) old.index)) true (next-usable doc.guid doc.drawn) refl) in
      let there : is_whole restoring c.index ≡ true = ap (λ (x : Commit). is_whole restoring x.index) is ∙ restore-whole in
      let joins = both (nat_le doc.drawn (doc.drawn + 1)) (may_join then_drawn new c) (more doc.drawn) (join-by then_drawn new restoring c e few later there) in
      ap (λ b. cond b (Some (joined then_drawn new c)) None) joins
      ∙ ap (λ (es : List Element). Some (record doc { added = es; commits = doc.commits ++ c ∷ []; drawn = doc.drawn + 1 })) e
      ∙ ap (λ (x : Commit). Some (record doc { added = restoring; commits = doc.commits ++ x ∷ []; drawn = doc.drawn + 1 })) is

-- where numbers are left and the limits don't refuse, nothing does
pub restore-accepted : (doc : Doc) (old : Commit) → doc.drawn < last_number
    → first_refusal ((too_much_added (added_by_restore doc old), code.StorageLimit) ∷ (too_large (added_by_restore doc old) (new_index doc), code.StorageLimit) ∷ []) ≡ None
    → restore_refusal doc old ≡ None
restore-accepted doc old lt h = at (nat_le last_number doc.drawn) (left doc.drawn lt)
  where
    left : (n : ℕ) → n < last_number → nat_le last_number n ≡ false
    left n lt = grind (arith, nat_tests)

    at : (b : Bool) → b ≡ false
        → first_refusal ((b, code.NoNumbers) ∷ (too_much_added (added_by_restore doc old), code.StorageLimit) ∷ (too_large (added_by_restore doc old) (new_index doc), code.StorageLimit) ∷ []) ≡ None
    at true e = cc
    at false e = h
