-- Elements and a version that may join those of a document.
use Rattle.std.proofs.Common.{◌≡◌, Bool, true, false, ◌&&◌, cond, List, [], ◌∷◌, ◌++◌}
use Rattle.doc_model.specs.declared.doc.Commit.{Commit}
use Rattle.doc_model.specs.declared.doc.Doc.{Doc}
use Rattle.doc_model.specs.declared.element.Element.{Element}
use Rattle.doc_model.proofs.Reasons.{and-both}
use Rattle.plain_core.specs.Keeping.{may_join}
use Rattle.plain_core.specs.Weighing.{is_few, all_few}
use Rattle.plain_core.specs.Wholes.{is_usable, all_usable, is_whole, all_whole}
use Rattle.plain_core.proofs.FewObjects.{all-both}
use Rattle.plain_core.proofs.Wholes.{all-whole-joined, all-whole-stays}

module _ (doc : Doc) (fresh : List Element) (c : Commit) (h : may_join doc fresh c ≡ true) where
  parts : ((all_few fresh && all_usable doc.guid doc.drawn fresh) ≡ true) × (is_whole (doc.added ++ fresh) c.index ≡ true)
  parts = and-both (all_few fresh && all_usable doc.guid doc.drawn fresh) (is_whole (doc.added ++ fresh) c.index) h

  elements : (all_few fresh ≡ true) × (all_usable doc.guid doc.drawn fresh ≡ true)
  elements = and-both (all_few fresh) (all_usable doc.guid doc.drawn fresh) parts.0

  pub joined-few : all_few doc.added ≡ true → all_few (doc.added ++ fresh) ≡ true
  joined-few few = all-both is_few doc.added fresh few elements.0

  pub joined-usable : all_usable doc.guid doc.drawn doc.added ≡ true → all_usable doc.guid doc.drawn (doc.added ++ fresh) ≡ true
  joined-usable usable = all-both (is_usable doc.guid doc.drawn) doc.added fresh usable elements.1

  -- with the version or still without it
  pub joined-whole : (with : Bool) → all_whole doc.added doc.commits ≡ true → all_whole (doc.added ++ fresh) (cond with (doc.commits ++ c ∷ []) doc.commits) ≡ true
  joined-whole true whole = all-whole-joined doc.added fresh doc.commits c whole parts.1
  joined-whole false whole = all-whole-stays doc.added fresh doc.commits whole
