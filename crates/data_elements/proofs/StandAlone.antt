-- What stands in bytes from their front to their end is what they spell.
use Rattle.std.proofs.Common.{◌≡◌, ℕ, ◌+◌, ◌≤◌, List, [], length, refl, sym, subst, zero-add, arith}
use Rattle.std.proofs.lemmas.List.{append-nil}
use Rattle.stream_objects.specs.Answers.{SpellsTree}
use Rattle.stream_objects.specs.Objects.{kind_of}
use Rattle.stream_objects.specs.Trees.{IsObject}
use Rattle.stream_objects.specs.declared.tree.Tree.{Tree}
use Rattle.stream_objects.proofs.Longer.{one_spelling}
use Rattle.stream_objects.proofs.Standing.{At, Whole}
use Rattle.data_elements.specs.StandsAs.{StandsAs}

pub at_all : (bytes : List ℕ) → At bytes 0 bytes
at_all bytes = record { before = []; behind = []; input_is = sym (append-nil bytes); place = refl }

pub stands_as : (bytes : List ℕ) (kind : ℕ) (Is : Tree → Type 0) (count : ℕ) → count ≤ 262144 → Whole bytes 12 (λ t. (kind_of t ≡ kind) × Is t) count 0 (0 + length bytes) → StandsAs bytes Is
stands_as bytes kind Is count few w =
    let spelled : SpellsTree w.tree bytes = record { object = subst (λ (m : ℕ). IsObject 12 bytes w.tree 0 m) (zero-add (length bytes)) w.object; few = omega (arith, w.count_is, few) } in
    record {
      tree = w.tree;
      spelled = spelled;
      only = λ t h. subst Is (one_spelling w.tree t bytes bytes [] [] spelled h refl).0 w.is.1;
    }
