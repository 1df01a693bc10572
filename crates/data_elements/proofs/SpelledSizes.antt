-- How many bytes an object takes at least, with all that it holds.
use Rattle.std.proofs.Common.{◌≡◌, ℕ, zero, suc, ◌+◌, ◌-◌, ◌≤◌, Bool, true, false, cond, List, [], ◌∷◌, length, sum, drop, ap, arith, length-append}
use Rattle.std.specs.List.{slice_range}
use Rattle.std.proofs.lemmas.Bool.Decides.{nat_tests}
use Rattle.std.proofs.lemmas.List.{length-take, length-drop}
use Rattle.stream_objects.specs.Headers.{StartForm, EndForm, small, wide, large, small_end, wide_end, StartFits, IsStart, IsEnd, start_bytes, end_bytes}
use Rattle.stream_objects.specs.Objects.{fields_of}
use Rattle.stream_objects.specs.Trees.{Consecutive, EndsBehind, IsObject, IsTreeAt}
use Rattle.stream_objects.specs.declared.tree.Tree.{Tree}
use Rattle.stream_objects.specs.declared.tree.Tree.TheOpen.{Tree-F}
use Rattle.stream_objects.specs.declared.tree.Tree.TheViews.{out-Tree}
use Rattle.stream_objects.specs.declared.tree.Tree.TheFolds.{fold-Tree, fold_out-Tree}
use Rattle.doc_model.specs.rules.Weights.{started_size}
use Rattle.data_elements.proofs.Totals.{total, total-cons}

-- an end has a byte at least
abbrev end_size : Bool → ℕ
end_size compound = cond compound 1 0

abbrev node_size : List ℕ → Tree-F ℕ → ℕ
node_size input u = started_size (length (slice_range input u.fields.from u.fields.to)) + (sum u.children + end_size u.compound)

-- the start in its shortest form, the fields, what it holds, and an end of one byte
pub size : List ℕ → Tree → ℕ
size input = fold-Tree ℕ (node_size input)

pub size_out : (input : List ℕ) (t : Tree) → size input t ≡ started_size (length (fields_of input t)) + (total (size input) (out-Tree t).children + end_size (out-Tree t).compound)
unfolding size
size_out input t = fold_out-Tree ℕ (node_size input) t

-- ---- headers

start_form_long : (form : StartForm) (kind len : ℕ) (compound : Bool) → StartFits form kind len → started_size len ≤ length (start_bytes form kind compound len) + len
start_form_long small kind len compound fits = grind (arith, nat_tests, fits.1)
start_form_long wide kind len compound fits = grind (arith, nat_tests, fits.1)
start_form_long large kind len compound fits = grind (arith, nat_tests, length-append)

pub start_long : (kind len : ℕ) (compound : Bool) (bytes : List ℕ) → IsStart kind compound len bytes → started_size len ≤ length bytes + len
start_long kind len compound bytes s = omega (arith, start_form_long s.form kind len compound s.fits, ap (λ (b : List ℕ). length b) s.bytes_are)

end_form_long : (form : EndForm) (kind : ℕ) → 1 ≤ length (end_bytes form kind)
end_form_long small_end kind = omega arith
end_form_long wide_end kind = omega arith

pub end_long : (kind : ℕ) (bytes : List ℕ) → IsEnd kind bytes → 1 ≤ length bytes
end_long kind bytes s = omega (arith, end_form_long s.form kind, ap (λ (b : List ℕ). length b) s.bytes_are)

slice_short : (input : List ℕ) (at next : ℕ) → length (slice_range input at next) ≤ next - at
slice_short input at next = omega (arith, length-take (next - at) (drop at input))

slice_long : (input : List ℕ) (at next : ℕ) → at ≤ next → next ≤ length input → length (slice_range input at next) ≡ next - at
slice_long input at next order inside = omega (arith, length-take (next - at) (drop at input), length-drop at input)

-- ---- objects

module _ (input : List ℕ) where
  each_long : (n : ℕ) → ((t : Tree) (from next : ℕ) → IsObject n input t from next → from + size input t ≤ next) → (ts : List Tree) (from next : ℕ) → Consecutive (IsObject n input) ts from next
      → from + total (size input) ts ≤ next
  each_long n f [] from next h = omega (arith, h)
  each_long n f (t ∷ ts) from next h = omega (arith, f t from h.0 h.1, each_long n f ts h.0 next h.2, total-cons (size input) t ts)

  behind_long : (n : ℕ) → ((t : Tree) (from next : ℕ) → IsObject n input t from next → from + size input t ≤ next) → (u : Tree-F Tree) (compound : Bool) (next : ℕ)
      → EndsBehind (IsObject n input) input u compound next → u.fields.to + (total (size input) u.children + end_size compound) ≤ next
  behind_long n f u false next h = omega (arith, h.1, ap (λ (ts : List Tree). total (size input) ts) h.0)
  behind_long n f u true next h = omega (arith, each_long n f u.children u.fields.to h.0 h.1, end_long u.kind _ h.2.spelled, slice_short input h.0 next, h.2.order)

  pub object_long : (n : ℕ) (t : Tree) (from next : ℕ) → IsObject n input t from next → from + size input t ≤ next
  unfolding IsObject
  object_long zero t from next h = absurd h
  object_long (suc n) t from next h =
      let u = out-Tree t in
      let s = h.0 in
      omega (
        arith,
        size_out input t,
        behind_long n (object_long n) u u.compound next h.1,
        start_long u.kind (u.fields.to - u.fields.from) u.compound _ s.header.spelled,
        slice_short input from u.fields.from,
        s.header.order,
        s.order,
        ap started_size (slice_long input u.fields.from u.fields.to s.order s.inside),
      )

  pub tree_long : (t : Tree) (from next : ℕ) → IsTreeAt input t from next → from + size input t ≤ next
  tree_long t from next h = object_long 12 t from next h.object
