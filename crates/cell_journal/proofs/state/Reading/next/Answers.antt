use Rattle.std.proofs.Common.{◌≡◌, ◌≤◌, ◌∙◌, refl, sym, ap, List, ℕ, length, length-drop, drop, arith, take, ◌+◌, ◌∷◌}
use lib.Seq.{drop-drop}
use Rattle.compact_values.specs.Compact.{little_endian}
use Rattle.host_edge.proofs.Untouching.{untouched_trans}
use Rattle.cell_journal.specs.Faults.{Whole}
use Rattle.cell_journal.specs.declared.fault.JournalFault.TheVariants.{NotAJournal}
use Rattle.cell_journal.proofs.Exits.{handed_on}
use Rattle.cell_journal.proofs.Gives.{fails_at, gives_end, gives_body}
use Rattle.cell_journal.proofs.state.Reading.next.Goals as goal

pub returns-in-Err-clause-place : goal.returns-in-Err-clause-place
returns-in-Err-clause-place g c taken given f told place is =
    fails_at g.D.Disk.seen g.D.Disk.may_leave c.args.self.now taken given f told place (c.in-Err.ensures.place f told (given.here f told).total place (handed_on c.in-Err.fault (NotAJournal place) is))

pub returns-in-None-clause-gives : goal.returns-in-None-clause-gives
returns-in-None-clause-gives g c taken given = (
  gives_end g.D.Disk.seen g.D.Disk.may_leave g.D.Disk.moment g.D.Disk.left_since c.args.self.now taken given _ c.in-Ok.ensures.same refl refl refl refl
      (λ f told. rw c.in-None.is at c.in-Ok.ensures.judged f told (given.here f told).total),
  refl,
)

pub returns-else-not-branch-clause-stands : goal.returns-else-not-branch-clause-stands
returns-else-not-branch-clause-stands g c taken given f told =
    let there = rw c.in-Some.is at c.in-Ok.ensures.judged f told (given.here f told).total in
    let fits : c.args.self.now.at + 9 + c.in-Some.size ≤ length f = omega (arith, there.1, length-drop c.args.self.now.at f) in
    let body = c.in_ok-read_body-in-Some.ensures.body f (c.in-Ok.ensures.same.reads ∙ told) fits in
    there.0 ∙ ap Whole (ap (λ (l : List ℕ). take c.in-Some.size l) (drop-drop 9 c.args.self.now.at f) ∙ sym body.1)

pub returns-else-not-branch-clause-gives : goal.returns-else-not-branch-clause-gives
returns-else-not-branch-clause-gives g c taken given =
    let at = c.args.self.now.at in
    let size = c.in-Some.size in
    let sizes = rw c.in-Some.is at c.in-Ok.ensures.size in
    let long : length c.read_body.new.into ≡ size = c.in_ok-read_body-in-Some.ensures.size c.if-not-branch.false in
    gives_body g.D.Disk.seen g.D.Disk.may_leave g.D.Disk.moment g.D.Disk.left_since c.args.self.now taken given _ c.read_body.new.into
    (untouched_trans g.D.Disk.seen g.D.Disk.may_leave g.D.Disk.moment g.D.Disk.left_since c.args.self.now.disk c.read_gate.new.disk c.read_body.new.disk c.in-Ok.ensures.same c.in_ok-read_body-in-Some.ensures.same)
    refl refl (ap (λ (n : ℕ). at + (9 + n)) (sym long)) refl refl
    (record { some = omega (arith, sizes.0, long); most = omega (arith, sizes.1, long) })
    (λ f told. (rw c.in-Some.is at c.in-Ok.ensures.spelled f told) ∙ ap (λ (n : ℕ). 1 ∷ little_endian 8 n) (sym long))
    (λ f told.
    let there = rw c.in-Some.is at c.in-Ok.ensures.judged f told (given.here f told).total in
    let fits : at + 9 + size ≤ length f = omega (arith, there.1, length-drop at f) in
    (c.in_ok-read_body-in-Some.ensures.body f (c.in-Ok.ensures.same.reads ∙ told) fits).1 ∙ ap (λ (n : ℕ). take n (drop (at + 9) f)) (sym long))
