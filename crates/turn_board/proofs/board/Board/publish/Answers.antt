use Rattle.std.proofs.Common.{rules, ap, sym, ◌∙◌, [], ◌∷◌, Some, subst, refl, ◌%◌, ◌+◌, ◌^◌, length}
use mathlib.Core.Option.{none}
use mir.Val.{bool_byte}
use Rattle.atomic_table.specs.Table.{Allows, step}
use Rattle.turn_board.specs.Rule.{IsKept}
use Rattle.turn_board.specs.Steps.{published}
use Rattle.turn_board.proofs.Steps.{publishes}
use Rattle.turn_board.proofs.Live.{live_of}
use Rattle.turn_board.proofs.Leaving.{moved_size, published_is}
use Rattle.turn_board.proofs.board.Board.publish.Goals as goal

pub fetch_add-requires : goal.fetch_add-requires
fetch_add-requires g c =
    let seat = c.args.seat.now in
    let v = seat.pass.me.0 in
    let y = c.args.given.now.value in
    let last = g.S.Kept.last in
    let kept = IsKept g.S.Kept.story g.S.Kept.tally g.S.Kept.root g.S.Kept.mark (g.S.Kept.root c.args.self.now.table.shared.key.value.value) c.args.self.now.table.shared.key.seats in
    let slots = c.args.self.now.table.shared.table_id.slots in
    let add = bool_byte c.args.moved in (
      search rules,
      search rules,
      subst (λ m. Allows kept slots seat.pass.id m 2 (λ x. (x + add) % 2 ^ 64) (published last g.S.Kept.tally (step slots 2 add 0 none) m)) (ap (λ l. (v, l)) (sym c.requires.slot))
          (publishes g.S.Kept.story g.S.Kept.tally g.S.Kept.root g.S.Kept.mark _ _ last _ _ (v, (0, Some y) ∷ []) c.requires.turn.0 y add (live_of v seat.live) c.requires.turn.1 refl (ap bool_byte c.requires.moved ∙ moved_size (length v.taken) (last y)) c.requires.marked),
    )

pub returns-clause-published : goal.returns-clause-published
returns-clause-published g c =
    let seat = c.args.seat.now in
    let v = seat.pass.me.0 in
    let slots = c.args.self.now.table.shared.table_id.slots in
    published_is g.S.Kept.last g.S.Kept.tally (step slots 2 (bool_byte c.args.moved) 0 none) c.fetch_add.result v c.args.given.now.value seat.pass.me c.fetch_add.new.seat.me (ap (λ l. (v, l)) c.requires.slot) c.fetch_add.ensures.2
