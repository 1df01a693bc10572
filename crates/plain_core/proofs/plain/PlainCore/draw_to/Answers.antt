use Rattle.plain_core.proofs.Wholes.{usable-later}
use Rattle.plain_core.proofs.plain.PlainCore.draw_to.Goals as goal

pub invariant_of-self : goal.invariant_of-self
invariant_of-self c =
    let old = c.args.self.now in record {
      few = old.few;
      few_pending = old.few_pending;
      usable = usable-later old.guid old.drawn c.args.drawn old.added.items c.requires old.usable;
      whole = old.whole;
    }
