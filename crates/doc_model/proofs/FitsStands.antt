-- The replies of calls that stand in the history of a sound document fit.
use Rattle.std.proofs.Common.{sym, get_or, take}
use Rattle.std.proofs.lemmas.List.Elements.{All-take}
use Rattle.doc_model.specs.rules.Apply.{replay}
use Rattle.doc_model.specs.laws.Histories.{FitsWhatStands}
use Rattle.doc_model.specs.rules.Sound.{Valid}
use Rattle.doc_model.proofs.Following.{histories-follow}

pub fits-what-stands : FitsWhatStands
fits-what-stands doc history n mine s v stands k d lt =
    let at = (get_or mine k d).at in
    let there = histories-follow doc (take at history) s (All-take (λ item. Valid item.1) at history v) in
    (replay doc (take at history), there.0, sym (stands.replies k d lt))
