use Rattle.std.proofs.Common.{List, ℕ, map, subst, sym, encode_utf8_all}
use Rattle.document_store.specs.Names.{AreAscending}
use Rattle.document_store.proofs.Ascending.{none_ascend}
use Rattle.document_store.proofs.name_list.no_names.Goals as goal

pub returns-clause-ascending : goal.returns-clause-ascending
returns-clause-ascending c = subst (λ (l : List (List ℕ)). AreAscending (map encode_utf8_all l)) (sym c.new-names.ensures.items) none_ascend
