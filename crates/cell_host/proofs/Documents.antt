-- The one document of `replay`, and its name.
use Rattle.std.proofs.Common.{◌≡◌, ◌<◌, List, [], ◌∷◌, sym, subst, arith}
use Rattle.std.specs.Prelude.{codes}
use Rattle.std.specs.List.{All}
use Rattle.std.specs.Str.{IsAscii, chars}
use Rattle.std.proofs.lemmas.List.Elements.{All-nil, All-cons, All-from_recursion}
use Rattle.std.proofs.lemmas.Str.{chars-IsAscii}
use Rattle.std.proofs.lemmas.Str.Ascii.{IsAscii-from_all}

name_is_ascii : IsAscii (codes "a.docx")
name_is_ascii =
    IsAscii-from_all (codes "a.docx") (All-from_recursion (λ b. b < 128) (codes "a.docx")
    (omega arith, (omega arith, (omega arith, (omega arith, (omega arith, (omega arith, tt)))))))

pub name_is : chars (codes "a.docx") ≡ codes "a.docx"
name_is = chars-IsAscii (codes "a.docx") name_is_ascii

-- what holds of the one item holds of all
pub one_holds : {T : Type 0} (items : List T) (item : T) (P : T → Type 0) → items ≡ item ∷ [] → P item → All P items
one_holds {T} items item P is holds = subst (All P) (sym is) (All-cons P item [] holds (All-nil P))
