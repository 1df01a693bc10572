-- Carriers of declarations that have no data.
use Rattle.std.proofs.Common.{◌≡◌, ℕ, zero, suc, ◌<◌, false, List, [], ◌∷◌, drop, length, refl, arith}
use Rattle.stream_objects.specs.declared.tree.Tree.{Tree}
use Rattle.stream_objects.specs.Objects.{kind_of}
use Rattle.doc_model.specs.wire.Groups.{data_in}
use Rattle.doc_model.specs.readers.ElementSites.{members_in}
use Rattle.data_elements.specs.declared.group.Carrier.{Carrier}
use Rattle.data_elements.specs.GroupReading.{carriers_agree}

pub none_left : (ds es : List Carrier) (i : ℕ) → i < length ds → length es < 1 → carriers_agree (drop i ds) es ≡ false
none_left [] es i lt z = absurd (omega (arith, lt))
none_left (d ∷ ds) (e ∷ es) i lt z = absurd (omega (arith, z))
none_left (d ∷ ds) [] zero lt z = refl
none_left (d ∷ ds) [] (suc i) lt z = none_left ds [] i (omega (arith, lt)) z

-- what the second half of a group holds
pub second_half : (t : Tree) → kind_of t ≡ 0x1E → members_in t ≡ data_in t
second_half t e = rw e refl
