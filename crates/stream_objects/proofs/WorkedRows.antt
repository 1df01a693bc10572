-- Headers and faults that are known from outside.
use Rattle.std.proofs.Common.{◌≡◌, true, false, [], ◌∷◌, inl, refl, arith}
use Rattle.stream_objects.specs.Headers.{written_start, written_end}
use Rattle.stream_objects.specs.Faults.{IsFirstFault}
use Rattle.stream_objects.specs.declared.fault.TreeFault.TheVariants.{BadHeader}

largest_of_16_bits : written_start 0x16 false 127 ≡ 0xB0 ∷ 0xFE ∷ []
largest_of_16_bits = refl

least_of_32_bits : written_start 0x16 false 128 ≡ 0xB2 ∷ 0 ∷ 0 ∷ 1 ∷ []
least_of_32_bits = refl

largest_of_32_bits : written_start 0x16 false 32766 ≡ 0xB2 ∷ 0 ∷ 0xFC ∷ 0xFF ∷ []
largest_of_32_bits = refl

least_behind_32_bits : written_start 0x16 false 32767 ≡ 0xB2 ∷ 0 ∷ 0xFE ∷ 0xFF ∷ 0xFC ∷ 0xFF ∷ 0x03 ∷ []
least_behind_32_bits = refl

compound : written_start 0x10 true 0 ≡ 0x84 ∷ 0 ∷ []
compound = refl

end_of_8_bits : written_end 0x10 ≡ 0x41 ∷ []
end_of_8_bits = refl

end_of_16_bits : written_end 0x80 ≡ 0x03 ∷ 0x02 ∷ []
end_of_16_bits = refl

end_first : IsFirstFault (0x41 ∷ []) 0 (BadHeader 0)
end_first = record { opened = []; begun = refl; few = omega arith; refused = inl (refl, refl) }

cut_end_first : IsFirstFault (0x03 ∷ []) 0 (BadHeader 0)
cut_end_first = record { opened = []; begun = refl; few = omega arith; refused = inl (refl, refl) }
