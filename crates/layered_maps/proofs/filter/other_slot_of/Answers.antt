use Rattle.std.proofs.Common.{◌*◌, ◌/◌, ◌%◌, ◌^◌, ap, ◌∙◌}
use Rattle.std.specs.Int.{w64, cast_unsigned}
use Rattle.std.proofs.lemmas.Int.{to_z-of_z}
use Rattle.layered_maps.specs.Filters.{other_slot_of}
use Rattle.layered_maps.proofs.filter.other_slot_of.Goals as goal

pub returns-clause-slot : goal.returns-clause-slot
unfolding other_slot_of
returns-clause-slot c =
    ap (λ n. n * 0x9E37_79B9_7F4A_7C15 % 2 ^ 64 / 2 ^ 44) (c.cast_unsigned.ensures
    ∙ ap (cast_unsigned w64) (to_z-of_z w64 c.args.number c.ranges.number))
