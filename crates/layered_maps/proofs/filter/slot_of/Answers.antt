use Rattle.std.proofs.Common.{◌%◌, ap, ◌∙◌}
use Rattle.std.specs.Int.{w64, cast_unsigned}
use Rattle.std.proofs.lemmas.Int.{to_z-of_z}
use Rattle.layered_maps.specs.Filters.{slot_of}
use Rattle.layered_maps.proofs.filter.slot_of.Goals as goal

pub returns-clause-slot : goal.returns-clause-slot
unfolding slot_of
returns-clause-slot c =
    ap (λ n. n % 1048576) (c.cast_unsigned.ensures
    ∙ ap (cast_unsigned w64) (to_z-of_z w64 c.args.number c.ranges.number))
