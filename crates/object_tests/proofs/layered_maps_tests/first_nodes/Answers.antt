use Rattle.std.proofs.Common.{refl}
use Rattle.object_tests.proofs.layered_maps_tests.first_nodes.Goals as goal

pub of-requires : goal.of-requires
of-requires c =
    rw (
      c.in_ok-vec.ensures.items,
      c.deletion-one.ensures.key,
      c.deletion-two.ensures.key,
      c.deletion-three.ensures.key,
    ) refl
