use Rattle.std.proofs.Common.{◌<◌, length, arith, refl, ap, ◌∙◌}
use Rattle.layered_maps.specs.Layers.{values_of}
use Rattle.layered_maps.proofs.JoinedLists.{held_at, same_leaf}
use Rattle.layered_maps.proofs.trunk.own_among.Goals as goal
use Rattle.layered_maps.proofs.trunk.own_among.Goals.{in-Some, in-None}

pub returns : goal.returns
returns g c =
    let leaves = c.leaves.inside.items.items in
    let new = c.match-get_mut.leaves-inside.items.items in
    elim c.match-get_mut.branch [
      | in-Some w ↦
          let old = w.in-Some.leaf.now in
          let within : c.args.at < length leaves
          = omega (arith, w.in-Some.ensures.variant.0 refl, c.leaves.inside.items.ok.0) in
          same_leaf leaves new c.args.at old w.own.new.leaf
          (held_at leaves c.args.at old within w.in-Some.ensures.value)
          (ap (λ i. i.items.items) w.leaves-inside-is) w.own.ensures
          ∙ ap values_of c.leaves.view_is
      | in-None w ↦ ap (λ i. values_of i.items.items) w.leaves-inside-is ∙ ap values_of c.leaves.view_is
    ]
