use Rattle.std.proofs.Common.{◌<◌, length, arith, refl, ◌/◌, sym, ap, ◌∙◌, subst}
use Rattle.layered_maps.specs.PartLists.{AreFull, joined, leaf_lists}
use Rattle.layered_maps.proofs.JoinedLists.{held_at, same_branch}
use Rattle.layered_maps.proofs.trunk.own_leaf.Goals as goal
use Rattle.layered_maps.proofs.trunk.own_leaf.Goals.{in-Some, in-None}

pub invariant_of-trunk : goal.invariant_of-trunk
invariant_of-trunk g c =
    let branches = c.trunk.inside.branches.items in
    let new = c.match-get_mut.trunk-inside.branches.items in
    let at = c.args.at in
    elim c.match-get_mut.branch [
      | in-Some w ↦
          let old = w.in-Some.branch.now in
          let within : at / 64 < length branches
          = omega (arith, w.in-Some.ensures.variant.0 refl, c.trunk.inside.branches.ok.0) in
          subst (AreFull 64) (sym (same_branch branches new at old w.own_in_branch.new.branch
          (held_at branches (at / 64) old within w.in-Some.ensures.value)
          (ap (λ i. i.branches.items) w.trunk-inside-is) w.own_in_branch.ensures)) c.trunk.invariant
      | in-None w ↦
          subst (λ l. AreFull 64 (leaf_lists l)) (sym (ap (λ i. i.branches.items) w.trunk-inside-is)) c.trunk.invariant
    ]

pub returns : goal.returns
returns g c =
    let branches = c.trunk.inside.branches.items in
    let new = c.match-get_mut.trunk-inside.branches.items in
    let at = c.args.at in
    elim c.match-get_mut.branch [
      | in-Some w ↦
          let old = w.in-Some.branch.now in
          let within : at / 64 < length branches
          = omega (arith, w.in-Some.ensures.variant.0 refl, c.trunk.inside.branches.ok.0) in
          ap joined (same_branch branches new at old w.own_in_branch.new.branch
          (held_at branches (at / 64) old within w.in-Some.ensures.value)
          (ap (λ i. i.branches.items) w.trunk-inside-is) w.own_in_branch.ensures)
          ∙ c.trunk.view_is
      | in-None w ↦ ap (λ i. joined (leaf_lists i.branches.items)) w.trunk-inside-is ∙ c.trunk.view_is
    ]
