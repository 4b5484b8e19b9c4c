use Rattle.std.proofs.Common.{◌<◌, length, arith, refl, sym, ap, ◌∙◌, subst}
use Rattle.std.proofs.lemmas.Bool.{false≢true}
use Rattle.layered_maps.specs.Layers.{values_of}
use Rattle.layered_maps.specs.PartLists.{IsPutIn}
use Rattle.layered_maps.proofs.JoinedLists.{held_at, put_leaf, same_leaf}
use Rattle.layered_maps.proofs.trunk.put_among.Goals as goal
use Rattle.layered_maps.proofs.trunk.put_among.Goals.{in-Some, in-None}

pub returns-clause-put : goal.returns-clause-put
returns-clause-put g c =
    let leaves = c.leaves.inside.items.items in
    let new = c.match-get_mut.leaves-inside.items.items in
    let at = c.args.leaf in
    elim c.match-get_mut.branch [
      | in-Some w ↦ λ t.
          let old = w.in-Some.leaf.now in
          let within : at < length leaves
          = omega (arith, w.in-Some.ensures.variant.0 refl, c.leaves.inside.items.ok.0) in
          let is_put = sym w.result-is ∙ t in
          subst (λ l. IsPutIn at c.args.at c.args.value (values_of l) (values_of new)) c.leaves.view_is
          (put_leaf leaves new at old w.put_in_leaf.new.leaf
          (held_at leaves at old within w.in-Some.ensures.value)
          (ap (λ i. i.items.items) w.leaves-inside-is) c.args.at c.args.value
          (w.put_in_leaf.ensures.within is_put) (w.put_in_leaf.ensures.put is_put))
      | in-None w ↦ λ t. absurd (false≢true (sym w.result-is ∙ t))
    ]

pub returns-clause-none : goal.returns-clause-none
returns-clause-none g c =
    let leaves = c.leaves.inside.items.items in
    let new = c.match-get_mut.leaves-inside.items.items in
    let at = c.args.leaf in
    elim c.match-get_mut.branch [
      | in-Some w ↦ λ t.
          let old = w.in-Some.leaf.now in
          let within : at < length leaves
          = omega (arith, w.in-Some.ensures.variant.0 refl, c.leaves.inside.items.ok.0) in
          same_leaf leaves new at old w.put_in_leaf.new.leaf
          (held_at leaves at old within w.in-Some.ensures.value)
          (ap (λ i. i.items.items) w.leaves-inside-is) (w.put_in_leaf.ensures.none (sym w.result-is ∙ t))
          ∙ ap values_of c.leaves.view_is
      | in-None w ↦ λ t. ap (λ i. values_of i.items.items) w.leaves-inside-is ∙ ap values_of c.leaves.view_is
    ]
