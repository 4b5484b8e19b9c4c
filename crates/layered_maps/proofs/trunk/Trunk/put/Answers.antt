use Rattle.std.proofs.Common.{◌<◌, length, arith, ◌≡◌, ◌/◌, true, false, refl, sym, ap, ◌∙◌, subst}
use Rattle.std.proofs.lemmas.Bool.{false≢true}
use Rattle.layered_maps.specs.PartLists.{AreFull, IsPutIn, joined, leaf_lists}
use Rattle.layered_maps.proofs.JoinedLists.{held_at, put_branch, same_branch}
use Rattle.layered_maps.proofs.trunk.Trunk.put.Goals as goal
use Rattle.layered_maps.proofs.trunk.Trunk.put.Goals.{in-Some, in-None}

pub invariant_of-self : goal.invariant_of-self
invariant_of-self g c =
    let branches = c.self.inside.branches.items in
    let new = c.match-get_mut.self-inside.branches.items in
    let leaf = c.args.leaf in
    elim c.match-get_mut.branch [
      | in-Some w ↦
          let old = w.in-Some.branch.now in
          let within : leaf / 64 < length branches
          = omega (arith, w.in-Some.ensures.variant.0 refl, c.self.inside.branches.ok.0) in
          let there = held_at branches (leaf / 64) old within w.in-Some.ensures.value in
          let set = ap (λ i. i.branches.items) w.self-inside-is in
          elim w.put_in_branch.result as (λ b. w.put_in_branch.result ≡ b → AreFull 64 (leaf_lists new)) [
            | true ↦ λ t.
                (put_branch branches new leaf old w.put_in_branch.new.branch there set c.self.invariant c.args.at
                c.args.value (w.put_in_branch.ensures.put t)).1
            | false ↦ λ t.
                subst (AreFull 64) (sym (same_branch branches new leaf old w.put_in_branch.new.branch there set
                (w.put_in_branch.ensures.none t))) c.self.invariant
          ] refl
      | in-None w ↦
          subst (λ l. AreFull 64 (leaf_lists l)) (sym (ap (λ i. i.branches.items) w.self-inside-is)) c.self.invariant
    ]

pub returns-clause-put : goal.returns-clause-put
returns-clause-put g c =
    let branches = c.self.inside.branches.items in
    let new = c.match-get_mut.self-inside.branches.items in
    let leaf = c.args.leaf in
    elim c.match-get_mut.branch [
      | in-Some w ↦ λ t.
          let old = w.in-Some.branch.now in
          let within : leaf / 64 < length branches
          = omega (arith, w.in-Some.ensures.variant.0 refl, c.self.inside.branches.ok.0) in
          subst (λ l. IsPutIn leaf c.args.at c.args.value l (joined (leaf_lists new))) c.self.view_is
          (put_branch branches new leaf old w.put_in_branch.new.branch
          (held_at branches (leaf / 64) old within w.in-Some.ensures.value)
          (ap (λ i. i.branches.items) w.self-inside-is) c.self.invariant c.args.at c.args.value
          (w.put_in_branch.ensures.put (sym w.result-is ∙ t))).0
      | in-None w ↦ λ t. absurd (false≢true (sym w.result-is ∙ t))
    ]

pub returns-clause-none : goal.returns-clause-none
returns-clause-none g c =
    let branches = c.self.inside.branches.items in
    let new = c.match-get_mut.self-inside.branches.items in
    let leaf = c.args.leaf in
    elim c.match-get_mut.branch [
      | in-Some w ↦ λ t.
          let old = w.in-Some.branch.now in
          let within : leaf / 64 < length branches
          = omega (arith, w.in-Some.ensures.variant.0 refl, c.self.inside.branches.ok.0) in
          ap joined (same_branch branches new leaf old w.put_in_branch.new.branch
          (held_at branches (leaf / 64) old within w.in-Some.ensures.value)
          (ap (λ i. i.branches.items) w.self-inside-is) (w.put_in_branch.ensures.none (sym w.result-is ∙ t)))
          ∙ c.self.view_is
      | in-None w ↦ λ t. ap (λ i. joined (leaf_lists i.branches.items)) w.self-inside-is ∙ c.self.view_is
    ]
