-- The list is the one way's behind the other's, sorted, each once.
use Rattle.std.proofs.Common.{◌≡◌, ◌++◌, List, inl, inr, sym, ap, ◌∙◌, subst, Contains}
use Rattle.road_base.specs.declared.ids.WayId.{WayId}
use Rattle.ordered_lists.proofs.ListMembers.{in_cases, in_left, in_right, in_from_contains, contains_from_in}
use Rattle.expanded_graph.proofs.tables.both.Goals as goal

pub returns : goal.returns
returns c = λ w.
    let own = c.args.ways.now in
    let others = c.args.others.now in
    let listed : c.in_ok-list.list.items ≡ own = c.in_ok-list.ensures.items_if_clones_equal (λ x y is. is) in
    let all : c.extend_from_slice.new.self.items ≡ own ++ others =
    c.in_ok-extend_from_slice.ensures.items ∙ ap (λ l. l ++ others) listed in
    let exactly = c.leave_once.ensures.exactly w in (
      λ has. elim (in_cases own others w (in_from_contains (own ++ others) w
          (subst (λ (l : List WayId). Contains l w) all (exactly.0 has)))) [
            | inl i ↦ inl (contains_from_in own w i)
            | inr i ↦ inr (contains_from_in others w i)
          ],
      λ h. exactly.1 (subst (λ (l : List WayId). Contains l w) (sym all) (contains_from_in (own ++ others) w (elim h [
        | inl i ↦ in_left own others w (in_from_contains own w i)
        | inr i ↦ in_right own others w (in_from_contains others w i)
      ]))),
    )
