use Rattle.std.proofs.Common.{◌≡◌, inr, sym, ◌∙◌, ap, subst, List}
use Rattle.road_model.specs.declared.lists.Place.{Place}
use Rattle.context_search.specs.declared.ends.Goal.{Goal}
use Rattle.context_search.specs.Ends.{StopsBy}
use Rattle.context_search.proofs.SearchGoals.{put_same, put_other, same_goal}
use Rattle.context_search.proofs.ends.add_goal.Goals as goal

pub returns-in_default-clause-all : goal.returns-in_default-clause-all
returns-in_default-clause-all c j h = absurd (c.in_default.ensures.none j
    (subst (λ (ps : List Place). StopsBy ps j c.args.node) (sym c.items.ensures) h))

pub returns-clause-others : goal.returns-clause-others
returns-clause-others c n not =
    let g : Goal = record { piece = c.args.piece; last = c.in-Some.last } in
    put_other _ c.name_order.ensures.by_cmp c.args.goals.now c.insert.new.self c.args.piece.now.name g
    c.in_ok-insert.ensures.updates c.name_order.ensures.name_ties n not

pub returns-clause-new : goal.returns-clause-new
returns-clause-new c h e =
    let g : Goal = record { piece = c.args.piece; last = c.in-Some.last } in
    let put = put_same _ c.name_order.ensures.by_cmp c.args.goals.now c.insert.new.self c.args.piece.now.name g
    c.in_ok-insert.ensures.updates c.name_order.ensures.names in
    let same : g ≡ h = same_goal g h (sym put ∙ e) in
    let stops = subst (λ (ps : List Place). StopsBy ps c.in-Some.last c.args.node) c.items.ensures
    c.in-Some.ensures.some in
    inr (
      sym (ap (λ (z : Goal). z.piece.now) same),
      subst (λ (z : Goal). StopsBy c.args.piece.now.places z.last c.args.node) same stops,
    )

pub returns-clause-all : goal.returns-clause-all
returns-clause-all c j h =
    let g : Goal = record { piece = c.args.piece; last = c.in-Some.last } in (
      g,
      put_same _ c.name_order.ensures.by_cmp c.args.goals.now c.insert.new.self c.args.piece.now.name g
          c.in_ok-insert.ensures.updates c.name_order.ensures.names,
      c.in-Some.ensures.last j (subst (λ (ps : List Place). StopsBy ps j c.args.node) (sym c.items.ensures) h),
    )
