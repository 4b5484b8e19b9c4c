use Rattle.std.proofs.Common.{refl, sym, subst, List, Contains}
use Rattle.std.proofs.lemmas.List.Elements.{Contains-push}
use Rattle.road_model.specs.declared.lists.Place.{Place}
use Rattle.context_search.specs.declared.ends.Begin.{Begin}
use Rattle.context_search.specs.Ends.{BeginsBy}
use Rattle.context_search.proofs.ends.add_start.Goals as goal

pub returns-in_ok-push-in-Some-clause-all : goal.returns-in_ok-push-in-Some-clause-all
returns-in_ok-push-in-Some-clause-all c i h =
    let s : Begin = record { piece = c.args.piece; first = c.in-Some.first } in (
      s,
      subst (λ (l : List Begin). Contains l s) (sym c.in_ok-push-in-Some.ensures.items)
          (Contains-push c.args.starts.now.items s),
      refl,
      c.in-Some.ensures.first i
          (subst (λ (ps : List Place). BeginsBy ps i c.args.node) (sym c.items.ensures) h),
    )

pub returns-in-None-clause-all : goal.returns-in-None-clause-all
returns-in-None-clause-all c i h = absurd (c.in-None.ensures.none i
    (subst (λ (ps : List Place). BeginsBy ps i c.args.node) (sym c.items.ensures) h))
