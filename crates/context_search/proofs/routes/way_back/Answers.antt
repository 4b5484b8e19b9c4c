use Rattle.std.proofs.Common.{sym, subst, ap, arith, ◌∙◌}
use Rattle.ordered_lists.proofs.ListPlaces.{one_stands}
use Rattle.context_search.specs.declared.marks.TreeVisit.{TreeVisit}
use Rattle.context_search.specs.Routes.{IsChain}
use Rattle.context_search.proofs.SearchRoutes.{chain_more, chain_ends}
use Rattle.context_search.proofs.routes.way_back.Goals as goal

pub loop-before-preserved : goal.loop-before-preserved
loop-before-preserved c =
    let visits = c.args.visits.now in
    let at = c.loop-before.at in
    let v = c.origin_at.ensures in
    let o = v.2 ∙ c.in-Follows.is in
    let below = c.requires.descend at c.in-Follows.before v.0 v.1 o in
    record {
      within = omega (arith, below, c.loop-before.invariant.within);
      chain = λ first ks. chain_more visits first ks at c.in-Follows.before c.args.place v.0 c.loop-before.places.items
          c.push.new.self.items v.1 o c.in_ok-push.ensures.items c.loop-before.invariant.chain;
    }

pub returns : goal.returns
returns c =
    let visits = c.args.visits.now in
    let at = c.loop-before.at in
    let v = c.origin_at.ensures in
    let w = c.origin_at-2.ensures in
    let same = one_stands visits at v.0 w.0 v.1 w.1 in
    let first = c.in_default.field-0 in
    let chain = chain_ends visits first at c.args.place v.0 c.loop-before.places.items c.push-2.new.self.items
    v.1 (v.2 ∙ c.in_default.is) c.in_ok-push-2.ensures.items c.loop-before.invariant.chain in
    record {
      chain = subst (λ f. IsChain visits f c.reverse.new.self.items c.args.place)
          (sym (c.first_step.ensures first
          (sym w.2 ∙ ap (λ (x : TreeVisit). x.origin) (sym same) ∙ v.2 ∙ c.in_default.is)))
          (subst (λ l. IsChain visits first l c.args.place) (sym c.reverse.ensures.items) chain);
    }
