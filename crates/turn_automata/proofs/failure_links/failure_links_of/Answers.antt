use Rattle.std.proofs.Common.{◌≡◌, ◌+◌, ◌<◌, ℕ, List, [], ◌∷◌, ◌++◌, length, arith, sym, ap, subst, ◌∙◌, length-append}
use Rattle.std.proofs.lemmas.Option.{slice_get_within}
use Rattle.road_base.specs.declared.ids.Step.{Step}
use Rattle.turn_automata.specs.Trees.{Stands}
use Rattle.turn_automata.specs.FailureLinks.{IsLongestIn}
use Rattle.turn_automata.proofs.LongestEnds.{links_none, links_more, descends_none, descends_more}
use Rattle.turn_automata.proofs.failure_links.failure_links_of.Goals as goal

pub loop-list-init : goal.loop-list-init
loop-list-init c =
    let e : c.push.new.self.items ≡ 0 ∷ [] = c.in_ok-push.ensures.items
    ∙ ap (λ (v : List ℕ). v ++ 0 ∷ []) c.new-links.ensures.items in
    record {
      low = omega arith;
      len = ap length e;
      descends = descends_none c.push.new.self.items e;
      links = links_none c.args.tree.now c.closed.ensures c.push.new.self.items e;
    }

pub loop-list-preserved : goal.loop-list-preserved
loop-list-preserved c =
    let links = c.loop-list.links.items in
    let f = c.failure_link_of-link.result in
    let e : c.push-in-loop-list.new.self.items ≡ links ++ f ∷ [] = c.in_ok-push-2.ensures.items in
    let l : length (links ++ f ∷ []) ≡ length links + 1 = length-append links (f ∷ []) in
    record {
      low = omega arith;
      len = ap length e ∙ l ∙ ap (λ n. n + 1) c.loop-list.invariant.len;
      descends = descends_more links c.push-in-loop-list.new.self.items f e c.loop-list.invariant.descends
          (subst (λ n. f < n) (sym c.loop-list.invariant.len) c.failure_link_of-link.ensures.less);
      links = links_more c.args.tree.now c.closed.ensures links c.push-in-loop-list.new.self.items f e
          c.loop-list.invariant.links
          (subst (λ n. (x : Step) (d : List Step) → Stands c.args.tree.now n (x ∷ d) → IsLongestIn c.args.tree.now d f)
          (sym c.loop-list.invariant.len) c.failure_link_of-link.ensures.longest);
    }

pub returns-clause-len : goal.returns-clause-len
returns-clause-len c =
    let some : 0 < length c.args.tree.now = slice_get_within c.args.tree.now 0 [] c.closed.ensures.empty in
    let high = c.loop-list.auto.list-end in
    omega arith
