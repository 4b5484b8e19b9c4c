-- The source of one arc more was copied, and all were at the end.
use Rattle.std.proofs.Common.{◌≡◌, ◌+◌, ◌<◌, ℕ, length, List, [], ◌∷◌, ◌++◌, map, take, get_or, sym, ap, ◌∙◌}
use Rattle.std.proofs.lemmas.List.{take_more, take_all, map-append}
use Rattle.road_model.specs.declared.lists.PieceName.{PieceName}
use Rattle.expanded_graph.specs.declared.sources.Leading.{Leading}
use Rattle.expanded_graph.proofs.SourceLists.{source_of}
use Rattle.expanded_graph.proofs.attached.sources_with.Goals as goal

more : (here : List Leading) (i : ℕ) (d : Leading) (so_far new : List (List PieceName)) (s : List PieceName)
    → i < length here → s ≡ (get_or here i d).source → new ≡ so_far ++ s ∷ []
    → so_far ≡ map source_of (take i here) → new ≡ map source_of (take (i + 1) here)
more here i d so_far new s within is grown all =
    grown ∙ (ap (λ l. l ++ s ∷ []) all ∙ (ap (λ x. map source_of (take i here) ++ x ∷ []) is
    ∙ (sym (map-append source_of (take i here) (get_or here i d ∷ [])) ∙ ap (map source_of)
    (sym (take_more here i d within)))))

pub loop-arc-preserved : goal.loop-arc-preserved
loop-arc-preserved c =
    more c.leading_to-here.result.now c.loop-arc.arc-index c.arc-item.result c.loop-arc.sources.items
    c.push.new.self.items _ c.loop-arc-test.true (c.in_ok-copy.ensures ∙ ap source_of c.arc-item.is)
    c.in_ok-push.ensures.items c.loop-arc.invariant

pub returns : goal.returns
returns c =
    c.loop-arc.invariant
    ∙ ap (map source_of) (take_all c.loop-arc.arc-index c.leading_to-here.result.now c.loop-arc-test.false
    ∙ c.leading_to-here.ensures)
