use Rattle.std.proofs.Common.{◌+◌, ℕ, List, [], Bor, Some, map, take, drop, get_or, sym, ap, ◌∙◌}
use Rattle.road_base.specs.declared.ids.WayId.{WayId}
use Rattle.cells.specs.Commands.{each_way}
use Rattle.cells.proofs.WayWords.{one_more_way, no_ways, words_more, words_split}
use Rattle.cells.proofs.command.each_way.Goals as goal

abbrev none : Bor (List ℕ)
none = record { ref_ptr = (0, 0); now = [] }

abbrev text : Bor (List ℕ) → List ℕ
text w = w.now

pub returns-in_default-clause-none : goal.returns-in_default-clause-none
returns-in_default-clause-none c =
    let words = c.args.words.now in
    let i = c.loop-word.word-index in
    ap each_way (words_split text words i none c.loop-word-test.true)
    ∙ no_ways (take i (map text words)) (get_or words i none).now (drop (i + 1) (map text words))
    (sym c.way_of.ensures ∙ c.in_default.is)

pub loop-word-preserved : goal.loop-word-preserved
loop-word-preserved c =
    let words = c.args.words.now in
    let i = c.loop-word.word-index in
    ap each_way (words_more text words i none c.loop-word-test.true)
    ∙ (one_more_way (take i (map text words)) c.loop-word.list.items (get_or words i none).now c.in-Some.way
    c.loop-word.invariant (sym c.way_of.ensures ∙ c.in-Some.is)
    ∙ ap (λ (l : List WayId). Some l) (sym c.in_ok-push.ensures.items))
