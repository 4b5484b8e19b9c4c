use Rattle.std.proofs.Common.{rules, ◌≡◌, ◌++◌, [], ◌∷◌, map, sym, ap, ◌∙◌, append-nil, arith}
use Rattle.std.proofs.lemmas.List.{nil_from_length}
use Rattle.road_model.specs.BlockMap.{entry_of}
use Rattle.graph_file.proofs.Files.{values_are}
use Rattle.graph_file.proofs.GraphFiles.{none_put, one_put, one_more}
use Rattle.graph_file.proofs.graph.into_blocks.Goals as goal

pub loop-block-init : goal.loop-block-init
loop-block-init c =
    let all : c.args.list.items ≡ c.into_iter-block-iterator.result.rest.items = search rules in
    (none_put _ (c.reserve.ensures.map ∙ c.new-blocks.ensures), all)

pub loop-block-preserved : goal.loop-block-preserved
loop-block-preserved c =
    let step : c.loop-block.block-iterator.rest.items ≡ c.in-Some.block ∷ c.next.new.self.rest.items = search rules in
    let all = c.loop-block.invariant.1 ∙ ap (λ l. c.loop-block.yielded ++ l) step in (
      one_put c.args.list.items c.loop-block.yielded c.in-Some.block c.next.new.self.rest.items c.loop-block.blocks.map
          c.insert.new.self.map c.requires all c.loop-block.invariant.0 c.in_ok-insert.ensures.ok,
      one_more c.args.list.items c.loop-block.yielded c.in-Some.block c.next.new.self.rest.items all,
    )

pub returns : goal.returns
returns c =
    let none : c.loop-block.block-iterator.rest.items ≡ [] = nil_from_length _ (omega (
      arith,
      c.in-None.ensures.steps.0,
      c.loop-block.block-iterator.rest.ok,
    )) in
    let all = c.loop-block.invariant.1 ∙ ap (λ l. c.loop-block.yielded ++ l) none ∙ append-nil c.loop-block.yielded in
    values_are c.loop-block.blocks.map c.args.list.items (c.loop-block.invariant.0 ∙ ap (map entry_of) (sym all))
