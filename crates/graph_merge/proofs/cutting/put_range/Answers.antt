use Rattle.std.proofs.Common.{filter, sym, ap, ◌∙◌}
use Rattle.std.specs.FinMap.{values}
use Rattle.std.proofs.lemmas.Result.{IfOk-weaker}
use Rattle.graph_file.proofs.Files.{values_are}
use Rattle.graph_merge.proofs.CutBlocks.{lies, kept_rise, kept_blocks, range_is}
use Rattle.graph_merge.proofs.cutting.put_range.Goals as goal

pub put_blocks-requires-clause-version : goal.put_blocks-requires-clause-version
put_blocks-requires-clause-version c = c.requires.1.known_version

pub put_blocks-requires-clause-profile : goal.put_blocks-requires-clause-profile
put_blocks-requires-clause-profile c = c.requires.1.known

pub put_blocks-requires-clause-blocks : goal.put_blocks-requires-clause-blocks
put_blocks-requires-clause-blocks c =
    let graph = c.args.graph in
    let all = values_are graph.blocks.map c.into_list-blocks.result.items c.into_list-blocks.ensures.entries in
    kept_blocks c.args.from c.args.to graph.version graph.profile c.requires.0 (values graph.blocks.map)
    c.keep_range.new.blocks.items c.requires.1
    (c.keep_range.ensures ∙ ap (filter (lies c.args.from c.args.to)) (sym all))

pub put_blocks-requires-clause-ascending : goal.put_blocks-requires-clause-ascending
put_blocks-requires-clause-ascending c =
    let graph = c.args.graph in
    let all = values_are graph.blocks.map c.into_list-blocks.result.items c.into_list-blocks.ensures.entries in
    kept_rise c.args.from c.args.to graph.version graph.profile c.requires.0 (values graph.blocks.map)
    c.keep_range.new.blocks.items c.requires.1
    (c.keep_range.ensures ∙ ap (filter (lies c.args.from c.args.to)) (sym all))

pub returns : goal.returns
returns c =
    let graph = c.args.graph in
    let all = values_are graph.blocks.map c.into_list-blocks.result.items c.into_list-blocks.ensures.entries in
    IfOk-weaker c.put_blocks.result _ _ (λ out put bytes file.
    range_is c.args.from c.args.to graph.version graph.profile bytes (values graph.blocks.map)
    c.keep_range.new.blocks.items file
    (c.keep_range.ensures ∙ ap (filter (lies c.args.from c.args.to)) (sym all)) out.items put) c.put_blocks.ensures
