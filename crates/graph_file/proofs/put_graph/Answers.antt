use Rattle.std.proofs.Common.{◌≡◌, ◌<◌, ◌^◌, ◌++◌, length, map, min, IsTrue, OnOk, subst, sym, ap, ◌∙◌, arith}
use Rattle.std.specs.List.{AllByRecursion}
use Rattle.std.specs.FinMap.{values}
use Rattle.std.proofs.lemmas.Result.{on_ok_weaker}
use Rattle.ordered_lists.specs.Orders.{rises}
use Rattle.road_base.specs.Bytes.{joined}
use Rattle.road_model.specs.Orders.{way_cmp}
use Rattle.road_model.specs.Format.{is_sourced, block_bytes, BlockFits, IsBlockForm}
use Rattle.graph_blocks.specs.Lent.{map_of}
use Rattle.graph_file.proofs.BlockCount.{counted_blocks, headed_blocks}
use Rattle.graph_file.proofs.put_graph.Goals as goal

pub put_blocks-requires : goal.put_blocks-requires
put_blocks-requires c = subst (AllByRecursion (IsBlockForm (is_sourced c.args.version))) (sym c.walk-2.ensures.blocks)
    c.requires

pub returns-clause-ok : goal.returns-clause-ok
returns-clause-ok c =
    let blocks = values (map_of c.args.blocks.now) in
    let new = c.put_blocks.new.out.items in
    let head = c.put_header.new.out.items in
    let short : length new < 2 ^ 63 = let ok = c.put_blocks.new.out.ok.0 in omega arith in
    let counts : c.count_of-count.result ≡ min (length blocks) 18446744073709551615
    = c.count_of-count.ensures ∙ ap (λ l. min (length l) 18446744073709551615) c.walk.ensures.blocks in
    on_ok_weaker c.put_blocks.result
    (λ is. headed_blocks c.args.version c.args.profile c.count_of-count.result blocks c.args.out.now.items head new
    counts
    c.in_ok-put_header.ensures.ok short (is ∙ ap (λ l. head ++ joined (block_bytes (is_sourced c.args.version)) l)
    c.walk-2.ensures.blocks))
    c.put_blocks.ensures.ok

pub returns-clause-fit : goal.returns-clause-fit
returns-clause-fit c =
    subst (λ l. OnOk c.put_blocks.result (AllByRecursion (BlockFits (is_sourced c.args.version)) l))
    c.walk-2.ensures.blocks c.put_blocks.ensures.fit

pub returns-clause-count : goal.returns-clause-count
returns-clause-count c =
    let new = c.put_blocks.new.out.items in
    let head = c.put_header.new.out.items in
    let short : length new < 2 ^ 63 = let ok = c.put_blocks.new.out.ok.0 in omega arith in
    on_ok_weaker c.put_blocks.result
    (λ is. subst (λ l. length l < 2 ^ 64) c.walk-2.ensures.blocks
    (counted_blocks (is_sourced c.args.version) c.walk-2.result head new is short))
    c.put_blocks.ensures.ok

pub returns-clause-ascending : goal.returns-clause-ascending
returns-clause-ascending c =
    subst (λ l. IsTrue (rises way_cmp (map (λ b. b.way) l))) c.walk.ensures.blocks c.walk.ensures.ascending

pub returns-in_err-put_header-clause-ascending : goal.returns-in_err-put_header-clause-ascending
returns-in_err-put_header-clause-ascending c =
    subst (λ l. IsTrue (rises way_cmp (map (λ b. b.way) l))) c.walk.ensures.blocks c.walk.ensures.ascending
