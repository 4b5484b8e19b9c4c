use Rattle.std.proofs.Common.{◌≡◌, [], Some, None, sym, ap, ◌∙◌}
use Rattle.std.specs.FinMap.{get, get-from_entries}
use Rattle.std.specs.Option.{option_copied}
use Rattle.graph_blocks.specs.Lent.{map_of}
use Rattle.change_apply.specs.Standing.{built_in}
use Rattle.change_apply.proofs.FreshBlocks.{over_fresh, over_none}
use Rattle.change_apply.proofs.KnownBlocks.{newest_as}
use Rattle.change_apply.proofs.known.Standing.newest.Goals as goal

pub returns-in-Some : goal.returns-in-Some
returns-in-Some c =
    let s = c.args.self.now in
    let way = c.args.way in
    let block = c.in-Some.block.now in
    let found = sym c.get.ensures ∙ ap option_copied c.in-Some.is in
    let fresh = over_fresh s.fresh.now.map [] way block found in
    sym (newest_as (built_in s) (map_of s.blocks.now) way (Some block) fresh)

pub returns-in-None : goal.returns-in-None
returns-in-None c =
    let s = c.args.self.now in
    let way = c.args.way in
    let none : get s.fresh.now.map way ≡ None = sym c.get.ensures ∙ ap option_copied c.in-None.is in
    let found = over_none s.fresh.now.map [] way none in
    c.get-in-None.ensures.value ∙ sym (get-from_entries c.name_order.ensures.ways s.blocks.now way)
    ∙ sym (newest_as (built_in s) (map_of s.blocks.now) way None found)
