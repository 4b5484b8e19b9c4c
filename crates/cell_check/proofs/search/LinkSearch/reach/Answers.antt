use Rattle.std.proofs.Common.{sym, ◌∙◌}
use Rattle.cell_check.specs.declared.search.LinkSearch.{LinkSearch}
use Rattle.cell_check.proofs.ReachedKeys.{updates_by, come_before, come_now}
use Rattle.cell_check.proofs.search.LinkSearch.reach.Goals as goal

pub returns-then-is_some : goal.returns-then-is_some
returns-then-is_some c =
    come_before c.args.self.now c.args.key c.args.start c.start_of.result c.start_of.ensures
    (sym c.is_some.ensures ∙ c.if-is_some.true)

pub returns : goal.returns
returns c =
    let o = c.key_order.ensures in
    let s = c.args.self.now in
    let t : LinkSearch = record { starts = c.insert.new.self; frontier = c.push.new.self } in
    come_now o.total o.ties s t c.args.key c.args.start c.start_of.result c.start_of.ensures
    (sym c.is_some.ensures ∙ c.if-is_some.false)
    (updates_by _ o.by_cmp s.starts t.starts c.args.key c.args.start c.in_ok-insert.ensures.updates)
    c.in_ok-push.ensures.items
