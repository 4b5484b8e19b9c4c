use Rattle.std.proofs.Common.{refl}
use Rattle.touched_ways.specs.declared.search.LinkSearch.{LinkSearch}
use Rattle.touched_ways.proofs.LinkRounds.{Taken, taken_next}
use Rattle.touched_ways.proofs.search.LinkSearch.take_in.Goals as goal

pub returns : goal.returns
returns c =
    let s = c.args.self.now in
    let f = c.args.found in
    let w = c.take_in.new.self in
    let r = c.take_in-2.new.self in
    let t : LinkSearch = record { nodes = f.nodes; ways = w; rules = r } in
    let ways : Taken s.ways.all.items f.ways.list.items w.frontier.items w.all.items =
    record {
      sound = c.in_ok-take_in.ensures.sound;
      complete = c.in_ok-take_in.ensures.complete;
      adds = c.in_ok-take_in.ensures.all;
    }
    in
    let rules : Taken s.rules.all.items f.rules.items r.frontier.items r.all.items =
    record {
      sound = c.in_ok-take_in-2.ensures.sound;
      complete = c.in_ok-take_in-2.ensures.complete;
      adds = c.in_ok-take_in-2.ensures.all;
    }
    in
    taken_next s t f refl ways rules
