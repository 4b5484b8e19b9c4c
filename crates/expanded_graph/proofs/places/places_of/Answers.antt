-- The nodes between the positions, in order of travel.
use Rattle.std.proofs.Common.{◌≡◌, ◌+◌, ◌-◌, filter_map, take, drop, ap, sym, ◌∙◌, arith}
use Rattle.expanded_graph.specs.Travel.{place_of, travelled}
use Rattle.expanded_graph.proofs.PiecePlaces.{filter_map-travelled}
use Rattle.expanded_graph.proofs.places.places_of.Goals as goal

pub returns : goal.returns
returns c =
    let s = c.args.span in
    let low = s.name.index in
    let nodes = take (s.end - low + 1) (drop low c.args.nodes.now) in
    let count : s.end + 1 - low ≡ s.end - low + 1 = omega (arith, c.requires.ascends) in
    let placed : c.in_ok-places.places.items ≡ filter_map place_of nodes =
    c.in_ok-places.ensures ∙ ap (λ n. filter_map place_of (take n (drop low c.args.nodes.now))) count in
    c.put_in_order.ensures ∙ ap (travelled s.name.dir) placed ∙ sym (filter_map-travelled s.name.dir place_of nodes)
