use Rattle.std.proofs.Common.{◌++◌, List, flat_map, ap, subst, ◌∙◌, inl, inr}
use Rattle.road_base.specs.declared.ids.Key.{Key}
use Rattle.road_base.specs.declared.ids.WayId.{WayId}
use Rattle.road_base.specs.Objects.{Objects}
use Rattle.object_store.specs.Listed.{AreEntriesOf, is_any}
use Rattle.cell_check.specs.Candidates.{named_by_highway}
use Rattle.cell_check.specs.Closing.{AddsOpen}
use Rattle.cell_check.specs.Owning.{owned_by}
use Rattle.cell_check.proofs.NamedKeys.{candidate_named}
use Rattle.cell_check.proofs.OwnedEntries.{owned_lists}
use Rattle.cell_check.proofs.SearchedWays.{started, same_starts}
use Rattle.cell_check.proofs.gathering.gather.Goals as goal

pub returns : goal.returns
returns c =
    let M = c.args.world.now in
    let area = c.args.area.now in
    let cell = c.args.cell.now in
    let es = c.walk.result in
    let rs = c.walk-2.result in
    let keys = c.in_ok-keys.keys.items in
    let found = c.add_of_highways.new.found in
    let starts = c.add_open_among.new.starts.items in
    let all : AreEntriesOf is_any M es =
    subst (λ (N : Objects). AreEntriesOf is_any N es) c.objects.ensures c.walk.ensures.exactly in
    let every : AreEntriesOf is_any M rs =
    subst (λ (N : Objects). AreEntriesOf is_any N rs) c.objects-2.ensures c.walk-2.ensures.exactly in
    let first = subst (λ (l : List Key). AddsOpen M area (flat_map named_by_highway es) l found.starts.items)
    c.new.ensures.items (c.in_ok-add_of_highways.ensures.open all) in
    let second = subst (λ (l : List Key). AddsOpen M area l found.starts.items starts) c.as_slice.ensures.value
    c.in_ok-add_open_among.ensures in
    let own = c.in_ok-add_of_highways.ensures.own all
    ∙ ap (λ (l : List WayId). l ++ flat_map (owned_by M cell) es) c.new-2.ensures.items in
    record {
      starts = same_starts M area starts c.leave_once.new.list.items c.leave_once.ensures.exactly
          (started M area (flat_map named_by_highway es) keys found.starts.items starts
          (λ k candidate. elim (candidate_named M es rs all every k candidate) [
            | inl by_way ↦ inl by_way
            | inr by_rule ↦ inr (c.in_ok-keys.ensures k by_rule)
          ])
          first second);
      own = owned_lists M cell c.key_order.ensures.total c.name_order.ensures.ways es all c.walk.ensures.in_order
          found.own.items own;
    }
