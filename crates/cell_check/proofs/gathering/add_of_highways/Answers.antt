use Rattle.std.proofs.Common.{◌++◌, ◌∷◌, [], ◌≡◌, List, option_copied, flat_map, refl, sym, ap, subst, ◌∙◌}
use Rattle.std.proofs.lemmas.List.{append-nil}
use Rattle.road_base.specs.declared.event.Event.{Event}
use Rattle.layered_maps.specs.Walks.{IsNext}
use Rattle.cell_check.specs.Candidates.{named_by_highway}
use Rattle.cell_check.specs.Closing.{AddsOpen}
use Rattle.cell_check.specs.Owning.{owned_by}
use Rattle.cell_check.proofs.OpenedKeys.{adds_none, adds_both}
use Rattle.cell_check.proofs.OwnedEntries.{split_more, next_among, flat_more, list_more, nothing_left}
use Rattle.cell_check.proofs.OwnedEntries.{entry_among}
use Rattle.cell_check.proofs.gathering.add_of_highways.Goals as goal

pub loop-entry-init : goal.loop-entry-init
loop-entry-init g c = record {
  passed = [];
  split = refl;
  opened = λ all. adds_none (g.M.World.objects c.args.world.now) c.args.area.now c.args.found.now.starts.items;
  owned = λ all. sym (append-nil c.args.found.now.own.items);
}

pub loop-entry-preserved : goal.loop-entry-preserved
loop-entry-preserved g c =
    let M = g.M.World.objects c.args.world.now in
    let before = c.loop-entry.invariant in
    let e = c.in-Some.entry.now in
    let split : c.loop-entry.rest ≡ e ∷ c.next.new.self =
    subst (λ o. IsNext o c.loop-entry.rest c.next.new.self) (ap option_copied c.in-Some.is) c.next.ensures in
    let among = next_among before.passed c.loop-entry.rest c.next.new.self c.args.entries e split before.split in
    record {
      passed = before.passed ++ e ∷ [];
      split = split_more before.passed c.loop-entry.rest c.next.new.self c.args.entries e split before.split;
      opened = λ all. adds_both M c.args.area.now (flat_map named_by_highway before.passed) (named_by_highway e)
          (flat_map named_by_highway (before.passed ++ e ∷ [])) c.args.found.now.starts.items
          c.loop-entry.found.starts.items c.add_of_entry.new.found.starts.items
          (flat_more named_by_highway before.passed e) (before.opened all)
          (c.in_ok-add_of_entry.ensures.open (entry_among M c.args.entries all e among));
      owned = λ all. list_more (owned_by M c.args.cell.now) c.args.found.now.own.items c.loop-entry.found.own.items
          c.add_of_entry.new.found.own.items before.passed e (before.owned all)
          (c.in_ok-add_of_entry.ensures.own (entry_among M c.args.entries all e among));
    }

pub returns-clause-open : goal.returns-clause-open
returns-clause-open g c =
    let before = c.loop-entry.invariant in
    λ all. subst (λ (l : List Event). AddsOpen (g.M.World.objects c.args.world.now) c.args.area.now
    (flat_map named_by_highway l) c.args.found.now.starts.items c.loop-entry.found.starts.items)
    (nothing_left before.passed c.loop-entry.rest c.args.entries c.in_default.ensures.0 before.split)
    (before.opened all)

pub returns-clause-own : goal.returns-clause-own
returns-clause-own g c =
    let before = c.loop-entry.invariant in
    let owned = owned_by (g.M.World.objects c.args.world.now) c.args.cell.now in
    λ all. before.owned all ∙ ap (λ (l : List Event). c.args.found.now.own.items ++ flat_map owned l)
    (nothing_left before.passed c.loop-entry.rest c.args.entries c.in_default.ensures.0 before.split)
