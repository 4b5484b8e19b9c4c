use Rattle.std.proofs.Common.{List, IsTrue, Contains, Result, Ok, Err, IfOk, subst, sym}
use Rattle.std.specs.FinMap.{FinMap, get}
use Rattle.road_base.specs.declared.ids.WayId.{WayId}
use Rattle.ordered_lists.specs.Orders.{rises}
use Rattle.road_model.specs.declared.blocks.Block.{Block}
use Rattle.road_model.specs.Orders.{way_cmp}
use Rattle.change_apply.specs.Engines.{AreKept}
use Rattle.change_apply.proofs.building.build.Goals as goal

on_ok : {T E : Type 0} {A B : T → Type 0} (r : Result T E) → IfOk r A → ((x : T) → A x → B x) → IfOk r B
on_ok (Ok x) a f = f x a
on_ok (Err e) a f = tt

pub blocks_of-requires : goal.blocks_of-requires
blocks_of-requires g c =
    let ways = c.in_ok-ways.ways.items in
    record {
      ascending =
          subst (λ (l : List WayId). IsTrue (rises way_cmp l)) (sym c.as_slice.ensures.value)
          c.in_ok-ways.ensures.ascending;
      all = λ b road.
          subst (λ (l : List WayId). Contains l b.way) (sym c.as_slice.ensures.value)
          (c.in_ok-ways.ensures.each b.way (c.roads_refer.ensures.blocks c.args.world.now b road));
    }

pub returns-clause-blocks : goal.returns-clause-blocks
returns-clause-blocks g c =
    on_ok c.road_blocks.result c.road_blocks.ensures (λ b is.
    subst (λ (m : FinMap way_cmp Block). AreKept c.args.world.now (g.P.Profile.rules c.args.profile) (get m)) (sym is)
    c.in_ok-blocks.ensures.blocks)
