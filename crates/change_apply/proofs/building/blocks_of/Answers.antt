use Rattle.std.proofs.Common.{Result, Ok, Err, IfOk, sym, subst}
use Rattle.std.specs.FinMap.{get}
use Rattle.road_model.specs.Highways.{AreRoadWays}
use Rattle.road_model.specs.Naming.{OneBlock}
use Rattle.change_apply.specs.Engines.{AreKept}
use Rattle.change_apply.proofs.building.blocks_of.Goals as goal

on_ok : {T E : Type 0} {A B : T → Type 0} (r : Result T E) → IfOk r A → ((x : T) → A x → B x) → IfOk r B
on_ok (Ok x) a f = f x a
on_ok (Err e) a f = tt

pub build_each-requires : goal.build_each-requires
build_each-requires g c =
    let R = g.P.Profile.rules in
    subst (λ b. AreRoadWays b.world (R b.profile) c.args.ways.now) (sym c.in_ok-builder.ensures) c.requires

pub returns-clause-blocks : goal.returns-clause-blocks
returns-clause-blocks g c =
    let R = g.P.Profile.rules in
    on_ok c.build_each.result (subst (λ b. IfOk c.build_each.result
    (λ blocks. OneBlock b.world (R b.profile) → AreKept b.world (R b.profile) (get blocks.map)))
    c.in_ok-builder.ensures c.build_each.ensures.blocks) (λ blocks kept. kept (c.one_block.ensures c.args.world.now))
