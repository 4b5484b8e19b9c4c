use Rattle.std.proofs.Common.{◌+◌, ◌≤◌, Result, Ok, Err, IfOk, length, subst}
use Rattle.std.specs.FinMap.{empty}
use Rattle.road_base.specs.Objects.{Objects}
use Rattle.road_model.specs.Highways.{highways}
use Rattle.compiled_graph.proofs.graph.graph_of.Goals as goal

each : {T E : Type 0} {A B C D : T → Type 0} (r : Result T E) → IfOk r A → IfOk r B → IfOk r C
    → ((x : T) → A x → B x → C x → D x) → IfOk r D
each (Ok x) a b c f = f x a b c
each (Err e) a b c f = tt

pub returns-clause-graph : goal.returns-clause-graph
returns-clause-graph g c =
    let M = c.in_ok-world.world in
    each c.graph_over-graph.result c.graph_over-graph.ensures.graph c.graph_over-graph.ensures.file
    c.graph_over-graph.ensures.zones (λ out graph file zones. record {
      objects = M;
      applied = c.in_ok-world.ensures;
      graph = graph;
      walks = c.walk_law.ensures M;
      file = file;
      zones = zones;
    })

-- no more blocks were built than there are such ways among any objects that the events leave
pub returns-clause-built : goal.returns-clause-built
returns-clause-built g c = λ objects applied.
    subst (λ (M : Objects). c.graph_over-graph.new.steps ≤ c.args.steps.now + length (highways M))
    (c.one_map.ensures empty c.in_ok-world.world objects c.args.events.items c.in_ok-world.ensures applied)
    c.graph_over-graph.ensures.built
