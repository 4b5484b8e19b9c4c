use Rattle.std.proofs.Common.{◌≡◌, ◌++◌, refl, sym, ap, ◌∙◌, rules}
use Rattle.std.specs.FinMap.{values}
use Rattle.road_model.specs.Format.{graph_bytes}
use Rattle.graph_file.specs.GraphReading.{IsFile}
use Rattle.graph_file.proofs.Files.{values_are}
use Rattle.graph_merge.proofs.FrontFiles.{next_read, none_of_any, other_version, other_profile}
use Rattle.graph_merge.proofs.collecting.CollectedGraphs.add_next.Goals as goal

pub returns-in_ok-append-in-Ok-Some-clause-some : goal.returns-in_ok-append-in-Ok-Some-clause-some
returns-in_ok-append-in-Ok-Some-clause-some c = λ count all has.
    let graph = c.in-Ok-Some.graph in
    let old = c.args.self.now in
    let bs = values graph.blocks.map in
    let file : IsFile graph.version graph.profile (graph_bytes graph.version graph.profile bs) bs =
    rw c.in-Ok-Some.field-0-is at c.in-Ok-Some.ensures.file in
    let front : c.args.bytes.now ≡ graph_bytes graph.version graph.profile bs ++ c.in-Ok-Some.rest.now =
    rw c.in-Ok-Some.field-0-is at c.in-Ok-Some.ensures.front in
    let listed : c.into_list-list.result.items ≡ bs =
    sym (values_are graph.blocks.map c.into_list-list.result.items c.into_list-list.ensures.entries) in
    let version : graph.version ≡ old.version = search rules in
    let profile : graph.profile ≡ old.profile = search rules in
    next_read count old (record { version = old.version; profile = old.profile; blocks = c.append.new.self }) all
    c.args.bytes.now c.in-Ok-Some.rest.now graph.version graph.profile bs has version profile file front
    refl refl
    (c.in_ok-append-in-Ok-Some.ensures.items ∙ ap (λ l. old.blocks.items ++ l) listed)

pub returns-in-Ok-None-clause-none : goal.returns-in-Ok-None-clause-none
returns-in-Ok-None-clause-none c =
    none_of_any c.args.self.now.version c.args.self.now.profile c.args.bytes.now
    (rw c.in-Ok-None.field-0-is at c.in-Ok-None.ensures.none)

pub returns-then-graph-self-clause-none : goal.returns-then-graph-self-clause-none
returns-then-graph-self-clause-none c =
    let graph = c.in-Ok-Some.graph in
    let old = c.args.self.now in
    other_version graph.version old.version graph.profile old.profile c.args.bytes.now c.in-Ok-Some.rest.now
    (values graph.blocks.map) (rw c.in-Ok-Some.field-0-is at c.in-Ok-Some.ensures.file)
    (rw c.in-Ok-Some.field-0-is at c.in-Ok-Some.ensures.front) (λ e. search rules)

pub returns-then-graph-self-2-clause-none : goal.returns-then-graph-self-2-clause-none
returns-then-graph-self-2-clause-none c =
    let graph = c.in-Ok-Some.graph in
    let old = c.args.self.now in
    other_profile graph.version old.version graph.profile old.profile c.args.bytes.now c.in-Ok-Some.rest.now
    (values graph.blocks.map) (rw c.in-Ok-Some.field-0-is at c.in-Ok-Some.ensures.file)
    (rw c.in-Ok-Some.field-0-is at c.in-Ok-Some.ensures.front) (λ e. search rules)
