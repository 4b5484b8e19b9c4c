-- One node more was looked at.
use Rattle.std.proofs.Common.{append-nil, [], ◌∷◌, ◌++◌, Some, None, option_map, ap, sym, ◌∙◌}
use Rattle.expanded_graph.specs.Travel.{place_of}
use Rattle.way_pieces.proofs.KeptLists.{kept_more}
use Rattle.expanded_graph.proofs.places.located.Goals as goal
use Rattle.expanded_graph.proofs.places.located.Goals.{in-Some+in_ok-push, in_default}

pub loop-passed-preserved : goal.loop-passed-preserved
loop-passed-preserved c =
    let nodes = c.args.nodes.now in
    let i = c.loop-passed.passed-index in
    let s = c.passed-item.result in
    elim c.match-passed.branch [
      | in-Some+in_ok-push w ↦ rw w.places-is
          (w.in_ok-push.ensures.items
          ∙ ap (λ ps. ps ++ record { node = s.node; location = w.in-Some.location } ∷ []) c.loop-passed.invariant
          ∙ sym (kept_more place_of nodes i s (Some (record { node = s.node; location = w.in-Some.location }))
          c.loop-passed-test.true c.passed-item.is
          (ap (option_map (λ l. record { node = s.node; location = l })) w.in-Some.is)))
      | in_default w ↦ rw w.places-is
          (c.loop-passed.invariant ∙ sym (append-nil _)
          ∙ sym (kept_more place_of nodes i s None c.loop-passed-test.true c.passed-item.is
          (ap (option_map (λ l. record { node = s.node; location = l })) w.in_default.is)))
    ]
