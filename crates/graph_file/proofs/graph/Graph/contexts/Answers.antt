use Rattle.std.proofs.Common.{refl, sym, subst}
use Rattle.graph_file.specs.LookUps.{AreOrdered, HasContextsOf}
use Rattle.graph_file.proofs.Files.{values_are}
use Rattle.graph_file.proofs.LookUps.{only_contexts, not_none}
use Rattle.graph_file.proofs.graph.Graph.contexts.Goals as goal

pub piece_named-requires-clause-ordered : goal.piece_named-requires-clause-ordered
piece_named-requires-clause-ordered c =
    subst AreOrdered (values_are c.args.self.now.blocks.map c.items.result.now c.items.ensures.entries)
    c.args.self.now.ordered

pub returns-in-Some-clause-some : goal.returns-in-Some-clause-some
returns-in-Some-clause-some c =
    let e = values_are c.args.self.now.blocks.map c.items.result.now c.items.ensures.entries in
    subst (λ bs. HasContextsOf bs c.args.piece c.in-Some.found.now.contexts) (sym e)
    (record { piece = c.in-Some.found.now; has = c.in-Some.ensures.some; contexts_are = refl })

pub returns-in-Some-clause-only : goal.returns-in-Some-clause-only
returns-in-Some-clause-only c = λ l h.
    let e = values_are c.args.self.now.blocks.map c.items.result.now c.items.ensures.entries in
    only_contexts c.items.result.now c.args.piece c.in-Some.found.now c.in-Some.ensures.only l
    (subst (λ bs. HasContextsOf bs c.args.piece l) e h)

pub returns-in-None-clause-only : goal.returns-in-None-clause-only
returns-in-None-clause-only c = λ l h.
    let e = values_are c.args.self.now.blocks.map c.items.result.now c.items.ensures.entries in
    let k = subst (λ bs. HasContextsOf bs c.args.piece l) e h in
    absurd (not_none k.piece (c.in-None.ensures.only k.piece k.has))
