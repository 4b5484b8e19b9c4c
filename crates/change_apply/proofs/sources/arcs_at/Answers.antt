use Rattle.std.proofs.Common.{sym, ◌∙◌, subst, Contains}
use Rattle.std.proofs.lemmas.Slice.Eq.{slice_eq-Decides}
use Rattle.change_apply.proofs.EqualBlocks.{names_decide}
use Rattle.change_apply.proofs.sources.arcs_at.Goals as goal

pub returns-in-Some : goal.returns-in-Some
returns-in-Some c a has =
    let there = c.in-Some.ensures.lookup.3 in
    let context = c.in-Some.context.now in
    let equal = (slice_eq-Decides names_decide c.items.result.now c.args.before.now c.eq.result c.eq.ensures).0
    c.if-eq.true
    in
    record {
      context = context;
      listed = (c.args.at, there.0, sym (there.1 context));
      behind = sym c.items.ensures ∙ equal;
      arc = subst (λ l. Contains l a) c.items-in-Some.ensures has;
    }
