-- A span that wasn't looked at has another name.
use Rattle.std.proofs.Common.{◌≡◌, List, take, Contains, sym, ap, subst, ◌∙◌, inl, inr, pos, arith}
use Rattle.std.proofs.lemmas.Bool.{false≢true}
use Rattle.std.proofs.lemmas.List.{take_all}
use Rattle.road_base.specs.declared.ids.Dir.TheVariants.{Forward}
use Rattle.way_pieces.specs.declared.spans.PieceSpan.{PieceSpan}
use Rattle.ordered_lists.proofs.JoinedLists.{one_more}
use Rattle.way_pieces.proofs.spelling.span_named.Goals as goal

abbrev nothing : PieceSpan
nothing = record { name = record { way = record { 0 = pos 0 }; index = 0; dir = Forward }; end = 0 }

pub loop-span-preserved : goal.loop-span-preserved
loop-span-preserved c = λ s has named.
    let i = c.loop-span.span-index in
    elim (one_more c.args.spans.now i nothing s c.loop-span-test.true has) [
      | inl here ↦ false≢true (c.if-is_named.ensures.1 (ap (λ (t : PieceSpan). t.name) (sym here) ∙ named))
      | inr before ↦ c.loop-span.invariant s before named
    ]

pub returns-clause-none : goal.returns-clause-none
returns-clause-none c = λ s has.
    let past = c.loop-span-test.false in
    let whole : take c.loop-span.span-index c.args.spans.now ≡ c.args.spans.now = take_all c.loop-span.span-index
    c.args.spans.now (omega arith) in
    c.loop-span.invariant s (subst (λ (xs : List PieceSpan). Contains xs s) (sym whole) has)
