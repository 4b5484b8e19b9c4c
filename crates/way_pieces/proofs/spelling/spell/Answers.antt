-- The pieces of the way have their names from the spans.
use Rattle.std.proofs.Common.{◌≡◌, ◌<◌, ◌-◌, List, ◌++◌, Contains, sym, ap, subst, ◌∙◌, arith}
use Rattle.road_base.specs.declared.ids.Step.{Step}
use Rattle.road_base.specs.Objects.{Objects}
use Rattle.road_model.specs.declared.lists.PieceName.{PieceName}
use Rattle.road_model.specs.Rules.{Rules}
use Rattle.road_model.specs.Lines.{steps_from}
use Rattle.way_pieces.specs.declared.spans.PieceSpan.{PieceSpan}
use Rattle.way_pieces.specs.Names.{IsSpanOn, IsSpelling, NamesNone, piece_of}
use Rattle.way_pieces.specs.RoadPieces.{AreSpans}
use Rattle.way_pieces.proofs.SpanOrder.{span_of}
use Rattle.way_pieces.proofs.spelling.spell.Goals as goal

module _ (M : Objects) (P : Rules) (n : PieceName) (listed spans : List PieceSpan) (value : spans ≡ listed)
    (are : AreSpans M P n.way listed) where
  -- what stands among the spans is a piece
  on : (s : PieceSpan) → Contains spans s → IsSpanOn M P n.way s
  on s has = are.sound s (subst (λ (xs : List PieceSpan). Contains xs s) value has)

  -- where no span has the name no piece has it
  none_named : ((s : PieceSpan) → Contains spans s → s.name ≡ n → ⊥) → NamesNone M P n
  none_named others p is named =
      let way = ap (λ (m : PieceName). m.way) (sym named) in
      others (span_of p)
      (subst (λ (xs : List PieceSpan). Contains xs (span_of p)) (sym value)
      (are.complete (span_of p) (record { of = way; is = is })))
      (sym named)

  module _ (s : PieceSpan) (has : Contains spans s) (name : s.name ≡ n) where
    -- the piece of that name ends above where it begins
    rises : n.index < s.end
    rises = subst (λ (m : PieceName). m.index < s.end) name ((on s has).is).ascends

    -- and has these steps
    spelled : (steps : List Step) → steps ≡ steps_from n.way n.index (s.end - n.index) n.dir → IsSpelling M P n steps
    spelled steps are_steps = record {
      piece = piece_of s;
      is = (on s has).is;
      named = sym name;
      spelled = are_steps ∙ ap (λ (m : PieceName). steps_from m.way m.index (s.end - m.index) m.dir) (sym name);
    }

pub returns-in_default-clause-none : goal.returns-in_default-clause-none
returns-in_default-clause-none g c =
    let M = g.M.World.objects c.args.world.now in
    let P = g.P.Profile.rules c.args.profile.now in
    none_named M P c.args.piece c.in_ok-spans.spans.items c.as_slice.result.now c.as_slice.ensures.value
    c.in_ok-spans.ensures c.in_default.ensures.none

pub overflow_sub-span : goal.overflow_sub-span
overflow_sub-span g c =
    let M = g.M.World.objects c.args.world.now in
    let P = g.P.Profile.rules c.args.profile.now in
    let found = c.in-Some.ensures.some in
    let up = rises M P c.args.piece c.in_ok-spans.spans.items c.as_slice.result.now c.as_slice.ensures.value
    c.in_ok-spans.ensures c.in-Some.span found.0 found.1 in
    omega arith

pub returns-clause-some : goal.returns-clause-some
returns-clause-some g c =
    let M = g.M.World.objects c.args.world.now in
    let P = g.P.Profile.rules c.args.profile.now in
    let found = c.in-Some.ensures.some in
    let added : List Step
    → List Step = λ xs. xs ++ steps_from c.args.piece.way c.args.piece.index
    (c.in-Some.span.end - c.args.piece.index) c.args.piece.dir in
    spelled M P c.args.piece c.in_ok-spans.spans.items c.as_slice.result.now c.as_slice.ensures.value
    c.in_ok-spans.ensures c.in-Some.span found.0 found.1 c.from_list.result
    (c.from_list.ensures ∙ (c.in_ok-add_steps.ensures.added ∙ ap added c.new-steps.ensures.items))
