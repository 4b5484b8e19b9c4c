use Rattle.std.proofs.Common.{◌≡◌, inl, inr, Contains, take, get_or, pos, sym, ap, subst, ◌∙◌}
use Rattle.std.proofs.lemmas.List.{take_all, take_more}
use Rattle.road_base.specs.declared.ids.WayId.{WayId}
use Rattle.ordered_lists.proofs.ListMembers.{contains_from_in, contains_more, contains_none, in_get}
use Rattle.graph_blocks.specs.Lent.{map_of}
use Rattle.change_apply.specs.Rebuilding.{listed, pieces_at}
use Rattle.change_apply.specs.Standing.{built_in}
use Rattle.change_apply.proofs.ComparedPieces.{AreSame, more_same, more_altered}
use Rattle.change_apply.proofs.altering.altered.Goals as goal
use Rattle.change_apply.proofs.altering.altered.Goals.{then-not-same_spans+in_ok-push, else-not-same_spans}

pub loop-way-init : goal.loop-way-init
loop-way-init c = record {
  only = λ w has. absurd (contains_none w (subst (λ l. Contains l w) c.new-altered.ensures.items has));
  same = λ w has. absurd (contains_none w has);
}

pub loop-way-preserved : goal.loop-way-preserved
loop-way-preserved c =
    let ways = c.args.ways.now in
    let i = c.loop-way.way-index in
    let way = get_or ways i (record { 0 = pos 0 }) in
    let before = c.args.before.now in
    let after = c.args.after.now in
    let Same : WayId → Type 0 = λ w. listed (pieces_at (built_in before) (map_of before.blocks.now) w)
    ≡ listed (pieces_at (built_in after) (map_of after.blocks.now) w) in
    let more = take_more ways i (record { 0 = pos 0 }) c.loop-way-test.true in
    let here : Contains ways way =
    contains_from_in ways way (in_get ways i (record { 0 = pos 0 }) c.loop-way-test.true) in
    elim c.if-not-same_spans.branch [
      | then-not-same_spans+in_ok-push w ↦
          let pushed = ap (λ v. v.items) w.altered-is ∙ w.in_ok-push.ensures.items in record {
            only = λ v has.
                elim (contains_more c.loop-way.altered.items way v (subst (λ l. Contains l v) pushed has)) [
                  | inl earlier ↦ c.loop-way.invariant.only v earlier
                  | inr last ↦ subst (Contains ways) (sym last) here
                ];
            same =
                subst (λ l. AreSame Same l c.if-not-same_spans.altered.items) (sym more)
                (subst (AreSame Same _) (sym pushed)
                (more_altered Same (take i ways) c.loop-way.altered.items way c.loop-way.invariant.same));
          }
      | else-not-same_spans w ↦
          let alike = ap (λ v. v.items) w.altered-is in record {
            only = λ v has. c.loop-way.invariant.only v (subst (λ l. Contains l v) alike has);
            same =
                subst (λ l. AreSame Same l c.if-not-same_spans.altered.items) (sym more)
                (subst (AreSame Same _) (sym alike)
                (more_same Same (take i ways) c.loop-way.altered.items way c.loop-way.invariant.same
                (sym (ap listed c.pieces-was.ensures) ∙ c.same_spans.ensures.0 w.if-not-same_spans.false
                ∙ ap listed c.pieces-is.ensures)));
          }
    ]

pub returns-clause-only : goal.returns-clause-only
returns-clause-only c = c.loop-way.invariant.only

pub returns-clause-same : goal.returns-clause-same
returns-clause-same c =
    let before = c.args.before.now in
    let after = c.args.after.now in
    let Same : WayId → Type 0 = λ w. listed (pieces_at (built_in before) (map_of before.blocks.now) w)
    ≡ listed (pieces_at (built_in after) (map_of after.blocks.now) w) in
    subst (λ l. AreSame Same l c.loop-way.altered.items)
    (take_all c.loop-way.way-index c.args.ways.now c.loop-way-test.false) c.loop-way.invariant.same
