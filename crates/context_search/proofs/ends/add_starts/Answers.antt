use Rattle.std.proofs.Common.{◌≡◌, inl, inr, ◌∙◌, sym, subst, List, Contains, take, get_or}
use Rattle.std.proofs.lemmas.List.{take_more, take_all}
use Rattle.std.proofs.lemmas.List.Elements.{Contains-get_or}
use Rattle.ordered_lists.proofs.ListMembers.{contains_more}
use Rattle.road_model.specs.declared.lists.Piece.{Piece}
use Rattle.context_search.specs.Ends.{Leaves}
use Rattle.context_search.proofs.ends.add_starts.Goals as goal

pub loop-piece-preserved : goal.loop-piece-preserved
loop-piece-preserved c =
    let pieces = c.args.pieces.now in
    let node = c.args.node in
    let k = c.loop-piece.piece-index in
    let p = c.piece-item.result in
    let old = c.loop-piece.invariant in
    let more = c.in_ok-add_start.ensures in
    let here : Contains pieces p = subst (λ (z : Piece). Contains pieces z) (sym c.piece-item.is)
    (Contains-get_or pieces k p c.loop-piece-test.true) in
    record {
      stays = λ s h. more.stays s (old.stays s h);
      new = λ s h. elim (more.new s h) [
        | inl before ↦ old.new s before
        | inr now ↦ inr (
          subst (λ (z : Piece). Contains pieces z) (sym now.0) here,
          subst (λ (z : Piece). Leaves z s.first node) (sym now.0) now.1,
        )
      ];
      all = λ e i has l. elim (contains_more (take k pieces) (get_or pieces k p) e
          (subst (λ (xs : List Piece). Contains xs e) (take_more pieces k p c.loop-piece-test.true) has)) [
            | inl before ↦ let r = old.all e i before l in (r.0, more.stays r.0 r.1, r.2, r.3)
            | inr same ↦
                let one : e ≡ p = same ∙ sym c.piece-item.is in
                let r = more.all i (subst (λ (z : Piece). Leaves z i node) one l) in
                (r.0, r.1, r.2 ∙ sym one, r.3)
          ];
    }

pub returns-clause-all : goal.returns-clause-all
returns-clause-all c e i has l = c.loop-piece.invariant.all e i
    (subst (λ (xs : List Piece). Contains xs e)
    (sym (take_all c.loop-piece.piece-index c.args.pieces.now c.loop-piece-test.false)) has) l
