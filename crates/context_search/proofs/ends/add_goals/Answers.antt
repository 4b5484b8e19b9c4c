use Rattle.std.proofs.Common.{◌≡◌, ◌≤◌, ◌⊎◌, inl, inr, Some, ◌∙◌, sym, ap, subst, List, Contains, take, get_or, ◌++◌}
use Rattle.std.proofs.Common.{◌∷◌, []}
use Rattle.std.proofs.lemmas.List.{take_more, take_all}
use Rattle.std.proofs.lemmas.List.Elements.{Contains-append_left, Contains-push}
use Rattle.ordered_lists.proofs.ListMembers.{contains_more}
use Rattle.road_model.specs.declared.lists.Piece.{Piece}
use Rattle.context_search.specs.declared.ends.Goal.{Goal}
use Rattle.context_search.specs.Ends.{Arrives}
use Rattle.context_search.specs.Visits.{goal_in}
use Rattle.context_search.proofs.SearchGoals.{named_apart}
use Rattle.context_search.proofs.ends.add_goals.Goals as goal

pub loop-piece-preserved : goal.loop-piece-preserved
loop-piece-preserved c =
    let pieces = c.args.pieces.now in
    let k = c.loop-piece.piece-index in
    let p = c.piece-item.result in
    let was = c.args.goals.now in
    let m = c.loop-piece.goals in
    let n = c.add_goal.new.goals in
    let old = c.loop-piece.invariant in
    let more = c.in_ok-add_goal.ensures in
    let names = c.name_order.ensures.names in
    let grown = take_more pieces k p c.loop-piece-test.true in
    let apart : (e : Piece) → Contains (take k pieces) e → e.name ≡ p.name → ⊥
    = λ e has same. named_apart names pieces k p c.requires c.loop-piece-test.true e has
    (same ∙ ap (λ (z : Piece). z.name) c.piece-item.is) in
    let stays : (e : Piece) → Contains (take k pieces) e → goal_in n e.name ≡ goal_in m e.name
    = λ e has. more.others e.name (apart e has) in
    let none : goal_in m p.name ≡ goal_in was p.name = old.others p.name apart in
    record {
      others = λ q not.
          more.others q (λ same. not p (subst (λ (xs : List Piece). Contains xs p) (sym grown)
          (subst (λ (z : Piece). Contains (take k pieces ++ z ∷ []) p) c.piece-item.is
          (Contains-push (take k pieces) p))) (sym same))
          ∙ old.others q (λ e has. not e (subst (λ (xs : List Piece). Contains xs e) (sym grown)
          (Contains-append_left (take k pieces) (get_or pieces k p ∷ []) e has)));
      new = λ e g has is. elim (contains_more (take k pieces) (get_or pieces k p) e
          (subst (λ (xs : List Piece). Contains xs e) grown has)) [
            | inl before ↦ old.new e g before (sym (stays e before) ∙ is)
            | inr same ↦
                let one : p ≡ e = c.piece-item.is ∙ sym same in
                subst (λ (z : Piece). (goal_in was z.name ≡ Some g)
                ⊎ ((g.piece.now ≡ z) × Arrives z g.last c.args.node)) one
                (elim (more.new g (ap (λ (z : Piece). goal_in n z.name) one ∙ is)) [
                  | inl h ↦ inl (sym none ∙ h)
                  | inr h ↦ inr h
                ])
          ];
      all = λ e j has l. elim (contains_more (take k pieces) (get_or pieces k p) e
          (subst (λ (xs : List Piece). Contains xs e) grown has)) [
            | inl before ↦ let r = old.all e j before l in (r.0, stays e before ∙ r.1, r.2)
            | inr same ↦
                let one : p ≡ e = c.piece-item.is ∙ sym same in
                subst (λ (z : Piece). (g : Goal) × (goal_in n z.name ≡ Some g) × (j ≤ g.last)) one
                (more.all j (subst (λ (z : Piece). Arrives z j c.args.node) (sym one) l))
          ];
    }

pub returns-clause-others : goal.returns-clause-others
returns-clause-others c q not =
    let k = c.loop-piece.piece-index in
    let all = take_all k c.args.pieces.now c.loop-piece-test.false in
    c.loop-piece.invariant.others q (λ e has. not e (subst (λ (xs : List Piece). Contains xs e) all has))

pub returns-clause-new : goal.returns-clause-new
returns-clause-new c e g has is =
    let k = c.loop-piece.piece-index in
    let all = take_all k c.args.pieces.now c.loop-piece-test.false in
    c.loop-piece.invariant.new e g (subst (λ (xs : List Piece). Contains xs e) (sym all) has) is

pub returns-clause-all : goal.returns-clause-all
returns-clause-all c e j has l =
    let k = c.loop-piece.piece-index in
    let all = take_all k c.args.pieces.now c.loop-piece-test.false in
    c.loop-piece.invariant.all e j (subst (λ (xs : List Piece). Contains xs e) (sym all) has) l
