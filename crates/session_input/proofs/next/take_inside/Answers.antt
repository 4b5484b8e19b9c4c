use Rattle.std.proofs.Common.{◌≡◌, ◌++◌, ◌∷◌, [], ℕ, List, sym, ◌∙◌, subst, ap}
use Rattle.std.proofs.lemmas.Bool.{false≢true}
use Rattle.std.proofs.lemmas.Result.{IfOk-weaker}
use Rattle.opl_lexer.specs.Parts.{Lacks}
use Rattle.session_input.proofs.FrameSteps.{frame_grown}
use Rattle.session_input.proofs.LineTexts.{cut_line}
use Rattle.session_input.proofs.next.take_inside.Goals as goal

pub returns-clause-next : goal.returns-clause-next
returns-clause-next c = λ front has whole.
    let line : whole.line ≡ c.split_at.result.0.now = sym (c.split_at.ensures.front
    ∙ cut_line c.args.whole.now whole) in
    frame_grown front c.split_at.result.0.now c.args.whole.now c.args.frame c.feed.new.self has
    (subst (Lacks 10) line whole.one)
    (λ ends. false≢true (sym c.if-is_frame_end.false ∙ c.is_frame_end.ensures.1 ends))
    (whole.spelled ∙ ap (λ (bs : List ℕ). bs ++ (10 ∷ [])) line)
    c.in_ok-feed.ensures.number c.in_ok-feed.ensures.more

pub returns-then-is_frame_end-clause-next : goal.returns-then-is_frame_end-clause-next
returns-then-is_frame_end-clause-next c = IfOk-weaker c.end_frame.result _ _
    (λ next says front has whole.
    let line : whole.line ≡ c.split_at.result.0.now = sym (c.split_at.ensures.front
    ∙ cut_line c.args.whole.now whole) in
    let spelled = whole.spelled ∙ ap (λ (bs : List ℕ). bs ++ (10 ∷ [])) line in
    rw spelled (says front c.split_at.result.0.now has (subst (Lacks 10) line whole.one)
    (c.is_frame_end.ensures.0 c.if-is_frame_end.true)))
    c.end_frame.ensures.next
