use Rattle.std.proofs.Common.{◌≡◌, ◌<◌, ℕ, false, true, IsTrue, length, get_or, ap, sym, ◌∙◌, subst}
use Rattle.std.proofs.lemmas.List.{get_or-map}
use Rattle.road_model.specs.declared.lists.Piece.{Piece}
use Rattle.road_model.specs.declared.lists.PieceName.{PieceName}
use Rattle.change_apply.proofs.sameness.same_spans.Goals as goal

abbrev named : Piece → PieceName × ℕ
named p = (p.name, p.end)

pub returns-then-not-same_span : goal.returns-then-not-same_span
returns-then-not-same_span c =
    let a = c.args.a.now in
    let b = c.args.b.now in
    let i = c.loop-at.at in
    let x = c.index-a-at.result in
    let y = c.index-b-at.result in
    let within : i < length b = subst (λ n. i < n) c.if-a-b.false c.loop-at-test.true in (
      λ h. let no : false ≡ true = h in absurd (cc),
      λ e.
          let same : named x ≡ named y = ap named c.index-a-at.is
          ∙ sym (get_or-map named a i x (named x) c.loop-at-test.true)
          ∙ ap (λ l. get_or l i (named x)) e
          ∙ get_or-map named b i y (named x) within ∙ sym (ap named c.index-b-at.is) in
          subst IsTrue c.if-not-same_span.true (c.same_span.ensures.1 (ap (λ p. p.0) same, ap (λ p. p.1) same)),
    )
