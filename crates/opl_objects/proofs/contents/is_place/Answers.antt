use Rattle.std.proofs.Common.{◌≡◌, ◌∷◌, true, false, is_some, sym, ◌∙◌, ap, refl}
use Rattle.opl_lexer.specs.Contents.{is_place}
use Rattle.opl_objects.proofs.ContentsCuts.{by_other_part, two_cuts}
use Rattle.opl_objects.proofs.contents.is_place.Goals as goal

-- two signs stand there
pub returns-then-is_some : goal.returns-then-is_some
returns-then-is_some c =
    let x = c.at_first.result.0.now in
    let y = c.at_first-2.result.0.now in
    let some : is_some c.at_first-2.result.1 ≡ true = sym c.is_some.ensures ∙ c.if-is_some.true in
    let more = by_other_part (λ l. is_place (x ∷ y ∷ l)) false (λ p ps. refl) 121 c.at_first-2.result.1 some in
    let cuts = two_cuts 121 c.args.text.now x y c.at_first.result.1 c.at_first-2.result.1 c.in-Some.behind
    c.at_first.ensures.parts c.in-Some.is c.at_first-2.ensures.parts in
    sym (ap is_place cuts ∙ more)
