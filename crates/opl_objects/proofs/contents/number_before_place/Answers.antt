use Rattle.std.proofs.Common.{◌≡◌, ◌∷◌, ℤ, Option, None, true, is_some, sym, ◌∙◌, ap, refl}
use Rattle.opl_lexer.specs.Contents.{number_in}
use Rattle.opl_objects.proofs.ContentsCuts.{by_other_part, two_cuts}
use Rattle.opl_objects.proofs.contents.number_before_place.Goals as goal

-- two signs stand there
pub returns-then-is_some : goal.returns-then-is_some
returns-then-is_some c =
    let x = c.at_first.result.0.now in
    let y = c.at_first-2.result.0.now in
    let some : is_some c.at_first-2.result.1 ≡ true = sym c.is_some.ensures ∙ c.if-is_some.true in
    let none : Option ℤ = None in
    let more = by_other_part (λ l. number_in (x ∷ y ∷ l)) none (λ p ps. refl) 120 c.at_first-2.result.1 some in
    let cuts = two_cuts 120 c.args.text.now x y c.at_first.result.1 c.at_first-2.result.1 c.in-Some.behind
    c.at_first.ensures.parts c.in-Some.is c.at_first-2.ensures.parts in
    sym (ap number_in cuts ∙ more)
