use Rattle.std.proofs.Common.{◌≡◌, ◌≤◌, ◌+◌, ◌∷◌, Some, drop, length, option_copied, slice_get, arith}
use Rattle.std.proofs.Common.{sym, ap, ◌∙◌, subst}
use Rattle.std.proofs.lemmas.Option.{slice_get_within}
use Rattle.layered_maps.proofs.JoinedLists.{first_left, head_none, head_split, one_left}
use Rattle.layered_maps.proofs.items.Rest.split.Goals as goal

pub of-requires : goal.of-requires
of-requires g c =
    let at = c.self.inside.at in
    let items = c.self.inside.items in
    let there : slice_get items at ≡ Some c.in-Some.first.now = sym c.get.ensures ∙ ap option_copied c.in-Some.is in
    subst (λ l. at + 1 ≤ length l) (sym c.again.ensures)
    (omega (arith, slice_get_within items at c.in-Some.first.now there))

pub returns-in-Some-clause-some : goal.returns-in-Some-clause-some
returns-in-Some-clause-some g c =
    let at = c.self.inside.at in
    let items = c.self.inside.items in
    let first = c.in-Some.first.now in
    let there : slice_get items at ≡ Some first = sym c.get.ensures ∙ ap option_copied c.in-Some.is in
    sym c.self.view_is ∙ head_split (drop at items) first (sym there ∙ first_left items at)
    ∙ ap (λ l. first ∷ l) (sym (one_left items at) ∙ ap (drop (at + 1)) (sym c.again.ensures) ∙ sym c.of.ensures)

pub returns-in-None-clause-none : goal.returns-in-None-clause-none
returns-in-None-clause-none g c =
    let at = c.self.inside.at in
    let items = c.self.inside.items in
    sym c.self.view_is
    ∙ head_none (drop at items) (ap option_copied (sym c.in-None.is) ∙ c.get.ensures ∙ first_left items at)
