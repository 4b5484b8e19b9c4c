use Rattle.std.proofs.Common.{map, sym, ap, ◌∙◌, subst}
use Rattle.layered_maps.specs.Layers.{laid}
use Rattle.layered_maps.specs.Walks.{AllRise, first_key, lower_of, run_pairs}
use Rattle.layered_maps.proofs.LayerPairs.{laid_rises}
use Rattle.layered_maps.proofs.WalkedPairs.{first_of_both}
use Rattle.layered_maps.proofs.changes.+least_of.Goals as goal

pub returns-in-Some : goal.returns-in-Some
returns-in-Some g t c =
    let R = g.K.Ord.cmp in
    let first = run_pairs c.in-Some.first.now in
    let rest = map run_pairs c.in-Some.behind.now in
    let up = subst (λ l. AllRise R (map run_pairs l)) c.in-Some.ensures.cases.0 c.requires in
    c.lower.ensures ∙ (λ i. lower_of R (c.key_of.ensures i) (c.least_of.ensures i))
    ∙ sym (first_of_both R g.met.K.Ord.total first (laid R rest) up.0 (laid_rises R g.met.K.Ord.total rest))
    ∙ sym (ap (λ l. first_key (laid R (map run_pairs l))) c.in-Some.ensures.cases.0)
