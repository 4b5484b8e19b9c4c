use Rattle.std.proofs.Common.{rules, ◌≡◌, ◌+◌, [], ◌∷◌, ◌++◌, map, take, sym, ap, ◌∙◌, subst, take_all, to_z, of_z, w64}
use Rattle.std.proofs.lemmas.Int.{to_z-of_z}
use Rattle.std.proofs.lemmas.List.{take_more}
use Rattle.layered_maps.specs.Filters.{IsMarked, AreMarked}
use Rattle.layered_maps.specs.Layers.{pair}
use Rattle.layered_maps.proofs.MarkedPairs.{more_marked}
use Rattle.layered_maps.proofs.entry_run.EntryRun.marked.Goals as goal

pub loop-entry-init : goal.loop-entry-init
loop-entry-init g c = (λ k has. cc, λ number is. is)

pub loop-entry-preserved : goal.loop-entry-preserved
loop-entry-preserved g c =
    let R = g.K.Ord.cmp in
    let number = g.K.Slotted.number in
    let entries = c.deref-entry-items.result.now in
    let entry = c.entry-item.result in
    let front = take c.loop-entry.entry-index entries in
    let step : take (c.loop-entry.entry-index + 1) entries ≡ front ++ entry ∷ []
    = take_more entries c.loop-entry.entry-index entry c.loop-entry-test.true
    ∙ ap (λ z. front ++ z ∷ []) (sym c.entry-item.is) in
    let words = c.mark.new.self in
    let same : to_z w64 (of_z w64 c.number.result) ≡ c.number.result = search (rules, to_z-of_z) in
    let own : IsMarked words (number entry.key)
    = subst (IsMarked words) (same ∙ c.number.ensures) c.in_ok-mark.ensures.own in (
      subst (λ l. AreMarked R number (map pair l) words) (sym step)
          (more_marked R g.met.K.Ord.total number g.met.K.Slotted.tied pair front entry c.loop-entry.all words
          c.loop-entry.invariant.0 own c.in_ok-mark.ensures.others),
      λ n is. c.in_ok-mark.ensures.others n (c.loop-entry.invariant.1 n is),
    )

pub returns-clause-own : goal.returns-clause-own
returns-clause-own g c =
    subst (λ l. AreMarked g.K.Ord.cmp g.K.Slotted.number l c.loop-entry.all)
    (ap (map pair) (take_all c.loop-entry.entry-index c.deref-entry-items.result.now c.loop-entry-test.false
    ∙ c.deref-entry-items.ensures.value) ∙ c.self.view_is)
    c.loop-entry.invariant.0

pub returns-clause-others : goal.returns-clause-others
returns-clause-others g c = c.loop-entry.invariant.1
