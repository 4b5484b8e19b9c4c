-- The ways of one word more stand there or are known.
use Rattle.std.proofs.Common.{◌≡◌, inl, inr, sym, ap, ◌∙◌, subst}
use Rattle.restrictions.specs.declared.word_list.Word.{Word}
use Rattle.expanded_graph.specs.Near.{HasStepOn}
use Rattle.ordered_lists.proofs.ListFronts.{among_more, among_all}
use Rattle.expanded_graph.proofs.words.ways_of.Goals as goal

pub loop-word-preserved : goal.loop-word-preserved
loop-word-preserved c u w has on =
    let gain = c.in_ok-add_ways.ensures in
    elim (among_more c.args.words.now c.loop-word.word-index c.word-item.result c.loop-word-test.true u has) [
      | inl o ↦ elim (c.loop-word.invariant u w o on) [
        | inl k ↦ inl k
        | inr h ↦ inr (gain.kept w h)
      ]
      | inr e ↦
          let steps : u.steps ≡ c.items.result.now =
          sym (c.items.ensures ∙ ap (λ (x : Word). x.steps) (c.word-item.is ∙ e)) in
          gain.apart w (subst (HasStepOn w) steps on)
    ]

pub returns : goal.returns
returns c u w has on =
    let among = among_all c.args.words.now c.loop-word.word-index c.loop-word-test.false u has in
    elim (c.loop-word.invariant u w among on) [
      | inl k ↦ inl k
      | inr h ↦ inr ((c.leave_once.ensures.exactly w).1 h)
    ]
