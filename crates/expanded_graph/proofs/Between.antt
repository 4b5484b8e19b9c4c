-- The steps between the first and the last of a list.
use Rattle.std.proofs.Common.{◌≡◌, List, [], ◌∷◌, ◌++◌, inl, inr, sym, ap, ◌∙◌, subst, append_assoc, Contains}
use Rattle.road_base.specs.declared.ids.WayId.{WayId}
use Rattle.road_base.specs.declared.ids.Step.{Step}
use Rattle.expanded_graph.specs.Near.{HasStepOn, HasStepBetween}
use Rattle.ordered_lists.proofs.ListMembers.{in_from_contains, contains_from_in, in_left, in_end}
use Rattle.ordered_lists.proofs.Splits.{cons_not_nil}
use Rattle.expanded_graph.proofs.TurnStepLists.{nil_or_last}

module _ (w : WayId) where
  pub on_from_between : (u : List Step) → HasStepBetween w u → HasStepOn w u
  on_from_between u b =
      let s = b.on in
      let among = contains_from_in (b.first ∷ (b.middle ++ b.last ∷ [])) s.step
      (inr (in_left b.middle (b.last ∷ []) s.step (in_from_contains b.middle s.step s.among))) in
      record { step = s.step; among = subst (λ l. Contains l s.step) (sym b.is) among; on = s.on }

  -- the last of two steps or more stands between the first and the last of a longer list
  pub between_longer : (q : List Step) (first : Step) (middle : List Step) (last next : Step) (more : List Step)
      → q ≡ first ∷ (middle ++ last ∷ []) → last.way ≡ w → HasStepBetween w (q ++ next ∷ more)
  between_longer q first middle last next more e on = elim (nil_or_last (next ∷ more)) [
    | inl none ↦ absurd (cons_not_nil [] next more none)
    | inr r ↦
        let front = middle ++ last ∷ [] in
        let here = contains_from_in (front ++ r.0) last (in_left front r.0 last (in_end middle last [])) in
        record {
          first = first;
          middle = front ++ r.0;
          last = r.1;
          is = ap (λ l. l ++ next ∷ more) e ∙ ap (λ l. first ∷ l)
              (ap (λ l. front ++ l) r.2 ∙ sym (append_assoc front r.0 (r.1 ∷ [])));
          on = record { step = last; among = here; on = on };
        }
  ]
