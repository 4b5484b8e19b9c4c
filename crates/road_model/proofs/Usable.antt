-- Whether a restriction is usable is decided.
use Rattle.std.proofs.Common.{◌≡◌, List, [], ◌∷◌, inl, inr, refl}
use Rattle.road_base.specs.declared.objects.Relation.{Relation}
use Rattle.road_base.specs.Objects.{Objects}
use Rattle.road_model.specs.declared.answers.RuleKind.{RuleKind}
use Rattle.road_model.specs.declared.answers.RuleKind.TheVariants.{Freed, Absent, No, Only}
use Rattle.road_model.specs.declared.answers.Unusable.{Unusable}
use Rattle.road_model.specs.declared.answers.Unusable.TheVariants.{NotThisVehicle, NoValue, Members, Missing, NotAnEnd}
use Rattle.road_model.specs.declared.answers.Unusable.TheVariants.{NotConnected, ClosedVia, TooLong}
use Rattle.road_model.specs.Rules.{Rules}
use Rattle.road_model.specs.Restrictions.{Holds, IsUsable}
use Rattle.ordered_lists.proofs.ListMembers.{In}
use Rattle.ordered_lists.proofs.Decided.{Decided, decided_both, decided_like, decided_true, decided_false, some_in}

pub decided_kind : (a b : RuleKind) → Decided (a ≡ b)
decided_kind Freed Freed = inl refl
decided_kind Freed Absent = inr (λ e. cc)
decided_kind Freed No = inr (λ e. cc)
decided_kind Freed Only = inr (λ e. cc)
decided_kind Absent Freed = inr (λ e. cc)
decided_kind Absent Absent = inl refl
decided_kind Absent No = inr (λ e. cc)
decided_kind Absent Only = inr (λ e. cc)
decided_kind No Freed = inr (λ e. cc)
decided_kind No Absent = inr (λ e. cc)
decided_kind No No = inl refl
decided_kind No Only = inr (λ e. cc)
decided_kind Only Freed = inr (λ e. cc)
decided_kind Only Absent = inr (λ e. cc)
decided_kind Only No = inr (λ e. cc)
decided_kind Only Only = inl refl

module _ (M : Objects) (P : Rules) (r : Relation) where
  cause_decided : (cause : Unusable) → Decided (Holds M P r cause)
  cause_decided NotThisVehicle = decided_kind _ _
  cause_decided NoValue = decided_kind _ _
  cause_decided Members = decided_true _
  cause_decided Missing = decided_true _
  cause_decided NotAnEnd = decided_true _
  cause_decided NotConnected = decided_both (decided_true _) (decided_false _)
  cause_decided ClosedVia = decided_like (λ h. (h.0, h.1.0, h.1.1)) (λ h. (h.0, (h.1, h.2)))
      (decided_both (decided_true _) (decided_both (decided_true _) (decided_false _)))
  cause_decided TooLong = decided_true _

  causes : List Unusable
  causes = NotThisVehicle ∷ NoValue ∷ Members ∷ Missing ∷ NotAnEnd ∷ NotConnected ∷ ClosedVia ∷ TooLong ∷ []

  every_cause : (cause : Unusable) → In cause causes
  unfolding causes
  every_cause NotThisVehicle = inl refl
  every_cause NoValue = inr (inl refl)
  every_cause Members = inr (inr (inl refl))
  every_cause Missing = inr (inr (inr (inl refl)))
  every_cause NotAnEnd = inr (inr (inr (inr (inl refl))))
  every_cause NotConnected = inr (inr (inr (inr (inr (inl refl)))))
  every_cause ClosedVia = inr (inr (inr (inr (inr (inr (inl refl))))))
  every_cause TooLong = inr (inr (inr (inr (inr (inr (inr (inl refl)))))))

  pub usable_decided : Decided (IsUsable M P r)
  usable_decided = elim (some_in (Holds M P r) cause_decided causes) [
    | inl h ↦ inr (λ usable. usable h.0 h.2)
    | inr n ↦ inl (λ cause. n cause (every_cause cause))
  ]
