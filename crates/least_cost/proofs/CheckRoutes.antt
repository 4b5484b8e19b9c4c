-- Where a drive begins and ends, by its first and its last step.
use Rattle.std.proofs.Common.{◌≡◌, ◌+◌, ◌-◌, ◌<◌, List, [], ◌∷◌, ◌++◌, length, Some, slice_get, take, drop}
use Rattle.std.proofs.Common.{refl, sym, ap, ◌∙◌, arith}
use Rattle.std.proofs.lemmas.List.{take_all}
use Rattle.road_base.specs.declared.ids.NodeId.{NodeId}
use Rattle.road_base.specs.declared.ids.Step.{Step}
use Rattle.road_base.specs.Objects.{Objects}
use Rattle.std.proofs.lemmas.Option.{slice_get_within}
use Rattle.ordered_lists.proofs.ListPlaces.{one_stands}
use Rattle.ordered_lists.proofs.Splits.{same_last}
use Rattle.road_model.specs.Rules.{Rules}
use Rattle.road_model.specs.Lines.{tail_of, head_of}
use Rattle.road_model.specs.Network.{Legal}
use Rattle.context_search.specs.Reaching.{LeadsTo}
use Rattle.context_search.proofs.DrivePlaces.{drop_place, take_place}

pub filled : {X : Type 0} (d : List X) → (d ≡ [] → ⊥) → 0 < length d
filled [] some = absurd (some refl)
filled (x ∷ d) some = omega arith

module _ (M : Objects) (P : Rules) (a b : NodeId) (d : List Step) (x y : Step) (first : slice_get d 0 ≡ Some x)
    (last : slice_get d (length d - 1) ≡ Some y) where
  split_end : d ≡ take (length d - 1) d ++ y ∷ []
  split_end =
      let h = slice_get_within d 0 x first in
      sym (take_all (length d - 1 + 1) d (omega arith)) ∙ take_place d (length d - 1) y last

  pub leads_by : tail_of M x ≡ Some a → head_of M y ≡ Some b → Legal M P d → LeadsTo M P a b d
  leads_by tail head legal = record {
    legal = legal;
    first = x;
    rest = drop 1 d;
    begins = drop_place d 0 x first;
    tail = tail;
    front = take (length d - 1) d;
    last = y;
    ends = split_end;
    head = head;
  }

  pub tail_of_drive : LeadsTo M P a b d → tail_of M x ≡ Some a
  tail_of_drive l =
      let e : slice_get d 0 ≡ Some l.first = ap (λ z. slice_get z 0) l.begins in
      ap (tail_of M) (one_stands d 0 x l.first first e) ∙ l.tail

  pub head_of_drive : LeadsTo M P a b d → head_of M y ≡ Some b
  head_of_drive l =
      let s = same_last (take (length d - 1) d) y l.front l.last (sym split_end ∙ l.ends) in
      ap (head_of M) s.last ∙ l.head
