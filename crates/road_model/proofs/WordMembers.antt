-- The steps of a word lie on members of its restriction.
use Rattle.std.proofs.Common.{◌≡◌, ℕ, zero, suc, ◌+◌, List, [], ◌∷◌, ◌++◌, ◌⊎◌, inl, inr, ap, ◌∙◌, sym, subst, Bool}
use Rattle.std.proofs.Common.{true, false, cond, Contains, map, filter}
use Rattle.std.specs.Prelude.{codes}
use Rattle.std.specs.Str.{bytes_eq}
use Rattle.road_base.specs.declared.ids.NodeId.{NodeId}
use Rattle.road_base.specs.declared.ids.WayId.{WayId}
use Rattle.road_base.specs.declared.ids.RelationId.{RelationId}
use Rattle.road_base.specs.declared.ids.Key.{Key}
use Rattle.road_base.specs.declared.ids.Key.TheVariants.{Node as NodeKey, Way as WayKey, Relation as RelationKey}
use Rattle.road_base.specs.declared.ids.Step.{Step}
use Rattle.road_base.specs.declared.ids.Dir.{Dir}
use Rattle.road_base.specs.declared.ids.Dir.TheVariants.{Forward, Backward}
use Rattle.road_base.specs.declared.objects.Member.{Member}
use Rattle.road_base.specs.Objects.{Objects}
use Rattle.road_model.specs.Rules.{Rules}
use Rattle.road_model.specs.Lines.{forward_steps, backward_steps, steps_from}
use Rattle.road_model.specs.Restrictions.{in_role, via_order, IsRun, whole_way}
use Rattle.road_model.specs.Words.{IsWord, IsVia}
use Rattle.road_model.specs.Links.{HasMember}
use Rattle.ordered_lists.proofs.ListMembers.{In, in_from_contains, contains_from_in, in_cases}
use Rattle.road_model.proofs.ViaOrder.{in_order}

-- the objects that the members refer to
abbrev items : List Member → List Key
items ms = map (λ m. m.item) ms

kept : (b : Bool) (k : Key) (m : Member) (ms : List Member) → In k (items (cond b (m ∷ ms) ms))
    → (k ≡ m.item) ⊎ In k (items ms)
kept true k m ms i = i
kept false k m ms i = inr i

-- a member of a role is a member
pub role_member : (role : List ℕ) (k : Key) (ms : List Member) → In k (in_role role ms) → In k (items ms)
role_member role k [] i = i
role_member role k (m ∷ ms) i = elim (kept (bytes_eq m.role role) k m (filter (λ n. bytes_eq n.role role) ms) i) [
  | inl e ↦ inl e
  | inr j ↦ inr (role_member role k ms j)
]

on_forward : (w : WayId) (i n : ℕ) (s : Step) → In s (forward_steps w i n) → s.way ≡ w
on_forward w i zero s j = absurd j
on_forward w i (suc n) s (inl e) = ap (λ t. t.way) e
on_forward w i (suc n) s (inr j) = on_forward w (i + 1) n s j

on_backward : (w : WayId) (i n : ℕ) (s : Step) → In s (backward_steps w i n) → s.way ≡ w
on_backward w i zero s j = absurd j
on_backward w i (suc n) s (inl e) = ap (λ t. t.way) e
on_backward w i (suc n) s (inr j) = on_backward w i n s j

-- the steps along a way lie on it
pub on_way : (w : WayId) (i n : ℕ) (d : Dir) (s : Step) → In s (steps_from w i n d) → s.way ≡ w
on_way w i n Forward s j = on_forward w i n s j
on_way w i n Backward s j = on_backward w i n s j

on_run : (M : Objects) (allowed : WayId → Dir → Bool) (ks : List Key) (v : NodeId) (via : List Step) (out : NodeId)
    (s : Step) → IsRun M allowed ks v via out → In s via → In (WayKey s.way) ks
on_run M allowed [] v via out s h i = subst (In s) h.0 i
on_run M allowed (NodeKey n ∷ ks) v via out s h i = absurd h
on_run M allowed (WayKey w ∷ ks) v via out s h i = elim (in_cases (whole_way M w h.0) h.2 s (subst (In s) h.6 i)) [
  | inl j ↦ inl (ap WayKey (on_way w _ _ h.0 s j))
  | inr j ↦ inr (on_run M allowed ks h.1 h.2 out s h.7 j)
]
on_run M allowed (RelationKey r ∷ ks) v via out s h i = absurd h

on_via : (M : Objects) (P : Rules) (ks : List Key) (v : NodeId) (via : List Step) (out : NodeId) (s : Step)
    → IsVia M P ks v via out → In s via → In (WayKey s.way) ks
on_via M P [] v via out s h i = absurd h
on_via M P (NodeKey n ∷ []) v via out s h i = absurd (subst (In s) h.1 i)
on_via M P (NodeKey n ∷ k ∷ ks) v via out s h i = absurd h
on_via M P (WayKey w ∷ ks) v via out s h i = on_run M _ (WayKey w ∷ ks) v via out s h i
on_via M P (RelationKey r ∷ ks) v via out s h i = absurd h

module _ (M : Objects) (P : Rules) (r : RelationId) (only : Bool) (binding : ℕ) (u : List Step)
    (w : IsWord M P r only binding u) where
  -- a first, a via or a last step of the word lies on a member
  on_parts : (s : Step) → (s ≡ w.first) ⊎ In s (w.via ++ w.last ∷ []) → In (WayKey s.way) (items w.body.members)
  on_parts s (inl e) = role_member (codes "from") (WayKey s.way) w.body.members
      (subst (λ k. In (WayKey k) (in_role (codes "from") w.body.members)) (sym (ap (λ t. t.way) e ∙ w.first_ends.of))
      (in_from_contains _ _ w.from_member))
  on_parts s (inr i) = elim (in_cases w.via (w.last ∷ []) s i) [
    | inl j ↦ role_member (codes "via") (WayKey s.way) w.body.members
        (in_order M P w.body (WayKey s.way)
        (on_via M P (via_order M P w.body) w.enter w.via w.leave s w.via_is j))
    | inr j ↦ elim j [
      | inl e ↦ role_member (codes "to") (WayKey s.way) w.body.members
          (subst (λ k. In (WayKey k) (in_role (codes "to") w.body.members)) (sym (ap (λ t. t.way) e ∙ w.last_begins.of))
          (in_from_contains _ _ w.to_member))
      | inr k ↦ absurd k
    ]
  ]

  pub on_members : (s : Step) → Contains u s → HasMember M r (WayKey s.way)
  on_members s h = record {
    body = w.body;
    is = w.visible;
    restriction = w.restriction;
    member = contains_from_in _ _ (on_parts s (subst (In s) w.spelled (in_from_contains u s h)));
  }
