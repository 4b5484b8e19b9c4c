-- Which departures may follow a piece at the intersection where it ends: those whose first step may follow its last.
use Rattle.std.proofs.Common.{
  ◌≡◌,
  List,
  [],
  ◌∷◌,
  ◌++◌,
  length,
  inl,
  inr,
  refl,
  sym,
  ap,
  ◌∙◌,
  subst,
  Some,
  Bool,
  true,
  cond,
  not,
  ◌||◌,
  ◌==◌,
}
use Rattle.std.specs.Cmp.{IsTotalOrder}
use Rattle.std.proofs.lemmas.Bool.{
  false≢true,
  cases_Bool,
  or_cases,
  or_left,
  or_right,
  not-true,
  not_from_false,
  eqb-true,
  eq-eqb,
}
use Rattle.std.proofs.lemmas.Option.{same_Some}
use Rattle.road_base.specs.declared.ids.NodeId.{NodeId}
use Rattle.road_base.specs.declared.ids.Step.{Step}
use Rattle.road_base.specs.Objects.{Objects}
use Rattle.road_model.specs.Rules.{Rules}
use Rattle.road_model.specs.Lines.{same_node, tail_of, head_of}
use Rattle.road_model.specs.Driving.{shut, Leaves, MayTurn, AtPlace, AtShut, AtDeadEnd, Passes}
use Rattle.road_model.specs.Pieces.{Span, IsPiece, BeginsPiece, spell}
use Rattle.road_model.specs.Orders.{name_cmp}
use Rattle.road_model.specs.Blocks.{name_of}
use Rattle.road_model.specs.Naming.{OnePiece}
use Rattle.way_pieces.specs.declared.departures.Departure.{Departure}
use Rattle.way_pieces.specs.Names.{IsDeparture}
use Rattle.expanded_graph.specs.declared.intersections.Intersection.{Intersection}
use Rattle.way_pieces.specs.Names.{Arrives}
use Rattle.expanded_graph.specs.Intersections.{IsIntersection, may_follow}
use Rattle.ordered_lists.proofs.ListMembers.{In, in_from_contains, contains_from_in, all_one}
use Rattle.ordered_lists.proofs.AscendingLists.{one_name_alone}
use Rattle.road_model.proofs.SameNodes.{node_from_same, same_from_node}
use Rattle.expanded_graph.proofs.Ends.{one_first, first_drives, has_head}

-- the laws of the model on which it stands which departures may follow
pub record Laws (M : Objects) (P : Rules) : Type 0 where
  pub names : IsTotalOrder name_cmp
  pub one : OnePiece M P
  pub depart : (p : Span) (front : List Step) (last u : Step) (v : NodeId) → IsPiece M P p
      → spell p ≡ front ++ last ∷ [] → head_of M last ≡ Some v → Leaves M P v u → BeginsPiece M P u

-- a departure that begins with the step
pub record Departs (M : Objects) (P : Rules) (v : NodeId) (q : Span) (s : Step) : Type 0 where
  pub departure : Departure
  pub is : IsDeparture M P v departure
  pub first : departure.first ≡ s
  pub named : departure.piece ≡ name_of q

pub departure_by : (M : Objects) (P : Rules) (v : NodeId) (q : Span) (s : Step) (more : List Step) → IsPiece M P q
    → spell q ≡ s ∷ more → tail_of M s ≡ Some v → Departs M P v q s
departure_by M P v q s more is begins leaves =
    let to = has_head M P s (first_drives M P q s more is begins) in
    record {
      departure = record { piece = name_of q; first = s; toward = to.0 };
      is = record { piece = q; is = is; named = refl; more = more; begins = begins; leaves = leaves; toward = to.1 };
      first = refl;
      named = refl;
    }

module _ (M : Objects) (P : Rules) (laws : Laws M P) (p : Span) (is : IsPiece M P p) (i : Intersection)
    (known : IsIntersection M P i) (u : NodeId) (ends : Arrives M p u i.rules.node) where
  abbrev out : List Departure
  out = i.departures.now

  pub is_departure : (d : Departure) → In d out → IsDeparture M P i.rules.node d
  is_departure d j = known.leaving.sound d (contains_from_in out d j)

  pub listed : (d : Departure) → IsDeparture M P i.rules.node d → In d out
  listed d h = in_from_contains out d (known.leaving.complete d h)

  leaves : (d : Departure) → IsDeparture M P i.rules.node d → Leaves M P i.rules.node d.first
  leaves d h = record { drives = first_drives M P h.piece d.first h.more h.is h.begins; tail = h.leaves }

  -- where one departure is listed, its first step is the only one that leaves
  only_leaving : length out ≡ 1 → (d : Departure) → In d out → (s : Step) → Leaves M P i.rules.node s → s ≡ d.first
  only_leaving one d j s l =
      let b = laws.depart p ends.front ends.last s i.rules.node is ends.ends ends.head l in
      let r = departure_by M P i.rules.node b.piece s b.more b.is b.begins l.tail in
      sym r.first ∙ ap (λ x. x.first) (all_one out one r.departure d (listed r.departure r.is) j)

  -- where its first step is the only one that leaves, one departure is listed
  one_listed : (d : Departure) → In d out → ((s : Step) → Leaves M P i.rules.node s → s ≡ d.first) → length out ≡ 1
  one_listed d j only =
      let b = is_departure d j in
      one_name_alone (λ x. x.piece) name_cmp laws.names out known.leaving.ascending d j (λ y k.
      let a = is_departure y k in
      let begins : spell a.piece ≡ d.first ∷ a.more = a.begins ∙ ap (λ s. s ∷ a.more) (only y.first (leaves y a)) in
      a.named ∙ (one_first M P a.piece b.piece d.first a.more b.more a.is b.is begins b.begins ∙ sym b.named))

  abbrev turns : Bool
  turns = i.rules.is_turning_place || (i.rules.is_shut || length out == 1)

  turn_allowed : (d : Departure) → In d out → turns ≡ true → MayTurn M P i.rules.node d.first
  turn_allowed d j h = elim (or_cases i.rules.is_turning_place (i.rules.is_shut || length out == 1) h) [
    | inl place ↦ AtPlace (sym known.rules.turning_is ∙ place)
    | inr others ↦ elim (or_cases i.rules.is_shut (length out == 1) others) [
      | inl closed ↦ AtShut (sym known.rules.shut_is ∙ closed)
      | inr one ↦ AtDeadEnd (leaves d (is_departure d j)) (only_leaving (eqb-true _ _ one) d j)
    ]
  ]

  turns_by : (d : Departure) → In d out → MayTurn M P i.rules.node d.first → turns ≡ true
  turns_by d j (AtPlace h) = or_left i.rules.is_turning_place _ (known.rules.turning_is ∙ h)
  turns_by d j (AtShut h) = or_right i.rules.is_turning_place _ (or_left i.rules.is_shut _ (known.rules.shut_is ∙ h))
  turns_by d j (AtDeadEnd l only) =
      or_right i.rules.is_turning_place _ (or_right i.rules.is_shut _ (eq-eqb _ _ (one_listed d j only)))

  pub passes_by : (d : Departure) → In d out → may_follow i u d ≡ true → Passes M P ends.last d.first
  passes_by d j h =
      let a = is_departure d j in
      record {
        node = i.rules.node;
        from = ends.head;
        to = a.leaves;
        back = λ e.
            let same = same_from_node d.toward u (same_Some _ _ (sym a.toward ∙ (e ∙ ends.tail))) in
            turn_allowed d j (sym (ap (λ b. cond b turns (not i.rules.is_shut)) same) ∙ h);
        on = λ n. elim (cases_Bool (same_node d.toward u)) [
          | inl same ↦ absurd (n (a.toward ∙ (ap Some (node_from_same d.toward u same) ∙ sym ends.tail)))
          | inr other ↦ sym known.rules.shut_is
              ∙ not-true _ (sym (ap (λ b. cond b turns (not i.rules.is_shut)) other) ∙ h)
        ];
      }

  pub follows_by : (d : Departure) → In d out → Passes M P ends.last d.first → may_follow i u d ≡ true
  follows_by d j h =
      let a = is_departure d j in
      let here : h.node ≡ i.rules.node = same_Some _ _ (sym h.from ∙ ends.head) in
      elim (cases_Bool (same_node d.toward u)) [
        | inl same ↦
            ap (λ b. cond b turns (not i.rules.is_shut)) same
            ∙ turns_by d j
            (subst (λ v. MayTurn M P v d.first) here
            (h.back (a.toward ∙ (ap Some (node_from_same d.toward u same) ∙ sym ends.tail))))
        | inr other ↦
            ap (λ b. cond b turns (not i.rules.is_shut)) other
            ∙ not_from_false _
            (known.rules.shut_is
            ∙ (ap (shut M P) (sym here)
            ∙ h.on (λ e. false≢true
            (sym other ∙ same_from_node d.toward u (same_Some _ _ (sym a.toward ∙ (e ∙ ends.tail)))))))
      ]
