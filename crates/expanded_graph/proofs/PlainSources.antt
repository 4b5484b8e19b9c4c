-- The arcs by a piece where the node is free and all that may go on are plain: from each of these, to the piece alone.
use Rattle.std.proofs.Common.{◌≡◌, List, [], ◌∷◌, map, inl, inr, refl, sym, ap, ◌∙◌, subst, false}
use Rattle.std.proofs.Common.{cond, length, IsTrue, Contains}
use Rattle.std.specs.Cmp.{IsTotalOrder}
use Rattle.std.specs.FinMap.{IsAntisymmetric}
use Rattle.std.specs.List.{filter}
use Rattle.std.specs.Ordering.{is_lt, is_eq, nat_cmp, ordering_then}
use Rattle.std.specs.Cmp.Lexicographic.{slice_cmp}
use Rattle.std.specs.declared.cmp.Ordering.{Ordering}
use Rattle.std.specs.declared.cmp.Ordering.TheVariants.{Less, Equal, Greater}
use Rattle.std.proofs.lemmas.Bool.{cases_Bool, and_parts, and_from}
use Rattle.std.proofs.lemmas.Cmp.{tied_itself}
use Rattle.road_base.specs.Objects.{Objects}
use Rattle.road_model.specs.declared.lists.PieceName.{PieceName}
use Rattle.road_model.specs.declared.lists.TurnArc.{TurnArc}
use Rattle.road_model.specs.declared.lists.Context.{Context}
use Rattle.road_model.specs.Rules.{Rules}
use Rattle.road_model.specs.Pieces.{Span, IsPiece, spell}
use Rattle.road_model.specs.Network.{IsContextOf}
use Rattle.ordered_lists.specs.Orders.{Lists, rises, rises_from}
use Rattle.road_model.specs.Orders.{name_cmp, names_cmp}
use Rattle.road_model.specs.Blocks.{name_of, IsContextEntry}
use Rattle.road_model.specs.Format.{begins_alone}
use Rattle.road_model.specs.Naming.{OnePiece}
use Rattle.turn_automata.specs.Machines.{Machine}
use Rattle.way_pieces.specs.declared.arrivals.Arrival.{Arrival}
use Rattle.way_pieces.specs.declared.departures.Departure.{Departure}
use Rattle.way_pieces.specs.Names.{IsArrival, piece_of}
use Rattle.expanded_graph.specs.declared.arrivals.Incoming.{Incoming}
use Rattle.expanded_graph.specs.declared.intersections.Intersection.{Intersection}
use Rattle.expanded_graph.specs.declared.sources.Leading.{Leading}
use Rattle.expanded_graph.specs.declared.states.StateFacts.{StateFacts}
use Rattle.expanded_graph.specs.Arrivals.{AreComing, arrival_of}
use Rattle.expanded_graph.specs.Contexts.{IsBareContext}
use Rattle.expanded_graph.specs.Intersections.{IsIntersection, AreFree, may_follow}
use Rattle.expanded_graph.specs.Plain.{going_on, named_alone, to_piece, first_sourced}
use Rattle.expanded_graph.specs.Sources.{AreLeadingBy, IsLeadingBehind, Gains, same_names}
use Rattle.ordered_lists.proofs.AscendingLists.{climbs, rises_kept}
use Rattle.ordered_lists.proofs.Comparisons.{less, not_itself}
use Rattle.ordered_lists.proofs.FilteredLists.{from_filter, in_filter}
use Rattle.ordered_lists.proofs.ListMembers.{in_map, from_map, in_from_contains, contains_from_in, contains_none}
use Rattle.expanded_graph.proofs.NextDepartures.{Laws}
use Rattle.expanded_graph.proofs.SourceArcs.{gains_one}
use Rattle.expanded_graph.proofs.SourceArrivals.{AreFrom, from_all}
use Rattle.expanded_graph.proofs.SourceContexts.{all_written}
use Rattle.expanded_graph.proofs.SourceEnds.{arrives}
use Rattle.expanded_graph.proofs.SourceLists.{source_of, sources_to, with_its_sources}
use Rattle.expanded_graph.proofs.SourcePlain.{behind_alone, gains_shut}

abbrev pub arc_from : Incoming → Leading
arc_from c = to_piece (named_alone c)

abbrev span : Incoming → Span
span c = piece_of (arrival_of c).span

module _ (M : Objects) (P : Rules) (laws : Laws M P) (m : Machine) (facts : List StateFacts) (i : Intersection)
    (known : IsIntersection M P i) (free : AreFree M P m facts i.rules i.departures.now) (cs : List Incoming)
    (coming : AreComing M P m facts i.rules.node cs) (d : Departure) (among : Contains i.departures.now d)
    (plain : (c : Incoming) → Contains cs c → IsTrue (may_follow i c.from d) → IsTrue c.is_plain)
    (one_end : (c b e : List Span) → IsContextOf M P c b → IsContextOf M P c e → b ≡ e) (p : Span)
    (is : IsPiece M P p) (named : d.piece ≡ name_of p) where
  abbrev going : List Incoming
  going = going_on i d cs

  arriving : (c : Incoming) → Contains cs c → IsArrival M P i.rules.node (arrival_of c)
  arriving c has = coming.listed.sound (arrival_of c)
      (contains_from_in (map arrival_of cs) (arrival_of c) (in_map arrival_of cs c (in_from_contains cs c has)))

  -- from one that may go on there is the arc to the piece alone, and no other
  gains_plain : (c : Incoming) → Contains cs c → IsTrue (may_follow i c.from d)
      → Gains (IsLeadingBehind M P (span c) p) [] (arc_from c ∷ [])
  gains_plain c has follows =
      let q = span c in
      let is_plain = coming.plain c has (plain c has follows) in
      let arc : TurnArc = record { piece = d.piece; length = 1 } in
      let reached = is_plain.reached c.from i.rules.node (arriving c has).arrives in
      let entry = free d c.from (q ∷ []) among follows reached in
      behind_alone M P q p is_plain.alone [] (arc_from c ∷ [])
      (gains_one M P (q ∷ []) p laws.one is arc entry named (named_alone c) refl (arc_from c) refl refl one_end []
      (arc_from c ∷ []) refl)

  -- from one that may not there is none
  gains_no : (c : Incoming) → Contains cs c → may_follow i c.from d ≡ false
      → Gains (IsLeadingBehind M P (span c) p) [] []
  gains_no c has shut = gains_shut M P laws (span c) (arriving c has).is i known c.from (arriving c has).arrives d
      (in_from_contains i.departures.now d among) p is named shut []

  are_from : AreFrom M P p span cs (map arc_from going)
  are_from l = (
    λ has.
        let r = from_map arc_from going l (in_from_contains (map arc_from going) l has) in
        let k = from_filter (λ c. may_follow i c.from d) cs r.0 r.1 in
        let c = contains_from_in cs r.0 k.0 in
        record {
          arrival = r.0;
          among = k.0;
          leads = elim ((gains_plain r.0 c k.1 l).0
              (contains_from_in (arc_from r.0 ∷ []) l (inl r.2))) [
                | inl none ↦ absurd (contains_none l none)
                | inr leads ↦ leads
              ];
        },
    λ h.
        let c = contains_from_in cs h.arrival h.among in
        elim (cases_Bool (may_follow i h.arrival.from d)) [
          | inl follows ↦
              let there = in_from_contains (arc_from h.arrival ∷ []) l
              ((gains_plain h.arrival c follows l).1 (inr h.leads)) in
              elim there [
                | inl same ↦ subst (Contains (map arc_from going)) (sym same)
                    (contains_from_in (map arc_from going) (arc_from h.arrival) (in_map arc_from going h.arrival
                    (in_filter (λ x. may_follow i x.from d) cs h.arrival h.among follows)))
                | inr none ↦ absurd none
              ]
          | inr shut ↦ absurd (contains_none l ((gains_no h.arrival c shut l).1 (inr h.leads)))
        ],
  )

  arcs_map : (xs : List Incoming) → map arc_from xs ≡ map to_piece (map named_alone xs)
  arcs_map [] = refl
  arcs_map (x ∷ xs) = ap (λ l. arc_from x ∷ l) (arcs_map xs)

  pub plain_leading : AreLeadingBy M P p (map to_piece (map named_alone going))
  plain_leading =
      let at = known.leaving.sound d among in
      let same : p ≡ at.piece = laws.one p at.piece is at.is (sym named ∙ at.named) in
      subst (AreLeadingBy M P p) (arcs_map going)
      (from_all M P p span cs (map arc_from going)
      (λ front q there legal.
      let r = arrives M P front q p there legal d.first at.more (ap spell same ∙ at.begins) i.rules.node at.leaves in
      let a : Arrival = record { span = record { name = name_of q; end = q.end }; from = r.0 } in
      let listed = coming.listed.complete a (record { is = there; arrives = r.1 }) in
      let x = from_map arrival_of cs a (in_from_contains _ a listed) in
      (x.0, x.1, ap (λ (y : Arrival). piece_of y.span) (sym x.2))) are_from)

-- ---- they ascend

alone_below : (a b : PieceName) → IsTrue (is_lt (name_cmp a b)) → IsTrue (is_lt (names_cmp (a ∷ []) (b ∷ [])))
alone_below a b h =
    ap (λ r. is_lt (ordering_then (nat_cmp 1 1) (ordering_then r (slice_cmp name_cmp [] [])))) (less _ h)

alone_from : (n : PieceName) (ns : List PieceName) → IsTrue (rises_from name_cmp n ns)
    → IsTrue (rises_from names_cmp (n ∷ []) (map (λ x. x ∷ []) ns))
alone_from n [] up = refl
alone_from n (m ∷ ns) up = let h = and_parts _ _ up in and_from _ _ (alone_below n m h.0) (alone_from m ns h.1)

alone_rise : (ns : List PieceName) → IsTrue (rises name_cmp ns) → IsTrue (rises names_cmp (map (λ x. x ∷ []) ns))
alone_rise [] up = refl
alone_rise (n ∷ ns) up = alone_from n ns up

named_map : (cs : List Incoming) → map named_alone cs
    ≡ map (λ n. n ∷ []) (map (λ (a : Arrival). a.span.name) (map arrival_of cs))
named_map [] = refl
named_map (c ∷ cs) = ap (λ l. named_alone c ∷ l) (named_map cs)

pub plain_rise : IsTotalOrder names_cmp → (i : Intersection) (d : Departure) (cs : List Incoming)
    → IsTrue (rises name_cmp (map (λ (a : Arrival). a.span.name) (map arrival_of cs)))
    → IsTrue (rises names_cmp (map named_alone (going_on i d cs)))
plain_rise total i d cs up = rises_kept named_alone names_cmp total (λ c. may_follow i c.from d) cs
    (subst (λ l. IsTrue (rises names_cmp l)) (sym (named_map cs))
    (alone_rise (map (λ (a : Arrival). a.span.name) (map arrival_of cs)) up))

-- ---- the first context has them all

sources_of_none : IsTotalOrder names_cmp → (ss : List (List PieceName)) → sources_to [] (map to_piece ss) ≡ ss
sources_of_none total [] = refl
sources_of_none total (s ∷ ss) =
    let rest = filter (λ (l : Leading). same_names l.before []) (map to_piece ss) in
    ap (λ b. map source_of (cond b (to_piece s ∷ rest) rest)) (ap is_eq (tied_itself total []))
    ∙ ap (λ l. s ∷ l) (sources_of_none total ss)

then_less : (r : Ordering) → is_eq (ordering_then r Less) ≡ false
then_less Less = refl
then_less Equal = refl
then_less Greater = refl

sources_of_some : (n : PieceName) (ns : List PieceName) (ss : List (List PieceName))
    → sources_to (n ∷ ns) (map to_piece ss) ≡ []
sources_of_some n ns [] = refl
sources_of_some n ns (s ∷ ss) =
    let rest = filter (λ (l : Leading). same_names l.before (n ∷ ns)) (map to_piece ss) in
    ap (λ b. map source_of (cond b (to_piece s ∷ rest) rest)) (then_less (nat_cmp 0 (length (n ∷ ns))))
    ∙ sources_of_some n ns ss

some_names : IsTotalOrder names_cmp → (b : List PieceName) → IsTrue (is_lt (names_cmp [] b))
    → (n : PieceName) × (ns : List PieceName) × (b ≡ n ∷ ns)
some_names total [] below = absurd (not_itself names_cmp total [] below)
some_names total (n ∷ ns) below = (n, ns, refl)

module _ (M : Objects) (P : Rules) (one : OnePiece M P) (names : IsTotalOrder name_cmp)
    (total : IsTotalOrder names_cmp) (ties : IsAntisymmetric names_cmp) (p : Span) (ss : List (List PieceName))
    (up : IsTrue (rises names_cmp ss)) (leads : AreLeadingBy M P p (map to_piece ss)) where
  first_written : (c : Context) → c.before ≡ [] → IsBareContext M P p c
      → IsContextEntry M P p (record { before = c.before; arcs = c.arcs; sources = ss })
  first_written c alone bare =
      let all : sources_to c.before (map to_piece ss) ≡ ss =
      ap (λ b. sources_to b (map to_piece ss)) alone ∙ sources_of_none total ss in
      with_its_sources M P one total ties p (map to_piece ss) leads c bare
      (subst (λ l. IsTrue (rises names_cmp l)) (sym all) up) _ refl refl (sym all)

  other_written : (c : Context) (n : PieceName) (ns : List PieceName) → c.before ≡ n ∷ ns → IsBareContext M P p c
      → IsContextEntry M P p c
  other_written c n ns before bare =
      let none : sources_to c.before (map to_piece ss) ≡ [] =
      ap (λ b. sources_to b (map to_piece ss)) before ∙ sources_of_some n ns ss in
      with_its_sources M P one total ties p (map to_piece ss) leads c bare
      (subst (λ l. IsTrue (rises names_cmp l)) (sym none) refl) c refl refl (bare.none ∙ sym none)

  behind_first : (c e : Context) → c.before ≡ [] → IsTrue (is_lt (names_cmp c.before e.before))
      → IsBareContext M P p e → IsContextEntry M P p e
  behind_first c e alone below bare =
      let r = some_names total e.before (subst (λ b. IsTrue (is_lt (names_cmp b e.before))) alone below) in
      other_written e r.0 r.1 r.2 bare

  pub first_listed : (cs : List Context) → begins_alone cs → Lists (λ c. c.before) names_cmp (IsBareContext M P p) cs
      → Lists (λ c. c.before) names_cmp (IsContextEntry M P p) (first_sourced ss cs)
  first_listed [] alone bare = absurd alone
  first_listed (c ∷ cs) alone bare =
      all_written M P one names total p (c ∷ cs) (first_sourced ss (c ∷ cs)) bare refl
      (λ e i. elim i [
        | inl same ↦ subst (IsContextEntry M P p) (sym same)
            (first_written c alone (bare.sound c (contains_from_in (c ∷ cs) c (inl refl))))
        | inr j ↦ behind_first c e alone
            ((climbs (λ (x : Context). x.before) names_cmp total (c ∷ cs) bare.ascending).0 e j)
            (bare.sound e (contains_from_in (c ∷ cs) e (inr j)))
      ])
