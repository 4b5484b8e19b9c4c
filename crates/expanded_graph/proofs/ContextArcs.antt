-- Which arcs leave a context, and where they lead.
use Rattle.std.proofs.Common.{
  true,
  false,
  Some,
  ◌≡◌,
  ℕ,
  ◌+◌,
  ◌≤◌,
  ◌<◌,
  ◌^◌,
  ◌↔◌,
  List,
  [],
  ◌∷◌,
  ◌++◌,
  length,
  inl,
  inr,
  refl,
  sym,
  ap,
  ◌∙◌,
  subst,
  arith,
  slice_get,
  length-append,
  Bool,
  append_assoc,
}
use Rattle.std.proofs.lemmas.Bool.{false≢true}
use Rattle.std.proofs.lemmas.Option.{same_Some, slice_get_within}
use Rattle.std.proofs.lemmas.List.{same_from_push}
use Rattle.road_base.specs.declared.ids.NodeId.{NodeId}
use Rattle.road_base.specs.declared.ids.RelationId.{RelationId}
use Rattle.road_base.specs.declared.ids.Step.{Step}
use Rattle.road_base.specs.Objects.{Objects}
use Rattle.road_model.specs.declared.lists.TurnArc.{TurnArc}
use Rattle.road_model.specs.Rules.{Rules}
use Rattle.road_model.specs.Pieces.{Span, IsPiece, spell}
use Rattle.road_model.specs.Words.{IsWord}
use Rattle.road_model.specs.Contexts.{Every}
use Rattle.road_model.specs.Network.{Legal, GoesOn, IsContext, IsContextOf, spell_pieces}
use Rattle.road_model.specs.Turning.{HasTurnSteps, BeginsWord}
use Rattle.road_model.specs.Blocks.{IsArcEntry}
use Rattle.restrictions.specs.declared.word_list.Word.{Word}
use Rattle.turn_automata.specs.Trees.{IsClosed}
use Rattle.turn_automata.specs.Watched.{IsProperPrefix, Watched, Stops}
use Rattle.turn_automata.specs.Machines.{Machine, StandsFor, Watches}
use Rattle.way_pieces.specs.declared.departures.Departure.{Departure}
use Rattle.way_pieces.specs.Names.{IsDeparture}
use Rattle.expanded_graph.specs.declared.intersections.Intersection.{Intersection}
use Rattle.expanded_graph.specs.declared.states.StateFacts.{StateFacts}
use Rattle.expanded_graph.specs.Contexts.{IsReached}
use Rattle.expanded_graph.specs.Intersections.{IsIntersection, may_follow}
use Rattle.ordered_lists.proofs.ListMembers.{In, in_end, in_left}
use Rattle.expanded_graph.proofs.Ends.{spell_begins, spell_ends, first_step, last_step}
use Rattle.ordered_lists.proofs.Splits.{cons_not_nil}
use Rattle.ordered_lists.proofs.ListPlaces.{some_at}
use Rattle.road_model.proofs.WalkLists.{context_pieces}
use Rattle.road_model.proofs.LongestContext.{Every-front, Every-tail}
use Rattle.expanded_graph.proofs.TurnStepLists.{
  cut_last,
  nil_or_last,
  turn_ends,
  turn_count,
}
use Rattle.expanded_graph.proofs.StopsNear.{LongWords, Tells, tells_on, begins_from, begins_to, goes_on_near}
use Rattle.expanded_graph.proofs.NextDepartures.{Laws, departure_by, is_departure, listed, passes_by, follows_by}

-- a piece may follow a context where its first step may go on behind the turn steps
abbrev pub GoesByTurn : Objects → Rules → Type 0
GoesByTurn M P =
    (c : List Span) (q : List Step) (t : Span) (x : Step) (more : List Step) → IsContext M P c → HasTurnSteps c q
    → Legal M P q → IsPiece M P t → spell t ≡ x ∷ more → Legal M P (spell_pieces c ++ spell t) ↔ GoesOn M P q x

-- the laws of words and automata on which it stands where arcs lead
pub record TargetLaws (M : Objects) (P : Rules) : Type 0 where
  pub long : LongWords M P
  pub short : (r : RelationId) (only : Bool) (binding : ℕ) (u : List Step) → IsWord M P r only binding u
      → length u ≤ 1026
  pub decides : (W : List Word) (d p : List Step) (s : Step) → Watched W d p → Stops W d s ↔ Stops W p s
  pub grows : (W : List Word) (d p r : List Step) (s : Step) → Watched W d p
      → Watched W (d ++ s ∷ []) r ↔ Watched W (p ++ s ∷ []) r
  pub alone : (c : List Span) (q : List Step) (t : Span) (x : Step) (more : List Step) → IsContext M P c
      → HasTurnSteps c q → IsPiece M P t → spell t ≡ x ∷ more → Legal M P (spell_pieces c ++ spell t)
      → ((a b : List Step) → q ≡ a ++ b → (b ≡ [] → ⊥) → BeginsWord M P (b ++ x ∷ []) → ⊥)
      → IsContextOf M P (c ++ t ∷ []) (t ∷ [])
  pub longer : (c : List Span) (q : List Step) (t : Span) (x : Step) (more : List Step) (a b : List Step)
      → IsContext M P c → HasTurnSteps c q → IsPiece M P t → spell t ≡ x ∷ more
      → Legal M P (spell_pieces c ++ spell t) → q ≡ a ++ b → (b ≡ [] → ⊥) → BeginsWord M P (b ++ x ∷ [])
      → ((k l : List Step) → q ≡ k ++ l → BeginsWord M P (l ++ x ∷ []) → length l ≤ length b) → (e : List Span)
      × HasTurnSteps e b × IsContextOf M P (c ++ t ∷ []) (e ++ t ∷ []) × ((d : List Span) × (c ≡ d ++ e))

-- how long the target is of an arc that leaves the automaton in the state with number j
pub record IsTargetLen (m : Machine) (facts : List StateFacts) (j n : ℕ) : Type 0 where
  pub alone : StandsFor m j [] → n ≡ 1
  pub longer : (b : List Step) (x : Step) (k : ℕ) (f : StateFacts) → StandsFor m j (b ++ x ∷ []) → StandsFor m k b
      → slice_get facts k ≡ Some f → f.pieces + 1 < 2 ^ 32 → n ≡ f.pieces + 1

module _ (M : Objects) (P : Rules) (laws : Laws M P) (by_turn : GoesByTurn M P) (m : Machine)
    (facts : List StateFacts) (n : ℕ) (i : Intersection) (known : IsIntersection M P i) (u : NodeId) (c : List Span)
    (r : IsReached M P m facts n u i.rules.node c) where
  pub last_piece : IsPiece M P r.piece
  last_piece =
      (Every-tail (IsPiece M P) r.before (r.piece ∷ [])
      (subst (Every (IsPiece M P)) r.is (context_pieces M P c r.context))).0

  abbrev front : List Step
  front = (turn_ends r.before r.piece r.steps r.arrives.front r.arrives.last
      (subst (λ l. HasTurnSteps l r.steps) r.is r.turn) r.arrives.ends).0

  ends : r.steps ≡ front ++ r.arrives.last ∷ []
  ends = (turn_ends r.before r.piece r.steps r.arrives.front r.arrives.last
      (subst (λ l. HasTurnSteps l r.steps) r.is r.turn) r.arrives.ends).1

  on_way : r.arrives.last.way ≡ r.way
  on_way =
      let e = spell_ends r.piece last_piece.ascends in
      let same = same_from_push e.front r.arrives.front (last_step r.piece) r.arrives.last
      (sym e.is ∙ r.arrives.ends) in
      ap (λ s. s.way) (sym same.1) ∙ r.on

  tells : Tells M P m.words r.steps
  tells = tells_on M P r.way m.words r.states.words r.steps front r.arrives.last ends on_way

  -- an arc goes on behind the turn steps
  goes : (a : TurnArc) (e : IsArcEntry M P c a) (x : Step) (more : List Step) → spell e.piece ≡ x ∷ more
      → GoesOn M P r.steps x
  goes a e x more b = (by_turn c r.steps e.piece x more r.context r.turn r.legal e.arc.by b).0 e.arc.legal

  follows : (d : Departure) → In d i.departures.now → GoesOn M P r.steps d.first → may_follow i u d ≡ true
  follows d j g = follows_by M P laws r.piece last_piece i known u r.arrives d j (g.passes front r.arrives.last ends)

  -- an arc leads by a departure
  pub departs : (a : TurnArc) → IsArcEntry M P c a → (d : Departure) × In d i.departures.now × (a.piece ≡ d.piece)
  departs a e =
      let b = spell_begins e.piece e.arc.by.ascends in
      let s = first_step e.piece in
      let pass = (goes a e s b.rest b.is).passes front r.arrives.last ends in
      let here : pass.node ≡ i.rules.node = same_Some _ _ (sym pass.from ∙ r.arrives.head) in
      let d = departure_by M P i.rules.node e.piece s b.rest e.arc.by b.is (pass.to ∙ ap Some here) in
      (d.departure, listed M P laws r.piece last_piece i known u r.arrives d.departure d.is, e.named ∙ sym d.named)

  -- arcs by one piece are equal
  pub one_arc : ((d b e : List Span) → IsContextOf M P d b → IsContextOf M P d e → b ≡ e) → (a b : TurnArc)
      → IsArcEntry M P c a → IsArcEntry M P c b → a.piece ≡ b.piece → a ≡ b
  one_arc one a b e f same =
      let piece : e.piece ≡ f.piece = laws.one e.piece f.piece e.arc.by f.arc.by (sym e.named ∙ (same ∙ f.named)) in
      let target : e.target ≡ f.target =
      one (c ++ f.piece ∷ []) e.target f.target
      (subst (λ t. IsContextOf M P (c ++ t ∷ []) e.target) piece e.arc.to) f.arc.to in
      let count : a.length ≡ b.length = e.length_is ∙ (ap length target ∙ sym f.length_is) in
      λ k. record { piece = same k; length = count k }

  module _ (d : Departure) (j : In d i.departures.now) where
    abbrev departure : IsDeparture M P i.rules.node d
    departure = is_departure M P laws r.piece last_piece i known u r.arrives d j

    goes_by : (a : TurnArc) → IsArcEntry M P c a → a.piece ≡ d.piece → GoesOn M P r.steps d.first
    goes_by a e same =
        let piece : e.piece ≡ departure.piece =
        laws.one e.piece departure.piece e.arc.by departure.is (sym e.named ∙ (same ∙ departure.named)) in
        goes a e d.first departure.more (ap spell piece ∙ departure.begins)

    -- no arc leads where one may not follow
    pub none_passes : may_follow i u d ≡ false → (a : TurnArc) → IsArcEntry M P c a → a.piece ≡ d.piece → ⊥
    none_passes shut a e same = false≢true (sym shut ∙ follows d j (goes_by a e same))

    module _ (more : TargetLaws M P) where
      -- no arc leads where the words stop it
      pub none_stops : Stops m.words r.watches.list d.first → (a : TurnArc) → IsArcEntry M P c a → a.piece ≡ d.piece → ⊥
      none_stops stop a e same =
          let near_goes =
          goes_on_near M P r.way m.words r.states.words more.long r.steps front r.arrives.last d.first ends
          tells in
          (near_goes.0 (goes_by a e same)).1
          ((more.decides m.words r.steps r.watches.list d.first r.watches.watched).1 stop)

      module _ (closed : IsClosed m.states) (follow : may_follow i u d ≡ true)
          (on : Stops m.words r.watches.list d.first → ⊥) (next : ℕ)
          (to : Watches m next (r.watches.list ++ d.first ∷ [])) (len : ℕ) (is_len : IsTargetLen m facts next len)
        where
          abbrev x : Step
          x = d.first

          abbrev t : Span
          t = departure.piece

          watched : Watched m.words (r.steps ++ x ∷ []) to.list
          watched = (more.grows m.words r.steps r.watches.list to.list x r.watches.watched).1 to.watched

          legal : Legal M P (spell_pieces c ++ spell t)
          legal =
              let near_goes =
              goes_on_near M P r.way m.words r.states.words more.long r.steps front r.arrives.last x ends tells in
              let going = near_goes.1 (
                passes_by M P laws r.piece last_piece i known u r.arrives d j follow,
                λ s. on
                    ((more.decides m.words r.steps r.watches.list x r.watches.watched).0 s),
              ) in
              (by_turn c r.steps t x departure.more r.context r.turn r.legal departure.is departure.begins).1 going

          arc_to : (e : List Span) → IsContextOf M P (c ++ t ∷ []) e → len ≡ length e
              → IsArcEntry M P c (record { piece = d.piece; length = len })
          arc_to e context count = record {
            piece = t;
            target = e;
            arc = record { from = r.context; by = departure.is; legal = legal; to = context };
            named = departure.named;
            length_is = count;
          }

          -- an end of the turn steps that begins a word with x is watched
          no_longer : (a b : List Step) → r.steps ≡ a ++ b → (b ≡ [] → ⊥) → BeginsWord M P (b ++ x ∷ [])
              → length b + 1 ≤ length to.list
          no_longer a b e some begins =
              let here : In r.arrives.last b = elim (cut_last front a b r.arrives.last (sym ends ∙ e)) [
                | inl z ↦ absurd (some z)
                | inr k ↦ subst (In r.arrives.last) (sym k.is) (in_end k.rest r.arrives.last [])
              ] in
              let prefix =
              begins_to M P r.way m.words r.states.words (b ++ x ∷ []) r.arrives.last
              (in_left b (x ∷ []) r.arrives.last here) on_way begins in
              let most = watched.longest a (b ++ x ∷ []) (ap (λ l. l ++ x ∷ []) e ∙ append_assoc a b (x ∷ []))
              (inl prefix) in
              let l = length-append b (x ∷ []) in
              omega arith

          some_length : {A : Type 0} (b : List A) → (b ≡ [] → ⊥) → 1 ≤ length b
          some_length [] some = absurd (some refl)
          some_length (y ∷ b) some = omega arith

          arc_alone : length to.list ≤ 1 → len ≡ 1 → IsArcEntry M P c (record { piece = d.piece; length = len })
          arc_alone short one =
              arc_to (t ∷ [])
              (more.alone c r.steps t x departure.more r.context r.turn departure.is departure.begins legal
              (λ a b e some begins.
              let k = no_longer a b e some begins in
              let l = some_length b some in
              omega arith)) one

          -- the state of the steps before x
          before : (b : List Step) → to.list ≡ b ++ x ∷ [] → (k : ℕ) × StandsFor m k b
          before b is = closed.before next b x (subst (StandsFor m next) is to.is)

          fact_of : (k : ℕ) (b : List Step) → StandsFor m k b → (f : StateFacts) × (slice_get facts k ≡ Some f)
          fact_of k b at =
              let within = slice_get_within m.states k b at in
              let count = r.states.count in
              some_at facts k (omega arith)

          arc_longer : (a b : List Step) → r.steps ≡ a ++ b → to.list ≡ b ++ x ∷ [] → (b ≡ [] → ⊥)
              → IsArcEntry M P c (record { piece = d.piece; length = len })
          arc_longer a b e is some =
              let at = before b is in
              let f = fact_of at.0 b at.1 in
              let l = length-append b (x ∷ []) in
              let same : length to.list ≡ length (b ++ x ∷ []) = ap length is in
              let prefix : IsProperPrefix m.words (b ++ x ∷ []) = elim watched.holds [
                | inl p ↦ subst (IsProperPrefix m.words) is p
                | inr none ↦ absurd (cons_not_nil b x [] (sym is ∙ none))
              ] in
              let begins = begins_from M P r.way m.words r.states.words (b ++ x ∷ []) (cons_not_nil b x []) prefix in
              let lead = more.longer c r.steps t x departure.more a b r.context r.turn departure.is departure.begins
              legal e some begins (λ k v q w.
              elim (nil_or_last v) [
                | inl z ↦ let none : length v ≡ 0 = ap length z in omega arith
                | inr y ↦ let most = no_longer k v q (λ z. cons_not_nil y.0 y.1 [] (sym y.2 ∙ z)) w in omega arith
              ]) in
              let pieces =
              Every-front (IsPiece M P) lead.0 (t ∷ []) (context_pieces M P (lead.0 ++ t ∷ []) lead.2.holds) in
              let count = (r.states.each at.0 b f.0 at.1 f.1).pieces lead.0 pieces lead.1 in
              let few = turn_count M P lead.0 b pieces lead.1 in
              let short = more.short begins.word.relation begins.word.only begins.word.binding
              ((b ++ x ∷ []) ++ begins.next ∷ begins.more) begins.word.word in
              let long = length-append (b ++ x ∷ []) (begins.next ∷ begins.more) in
              let right = is_len.longer b x at.0 f.0 (subst (StandsFor m next) is to.is) at.1 f.1 (omega arith) in
              let joined = length-append lead.0 (t ∷ []) in
              arc_to (lead.0 ++ t ∷ []) lead.2 (omega arith)

          -- the arc by the departure
          pub arc_entry : IsArcEntry M P c (record { piece = d.piece; length = len })
          arc_entry = elim (cut_last r.steps watched.front to.list x watched.is) [
            | inl none ↦
                let short : length to.list ≡ 0 = ap length none in
                arc_alone (omega arith) (is_len.alone (subst (StandsFor m next) none to.is))
            | inr k ↦ elim (nil_or_last k.rest) [
              | inl z ↦
                  let is : to.list ≡ [] ++ x ∷ [] = k.is ∙ ap (λ b. b ++ x ∷ []) z in
                  let short : length to.list ≡ 1 = ap length is in
                  let at = before [] is in
                  let f = fact_of at.0 [] at.1 in
                  let none = (r.states.each at.0 [] f.0 at.1 f.1).none refl in
                  let right = is_len.longer [] x at.0 f.0 (subst (StandsFor m next) is to.is) at.1 f.1 (omega arith) in
                  arc_alone (omega arith) (omega arith)
              | inr y ↦ arc_longer watched.front k.rest k.front k.is (λ z. cons_not_nil y.0 y.1 [] (sym y.2 ∙ z))
            ]
          ]
