-- Contexts of two pieces or more and the states in which they end determine each other.
use Rattle.std.proofs.Common.{
  ◌≡◌,
  ℕ,
  ◌≤◌,
  ◌↔◌,
  List,
  [],
  ◌∷◌,
  ◌++◌,
  length,
  map,
  inl,
  inr,
  refl,
  sym,
  ap,
  ◌∙◌,
  subst,
  arith,
  Some,
  IsTrue,
  slice_get,
  Contains,
  length-append,
}
use Rattle.std.specs.Cmp.{IsTotalOrder}
use Rattle.std.proofs.lemmas.Option.{slice_get_within}
use Rattle.std.proofs.lemmas.List.{same_from_push}
use Rattle.road_base.specs.declared.ids.NodeId.{NodeId}
use Rattle.road_base.specs.declared.ids.Step.{Step}
use Rattle.road_base.specs.Objects.{Objects}
use Rattle.road_model.specs.declared.lists.TurnArc.{TurnArc}
use Rattle.road_model.specs.declared.lists.Context.{Context}
use Rattle.road_model.specs.Rules.{Rules}
use Rattle.road_model.specs.Driving.{drivable}
use Rattle.road_model.specs.Pieces.{Span, IsPiece, spell}
use Rattle.road_model.specs.Contexts.{Every, One}
use Rattle.road_model.specs.Network.{Legal, IsContext}
use Rattle.road_model.specs.Turning.{HasTurnSteps, BeginsWord, EndsPiece}
use Rattle.ordered_lists.specs.Orders.{Lists}
use Rattle.road_model.specs.Orders.{name_cmp}
use Rattle.road_model.specs.Blocks.{name_of, IsArcEntry}
use Rattle.road_model.specs.Naming.{OnePiece}
use Rattle.turn_automata.specs.Trees.{IsClosed}
use Rattle.turn_automata.specs.Watched.{IsWatchable, IsProperPrefix}
use Rattle.turn_automata.specs.Machines.{Machine, StandsFor, Watches}
use Rattle.expanded_graph.specs.declared.states.StateFacts.{StateFacts}
use Rattle.expanded_graph.specs.Near.{IsStepNear, Shares}
use Rattle.expanded_graph.specs.States.{AreFacts, AreStates}
use Rattle.expanded_graph.specs.Contexts.{IsReached, IsEnding, EndsWithName, IsBareContext, IsContextIn}
use Rattle.way_pieces.specs.Names.{Arrives}
use Rattle.ordered_lists.proofs.ListMembers.{In, in_from_contains, contains_from_in, at_in, in_at, in_end, in_left}
use Rattle.expanded_graph.proofs.Ends.{spell_ends, last_step}
use Rattle.expanded_graph.proofs.LastSteps.{last_drives}
use Rattle.ordered_lists.proofs.Splits.{cons_not_nil}
use Rattle.ordered_lists.proofs.ListPlaces.{some_at, one_stands}
use Rattle.expanded_graph.proofs.TurnStepLists.{turn_ends_long, one_turn}
use Rattle.expanded_graph.proofs.Between.{between_longer}
use Rattle.ordered_lists.proofs.AscendingLists.{lists_unique}
use Rattle.road_model.proofs.WalkLists.{context_pieces}
use Rattle.road_model.proofs.LongestContext.{Every-front}
use Rattle.expanded_graph.proofs.StopsNear.{begins_from, begins_to}

-- the laws of contexts and their steps
pub record StepLaws (M : Objects) (P : Rules) : Type 0 where
  pub one : OnePiece M P
  pub to : (c : List Span) (a b : Span) (rest : List Span) → IsContext M P c → c ≡ a ∷ b ∷ rest → (q : List Step)
      × HasTurnSteps c q × BeginsWord M P q × Legal M P q
  pub from : (q : List Step) (s : Step) (u : List Step) (t : Step) (p : Span) (front : List Step) → Legal M P q
      → BeginsWord M P q → q ≡ s ∷ (u ++ t ∷ []) → IsPiece M P p → spell p ≡ front ++ t ∷ [] → (before : List Span)
      × (before ≡ [] → ⊥) × HasTurnSteps (before ++ p ∷ []) q × IsContext M P (before ++ p ∷ [])

module _ (M : Objects) (P : Rules) (laws : StepLaws M P) (m : Machine) (facts : List StateFacts)
    (closed : IsClosed m.states) (lists : (q : List Step) → Contains m.states q ↔ IsWatchable m.words q) (p : Span)
    (piece : IsPiece M P p) (known : AreStates M P p.way m.words m.states facts) where
  fact_of : (k : ℕ) (q : List Step) → StandsFor m k q → (f : StateFacts) × (slice_get facts k ≡ Some f)
  fact_of k q at =
      let within = slice_get_within m.states k q at in
      let count = known.count in
      some_at facts k (omega arith)

  last_way : (front : List Step) (s : Step) → spell p ≡ front ++ s ∷ [] → s.way ≡ p.way
  last_way front s e =
      let r = spell_ends p piece.ascends in
      ap (λ x. x.way) (sym (same_from_push r.front front (last_step p) s (sym r.is ∙ e)).1)

  -- the steps of a list of two steps or more that begins a word and ends on the piece are near its way
  all_near : (q : List Step) (first : Step) (middle : List Step) (last : Step) → q ≡ first ∷ (middle ++ last ∷ [])
      → last.way ≡ p.way → BeginsWord M P q → (s : Step) → Contains q s → IsStepNear M P p.way s
  all_near q first middle last e on b s has =
      let u = q ++ b.next ∷ b.more in
      Shares u b.word
      (between_longer p.way q first middle last b.next b.more e on)
      (contains_from_in u s (in_left q (b.next ∷ b.more) s (in_from_contains q s has)))

  -- ---- from a state to its context

  module _ (n : ℕ) (e : IsEnding m facts p.way n) (named : EndsWithName facts n (name_of p)) where
    abbrev pub list : List Step
    list = e.first ∷ (e.middle ++ e.last ∷ [])

    facts_are : AreFacts M P p.way list e.known
    facts_are = known.each n list e.known e.at e.fact

    ends_piece : EndsPiece M P e.last (name_of p)
    ends_piece =
        (facts_are.ends (e.first ∷ e.middle) e.last refl (name_of p)).0
        (subst (λ f. f.ends ≡ Some (name_of p)) (one_stands facts n named.known e.known named.fact e.fact) named.ends)

    spelled : spell p ≡ ends_piece.front ++ e.last ∷ []
    spelled = ap spell (laws.one p ends_piece.piece piece ends_piece.is ends_piece.named) ∙ ends_piece.ends

    prefix : IsProperPrefix m.words list
    prefix = elim ((lists list).0 (contains_from_in m.states list (in_at m.states list n e.at)))
        [ inl h ↦ h | inr none ↦ absurd (cons_not_nil [] e.first (e.middle ++ e.last ∷ []) none) ]

    begins : BeginsWord M P list
    begins = begins_from M P p.way m.words known.words list (cons_not_nil [] e.first (e.middle ++ e.last ∷ [])) prefix

    legal : Legal M P list
    legal = (facts_are.legal (cons_not_nil [] e.first (e.middle ++ e.last ∷ []))
        (all_near list e.first e.middle e.last refl (last_way ends_piece.front e.last spelled) begins)).0 e.legal

    -- the context that ends in the state
    pub context_there : (before : List Span) × (before ≡ [] → ⊥) × HasTurnSteps (before ++ p ∷ []) list
        × IsContext M P (before ++ p ∷ [])
    context_there = laws.from list e.first e.middle e.last p ends_piece.front legal begins refl piece spelled

    short_end : (a b : List Step) → list ≡ a ++ b → length b ≤ length list
    short_end a b h = let l = length-append a b in let k = ap length h in omega (arith, l, k)

    pub reached_there : (u v : NodeId) → Arrives M p u v → IsReached M P m facts n u v (context_there.0 ++ p ∷ [])
    reached_there u v arrives = record {
      way = p.way;
      states = known;
      context = context_there.3;
      steps = list;
      turn = context_there.2;
      legal = legal;
      watches = record {
        list = list;
        watched = record { front = []; is = refl; holds = inl prefix; longest = λ a b h w. short_end a b h };
        is =
            e.at;
      };
      before = context_there.0;
      piece = p;
      is = refl;
      on = refl;
      arrives = arrives;
    }

    pub context_in : (x : Context) → x.before ≡ map name_of context_there.0
        → Lists (λ a. a.piece) name_cmp (IsArcEntry M P (context_there.0 ++ p ∷ [])) x.arcs → x.sources ≡ []
        → IsContextIn M P m p n x
    context_in x names arcs none = record {
      entry = record { before = context_there.0; context = context_there.3; named = names; arcs = arcs; none = none };
      longer = context_there.1;
      steps = list;
      at = e.at;
      turn = context_there.2;
    }

  -- ---- from a context to its state

  two_pieces : (before : List Span) → (before ≡ [] → ⊥) → (a : Span) × (b : Span) × (rest : List Span)
      × (before ++ p ∷ [] ≡ a ∷ b ∷ rest)
  two_pieces [] some = absurd (some refl)
  two_pieces (a ∷ []) some = (a, p, [], refl)
  two_pieces (a ∷ b ∷ rest) some = (a, b, rest ++ p ∷ [], refl)

  -- the state in which a context ends
  pub record EndsIn (before : List Span) : Type 0 where
    pub number : ℕ
    pub ending : IsEnding m facts p.way number
    pub named : EndsWithName facts number (name_of p)
    pub steps : List Step
    pub at : StandsFor m number steps
    pub turn : HasTurnSteps (before ++ p ∷ []) steps

  pub ends_in : (before : List Span) → (before ≡ [] → ⊥) → IsContext M P (before ++ p ∷ []) → EndsIn before
  ends_in before some context =
      let pair = two_pieces before some in
      let steps = laws.to (before ++ p ∷ []) pair.0 pair.1 pair.2 context pair.3 in
      let q = steps.0 in
      let last = last_step p in
      let r = spell_ends p piece.ascends in
      let long = turn_ends_long before p q r.front last some steps.1 r.is in
      let final : In last q = subst (In last) (sym long.2) (inr (in_end long.1 last [])) in
      let there = (lists q).1 (inl (begins_to M P p.way m.words known.words q last final refl steps.2)) in
      let n = at_in m.states q (in_from_contains m.states q there) in
      let f = fact_of n.0 q n.1 in
      let are = known.each n.0 q f.0 n.1 f.1 in
      let ends = (are.ends (long.0 ∷ long.1) last long.2 (name_of p)).1
      (record { piece = p; is = piece; named = refl; front = r.front; ends = r.is }) in
      let some_steps : q ≡ [] → ⊥ = λ z. cons_not_nil [] long.0 (long.1 ++ last ∷ []) (sym long.2 ∙ z) in
      record {
        number = n.0;
        ending = record {
          first = long.0;
          middle = long.1;
          last = last;
          at = subst (StandsFor m n.0) long.2 n.1;
          known = f.0;
          fact = f.1;
          legal = (are.legal some_steps (all_near q long.0 long.1 last long.2 refl steps.2)).1 steps.3;
          name = name_of p;
          ends = ends;
          on = refl;
        };
        named = record { known = f.0; fact = f.1; ends = ends };
        steps = q;
        at = n.1;
        turn = steps.1;
      }

-- ---- names tell contexts apart

pub same_pieces : (M : Objects) (P : Rules) → OnePiece M P → (a b : List Span) → Every (IsPiece M P) a
    → Every (IsPiece M P) b → map name_of a ≡ map name_of b → a ≡ b
same_pieces M P one [] [] f g e = refl
same_pieces M P one [] (y ∷ b) f g e = cc
same_pieces M P one (x ∷ a) [] f g e = cc
same_pieces M P one (x ∷ a) (y ∷ b) f g e =
    let head : name_of x ≡ name_of y = cc in
    let tail : map name_of a ≡ map name_of b = cc in
    let here = one x y f.0 g.0 head in
    let there = same_pieces M P one a b f.1 g.1 tail in
    cc

module _ (M : Objects) (P : Rules) (one : OnePiece M P) (p : Span) where
  same_before : (e f : Context) (h : IsBareContext M P p e) (k : IsBareContext M P p f) → e.before ≡ f.before
      → h.before ≡ k.before
  same_before e f h k same =
      same_pieces M P one h.before k.before
      (Every-front (IsPiece M P) h.before (p ∷ []) (context_pieces M P (h.before ++ p ∷ []) h.context))
      (Every-front (IsPiece M P) k.before (p ∷ []) (context_pieces M P (k.before ++ p ∷ []) k.context))
      (sym h.named ∙ (same ∙ k.named))

  -- a context is written in one way
  pub one_context : IsTotalOrder name_cmp → (e f : Context) → IsBareContext M P p e → IsBareContext M P p f
      → e.before ≡ f.before → e ≡ f
  one_context total e f h k same =
      let before = same_before e f h k same in
      let arcs = lists_unique (λ (a : TurnArc). a.piece) name_cmp total (IsArcEntry M P (k.before ++ p ∷ [])) e.arcs
      f.arcs (subst (λ b. Lists (λ a. a.piece) name_cmp (IsArcEntry M P (b ++ p ∷ [])) e.arcs) before h.arcs)
      k.arcs in
      let sources : e.sources ≡ f.sources = h.none ∙ sym k.none in
      λ i. record { before = same i; arcs = arcs i; sources = sources i }

  -- contexts that end in different states have different names
  pub one_state : (m : Machine) → IsClosed m.states → (n k : ℕ) (e f : Context) → IsContextIn M P m p n e
      → IsContextIn M P m p k f → e.before ≡ f.before → n ≡ k
  one_state m closed n k e f h g same =
      let before = same_before e f h.entry g.entry same in
      let steps = one_turn (g.entry.before ++ p ∷ []) h.steps g.steps
      (subst (λ b. HasTurnSteps (b ++ p ∷ []) h.steps) before h.turn) g.turn in
      closed.once n k g.steps (subst (StandsFor m n) steps h.at) g.at

-- ---- a piece alone

module _ (M : Objects) (P : Rules) (alone : (s : Step) → IsTrue (drivable M P s) → Legal M P (s ∷ [])) (m : Machine)
    (facts : List StateFacts) (p : Span) (piece : IsPiece M P p) (known : AreStates M P p.way m.words m.states facts)
    (front : List Step) (last : Step) (ends : spell p ≡ front ++ last ∷ []) (n : ℕ) (to : Watches m n (last ∷ []))
  where
    pub reached_alone : (u v : NodeId) → Arrives M p u v → IsReached M P m facts n u v (p ∷ [])
    reached_alone u v arrives = record {
      way = p.way;
      states = known;
      context = One p refl piece;
      steps = last ∷ [];
      turn = record { first = p; others = []; is = refl; front = front; last = last; ends = ends; steps = refl };
      legal = alone last (last_drives M P p front last piece ends);
      watches = to;
      before = [];
      piece = p;
      is = refl;
      on = refl;
      arrives = arrives;
    }

    pub entry_alone : (x : Context) → x.before ≡ [] → Lists (λ a. a.piece) name_cmp (IsArcEntry M P (p ∷ [])) x.arcs
        → x.sources ≡ [] → IsBareContext M P p x
    entry_alone x none arcs bare =
        record { before = []; context = One p refl piece; named = none; arcs = arcs; none = bare }
