-- The names of the pieces that end along a state's list, read from the facts of the states of its beginnings.
use Rattle.std.proofs.Common.{◌≡◌, ℕ, zero, suc, ◌<◌, ◌↔◌, List, [], ◌∷◌, ◌++◌, map, reverse, filter_map, Option, Some}
use Rattle.std.proofs.Common.{None, ◌⊎◌, inl, inr, refl, sym, ap, ◌∙◌, subst, arith, slice_get, append_assoc}
use Rattle.std.proofs.Common.{append-nil, Contains}
use Rattle.std.specs.List.{cons_option}
use Rattle.std.proofs.lemmas.List.{map-append, same_from_push}
use Rattle.std.proofs.lemmas.List.Elements.{filter_map-append}
use Rattle.std.proofs.lemmas.Option.{slice_get_within}
use Rattle.road_base.specs.declared.ids.WayId.{WayId}
use Rattle.road_base.specs.declared.ids.Step.{Step}
use Rattle.road_base.specs.Objects.{Objects}
use Rattle.road_model.specs.declared.lists.PieceName.{PieceName}
use Rattle.road_model.specs.Rules.{Rules}
use Rattle.road_model.specs.Pieces.{Span, IsPiece}
use Rattle.road_model.specs.Contexts.{Every}
use Rattle.road_model.specs.Turning.{HasTurnSteps, EndsPiece}
use Rattle.road_model.specs.Blocks.{name_of}
use Rattle.turn_automata.specs.Trees.{IsClosed}
use Rattle.turn_automata.specs.Machines.{Machine, StandsFor}
use Rattle.expanded_graph.specs.declared.states.StateFacts.{StateFacts}
use Rattle.expanded_graph.specs.States.{AreStates}
use Rattle.ordered_lists.proofs.ListMembers.{In, in_from_contains}
use Rattle.expanded_graph.proofs.Ends.{spell_ends, last_step}
use Rattle.ordered_lists.proofs.Splits.{cons_not_nil}
use Rattle.ordered_lists.proofs.ListPlaces.{some_at, one_stands}
use Rattle.road_model.proofs.LongestContext.{Every-tail}
use Rattle.expanded_graph.proofs.TurnStepLists.{nil_or_last, turn_ends}
use Rattle.expanded_graph.proofs.StopsNear.{same_or_not}

abbrev pub Ends : List Step → Step → Type 0
Ends q s = (b : List Step) × (q ≡ b ++ s ∷ [])

pub ends_or_not : (q : List Step) (s : Step) → Ends q s ⊎ (Ends q s → ⊥)
ends_or_not q s = elim (nil_or_last q) [
  | inl none ↦ inr (λ e. cons_not_nil e.0 s [] (sym e.1 ∙ none))
  | inr r ↦ elim (same_or_not r.1 s) [
    | inl e ↦ inl (r.0, r.2 ∙ ap (λ x. r.0 ++ x ∷ []) e)
    | inr n ↦ inr (λ e. n (same_from_push r.0 e.0 r.1 s (sym r.2 ∙ e.1)).1)
  ]
]

abbrev pub pick : {A : Type 0} {q : List Step} {s : Step} → Ends q s ⊎ (Ends q s → ⊥) → A → A → A
pick (inl e) a b = a
pick (inr n) a b = b

-- what is known of the first state whose list ends with the step
abbrev pub name_at : List (List Step) → List StateFacts → Step → Option PieceName
name_at [] fs s = None
name_at (q ∷ qs) [] s = None
name_at (q ∷ qs) (f ∷ fs) s = pick {q = q} {s = s} (ends_or_not q s) f.ends (name_at qs fs s)

opt_same : (o r : Option PieceName) → ((n : PieceName) → o ≡ Some n → r ≡ Some n)
    → ((n : PieceName) → r ≡ Some n → o ≡ Some n) → o ≡ r
opt_same None None to from = refl
opt_same None (Some x) to from = from x refl
opt_same (Some x) r to from = sym (to x refl)

split_in : (q : List Step) (s : Step) → In s q → (a : List Step) × (c : List Step) × (q ≡ a ++ s ∷ c)
split_in [] s i = absurd i
split_in (x ∷ q) s (inl e) = ([], q, ap (λ y. y ∷ q) (sym e))
split_in (x ∷ q) s (inr i) = let r = split_in q s i in (x ∷ r.0, r.1, ap (λ l. x ∷ l) r.2)

module _ (M : Objects) (P : Rules) where
  -- the name, if there is one, is that of the piece that the step ends
  abbrev Names : Option PieceName → Step → Type 0
  Names o s = (n : PieceName) → (o ≡ Some n) ↔ EndsPiece M P s n

  abbrev AllName : List (List Step) → List StateFacts → Type 0
  AllName qs fs = (k : ℕ) (q : List Step) (f : StateFacts) → slice_get qs k ≡ Some q → slice_get fs k ≡ Some f
      → (b : List Step) (x : Step) → q ≡ b ++ x ∷ [] → Names f.ends x

  picks : (q : List Step) (s : Step) (o : Ends q s ⊎ (Ends q s → ⊥)) (a b : Option PieceName) → (Ends q s → Names a s)
      → ((Ends q s → ⊥) → Names b s) → Names (pick {q = q} {s = s} o a b) s
  picks q s (inl e) a b here otherwise = here e
  picks q s (inr n) a b here otherwise = otherwise n

  found : (qs : List (List Step)) (fs : List StateFacts) → AllName qs fs
      → (s : Step) (k : ℕ) (q : List Step) (f : StateFacts) (b : List Step) → slice_get qs k ≡ Some q
      → slice_get fs k ≡ Some f → q ≡ b ++ s ∷ [] → Names (name_at qs fs s) s
  found [] fs each s k q f b at fact e = absurd (let z : None ≡ Some q = at in cc)
  found (p ∷ qs) [] each s k q f b at fact e = absurd (let z : None ≡ Some f = fact in cc)
  found (p ∷ qs) (g ∷ fs) each s zero q f b at fact e =
      let same : p ≡ q = cc in
      picks p s (ends_or_not p s) g.ends (name_at qs fs s) (λ y. each 0 p g refl refl y.0 s y.1)
      (λ n. absurd (n (b, same ∙ e)))
  found (p ∷ qs) (g ∷ fs) each s (suc k) q f b at fact e =
      picks p s (ends_or_not p s) g.ends (name_at qs fs s) (λ y. each 0 p g refl refl y.0 s y.1)
      (λ n. found qs fs (λ j. each (suc j)) s k q f b at fact e)

  module _ (m : Machine) (facts : List StateFacts) (closed : IsClosed m.states) (w : WayId)
      (known : AreStates M P w m.words m.states facts) where
    abbrev pub name : Step → Option PieceName
    name = name_at m.states facts

    each_names : AllName m.states facts
    each_names k q f at fact b x e = (known.each k q f at fact).ends b x e

    fact_of : (k : ℕ) (q : List Step) → StandsFor m k q → (f : StateFacts) × (slice_get facts k ≡ Some f)
    fact_of k q at =
        let within = slice_get_within m.states k q at in
        let count = known.count in
        some_at facts k (omega arith)

    names_step : (k : ℕ) (b : List Step) (x : Step) → StandsFor m k (b ++ x ∷ []) → Names (name x) x
    names_step k b x at = let f = fact_of k (b ++ x ∷ []) at in found m.states facts each_names x k (b ++ x ∷ []) f.0 b
        at f.1 refl

    state_ends : (k : ℕ) (b : List Step) (x : Step) (f : StateFacts) → StandsFor m k (b ++ x ∷ [])
        → slice_get facts k ≡ Some f → name x ≡ f.ends
    state_ends k b x f at fact =
        let here = each_names k (b ++ x ∷ []) f at fact b x refl in
        let there = names_step k b x at in
        opt_same (name x) f.ends (λ n e. (here n).1 ((there n).0 e)) (λ n e. (there n).1 ((here n).0 e))

    -- the beginnings of a state's list have states
    begun : (c a : List Step) (k : ℕ) → StandsFor m k (a ++ c) → (j : ℕ) × StandsFor m j a
    begun [] a k at = (k, subst (StandsFor m k) (append-nil a) at)
    begun (x ∷ c) a k at =
        let r = begun c (a ++ x ∷ []) k (subst (StandsFor m k) (sym (append_assoc a (x ∷ []) c)) at) in
        closed.before r.0 a x r.1

    names_in : (q : List Step) (k : ℕ) → StandsFor m k q → (s : Step) (n : PieceName) → Contains q s
        → (name s ≡ Some n) ↔ EndsPiece M P s n
    names_in q k at s n has =
        let r = split_in q s (in_from_contains q s has) in
        let j = begun r.1 (r.0 ++ s ∷ []) k (subst (StandsFor m k) (r.2 ∙ sym (append_assoc r.0 (s ∷ []) r.1)) at) in
        names_step j.0 r.0 s j.1 n

    -- the names, last first, of the pieces that end in the list q behind the list of the state with number k
    pub record Path (q : List Step) (k : ℕ) (names : List PieceName) : Type 0 where
      pub list : List Step
      pub at : StandsFor m k list
      pub rest : List Step
      pub split : q ≡ list ++ rest
      pub named : reverse names ≡ filter_map name rest

    pub path_start : (q : List Step) (k : ℕ) → StandsFor m k q → Path q k []
    path_start q k at = record { list = q; at = at; rest = []; split = sym (append-nil q); named = refl }

    module _ (q : List Step) (k : ℕ) (names : List PieceName) (so_far : Path q k names) (before : ℕ) (x : Step)
        (edge : (p : List Step) → StandsFor m before p → StandsFor m k (p ++ x ∷ [])) (less : before < k)
        (f : StateFacts) (fact : slice_get facts k ≡ Some f) where
      shorter : (p : List Step) × StandsFor m before p
      shorter =
          let within = slice_get_within m.states k so_far.list so_far.at in
          some_at m.states before (omega arith)

      grown : so_far.list ≡ shorter.0 ++ x ∷ []
      grown = one_stands m.states k so_far.list (shorter.0 ++ x ∷ []) so_far.at (edge shorter.0 shorter.1)

      is : name x ≡ f.ends
      is = state_ends k shorter.0 x f (edge shorter.0 shorter.1) fact

      split : q ≡ shorter.0 ++ x ∷ so_far.rest
      split = so_far.split ∙ (ap (λ l. l ++ so_far.rest) grown ∙ append_assoc shorter.0 (x ∷ []) so_far.rest)

      pub path_more : (more : List PieceName) (o : Option PieceName) → f.ends ≡ o
          → reverse more ≡ cons_option o (reverse names) → Path q before more
      path_more more o e last = record {
        list = shorter.0;
        at = shorter.1;
        rest = x ∷ so_far.rest;
        split = split;
        named = last ∙ (ap (cons_option o) so_far.named
            ∙ ap (λ y. cons_option y (filter_map name so_far.rest)) (sym (is ∙ e)));
      }

    pub path_end : (q : List Step) (names : List PieceName) → Path q 0 names → reverse names ≡ filter_map name q
    path_end q names h =
        let none : h.list ≡ [] = one_stands m.states 0 h.list [] h.at closed.empty in
        h.named ∙ ap (filter_map name) (sym (h.split ∙ ap (λ l. l ++ h.rest) none))

    -- the names of the pieces that end before a list's last step
    pub names_along : ((c : List Span) (q : List Step) (f : Step → Option PieceName) → Every (IsPiece M P) c
        → HasTurnSteps c q → ((s : Step) (n : PieceName) → Contains q s → (f s ≡ Some n) ↔ EndsPiece M P s n)
        → filter_map f q ≡ map name_of c)
        → (before : List Span) (p : Span) (q b : List Step) (x : Step) (k : ℕ) (names : List PieceName)
        → Every (IsPiece M P) (before ++ p ∷ []) → HasTurnSteps (before ++ p ∷ []) q → StandsFor m k q → q ≡ b ++ x ∷ []
        → Path b 0 names → reverse names ≡ map name_of before
    names_along law before p q b x k names pieces turn at e path =
        let is = (Every-tail (IsPiece M P) before (p ∷ []) pieces).0 in
        let last = spell_ends p is.ascends in
        let ends = turn_ends before p q last.front (last_step p) turn last.is in
        let same = same_from_push b ends.0 x (last_step p) (sym e ∙ ends.1) in
        let all = names_in q k at in
        let here : name x ≡ Some (name_of p) =
        (names_step k b x (subst (StandsFor m k) e at) (name_of p)).1
        (record {
          piece = p;
          is = is;
          named = refl;
          front = last.front;
          ends = last.is
              ∙ ap (λ s. last.front ++ s ∷ []) (sym same.1);
        }) in
        let whole : filter_map name b ++ name_of p ∷ [] ≡ map name_of before ++ name_of p ∷ [] =
        sym (ap (filter_map name) e ∙ (filter_map-append name b (x ∷ [])
        ∙ ap (λ o. filter_map name b ++ cons_option o []) here))
        ∙ (law (before ++ p ∷ []) q name pieces turn all ∙ map-append name_of before (p ∷ [])) in
        path_end b names path ∙ (same_from_push (filter_map name b) (map name_of before) (name_of p) (name_of p)
        whole).0
