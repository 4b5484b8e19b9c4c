-- What is known of a state follows from what is known of the state before.
use Rattle.std.proofs.Common.{◌≡◌, ℕ, suc, ◌+◌, ◌<◌, ◌≤◌, ◌↔◌, List, [], ◌∷◌, ◌++◌, length, map, ◌⊎◌, inl, inr}
use Rattle.std.proofs.Common.{refl, sym, ap, ◌∙◌, subst, arith, Bool, false, Option, Some, None, Contains, slice_get}
use Rattle.std.proofs.Common.{length-append}
use Rattle.std.specs.List.{cons_option, filter_map}
use Rattle.std.specs.Option.{option_to_list}
use Rattle.std.proofs.lemmas.Bool.{false≢true}
use Rattle.std.proofs.lemmas.List.{length-map, same_from_push}
use Rattle.std.proofs.lemmas.List.Elements.{filter_map-append, Contains-append_left, Contains-push, Contains-push_cases}
use Rattle.road_base.specs.declared.ids.WayId.{WayId}
use Rattle.road_base.specs.declared.ids.RelationId.{RelationId}
use Rattle.road_base.specs.declared.ids.Step.{Step}
use Rattle.road_base.specs.Objects.{Objects}
use Rattle.road_model.specs.declared.lists.PieceName.{PieceName}
use Rattle.road_model.specs.Rules.{Rules}
use Rattle.road_model.specs.Pieces.{Span, IsPiece}
use Rattle.road_model.specs.Words.{IsWord}
use Rattle.road_model.specs.Contexts.{Every}
use Rattle.road_model.specs.Blocks.{name_of}
use Rattle.road_model.specs.Turning.{HasTurnSteps, EndsPiece}
use Rattle.restrictions.specs.declared.word_list.Word.{Word}
use Rattle.turn_automata.specs.Machines.{Machine, StandsFor}
use Rattle.turn_automata.specs.Watched.{IsWatchable}
use Rattle.turn_automata.specs.Trees.{IsClosed}
use Rattle.expanded_graph.specs.declared.states.StateFacts.{StateFacts}
use Rattle.expanded_graph.specs.Near.{AreWordsNear}
use Rattle.expanded_graph.specs.Known.{NamesEnd, IsDriven, IsKnown, AreKnown, AreAllShort}
use Rattle.expanded_graph.specs.States.{AreFacts}
use Rattle.ordered_lists.proofs.ListMembers.{In, in_from_contains, contains_from_in}
use Rattle.ordered_lists.proofs.ListPlaces.{stands_cases, one_stands, some_at}
use Rattle.ordered_lists.proofs.Splits.{cons_not_nil}
use Rattle.expanded_graph.proofs.StopsNear.{same_or_not}

-- the list that a state stands for goes on from that of the state before
pub goes_on : (m : Machine) (before state : ℕ) (x : Step) (p : List Step) → before < length m.states
    → StandsFor m state p → ((q : List Step) → StandsFor m before q → StandsFor m state (q ++ x ∷ []))
    → (q : List Step) × (p ≡ q ++ x ∷ [])
goes_on m before state x p within st edge =
    let q = some_at m.states before within in (q.0, one_stands m.states state p _ st (edge q.0 q.1))

as_list : {Y : Type 0} (o : Option Y) → length (cons_option o []) ≡ length (option_to_list o)
as_list None = refl
as_list (Some y) = refl

pub at_most_one : {Y : Type 0} (o : Option Y) → length (option_to_list o) ≤ 1
at_most_one None = omega arith
at_most_one (Some y) = omega arith

no_more : {Y : Type 0} (o : Option Y) (ys : List Y) (n : ℕ) → length ys ≤ n → length (cons_option o ys) ≤ suc n
no_more None ys n h = omega arith
no_more (Some y) ys n h = omega arith

named_within : {X Y : Type 0} (f : X → Option Y) (xs : List X) → length (filter_map f xs) ≤ length xs
named_within f [] = omega arith
named_within f (x ∷ xs) = no_more (f x) (filter_map f xs) (length xs) (named_within f xs)

abbrev pick : {s x : Step} → (s ≡ x) ⊎ (s ≡ x → ⊥) → Option PieceName → Option PieceName → Option PieceName
pick (inl e) a b = a
pick (inr n) a b = b

module _ (M : Objects) (P : Rules) where
  pub same_names : (x : Step) (a b : Option PieceName) → NamesEnd M P x a → NamesEnd M P x b → a ≡ b
  same_names x (Some k) b h g = sym ((g k).1 ((h k).0 refl))
  same_names x None (Some k) h g = (h k).1 ((g k).0 refl)
  same_names x None None h g = refl

  -- a function that names the pieces that these steps end
  record Names (q : List Step) : Type 0 where
    name : Step → Option PieceName
    names : (s : Step) → In s q → NamesEnd M P s (name s)

  picked : (x s : Step) (d : (s ≡ x) ⊎ (s ≡ x → ⊥)) (a b : Option PieceName) → NamesEnd M P x a
      → (s ≡ x) ⊎ NamesEnd M P s b → NamesEnd M P s (pick d a b)
  picked x s (inl e) a b h k = subst (λ y. NamesEnd M P y a) (sym e) h
  picked x s (inr n) a b h (inl e) = absurd (n e)
  picked x s (inr n) a b h (inr k) = k

  chosen : (q : List Step) → ((s : Step) → In s q → (name : Option PieceName) × NamesEnd M P s name) → Names q
  chosen [] h = record { name = λ s. None; names = λ s i. absurd i }
  chosen (x ∷ q) h =
      let r = chosen q (λ s i. h s (inr i)) in
      let o = h x (inl refl) in
      record {
        name = λ s. pick (same_or_not s x) o.0 (r.name s);
        names = λ s i. picked x s (same_or_not s x) o.0 (r.name s) o.1
            (elim i [ inl e ↦ inl e | inr j ↦ inr (r.names s j) ]);
      }

  module _ (W : List Word) (q : List Step) (f : StateFacts) (known : IsKnown M P W q f) where
    choice : Names q
    choice = chosen q (λ s i. known.named s (contains_from_in q s i))

    exact : (s : Step) → Contains q s → NamesEnd M P s (choice.name s)
    exact s c = choice.names s (in_from_contains q s c)

    pub few : f.pieces ≤ length q
    few = let e = known.counted choice.name exact in let l = named_within choice.name q in omega arith

    -- one state more
    pub grown : (x : Step) (drives : Bool) (ends : Option PieceName) (n : ℕ) → IsDriven M P W (q ++ x ∷ []) drives
        → NamesEnd M P x ends → n ≡ length (option_to_list ends)
        → IsKnown M P W (q ++ x ∷ []) (record { is_legal = drives; ends = ends; pieces = f.pieces + n })
    grown x drives ends n driven named counts = record {
      driven = driven;
      ends = λ b y e. subst (λ z. NamesEnd M P z ends) (same_from_push q b x y e).1 named;
      named = λ s c. elim (Contains-push_cases q x s c) [
        | inl k ↦ known.named s k
        | inr e ↦ (ends, subst (λ z. NamesEnd M P z ends) e named)
      ];
      counted = λ name is.
          let old = known.counted name (λ s c. is s (Contains-append_left q (x ∷ []) s c)) in
          let same : name x ≡ ends = same_names x (name x) ends (is x (Contains-push q x)) named in
          let more = ap length (filter_map-append name q (x ∷ [])) in
          let sum = length-append (filter_map name q) (filter_map name (x ∷ [])) in
          let one : length (filter_map name (x ∷ [])) ≡ length (option_to_list ends) =
          as_list (name x) ∙ ap (λ o. length (option_to_list o)) same in
          omega arith;
    }

    module _ (w : WayId) (near : AreWordsNear M P w W)
        (names : (c : List Span) (f : Step → Option PieceName) → Every (IsPiece M P) c → HasTurnSteps c q
        → ((s : Step) (n : PieceName) → Contains q s → (f s ≡ Some n) ↔ EndsPiece M P s n)
        → filter_map f q ≡ map name_of c) where
      pub facts : AreFacts M P w q f
      facts = record {
        legal = λ some all. known.driven w near all;
        ends = known.ends;
        pieces = λ c each turns.
            let e = ap length (names c choice.name each turns (λ s n i. exact s i n)) in
            known.counted choice.name exact ∙ e ∙ length-map c name_of;
        none = λ e. let l = few in let k = ap length e in omega arith;
      }

  -- the state of no steps
  pub at_rest : (W : List Word) (f : StateFacts) → f.is_legal ≡ false → f.pieces ≡ 0 → IsKnown M P W [] f
  at_rest W f shut none = record {
    driven = λ w near all. (λ e. absurd (false≢true (sym shut ∙ e)), λ l. absurd (l.not_empty refl));
    ends = λ b x e. absurd (cons_not_nil b x [] (sym e));
    named = λ s c. absurd (in_from_contains [] s c);
    counted = λ name is. none;
  }

  -- of the first states one more
  pub known_more : (m : Machine) (facts more : List StateFacts) (f : StateFacts) (n before : ℕ) (x : Step)
      → length facts ≡ n → more ≡ facts ++ f ∷ [] → AreKnown M P m facts → before < length m.states
      → ((p : List Step) → StandsFor m before p → StandsFor m n (p ++ x ∷ []))
      → ((p : List Step) → StandsFor m before p → IsKnown M P m.words (p ++ x ∷ []) f) → AreKnown M P m more
  known_more m facts more f n before x count grown known within edge is k q g st at =
      elim (stands_cases facts f k g (subst (λ l. slice_get l k ≡ Some g) grown at)) [
        | inl old ↦ known k q g st old
        | inr new ↦
            let p = some_at m.states before within in
            let here : StandsFor m n q = subst (λ i. StandsFor m i q) (new.0 ∙ count) st in
            let same : p.0 ++ x ∷ [] ≡ q = one_stands m.states n _ _ (edge p.0 p.1) here in
            subst (λ l. IsKnown M P m.words l g) same
            (subst (IsKnown M P m.words (p.0 ++ x ∷ [])) (sym new.1) (is p.0 p.1))
      ]

  pub known_first : (m : Machine) (facts : List StateFacts) (f : StateFacts) → IsClosed m.states → facts ≡ f ∷ []
      → IsKnown M P m.words [] f → AreKnown M P m facts
  known_first m facts f closed is known k q g st at =
      elim (stands_cases [] f k g (subst (λ l. slice_get l k ≡ Some g) is at)) [
        | inl old ↦ absurd (cc)
        | inr new ↦
            let here : StandsFor m 0 q = subst (λ i. StandsFor m i q) new.0 st in
            let none : [] ≡ q = one_stands m.states 0 _ _ closed.empty here in
            subst (λ l. IsKnown M P m.words l g) none (subst (IsKnown M P m.words []) (sym new.1) known)
      ]

  -- proper prefixes of words are as short as they are
  pub all_short : (W : List Word) (lists : List (List Step))
      → ((u : Word) → Contains W u → IsWord M P u.relation u.only u.binding u.steps)
      → ((q : List Step) → Contains lists q ↔ IsWatchable W q)
      → ((r : RelationId) (only : Bool) (binding : ℕ) (u : List Step) → IsWord M P r only binding u → length u ≤ 1026)
      → AreAllShort lists
  all_short W lists words watch short q c = elim ((watch q).0 c) [
    | inl v ↦
        let l = short v.word.relation v.word.only v.word.binding v.word.steps (words v.word v.among) in
        let e = ap length v.is in
        let k = length-append q (v.next ∷ v.rest) in
        omega arith
    | inr e ↦ let k = ap length e in omega arith
  ]
