-- The states of an automaton stand for what is watched, and its answers are those of the words.
use Rattle.std.proofs.Common.{◌≡◌, ℕ, ◌+◌, ◌<◌, ◌↔◌, inl, Bool, true, false, List, [], ◌∷◌, ◌++◌, length, Contains, sym}
use Rattle.std.proofs.Common.{ap, subst, ◌∙◌, arith, append-nil, length-append}
use Rattle.std.proofs.lemmas.Bool.{false≢true}
use Rattle.road_base.specs.declared.ids.Step.{Step}
use Rattle.restrictions.specs.declared.word_list.Word.{Word}
use Rattle.turn_automata.specs.declared.turns.Turns.{Turns}
use Rattle.turn_automata.specs.Trees.{Stands}
use Rattle.turn_automata.specs.FailureLinks.{IsLongestIn, AreFailureLinks}
use Rattle.turn_automata.specs.Watched.{IsWatchable, NoIn, Stops}
use Rattle.turn_automata.specs.Turns.{IsWatching}
use Rattle.turn_automata.specs.Machines.{Machine, Watches, IsMachine}
use Rattle.turn_automata.proofs.WatchedSteps.{watched_grows, stops_same}
use Rattle.ordered_lists.proofs.ListPlaces.{one_stands, some_at}

module _ (W : List Word) (ps : List (List Step)) where
  pub watches : ((p : List Step) → Contains ps p ↔ IsWatchable W p) → (d : List Step) (n : ℕ) → IsLongestIn ps d n
      → Watches (record { words = W; states = ps }) n d
  watches lists d n l = record {
    list = l.list;
    watched = record {
      front = l.longest.front;
      is = l.longest.is;
      holds = (lists l.list).0 l.longest.holds;
      longest = λ a b e h. l.longest.longest a b e ((lists b).1 h);
    };
    is = l.at;
  }

  module _ (fs gs : List ℕ) (t : Turns) (stopped : Bool) (is : IsMachine W ps fs t stopped) (same : gs ≡ fs) where
    pub links_there : AreFailureLinks ps gs
    links_there = subst (AreFailureLinks ps) (sym same) is.watching.links

    pub watching_there : IsWatching W ps gs t
    watching_there = subst (λ v. IsWatching W ps v t) (sym same) is.watching

  pub none_empty : (fs : List ℕ) (t : Turns) (stopped : Bool) → IsMachine W ps fs t stopped → stopped ≡ false
      → NoIn W [] → ⊥
  none_empty fs t stopped is goes k = false≢true (sym goes ∙ is.never.1 k)

  pub empty_stops : (fs : List ℕ) (t : Turns) (stopped : Bool) → IsMachine W ps fs t stopped → stopped ≡ true
      → (p : List Step) (s : Step) → Stops W p s
  empty_stops fs t stopped is never p s = inl
      (record { word = []; no = is.never.0 never; front = p ++ s ∷ []; is = sym (append-nil (p ++ s ∷ [])) })

-- the steps of a list that grew by one
pub longer : (ps : List (List Step)) (rest from : ℕ) (x : Step) (q : List Step) → Stands ps rest q → from < length ps
    → ((p : List Step) → Stands ps from p → Stands ps rest (p ++ x ∷ []))
    → (n len : ℕ) → n ≡ length q + len → (p : List Step) × Stands ps from p × (n ≡ length p + (len + 1))
longer ps rest from x q at within edge n len e =
    let p = some_at ps from within in
    let same : q ≡ p.0 ++ x ∷ [] = one_stands ps rest q (p.0 ++ x ∷ []) at (edge p.0 p.1) in
    let l : length q ≡ length p.0 + 1 = ap length same ∙ length-append p.0 (x ∷ []) in
    (p.0, p.1, omega arith)

-- what holds of the list of a state holds of each drive of which it is watched
module _ (m : Machine) (n : ℕ) (d : List Step) (s : Step) (w : Watches m n d) where
  pub drives_on : (t : ℕ) → Watches m t (w.list ++ s ∷ []) → Watches m t (d ++ s ∷ [])
  drives_on t next = record {
    list = next.list;
    watched = (watched_grows m.words d w.list next.list s w.watched).1
        next.watched;
    is = next.is;
  }

  pub drive_stops : (Is : Type 0) → (Is ↔ Stops m.words w.list s) → Is ↔ Stops m.words d s
  drive_stops Is h = let same = stops_same m.words d w.list s w.watched in (λ e. same.1 (h.0 e), λ g. h.1 (same.0 g))
