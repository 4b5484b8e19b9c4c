-- What a search from starts to goals asks for and keeps, from its first visits to what it meets.
use Rattle.std.proofs.Common.{◌≡◌, inl, inr, ℕ, zero, suc, ◌+◌, ◌-◌, ◌<◌, ◌≤◌, List, [], length, Some}
use Rattle.std.proofs.Common.{slice_get, Contains}
use Rattle.std.proofs.Common.{sym, ◌∙◌, ap, subst, arith, take, drop}
use Rattle.std.specs.BTreeMap.{BTreeMap}
use Rattle.std.proofs.lemmas.Option.{slice_get_within}
use Rattle.ordered_lists.proofs.ListMembers.{contains_none}
use Rattle.road_base.specs.declared.ids.NodeId.{NodeId}
use Rattle.road_base.specs.declared.ids.WayId.{WayId}
use Rattle.road_base.specs.Objects.{Objects}
use Rattle.road_model.specs.declared.lists.Piece.{Piece}
use Rattle.road_model.specs.declared.lists.PieceName.{PieceName}
use Rattle.road_model.specs.Rules.{Rules}
use Rattle.road_model.specs.Pieces.{spell}
use Rattle.road_model.specs.Blocks.{IsPieceEntry}
use Rattle.road_model.specs.Naming.{OnePiece}
use Rattle.context_search.specs.declared.ends.Begin.{Begin}
use Rattle.context_search.specs.declared.ends.Goal.{Goal}
use Rattle.context_search.specs.declared.marks.TreeVisit.{TreeVisit}
use Rattle.context_search.specs.Marks.{At, at_of}
use Rattle.context_search.specs.Phases.{PhaseRules}
use Rattle.context_search.specs.PhaseWalks.{LeadsIn, InOne}
use Rattle.context_search.specs.Reaching.{LeadsTo}
use Rattle.context_search.specs.Searching.{StopsAt, LeadsWithin}
use Rattle.context_search.specs.Sought.{IsStartAt, IsGoalAt, AreSpots, AreGoals}
use Rattle.context_search.specs.Routes.{Descend, AreSpelled, spelled}
use Rattle.context_search.proofs.SearchTargets.{entry_spells}
use Rattle.context_search.specs.Visits.{Marks, IsSearch, AreBegun, AreKnown, NoneBegun, AreClosed, Grows}
use Rattle.context_search.specs.Visits.{Meets}

nothing_at : (k : ℕ) (v : TreeVisit) → slice_get [] k ≡ Some v → ⊥
nothing_at zero v e = cc
nothing_at (suc k) v e = cc

module _ (F : PhaseRules) (L : List At) (m n : Marks) where
  -- a search that has nothing visited
  pub new_search : AreKnown n → n.visits ≡ [] → n.waiting ≡ [] → IsSearch F L n
  new_search known none quiet =
      let not : (k : ℕ) (v : TreeVisit) → slice_get n.visits k ≡ Some v → ⊥
      = λ k v e. nothing_at k v (subst (λ (l : List TreeVisit). slice_get l k ≡ Some v) none e) in
      record {
        known = known;
        listed = λ k v e. absurd (not k v e);
        comes = λ k j v e o. absurd (not k v e);
        within = λ k has. absurd (contains_none k (subst (λ (l : List ℕ). Contains l k) quiet has));
      }

  -- all first visits wait
  pub first_closed : (goals : BTreeMap PieceName Goal) → m.visits ≡ [] → Grows L m n → AreClosed F L goals n
  first_closed goals none g k v e = elim (g.new k v e) [
    | inl old ↦ absurd (nothing_at k v (subst (λ (l : List TreeVisit). slice_get l k ≡ Some v) none old))
    | inr waits ↦ inl waits
  ]

  pub still_begun : (starts : List Begin) → AreBegun F starts m → NoneBegun m n → AreBegun F starts n
  still_begun starts begun none k first v e o = begun k first v (none k first v e o) o

  pub descends : IsSearch F L n → Descend n.visits
  descends s k j v e o = (s.comes k j v e o).0

module _ (M : Objects) (P : Rules) where
  pub entry_ascends : (w : WayId) (e : Piece) → IsPieceEntry M P w e → e.name.index ≤ e.end
  entry_ascends w e l =
      let up = l.is.ascends in
      let i : e.name.index ≡ l.piece.index = ap (λ (n : PieceName). n.index) l.named in
      let j = l.end_is in
      omega arith

  pub visits_spelled : (F : PhaseRules) (L : List At) (m : Marks) → AreSpots M P L → IsSearch F L m
      → AreSpelled m.visits
  visits_spelled F L m are s k v e =
      let r = are.sound (at_of v.spot) (s.listed k v e) in
      entry_ascends r.1.way v.spot.piece.now r.1.listed

  pub goal_within : (b : NodeId) (n : PieceName) (g : Goal) → IsGoalAt M P b n g
      → g.last < length (spelled g.piece.now)
  goal_within b n g is = subst (λ l. g.last < length l) (sym (entry_spells M P is.way g.piece.now is.listed))
      (slice_get_within (spell is.listed.piece) g.last is.stops.step is.stops.at)

  -- the goal that is met is one
  pub met_goal : (F : PhaseRules) (b : NodeId) (goals : BTreeMap PieceName Goal) (visits : List TreeVisit) (place : ℕ)
      (g : Goal) → AreGoals M P b goals → (met : Meets F goals visits place g) → IsGoalAt M P b met.arc.piece g
  met_goal F b goals visits place g are met = are.sound met.arc.piece g met.met

  -- a piece on which a drive begins and then ends
  module _ (one : OnePiece M P) (a b : NodeId) (s : Begin) (g : Goal) (from : IsStartAt M P a s)
      (to : IsGoalAt M P b s.piece.now.name g) where
    same_piece : from.listed.piece ≡ to.listed.piece
    same_piece = one from.listed.piece to.listed.piece from.listed.is to.listed.is
        (sym from.listed.named ∙ sym to.named ∙ to.listed.named)

    pub ends_within : g.last < length (spelled s.piece.now)
    ends_within = subst (λ l. g.last < length l)
        (sym (entry_spells M P from.way s.piece.now from.listed ∙ ap spell same_piece))
        (slice_get_within (spell to.listed.piece) g.last to.stops.step to.stops.at)

    pub leads_within : LeadsWithin M P a b → s.first ≤ g.last
        → LeadsTo M P a b (take (g.last + 1 - s.first) (drop s.first (spelled s.piece.now)))
    leads_within leads l =
        let stops = subst (λ z. StopsAt M z g.last b) (sym same_piece) to.stops in
        subst (λ d. LeadsTo M P a b (take (g.last + 1 - s.first) (drop s.first d)))
        (sym (entry_spells M P from.way s.piece.now from.listed))
        (leads from.listed.piece s.first g.last from.listed.is from.begins stops l)

    -- the same of phases, of which none is asked on one piece
    pub led_within : (F : PhaseRules) → s.first ≤ g.last
        → LeadsIn M P F a b (take (g.last + 1 - s.first) (drop s.first (spelled s.piece.now)))
    led_within F l =
        let stops = subst (λ z. StopsAt M z g.last b) (sym same_piece) to.stops in
        InOne from.listed.piece s.first g.last from.listed.is from.begins stops l
        (ap (λ d. take (g.last + 1 - s.first) (drop s.first d))
        (entry_spells M P from.way s.piece.now from.listed))
