-- The goals that the blocks of ways give are all goals.
use Rattle.std.proofs.Common.{◌≡◌, ◌⊎◌, inl, inr, ℕ, ◌+◌, ◌≤◌, List, [], ◌∷◌, Option, Some, None, IsTrue, Contains}
use Rattle.std.proofs.Common.{map, refl}
use Rattle.std.proofs.Common.{sym, ◌∙◌, ap, subst, arith}
use Rattle.std.specs.Ordering.{is_eq}
use Rattle.std.specs.Cmp.{IsTotalOrder}
use Rattle.std.specs.FinMap.{FinMap, IsAntisymmetric, get}
use Rattle.std.specs.BTreeMap.{BTreeMap}
use Rattle.std.proofs.lemmas.Bool.{false≢true}
use Rattle.std.proofs.lemmas.Cmp.{tied_itself}
use Rattle.road_base.specs.declared.ids.NodeId.{NodeId}
use Rattle.road_base.specs.declared.ids.WayId.{WayId}
use Rattle.road_base.specs.Objects.{Objects}
use Rattle.ordered_lists.proofs.ListMembers.{in_from_contains, contains_from_in, contains_none}
use Rattle.road_model.specs.declared.lists.Piece.{Piece}
use Rattle.road_model.specs.declared.lists.PieceName.{PieceName}
use Rattle.road_model.specs.declared.blocks.Block.{Block}
use Rattle.road_model.specs.Rules.{Rules}
use Rattle.road_model.specs.Lines.{node_at}
use Rattle.road_model.specs.Driving.{is_road}
use Rattle.road_model.specs.Links.{RefersTo}
use Rattle.ordered_lists.specs.Orders.{rises}
use Rattle.road_model.specs.Orders.{way_cmp, name_cmp}
use Rattle.road_model.specs.Blocks.{IsPieceEntry, IsRoadBlock, name_of, place_position}
use Rattle.road_model.specs.BlockMap.{AreBlocksOf}
use Rattle.road_model.specs.Naming.{HasBlock, OnePiece}
use Rattle.road_model.proofs.StraightOn.{road_of}
use Rattle.context_search.specs.declared.ends.Goal.{Goal}
use Rattle.context_search.specs.Searching.{StopsAt}
use Rattle.context_search.specs.Ends.{Arrives, pieces_in}
use Rattle.context_search.specs.Visits.{goal_in}
use Rattle.context_search.specs.Sought.{AreGoals, IsGoalAt}
use Rattle.context_search.proofs.SearchEnds.{stops_at, stops_by}
use Rattle.context_search.proofs.SearchEntries.{entry_of, entry_of_piece, entry_in}
use Rattle.ordered_lists.proofs.Comparisons.{eq_cases}
use Rattle.context_search.proofs.SearchStartsOf.{block_there}

module _ (names : IsTotalOrder name_cmp) (ties : IsAntisymmetric name_cmp) where
  same_name : (a n : PieceName) → (a ≡ n) ⊎ (a ≡ n → ⊥)
  same_name a n = elim (eq_cases (name_cmp a n)) [
    | inl e ↦ inl (ties a n e)
    | inr f ↦ inr (λ s. false≢true (sym f ∙ ap is_eq (ap (λ z. name_cmp z n) s ∙ tied_itself names n)))
  ]

  -- a piece of the list has the name, or none has
  pub named_in : (n : PieceName) (xs : List Piece) → ((e : Piece) × Contains xs e × (e.name ≡ n))
      ⊎ ((e : Piece) → Contains xs e → e.name ≡ n → ⊥)
  named_in n [] = inr (λ e h s. absurd (contains_none e h))
  named_in n (x ∷ xs) = elim (same_name x.name n) [
    | inl s ↦ inl (x, contains_from_in (x ∷ xs) x (inl refl), s)
    | inr not ↦ elim (named_in n xs) [
      | inl r ↦ inl (r.0, contains_from_in (x ∷ xs) r.0 (inr (in_from_contains xs r.0 r.1)), r.2)
      | inr none ↦ inr (λ e h s. elim (in_from_contains (x ∷ xs) e h) [
        | inl f ↦ not (ap (λ (z : Piece). z.name) (sym f) ∙ s)
        | inr i ↦ none e (contains_from_in xs e i) s
      ])
    ]
  ]

module _ (M : Objects) (P : Rules) (m : FinMap way_cmp Block) (are : AreBlocksOf M P m) where
  rise : (o : Option Block) → ((b : Block) → o ≡ Some b → IsRoadBlock M P b)
      → IsTrue (rises name_cmp (map (λ (e : Piece). e.name) (pieces_in o)))
  rise None f = refl
  rise (Some b) f = (f b refl).block.pieces.ascending

  -- the names of a way's pieces ascend
  pub pieces_rise : (w : WayId) → IsTrue (rises name_cmp (map (λ (e : Piece). e.name) (pieces_in (get m w))))
  pieces_rise w = rise (get m w) (λ b e. ((are w b).0 e).1)

  piece_there : (w : WayId) (e : Piece) → Contains (pieces_in (get m w)) e → IsPieceEntry M P w e
  piece_there w e i =
      let b = block_there (get m w) e i in
      let r = (are w b.0).0 b.1 in
      subst (λ v. IsPieceEntry M P v e) r.0 (r.1.block.pieces.sound e b.2)

  -- a way's pieces are named by it
  named_by : (w : WayId) (e : Piece) → Contains (pieces_in (get m w)) e → e.name.way ≡ w
  named_by w e i = let l = piece_there w e i in ap (λ (n : PieceName). n.way) l.named ∙ l.of

  -- pieces of ways with the same name are of the same way
  pub same_way : (v w : WayId) (e f : Piece) → Contains (pieces_in (get m v)) e → Contains (pieces_in (get m w)) f
      → f.name ≡ e.name → v ≡ w
  same_way v w e f i j s = sym (named_by v e i) ∙ ap (λ (n : PieceName). n.way) (sym s) ∙ named_by w f j

  module _ (one : OnePiece M P) (has : HasBlock M P) where
    goal_of : (b : NodeId) (n : PieceName) (g : Goal) (w : WayId) → Contains (pieces_in (get m w)) g.piece.now
        → g.piece.now.name ≡ n → Arrives g.piece.now g.last b → IsGoalAt M P b n g
    goal_of b n g w i named l =
        let e = piece_there w g.piece.now i in
        record { way = w; listed = e; named = named; stops = stops_at M P w g.piece.now e g.last b l }

    -- the way of a piece with a step that ends at the node refers to it
    stop_refers : ((w : WayId) (i : ℕ) (v : NodeId) → IsTrue (is_road M P w) → node_at M w i ≡ Some v → RefersTo M w v)
        → (w : WayId) (e : Piece) (l : IsPieceEntry M P w e) (j : ℕ) (b : NodeId) → Arrives e j b → RefersTo M w b
    stop_refers passed w e l j b a =
        let p = l.piece in
        let up = l.is.ascends in
        let road = road_of M P (record { way = p.way; index = p.index; dir = p.dir })
        (l.is.drives p.index (omega arith) up) in
        let at = l.places (j + 1) a.place a.at in
        subst (λ v. RefersTo M v b) l.of (passed p.way (place_position p (j + 1)) b road (at.node ∙ ap Some a.is))

    pub are_goals : (b : NodeId) (ways : List WayId) (goals : BTreeMap PieceName Goal)
        → ((w : WayId) → RefersTo M w b → Contains ways w)
        → ((w : WayId) (i : ℕ) (v : NodeId) → IsTrue (is_road M P w) → node_at M w i ≡ Some v → RefersTo M w v)
        → ((n : PieceName) (g : Goal) → goal_in goals n ≡ Some g
        → (w : WayId) × Contains (pieces_in (get m w)) g.piece.now × (g.piece.now.name ≡ n)
        × Arrives g.piece.now g.last b)
        → ((w : WayId) (e : Piece) (j : ℕ) → Contains ways w → Contains (pieces_in (get m w)) e → Arrives e j b
        → (g : Goal) × (goal_in goals e.name ≡ Some g) × (j ≤ g.last))
        → AreGoals M P b goals
    are_goals b ways goals refers passed sound complete = record {
      sound = λ n g h. let r = sound n g h in goal_of b n g r.0 r.1 r.2 r.3;
      complete = λ p j is s.
          let e = entry_of M P p is in
          let same = entry_of_piece M P one p is in
          let there = entry_in M P has m are p is in
          let l = stops_by M P p.way e.0 e.1 j b (subst (λ q. StopsAt M q j b) (sym same) s) in
          let has_way = refers p.way (stop_refers passed p.way e.0 e.1 j b l) in
          let held : Contains (pieces_in (get m p.way)) e.0
          = subst (λ o. Contains (pieces_in o) e.0) (sym there.1) there.2 in
          let g = complete p.way e.0 j has_way held l in
          let named : e.0.name ≡ name_of p = e.1.named ∙ ap name_of same in
          (g.0, subst (λ n. goal_in goals n ≡ Some g.0) named g.1, g.2);
    }
