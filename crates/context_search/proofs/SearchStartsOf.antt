-- The starts that the blocks of ways give are all starts.
use Rattle.std.proofs.Common.{◌≡◌, ℕ, ◌≤◌, List, Option, Some, None, Contains, refl, sym, ◌∙◌, ap, subst}
use Rattle.std.specs.FinMap.{FinMap, get}
use Rattle.road_base.specs.declared.ids.NodeId.{NodeId}
use Rattle.road_base.specs.declared.ids.WayId.{WayId}
use Rattle.road_base.specs.declared.ids.Step.{Step}
use Rattle.road_base.specs.Objects.{Objects}
use Rattle.ordered_lists.proofs.ListMembers.{contains_none}
use Rattle.road_model.specs.declared.lists.Piece.{Piece}
use Rattle.road_model.specs.declared.blocks.Block.{Block}
use Rattle.road_model.specs.Rules.{Rules}
use Rattle.road_model.specs.Driving.{Leaves as LeavesNode}
use Rattle.road_model.specs.Links.{RefersTo}
use Rattle.road_model.specs.Orders.{way_cmp}
use Rattle.road_model.specs.Blocks.{IsPieceEntry, name_of}
use Rattle.road_model.specs.BlockMap.{AreBlocksOf}
use Rattle.road_model.specs.Naming.{HasBlock, OnePiece}
use Rattle.context_search.specs.declared.ends.Begin.{Begin}
use Rattle.context_search.specs.Searching.{BeginsAt}
use Rattle.context_search.specs.Ends.{Leaves, pieces_in}
use Rattle.context_search.specs.Sought.{AreStarts, IsStartAt}
use Rattle.context_search.proofs.SearchEnds.{begins_at, begins_by, begin_refers}
use Rattle.context_search.proofs.SearchEntries.{entry_of, entry_of_piece, entry_in}

pub block_there : (o : Option Block) (e : Piece) → Contains (pieces_in o) e → (b : Block) × (o ≡ Some b)
    × Contains b.pieces e
block_there None e i = absurd (contains_none e i)
block_there (Some b) e i = (b, refl, i)

module _ (M : Objects) (P : Rules) (one : OnePiece M P) (has : HasBlock M P) (m : FinMap way_cmp Block)
    (are : AreBlocksOf M P m) where
  pub listed_in : (w : WayId) (e : Piece) → Contains (pieces_in (get m w)) e → (v : WayId) × IsPieceEntry M P v e
  listed_in w e i =
      let b = block_there (get m w) e i in
      let r = ((are w b.0).0 b.1).1 in
      (b.0.way, r.block.pieces.sound e b.2)

  start_at : (a : NodeId) (s : Begin) (w : WayId) → Contains (pieces_in (get m w)) s.piece.now
      → Leaves s.piece.now s.first a → IsStartAt M P a s
  start_at a s w i l =
      let e = listed_in w s.piece.now i in
      record { way = e.0; listed = e.1; begins = begins_at M P e.0 s.piece.now e.1 s.first a l }

  pub are_starts : (a : NodeId) (ways : List WayId) (starts : List Begin)
      → ((w : WayId) → RefersTo M w a → Contains ways w)
      → ((v : NodeId) (u : Step) → LeavesNode M P v u → RefersTo M u.way v)
      → ((s : Begin) → Contains starts s
      → (w : WayId) × Contains (pieces_in (get m w)) s.piece.now × Leaves s.piece.now s.first a)
      → ((w : WayId) (e : Piece) (i : ℕ) → Contains ways w → Contains (pieces_in (get m w)) e → Leaves e i a
      → (s : Begin) × Contains starts s × (s.piece.now ≡ e) × (s.first ≤ i))
      → AreStarts M P a starts
  are_starts a ways starts refers left sound complete = record {
    sound = λ s h. let r = sound s h in start_at a s r.0 r.1 r.2;
    complete = λ p i is b.
        let e = entry_of M P p is in
        let same = entry_of_piece M P one p is in
        let there = entry_in M P has m are p is in
        let has_way = refers p.way (begin_refers M P left p is i a b) in
        let l = begins_by M P p.way e.0 e.1 i a (subst (λ q. BeginsAt M q i a) (sym same) b) in
        let held : Contains (pieces_in (get m p.way)) e.0
        = subst (λ o. Contains (pieces_in o) e.0) (sym there.1) there.2 in
        let s = complete p.way e.0 i has_way held l in
        (s.0, s.1, ap (λ z. z.name) s.2 ∙ e.1.named ∙ ap name_of same, s.3);
  }
