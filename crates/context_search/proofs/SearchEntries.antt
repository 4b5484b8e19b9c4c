-- Each piece and each context is written, and so all of them are listed by the blocks.
use Rattle.std.proofs.Common.{◌≡◌, List, [], ◌∷◌, ◌++◌, map, refl, sym}
use Rattle.std.proofs.Common.{ap, ◌∙◌, subst, Some, IsTrue, Contains}
use Rattle.std.proofs.Common.{Result, Ok, Err, IfOk}
use Rattle.std.specs.Prelude.{◌↔◌}
use Rattle.std.specs.Cmp.{IsTotalOrder}
use Rattle.std.specs.FinMap.{FinMap, get}
use Rattle.road_base.specs.Objects.{Objects}
use Rattle.road_model.specs.declared.lists.Piece.{Piece}
use Rattle.road_model.specs.declared.lists.PieceName.{PieceName}
use Rattle.road_model.specs.declared.blocks.Block.{Block}
use Rattle.road_model.specs.Rules.{Rules}
use Rattle.road_model.specs.Pieces.{Span, IsPiece}
use Rattle.road_model.specs.Contexts.{Every, One, Many}
use Rattle.road_model.specs.Network.{IsContext}
use Rattle.ordered_lists.specs.Orders.{rises}
use Rattle.road_model.specs.Orders.{name_cmp, names_cmp, way_cmp}
use Rattle.road_model.specs.Blocks.{IsPieceEntry, IsBlock, IsRoadBlock, name_of}
use Rattle.road_model.specs.BlockMap.{AreBlocksOf}
use Rattle.road_model.specs.Naming.{HasBlock, OnePiece}
use Rattle.ordered_lists.proofs.ListMembers.{contains_from_in, contains_map, contains_from_map}
use Rattle.ordered_lists.proofs.ListMembers.{contains_flat, contains_from_flat}
use Rattle.road_model.proofs.WalkLists.{context_pieces}
use Rattle.road_model.proofs.SomeGraph.{context_of, piece_entry, entry_named}
use Rattle.context_search.specs.Marks.{At, at_by, contexts_at, contexts_over, all_contexts}
use Rattle.context_search.specs.Listed.{AreInOrder}
use Rattle.context_search.specs.Sought.{IsSpot, AreSpots}
use Rattle.road_model.proofs.FileWalks.{context_before, some_piece}
use Rattle.context_search.proofs.SearchOrder.{AreOrdered, all_rise}

-- ---- what a block writes of a piece and of a context

module _ (M : Objects) (P : Rules) where
  abbrev pub entry_of : (p : Span) → IsPiece M P p → (e : Piece) × IsPieceEntry M P p.way e
  entry_of p i = piece_entry M P p.way p (record { is = i; way = refl })

  pub entry_of_piece : OnePiece M P → (p : Span) (i : IsPiece M P p) → (entry_of p i).1.piece ≡ p
  entry_of_piece one p i =
      let e = entry_of p i in
      let named : e.0.name ≡ name_of p = entry_named M P p.way p (record { is = i; way = refl }) in
      one e.1.piece p e.1.is i (sym e.1.named ∙ named)

  pub entry_in : HasBlock M P → (m : FinMap way_cmp Block) → AreBlocksOf M P m → (p : Span) (i : IsPiece M P p)
      → (b : Block) × (get m p.way ≡ Some b) × Contains b.pieces (entry_of p i).0
  entry_in has m are p i =
      let h = has p.way in
      let e = entry_of p i in
      let c = h.1.pieces.complete e.0 e.1 in
      let r : IsRoadBlock M P h.0
      = record { block = subst (λ v. IsBlock M P v h.0) (sym h.1.way) h.1; some = some_piece h.0 e.0 c } in
      (h.0, (are p.way h.0).1 (h.1.way, r), c)

  -- ---- blocks

  module _ (ways : IsTotalOrder way_cmp) (names : IsTotalOrder name_cmp) (lists : IsTotalOrder names_cmp)
      (one : OnePiece M P) (has : HasBlock M P) (m : FinMap way_cmp Block) (are : AreBlocksOf M P m)
      (bs : List Block) (each : (b : Block) → Contains bs b ↔ (get m b.way ≡ Some b)) where
    road : (b : Block) → Contains bs b → IsRoadBlock M P b
    road b i = ((are b.way b).0 ((each b).0 i)).1

    block_with : (p : Span) (i : IsPiece M P p) → (b : Block) × Contains bs b × Contains b.pieces (entry_of p i).0
    block_with p i =
        let w = entry_in has m are p i in
        let b = w.0 in
        let of : b.way ≡ p.way = ((are p.way b).0 w.1).0 in
        (b, (each b).1 (subst (λ v. get m v ≡ Some b) (sym of) w.1), w.2)

    split_last : (x : Span) (xs : List Span) → (front : List Span) × (last : Span) × (x ∷ xs ≡ front ++ last ∷ [])
    split_last x [] = ([], x, refl)
    split_last x (y ∷ ys) = let r = split_last y ys in (x ∷ r.0, r.1, ap (λ l. x ∷ l) r.2)

    some_last : (c : List Span) → IsContext M P c → (front : List Span) × (last : Span) × (c ≡ front ++ last ∷ [])
    some_last c (One p e i) = ([], p, e)
    some_last c (Many k) = let r = split_last k.first (k.second ∷ k.others) in (r.0, r.1, k.is ∙ r.2)

    last_piece : (front : List Span) (p : Span) → Every (IsPiece M P) (front ++ p ∷ []) → IsPiece M P p
    last_piece [] p e = e.0
    last_piece (x ∷ front) p e = last_piece front p e.1

    spot_of : (front : List Span) (p : Span) → IsContext M P (front ++ p ∷ [])
        → (x : At) × Contains (all_contexts bs) x × IsSpot M P (front ++ p ∷ []) x
    spot_of front p k =
        let i = last_piece front p (context_pieces M P (front ++ p ∷ []) k) in
        let e = entry_of p i in
        let same : p ≡ e.1.piece = sym (entry_of_piece one p i) in
        let w = block_with p i in
        let q : IsContext M P (front ++ e.1.piece ∷ []) = subst (λ z. IsContext M P (front ++ z ∷ [])) same k in
        let t = context_of M P e.1.piece front q in
        let has_context = e.1.contexts.complete t.0 t.1 in
        let x = at_by e.0 t.0 in
        let in_piece : Contains (contexts_at e.0) x = contains_map (at_by e.0) e.0.contexts t.0 has_context in
        let in_block : Contains (contexts_over w.0.pieces) x
        = contains_flat contexts_at w.0.pieces e.0 x w.2 in_piece in
        let in_all : Contains (all_contexts bs) x
        = contains_flat (λ (b : Block). contexts_over b.pieces) bs w.0 x w.1 in_block in
        let bf : front ≡ t.1.before = sym (context_before M P e.1.piece front q) in
        let is : front ++ p ∷ [] ≡ t.1.before ++ e.1.piece ∷ []
        = subst (λ f. front ++ p ∷ [] ≡ f ++ e.1.piece ∷ []) bf (ap (λ z. front ++ z ∷ []) same) in
        (x, in_all, record { way = p.way; listed = e.1; entry = t.1; is = is })

    sound_spot : (x : At) → Contains (all_contexts bs) x → (c : List Span) × IsSpot M P c x
    sound_spot x i =
        let b = contains_from_flat (λ (b : Block). contexts_over b.pieces) bs x i in
        let p = contains_from_flat contexts_at b.0.pieces x b.2 in
        let c = contains_from_map (at_by p.0) p.0.contexts x p.2 in
        let r = road b.0 b.1 in
        let listed = r.block.pieces.sound p.0 p.1 in
        let entry = listed.contexts.sound c.0 c.1 in
        let s : IsSpot M P (entry.before ++ listed.piece ∷ []) (at_by p.0 c.0)
        = record { way = b.0.way; listed = listed; entry = entry; is = refl } in
        (entry.before ++ listed.piece ∷ [], subst (λ z. IsSpot M P (entry.before ++ listed.piece ∷ []) z) (sym c.2) s)

    ordered : IsTrue (rises way_cmp (map (λ b. b.way) bs)) → AreOrdered ways names lists bs
    ordered up = record {
      up = up;
      pieces = λ b i. (road b (contains_from_in bs b i)).block.pieces.ascending;
      of_way = λ b p i j.
          let l = (road b (contains_from_in bs b i)).block.pieces.sound p (contains_from_in b.pieces p j) in
          ap (λ n. n.way) l.named ∙ l.of;
      contexts = λ b p i j.
          let l = (road b (contains_from_in bs b i)).block.pieces.sound p (contains_from_in b.pieces p j) in
          l.contexts.ascending;
    }

    spot_complete : (c : List Span) → IsContext M P c → (x : At) × Contains (all_contexts bs) x × IsSpot M P c x
    spot_complete c k =
        let s = some_last c k in
        let r = spot_of s.0 s.1 (subst (λ l. IsContext M P l) s.2 k) in
        (r.0, r.1, subst (λ l. IsSpot M P l r.0) (sym s.2) r.2)

    pub are_spots : IsTrue (rises way_cmp (map (λ b. b.way) bs)) → AreSpots M P (all_contexts bs)
    are_spots up = record {
      up = all_rise ways names lists bs (ordered up);
      sound = sound_spot;
      complete = spot_complete;
    }

  -- the blocks of a graph stand in order
  pub in_order : (m : FinMap way_cmp Block) → AreBlocksOf M P m → AreInOrder m
  in_order m are = record {
    ways = λ w b e. ((are w b).0 e).0;
    pieces = λ w b e. ((are w b).0 e).1.block.pieces.ascending;
    named = λ w b e p i.
        let r = (are w b).0 e in
        let l = r.1.block.pieces.sound p i in
        ap (λ (n : PieceName). n.way) l.named ∙ l.of ∙ r.0;
    contexts = λ w b e p i. (((are w b).0 e).1.block.pieces.sound p i).contexts.ascending;
  }

-- what holds of a list holds of a value that is seen as it
pub seen_as : {T E : Type 0} {A : Type 0} (r : Result T E) (f : T → A) (l : A) (Q : A → Type 0) → Q l
    → IfOk r (λ v. f v ≡ l) → IfOk r (λ v. Q (f v))
seen_as (Ok v) f l Q q e = subst Q (sym e) q
seen_as (Err e) f l Q q h = tt
