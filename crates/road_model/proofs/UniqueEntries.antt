-- Pieces are told apart by their names; what is written of a piece, of a way and of an object map is one thing.
use Rattle.std.proofs.Common.{◌≡◌, ℕ, List, length, inl, inr, sym, ap, ◌∙◌, subst, arith, Some, slice_get}
use Rattle.road_base.specs.declared.ids.WayId.{WayId}
use Rattle.road_base.specs.Objects.{Objects}
use Rattle.road_model.specs.declared.lists.Place.{Place}
use Rattle.road_model.specs.declared.lists.Context.{Context}
use Rattle.road_model.specs.declared.lists.Piece.{Piece}
use Rattle.road_model.specs.declared.blocks.Block.{Block}
use Rattle.road_model.specs.Rules.{Rules}
use Rattle.road_model.specs.Driving.{is_marked}
use Rattle.road_model.specs.Pieces.{IsPlain, Span, IsPiece}
use Rattle.ordered_lists.specs.Orders.{Lists}
use Rattle.road_model.specs.Orders.{name_cmp, names_cmp, way_cmp}
use Rattle.road_model.specs.Blocks.{IsPlaceOf, IsContextEntry, IsPieceEntry, IsRoadBlock}
use Rattle.road_model.specs.Naming.{OnePiece, OneEntry, OneBlock, OneGraph}
use Rattle.ordered_lists.proofs.Decided.{order}
use Rattle.road_model.proofs.TotalOrders.{way_cmp_total, name_cmp_total, names_cmp_total}
use Rattle.ordered_lists.proofs.ListPlaces.{same_by_place}
use Rattle.ordered_lists.proofs.AscendingLists.{lists_unique}

-- a junction inside a piece would be plain
same_end : (M : Objects) (P : Rules) (p q : Span) → IsPiece M P p → IsPiece M P q → p.way ≡ q.way → p.index ≡ q.index
    → p.end ≡ q.end
same_end M P p q a b w i =
    let ascends = a.ascends in let ascends' = b.ascends in
    elim (order p.end q.end) [
      | inl l ↦ absurd (a.last (subst (λ v. IsPlain M P v p.end) (sym w) (b.inner p.end (omega arith) l)))
      | inr o ↦ elim o [
        | inl e ↦ e
        | inr l ↦ absurd (b.last (subst (λ v. IsPlain M P v q.end) w (a.inner q.end (omega arith) l)))
      ]
    ]

pub one_piece : (M : Objects) (P : Rules) → OnePiece M P
one_piece M P p q a b e =
    let w : p.way ≡ q.way = ap (λ n. n.way) e in
    let i : p.index ≡ q.index = ap (λ n. n.index) e in
    let d : p.dir ≡ q.dir = ap (λ n. n.dir) e in
    let j : p.end ≡ q.end = same_end M P p q a b w i in
    λ x. record { way = w x; index = i x; end = j x; dir = d x }

one_place : (M : Objects) (p : Span) (k : ℕ) (x y : Place) → IsPlaceOf M p k x → IsPlaceOf M p k y → x ≡ y
one_place M p k x y a b =
    let f : x.node ≡ y.node = cc (a.node, b.node) in
    let g : a.body ≡ b.body = let h = a.visible in let l = b.visible in cc (f, h, l) in
    let l : x.location ≡ y.location = cc (g, a.location, b.location) in
    λ i. record { node = f i; location = l i }

places_same : (M : Objects) (p : Span) (xs ys : List Place) → length xs ≡ length ys
    → ((k : ℕ) (x : Place) → slice_get xs k ≡ Some x → IsPlaceOf M p k x)
    → ((k : ℕ) (x : Place) → slice_get ys k ≡ Some x → IsPlaceOf M p k x) → xs ≡ ys
places_same M p xs ys l a b = same_by_place xs ys l (λ k x y g h. one_place M p k x y (a k x g) (b k y h))

-- two writings of one piece
same_entry : (M : Objects) (P : Rules) (w : WayId) (e f : Piece) (a : IsPieceEntry M P w e)
    (b : IsPieceEntry M P w f) → e.name ≡ f.name → a.piece ≡ b.piece → e ≡ f
same_entry M P w e f a b n p =
    let end : e.end ≡ f.end = cc (a.end_is, b.end_is, p) in
    let zone : e.zone ≡ f.zone = a.marked ∙ ap (λ (q : Span). is_marked M P w q.dir) p ∙ sym b.marked in
    let l : length e.places ≡ length f.places = cc (a.count, b.count, p) in
    let places : e.places ≡ f.places = places_same M b.piece e.places f.places l
    (subst (λ q. (k : ℕ) (x : Place) → slice_get e.places k ≡ Some x → IsPlaceOf M q k x) p a.places) b.places in
    let contexts : e.contexts ≡ f.contexts = lists_unique (λ (c : Context). c.before) names_cmp names_cmp_total
    (IsContextEntry M P b.piece) e.contexts f.contexts
    (subst (λ q. Lists (λ c. c.before) names_cmp (IsContextEntry M P q) e.contexts) p a.contexts) b.contexts in
    λ i. record { name = n i; end = end i; zone = zone i; places = places i; contexts = contexts i }

pub one_entry : (M : Objects) (P : Rules) → OneEntry M P
one_entry M P w e f a b n = same_entry M P w e f a b n
    (one_piece M P a.piece b.piece a.is b.is (sym a.named ∙ n ∙ b.named))

pub one_block : (M : Objects) (P : Rules) → OneBlock M P
one_block M P w a b g h =
    let way : a.way ≡ b.way = g.way ∙ sym h.way in
    let pieces = lists_unique (λ (p : Piece). p.name) name_cmp name_cmp_total (IsPieceEntry M P w) a.pieces
    b.pieces g.pieces h.pieces in
    λ i. record { way = way i; pieces = pieces i }

pub one_graph : (M : Objects) (P : Rules) → OneGraph M P
one_graph M P a b g h =
    let blocks = lists_unique (λ (x : Block). x.way) way_cmp way_cmp_total (IsRoadBlock M P) g.blocks h.blocks g.listed
    h.listed in
    cc (g.spelled, h.spelled, blocks)
