-- Pieces and blocks as they are before the sources of their contexts are written.
use Rattle.std.proofs.Common.{◌≡◌, ◌≤◌, ◌<◌, ◌^◌, ◌+◌, List, [], ◌∷◌, ◌++◌, length, map, sym, ap, ◌∙◌, subst, true}
use Rattle.std.proofs.Common.{arith, IsTrue, length-append}
use Rattle.std.specs.List.{All, AllByRecursion}
use Rattle.std.specs.Cmp.{IsTotalOrder}
use Rattle.std.proofs.lemmas.List.{length-map}
use Rattle.std.proofs.lemmas.List.Elements.{All-contains, recursion_from_All}
use Rattle.road_base.specs.declared.ids.WayId.{WayId}
use Rattle.road_base.specs.Objects.{Objects}
use Rattle.road_model.specs.declared.lists.TurnArc.{TurnArc}
use Rattle.road_model.specs.declared.lists.Context.{Context}
use Rattle.road_model.specs.declared.lists.Piece.{Piece}
use Rattle.road_model.specs.declared.blocks.Block.{Block}
use Rattle.road_model.specs.Rules.{Rules}
use Rattle.road_model.specs.Pieces.{Span, IsPiece}
use Rattle.road_model.specs.Network.{IsContext}
use Rattle.ordered_lists.specs.Orders.{Lists, rises}
use Rattle.road_model.specs.Orders.{way_cmp, name_cmp, names_cmp}
use Rattle.road_model.specs.Blocks.{name_of}
use Rattle.road_model.specs.Format.{IsContextForm, IsPieceForm, place_cmp}
use Rattle.way_pieces.specs.declared.spans.PieceSpan.{PieceSpan}
use Rattle.way_pieces.specs.Names.{IsSpanOn}
use Rattle.expanded_graph.specs.Bare.{IsBarePiece, IsBareBlock}
use Rattle.expanded_graph.specs.Contexts.{IsBareContext}
use Rattle.ordered_lists.proofs.ListMembers.{In, in_map, from_map, in_from_contains, contains_from_in}
use Rattle.road_model.proofs.WalkLists.{some_context}
use Rattle.expanded_graph.proofs.DistinctNames.{each_member}
use Rattle.expanded_graph.proofs.PlaceOrder.{places_rise}

-- ---- contexts without sources

module _ (M : Objects) (P : Rules) (p : Span) (short : (c : List Span) → IsContext M P c → length c ≤ 1026) where
  target : (e : Context) (h : IsBareContext M P p e) (a : TurnArc) → In a e.arcs → (1 ≤ a.length)
      × (a.length ≤ length e.before + 2)
  target e h a i =
      let k = h.arcs.sound a (contains_from_in e.arcs a i) in
      let low = some_context M P k.target k.arc.to.holds in
      let whole = ap length k.arc.to.is in
      let l = length-append k.arc.to.front k.target in
      let m = length-append (h.before ++ p ∷ []) (k.piece ∷ []) in
      let n = length-append h.before (p ∷ []) in
      let b : length e.before ≡ length h.before = ap length h.named ∙ length-map h.before name_of in
      let count = k.length_is in
      (omega arith, omega (arith, whole, l, m, n))

  form : (e : Context) → IsBareContext M P p e → IsContextForm true e
  form e h =
      let few = short (h.before ++ p ∷ []) h.context in
      let n = length-append h.before (p ∷ []) in
      let b : length e.before ≡ length h.before = ap length h.named ∙ length-map h.before name_of in
      record {
        short = omega arith;
        arcs_ascend = h.arcs.ascending;
        targets = each_member (λ a. (1 ≤ a.length) × (a.length ≤ length e.before + 2)) e.arcs (target e h);
        sources = λ sourced. record {
          some =
              subst (AllByRecursion (λ s. (1 ≤ length s) × (length e.before ≤ length s) × (length s < 2 ^ 32)))
              (sym h.none) tt;
          ascend = ap (rises names_cmp) h.none;
        };
      }

  pub bare_forms : (es : List Context) → Lists (λ c. c.before) names_cmp (IsBareContext M P p) es
      → AllByRecursion (IsContextForm true) es
  bare_forms es listed = each_member (IsContextForm true) es
      (λ e i. form e (listed.sound e (contains_from_in es e i)))

-- ---- all pieces of a way

module _ (M : Objects) (P : Rules) (w : WayId) (spans : List PieceSpan)
    (on : Lists (λ s. s.name) name_cmp (IsSpanOn M P w) spans) (pieces : List Piece)
    (names : map (λ p. p.name) pieces ≡ map (λ s. s.name) spans) (entries : All (IsBarePiece M P w) pieces) where
  ascend : IsTrue (rises name_cmp (map (λ (p : Piece). p.name) pieces))
  ascend = ap (rises name_cmp) names ∙ on.ascending

  is_bare : (e : Piece) → In e pieces → IsBarePiece M P w e
  is_bare e i = All-contains (IsBarePiece M P w) pieces e entries (contains_from_in pieces e i)

  -- each piece of the way was written
  written : (p : Span) → IsPiece M P p → p.way ≡ w → (e : Piece) × In e pieces × (e.name ≡ name_of p)
  written p is of =
      let s : PieceSpan = record { name = name_of p; end = p.end } in
      let i = in_from_contains spans s (on.complete s (record { of = of; is = is })) in
      let there = subst (In (name_of p)) (sym names) (in_map (λ (x : PieceSpan). x.name) spans s i) in
      let e = from_map (λ (x : Piece). x.name) pieces (name_of p) there in
      (e.0, e.1, sym e.2)

  -- the block with these pieces
  pub is_bare_block : (b : Block) → b.way ≡ w → b.pieces ≡ pieces → IsBareBlock M P w b
  is_bare_block b of has = record {
    way = of;
    ascending = ap (λ (l : List Piece). rises name_cmp (map (λ p. p.name) l)) has ∙ ascend;
    sound = λ e h. is_bare e (subst (In e) has (in_from_contains b.pieces e h));
    complete = λ p is of.
        let e = written p is of in
        (e.0, contains_from_in b.pieces e.0 (subst (In e.0) (sym has) e.1), e.2);
  }

  way_of_piece : (e : Piece) → In e pieces → e.name.way ≡ w
  way_of_piece e i = let h = is_bare e i in ap (λ n. n.way) h.named ∙ h.of

  pub has_bare_form : IsTotalOrder way_cmp → All (IsPieceForm true) pieces → (l : List Piece) → l ≡ pieces
      → AllByRecursion (IsPieceForm true) l × IsTrue (rises place_cmp (map (λ (p : Piece). p.name) l))
  has_bare_form total forms l same = (
    subst (AllByRecursion (IsPieceForm true)) (sym same) (recursion_from_All (IsPieceForm true) pieces forms),
    ap (λ (x : List Piece). rises place_cmp (map (λ (p : Piece). p.name) x)) same
        ∙ places_rise (λ (p : Piece). p.name) total w pieces way_of_piece ascend,
  )
