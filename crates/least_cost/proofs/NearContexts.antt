-- Contexts by their last pieces, and what is kept of these at their places.
use Rattle.std.proofs.Common.{rules, ◌≡◌, ℕ, ◌+◌, ◌<◌, List, [], ◌∷◌, length, map, Bool, true, false, Option, Some}
use Rattle.std.proofs.Common.{slice_get, get_or, IsFalse, sym, ap, ◌∙◌, subst, arith}
use Rattle.std.specs.Bool.{Decides}
use Rattle.std.specs.List.{HoldsAt}
use Rattle.std.proofs.lemmas.List.{length-map}
use Rattle.std.proofs.lemmas.List.Folds.{list_any_at}
use Rattle.std.proofs.lemmas.Option.{slice_get_within, get_or_from_slice_get}
use Rattle.ordered_lists.proofs.ListPlaces.{some_at, one_stands}
use Rattle.road_base.specs.declared.ids.NodeId.{NodeId}
use Rattle.road_model.specs.declared.lists.PieceName.{PieceName}
use Rattle.road_model.specs.declared.lists.Place.{Place}
use Rattle.road_model.specs.Lines.{same_node}
use Rattle.road_model.specs.contracts.lists.PieceNamePartialEq.TheImpl as name
use Rattle.road_model.proofs.SameNodes.{same_from_node}
use Rattle.context_search.specs.Ends.{StopsBy}
use Rattle.context_search.specs.declared.spots.Spot.{Spot}
use Rattle.context_search.specs.Marks.{At, at_of, key_of}
use Rattle.least_cost.specs.declared.context_finder.LastPiece.{LastPiece}
use Rattle.least_cost.specs.LastPieces.{alone, last_piece, IsAlone, passes, is_passed}
use Rattle.least_cost.specs.Shown.{HoldsAtEnds}
use Rattle.least_cost.proofs.CheckSpots.{map_at}

pub names_decide : (a b : PieceName) → Decides (name.eq-value.it a b) (a ≡ b)
names_decide a b = search rules

pub no_pieces : (names : List PieceName) → length names ≡ 0 → names ≡ []
no_pieces [] e = λ i. []
no_pieces (x ∷ names) e = absurd (omega arith)

alone_named : (s : Spot) (piece : PieceName) (before : List PieceName) → before ≡ []
    → last_piece (at_of s) ≡ alone piece → key_of (at_of s) ≡ (piece, before)
alone_named s piece before none e =
    let name : s.piece.now.name ≡ piece = ap (λ (r : LastPiece). r.name) e in
    let count : length s.context.now.before ≡ 0 = ap (λ (r : LastPiece). r.before) e in
    let empty = no_pieces s.context.now.before count ∙ sym none in
    λ i. (name i, empty i)

-- the context of the piece alone stands where the last pieces say it
pub alone_there : (spots : List Spot) (list : List LastPiece) (piece : PieceName) (before : List PieceName) (n : ℕ)
    → list ≡ map last_piece (map at_of spots) → IsAlone list piece before n
    → (n < length spots) × HoldsAt (λ s. key_of (at_of s) ≡ (piece, before)) spots n
alone_there spots list piece before n are h =
    let a = length-map (map at_of spots) last_piece in
    let b = length-map spots at_of in
    let there = ap (λ l. slice_get l n) (sym are) ∙ h.at in
    let g = slice_get_within (map last_piece (map at_of spots)) n _ there in
    let within : n < length spots = omega arith in
    let s = some_at spots n within in
    let one = one_stands (map last_piece (map at_of spots)) n (last_piece (at_of s.0)) _
    (map_at last_piece (map at_of spots) n (at_of s.0) (map_at at_of spots n s.0 s.1)) there in
    let named = alone_named s.0 piece before h.none one in
    (within, λ d. subst (λ t. key_of (at_of t) ≡ (piece, before)) (sym (get_or_from_slice_get spots n s.0 d s.1)) named)

module _ (b : NodeId) (C number : Option ℕ) (places : List Place) where
  passed_by : (j : ℕ) → StopsBy places j b → passes b places ≡ true
  passed_by j stops =
      let h = slice_get_within places (j + 1) stops.place stops.at in
      let e = get_or_from_slice_get places (j + 1) stops.place stops.place stops.at in
      list_any_at (λ place. same_node place.node b) places (j + 1) stops.place h
      (same_from_node (get_or places (j + 1) stops.place).node b (ap (λ (p : Place). p.node) e ∙ stops.is))

  -- nothing has to hold up to a node that isn't passed
  pub ends_passed_over : IsFalse (passes b places) → HoldsAtEnds b C number places
  ends_passed_over none j stops =
      let yes = passed_by j stops in
      absurd (let e : true ≡ false = sym yes ∙ none in cc)

-- the mark of a context
module _ (b : NodeId) (spots : List Spot) (marks : List Bool) (are : marks ≡ map (is_passed b) (map at_of spots)) where
  pub marks_count : length marks ≡ length spots
  marks_count = ap length are ∙ length-map (map at_of spots) (is_passed b) ∙ length-map spots at_of

  pub mark_is : (n : ℕ) (x : At) (mark : Bool) → slice_get (map at_of spots) n ≡ Some x
      → slice_get marks n ≡ Some mark → mark ≡ passes b x.piece.places
  mark_is n x mark at at_mark = one_stands (map (is_passed b) (map at_of spots)) n mark (is_passed b x)
      (ap (λ l. slice_get l n) (sym are) ∙ at_mark) (map_at (is_passed b) (map at_of spots) n x at)
