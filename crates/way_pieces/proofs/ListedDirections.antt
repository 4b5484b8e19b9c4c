-- The pieces that a block lists go in the directions in which its way is open.
use Rattle.std.proofs.Common.{◌≡◌, ◌==◌, Bool, true, false, List, [], ◌∷◌, length, Contains, IsTrue}
use Rattle.std.proofs.Common.{refl, sym, ap, subst}
use Rattle.std.proofs.Common.{◌∙◌, arith}
use Rattle.std.specs.List.{list_any}
use Rattle.std.proofs.lemmas.Bool.{and_parts, false≢true}
use Rattle.std.proofs.lemmas.List.Folds.{Any-from_list_any, list_any-from_Any}
use Rattle.road_base.specs.declared.ids.WayId.{WayId}
use Rattle.road_base.specs.declared.ids.Dir.{Dir}
use Rattle.road_base.specs.Objects.{Objects}
use Rattle.road_model.specs.declared.lists.Piece.{Piece}
use Rattle.road_model.specs.declared.blocks.Block.{Block}
use Rattle.road_model.specs.Rules.{Rules}
use Rattle.road_model.specs.Driving.{is_open}
use Rattle.road_model.specs.Pieces.{Span, IsPiece}
use Rattle.road_model.specs.Blocks.{ListsPieces}
use Rattle.road_model.specs.Orders.{same_dir}
use Rattle.road_model.proofs.Directions.{dir_is, dir_self}
use Rattle.way_pieces.specs.Listed.{goes}
use Rattle.way_pieces.proofs.DrivenSteps.{drivable_parts, drivable_from, piece_parts}

same_truth : (a b : Bool) → (a ≡ true → b ≡ true) → (b ≡ true → a ≡ true) → a ≡ b
same_truth true b to from = sym (to refl)
same_truth false true to from = from refl
same_truth false false to from = refl

first_of : (es : List Piece) → (length es == 0) ≡ false → (e : Piece) × Contains es e
first_of [] some = absurd (false≢true (sym some))
first_of (e ∷ es) some = (e, (0, omega arith, refl))

-- the span in this direction
abbrev turned : Span → Dir → Span
turned p d = record { way = p.way; index = p.index; end = p.end; dir = d }

-- a piece is one in the other direction too, where its way is open there
turned_is : (M : Objects) (P : Rules) (p : Span) (d : Dir) → IsPiece M P p → IsTrue (is_open M P p.way d)
    → IsPiece M P (turned p d)
turned_is M P p d is free = record {
  ascends = is.ascends;
  first = is.first;
  last = is.last;
  inner = is.inner;
  drives = λ k low high.
      let parts = drivable_parts M P (record { way = p.way; index = k; dir = p.dir }) (is.drives k low high) in
      drivable_from M P (record { way = p.way; index = k; dir = d }) free (parts.1).0 (parts.1).1;
}

module _ (M : Objects) (P : Rules) (w : WayId) (b : Block) (lists : ListsPieces M P w b) (d : Dir) where
  open_where_goes : list_any (goes d) b.pieces ≡ true → is_open M P w d ≡ true
  open_where_goes some =
      let found = Any-from_list_any (goes d) b.pieces some in
      let e = found.1 in
      let is = lists.sound e (found.0, found.2, found.3) in
      let dir : (is.piece).dir ≡ d = sym (ap (λ n. n.dir) is.named) ∙ dir_is e.name.dir d found.4 in
      subst (λ v. IsTrue (is_open M P v d)) is.of
      (subst (λ c. IsTrue (is_open M P (is.piece).way c)) dir (and_parts _ _ (piece_parts M P is.piece is.is)).0)

  goes_where_open : (length b.pieces == 0) ≡ false → is_open M P w d ≡ true → list_any (goes d) b.pieces ≡ true
  goes_where_open some free =
      let first = first_of b.pieces some in
      let is = lists.sound first.0 first.1 in
      let other = turned_is M P is.piece d is.is (subst (λ v. IsTrue (is_open M P v d)) (sym is.of) free) in
      let listed = lists.complete (turned is.piece d) other is.of in
      let has = listed.1 in
      let goes_there : goes d listed.0 ≡ true = ap (λ n. same_dir n.dir d) listed.2 ∙ dir_self d in
      list_any-from_Any (goes d) b.pieces (has.0, listed.0, has.1, has.2, goes_there)

  -- where it lists any piece, one of them goes in the direction exactly where the way is open there
  pub goes_as_open : (length b.pieces == 0) ≡ false → list_any (goes d) b.pieces ≡ is_open M P w d
  goes_as_open some = same_truth _ _ open_where_goes (goes_where_open some)
