-- The line that is kept at the road's place is its own.
use Rattle.std.proofs.Common.{◌≡◌, length, Option, None, Some, IfSome, Bor, option_copied, slice_get, refl, sym, subst}
use Rattle.std.proofs.Common.{arith}
use Rattle.std.proofs.lemmas.Option.{slice_get_read}
use Rattle.road_base.specs.declared.ids.WayId.{WayId}
use Rattle.road_base.specs.Objects.{Objects}
use Rattle.road_model.specs.Rules.{Rules}
use Rattle.way_lines.specs.declared.road_line.RoadLine.{RoadLine}
use Rattle.way_pieces.specs.RoadPieces.{IsLineOf, IsKeptLineOf, AreRoadPieces}
use Rattle.way_pieces.proofs.road_pieces.RoadPieces.line_of.Goals as goal

module _ (Is : Objects → Rules → RoadLine → Type 0) (Are : Objects → Rules → Type 0) where
  if_kept : (seen : Option (Bor RoadLine)) (kept : Option RoadLine) → option_copied seen ≡ kept
      → ((M : Objects) (P : Rules) → Are M P → IfSome kept (Is M P))
      → IfSome seen (λ line. (M : Objects) (P : Rules) → Are M P → Is M P line.now)
  if_kept None kept same is = tt
  if_kept (Some line) kept same is = λ M P are.
      subst (λ (o : Option RoadLine). IfSome o (Is M P)) (sym same) (is M P are)

pub returns : goal.returns
returns c =
    let lines = c.args.self.now.lines.items in
    let at = c.in_ok-at.at in
    let line = c.index.result.now in
    let within = c.if-at-len.false in
    let count = c.len.ensures in
    let stands : slice_get lines at ≡ Some line =
    slice_get_read lines (length lines) at line refl (omega arith) c.index.ensures in
    let road = c.in_ok-at.ensures in
    if_kept (λ M P. IsLineOf M P c.args.way) (λ M P. AreRoadPieces M P c.args.self.now) c.as_ref.result line
    c.as_ref.ensures.value
    (λ M P are. subst (λ (w : WayId). IsKeptLineOf M P w line) road.2 (are.lines at road.0 line road.1 stands))
