use Rattle.std.proofs.Common.{◌≡◌, map, take, true}
use Rattle.std.specs.List.{All}
use Rattle.road_model.specs.Format.{IsPieceForm}
use Rattle.expanded_graph.specs.Bare.{IsBarePiece}
use Rattle.expanded_graph.proofs.pieces.bare_pieces_along.Given as goal

-- the pieces so far are those of the spans so far
abbrev pub invariant-loop-span : goal.invariant-loop-span
invariant-loop-span g l = record {
  names : map (λ p. p.name) l.pieces.items ≡ map (λ s. s.name) (take l.span-index l.spans);
  entries : All
      (IsBarePiece (g.M.World.objects l.network.world.now) (g.P.Profile.rules l.network.profile) l.line.road.way)
      l.pieces.items;
  forms : All (IsPieceForm true) l.pieces.items;
}
