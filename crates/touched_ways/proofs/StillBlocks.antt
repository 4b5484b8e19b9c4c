-- All that stands in the blocks of settled ways but the sources is the same in both object maps.
use Rattle.std.proofs.Common.{◌≡◌, inl, inr, sym, subst}
use Rattle.road_base.specs.declared.ids.WayId.{WayId}
use Rattle.road_base.specs.Objects.{Objects}
use Rattle.road_model.specs.Rules.{Rules}
use Rattle.road_model.specs.Pieces.{Span}
use Rattle.road_model.specs.Local.{HasSameArcs}
use Rattle.road_model.proofs.LocalLinks.{untouched_same, same_forward}
use Rattle.road_model.proofs.LocalBodies.{marked_same}
use Rattle.road_model.proofs.LocalPieces.{NeedsHighway, place_kept}
use Rattle.road_model.proofs.LocalContexts.{piece_of}
use Rattle.road_model.proofs.LocalBlocks.{local_blocks}
use Rattle.touched_ways.specs.Altering.{IsUnaltered}
use Rattle.touched_ways.proofs.SamePieces.{alike_pieces}
use Rattle.touched_ways.proofs.StillWays.{IsSettled, settled_turned, settled_from, own_body}
use Rattle.touched_ways.proofs.StillContexts.{context_kept}
use Rattle.touched_ways.proofs.StillArcs.{arc_kept}

settled_arcs : (M N : Objects) (P : Rules) → NeedsHighway P → (w : WayId) → IsSettled M N P w → HasSameArcs M N P w
settled_arcs M N P needs w s =
    let here : (p : Span) → p.way ≡ w → IsSettled M N P p.way = λ p of. subst (IsSettled M N P) (sym of) s in
    let there : (p : Span) → p.way ≡ w → IsSettled N M P p.way = λ p of. settled_turned M N P p.way (here p of) in
    let pieces = alike_pieces M N P needs w s.own.alike in
    record {
      pieces = pieces;
      marks = λ d. marked_same M N P w d (own_body M N P w s.own);
      places = λ p k x of is. (
        place_kept M N P needs p (here p of).own.alike is k x,
        place_kept N M P needs p (there p of).own.alike ((pieces p of).0 is) k x,
      );
      contexts = λ before p of. (
        λ c. context_kept M N P needs before p (here p of) (piece_of M P needs before p c) c,
        λ c. context_kept N M P needs before p (there p of) (piece_of N P needs before p c) c,
      );
      arcs = λ before p t target of. (
        λ a. arc_kept M N P needs before p t (here p of) (piece_of M P needs before p a.from) target a,
        λ a. arc_kept N M P needs before p t (there p of) (piece_of N P needs before p a.from) target a,
      );
    }

-- a way that a change leaves unaltered keeps all that stands in its block but the sources
pub unaltered_arcs : (M N : Objects) (P : Rules) → NeedsHighway P → (w : WayId) → IsUnaltered M N P w
    → HasSameArcs M N P w
unaltered_arcs M N P needs w (inl untouched) =
    local_blocks M N P needs w (same_forward M N w (untouched_same M N w untouched))
unaltered_arcs M N P needs w (inr (own, others)) = settled_arcs M N P needs w (settled_from M N P w own others)
