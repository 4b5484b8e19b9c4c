-- What stands in a way's block but the sources is the same where all within the forward radius of the way is, and the
-- block is where also all within the link radius is.
use Rattle.std.proofs.Common.{◌≡◌, ◌↔◌, List, [], ◌∷◌, ◌++◌, Ordering, inl, sym, ◌∙◌, arith}
use Rattle.road_base.specs.declared.ids.WayId.{WayId}
use Rattle.road_base.specs.declared.ids.Key.TheVariants.{Way as WayKey}
use Rattle.road_base.specs.Objects.{Objects, way_of}
use Rattle.road_model.specs.declared.lists.PieceName.{PieceName}
use Rattle.road_model.specs.declared.lists.TurnArc.{TurnArc}
use Rattle.road_model.specs.declared.lists.Context.{Context}
use Rattle.road_model.specs.declared.lists.Piece.{Piece}
use Rattle.road_model.specs.declared.blocks.Block.{Block}
use Rattle.road_model.specs.Rules.{Rules}
use Rattle.road_model.specs.Pieces.{Span}
use Rattle.ordered_lists.specs.Orders.{Lists}
use Rattle.road_model.specs.Links.{IsTouched}
use Rattle.road_model.specs.Blocks.{IsArcEntry, IsSourceEntry, IsContextEntry, IsPieceEntry, IsBlock}
use Rattle.road_model.specs.Local.{IsSameWithin, forward_radius, HasSameArcs, HasSameSources}
use Rattle.road_model.proofs.LocalLinks.{way_same, within_itself, alike_from, same_less, untouched_same, same_forward}
use Rattle.road_model.proofs.LocalBodies.{marked_same}
use Rattle.road_model.proofs.LocalPieces.{NeedsHighway, local_pieces, local_places}
use Rattle.road_model.proofs.LocalContexts.{local_contexts, local_arcs}
use Rattle.road_model.proofs.LocalSources.{local_sources}

-- a list of what is the same
pub lists_kept : {A B : Type 0} {name : A → B} {R : B → B → Ordering} {Is Was : A → Type 0} (xs : List A)
    → ((x : A) → Is x → Was x) → ((x : A) → Was x → Is x) → Lists name R Is xs → Lists name R Was xs
lists_kept xs to from l = record {
  ascending = l.ascending;
  sound = λ x i. to x (l.sound x i);
  complete = λ x h. l.complete x (from x h);
}

-- ---- where all that is near is the same

own_body : (M N : Objects) (w : WayId) → IsSameWithin forward_radius M N w → way_of M w ≡ way_of N w
own_body M N w same = way_same M N w
    (alike_from M N forward_radius w same (WayKey w) (inl (within_itself M forward_radius (WayKey w))))

pub local_blocks : (M N : Objects) (P : Rules) → NeedsHighway P → (w : WayId) → IsSameWithin forward_radius M N w
    → HasSameArcs M N P w
local_blocks M N P needs w same =
    let three : IsSameWithin 3 M N w = same_less M N 3 forward_radius w (omega arith) same in
    record {
      pieces = λ p of. local_pieces M N P needs w p three of;
      marks = λ d. marked_same M N P w d (own_body M N w same);
      places = λ p k x of i. local_places M N P needs w p three of i k x;
      contexts = λ before p of. local_contexts M N P needs w before p same of;
      arcs = λ before p t target of. local_arcs M N P needs w before p t target same of;
    }

-- ---- where the pieces, contexts, arcs and sources are the same

arcs_turned : (M N : Objects) (P : Rules) (w : WayId) → HasSameArcs M N P w → HasSameArcs N M P w
arcs_turned M N P w h = record {
  pieces = λ p of. let e = h.pieces p of in (e.1, e.0);
  marks = λ d. sym (h.marks d);
  places = λ p k x of i. let e = h.places p k x of ((h.pieces p of).1 i) in (e.1, e.0);
  contexts = λ before p of. let e = h.contexts before p of in (e.1, e.0);
  arcs = λ before p t target of. let e = h.arcs before p t target of in (e.1, e.0);
}

sources_turned : (M N : Objects) (P : Rules) (w : WayId) → HasSameSources M N P w → HasSameSources N M P w
sources_turned M N P w h from p c of = let e = h from p c of in (e.1, e.0)

module _ (M N : Objects) (P : Rules) (w : WayId) (same : HasSameArcs M N P w) where
  arc_entry : (before : List Span) (p : Span) → p.way ≡ w → (a : TurnArc)
      → IsArcEntry M P (before ++ p ∷ []) a → IsArcEntry N P (before ++ p ∷ []) a
  arc_entry before p of a e = record {
    piece = e.piece;
    target = e.target;
    arc = (same.arcs before p e.piece e.target of).0 e.arc;
    named = e.named;
    length_is = e.length_is;
  }

source_entry : (M N : Objects) (P : Rules) (w : WayId) → HasSameSources M N P w → (p : Span) → p.way ≡ w
    → (c : List Span) (s : List PieceName) → IsSourceEntry M P p c s → IsSourceEntry N P p c s
source_entry M N P w sources p of c s e = record {
  from = e.from;
  arc = (sources e.from p c of).0 e.arc;
  named = e.named;
}

module _ (M N : Objects) (P : Rules) (w : WayId) (same : HasSameArcs M N P w) (sources : HasSameSources M N P w) where
  context_entry : (p : Span) → p.way ≡ w → (e : Context) → IsContextEntry M P p e → IsContextEntry N P p e
  context_entry p of e c = record {
    before = c.before;
    context = (same.contexts c.before p of).0 c.context;
    named = c.named;
    arcs = lists_kept e.arcs (arc_entry M N P w same c.before p of)
        (arc_entry N M P w (arcs_turned M N P w same) c.before p of) c.arcs;
    sources = lists_kept e.sources (source_entry M N P w sources p of (c.before ++ p ∷ []))
        (source_entry N M P w (sources_turned M N P w sources) p of (c.before ++ p ∷ [])) c.sources;
  }

module _ (M N : Objects) (P : Rules) (w : WayId) (same : HasSameArcs M N P w) (sources : HasSameSources M N P w) where
  piece_entry : (e : Piece) → IsPieceEntry M P w e → IsPieceEntry N P w e
  piece_entry e p = record {
    piece = p.piece;
    is = (same.pieces p.piece p.of).0 p.is;
    of = p.of;
    named = p.named;
    end_is = p.end_is;
    marked = p.marked ∙ same.marks p.piece.dir;
    count = p.count;
    places = λ k x at. (same.places p.piece k x p.of p.is).0 (p.places k x at);
    contexts = lists_kept e.contexts (context_entry M N P w same sources p.piece p.of)
        (context_entry N M P w (arcs_turned M N P w same) (sources_turned M N P w sources) p.piece p.of) p.contexts;
  }

block_kept : (M N : Objects) (P : Rules) (w : WayId) → HasSameArcs M N P w → HasSameSources M N P w → (b : Block)
    → IsBlock M P w b → IsBlock N P w b
block_kept M N P w same sources b h = record {
  way = h.way;
  pieces = lists_kept b.pieces (piece_entry M N P w same sources)
      (piece_entry N M P w (arcs_turned M N P w same) (sources_turned M N P w sources)) h.pieces;
}

pub same_blocks : (M N : Objects) (P : Rules) (w : WayId) (b : Block) → HasSameArcs M N P w → HasSameSources M N P w
    → IsBlock M P w b ↔ IsBlock N P w b
same_blocks M N P w b same sources = (
  block_kept M N P w same sources b,
  block_kept N M P w (arcs_turned M N P w same) (sources_turned M N P w sources) b,
)

-- the block of a way that a change doesn't touch
pub untouched_block : (M N : Objects) (P : Rules) → NeedsHighway P → (w : WayId) (b : Block) → (IsTouched M N w → ⊥)
    → IsBlock M P w b ↔ IsBlock N P w b
untouched_block M N P needs w b untouched =
    let near = untouched_same M N w untouched in
    same_blocks M N P w b (local_blocks M N P needs w (same_forward M N w near)) (local_sources M N P needs w near)
