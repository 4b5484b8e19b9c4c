-- The arcs by the pieces of a way are the same where all within the link radius of the way is.
use Rattle.std.proofs.Common.{List, [], ◌∷◌, ◌++◌, sym, ap, subst, arith, length}
use Rattle.road_base.specs.declared.ids.WayId.{WayId}
use Rattle.road_base.specs.declared.ids.Key.TheVariants.{Way as WayKey}
use Rattle.road_base.specs.Objects.{Objects}
use Rattle.road_model.specs.Rules.{Rules}
use Rattle.road_model.specs.Pieces.{Span}
use Rattle.road_model.specs.Network.{IsArc}
use Rattle.road_model.specs.Links.{IsWithin, link_radius}
use Rattle.road_model.specs.Local.{IsSameWithin, HasSameSources}
use Rattle.ordered_lists.proofs.Splits.{Ends, Nil, Last, ends}
use Rattle.road_model.proofs.WalkLists.{some_context}
use Rattle.road_model.proofs.LocalLinks.{IsAlike, alike_from, alike_turned, alike_near, within_turned}
use Rattle.road_model.proofs.LocalPieces.{NeedsHighway}
use Rattle.road_model.proofs.LocalContexts.{arc_kept, piece_near, piece_of}

-- the way of the context's last piece is within two links of the way of the piece by which an arc leads on
source_near : (M : Objects) (P : Rules) → NeedsHighway P → (before : List Span) (q p : Span) (c : List Span)
    → IsArc M P (before ++ q ∷ []) p c → IsWithin M 2 (WayKey p.way) (WayKey q.way)
source_near M P needs before q p c a = within_turned M 2 (WayKey q.way) (WayKey p.way)
    (piece_near M P needs before q p (piece_of M P needs before q a.from) a.by a.legal)

behind_kept : (M N : Objects) (P : Rules) → NeedsHighway P → (before : List Span) (q p : Span) (c : List Span)
    → IsAlike M N link_radius (WayKey p.way) → IsArc M P (before ++ q ∷ []) p c → IsArc N P (before ++ q ∷ []) p c
behind_kept M N P needs before q p c al a = arc_kept M N P needs before q p c
    (alike_near M N 2 6 (WayKey p.way) (WayKey q.way) al (source_near M P needs before q p c a)) a

source_kept : (M N : Objects) (P : Rules) → NeedsHighway P → (from : List Span) (p : Span) (c : List Span)
    → Ends from → IsAlike M N link_radius (WayKey p.way) → IsArc M P from p c → IsArc N P from p c
source_kept M N P needs from p c (Nil e) al a =
    let some = some_context M P from a.from in let none = ap length e in absurd (omega arith)
source_kept M N P needs from p c (Last before q e) al a = subst (λ d. IsArc N P d p c) (sym e)
    (behind_kept M N P needs before q p c al (subst (λ d. IsArc M P d p c) e a))

pub local_sources : (M N : Objects) (P : Rules) → NeedsHighway P → (w : WayId) → IsSameWithin link_radius M N w
    → HasSameSources M N P w
local_sources M N P needs w same from p c of =
    let al : IsAlike M N link_radius (WayKey p.way) = subst (λ v. IsAlike M N link_radius (WayKey v)) (sym of)
    (alike_from M N link_radius w same) in (
      source_kept M N P needs from p c (ends from) al,
      source_kept N M P needs from p c (ends from) (alike_turned M N link_radius (WayKey p.way) al),
    )
