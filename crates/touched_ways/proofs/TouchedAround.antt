-- Ways around a change are touched by it, and so are those to which arcs lead from their blocks.
use Rattle.std.proofs.Common.{◌≡◌, ℕ, zero, suc, ◌+◌, ◌⊎◌, inl, inr, List, sym, ap, ◌∙◌, subst, arith}
use Rattle.road_base.specs.declared.ids.WayId.{WayId}
use Rattle.road_base.specs.declared.ids.Key.{Key}
use Rattle.road_base.specs.declared.ids.Key.TheVariants.{Node as NodeKey, Way as WayKey, Relation as RelationKey}
use Rattle.road_base.specs.Objects.{Objects}
use Rattle.road_model.specs.declared.lists.PieceName.{PieceName}
use Rattle.road_model.specs.declared.lists.TurnArc.{TurnArc}
use Rattle.road_model.specs.declared.blocks.Block.{Block}
use Rattle.road_model.specs.Rules.{Rules}
use Rattle.road_model.specs.Blocks.{IsBlock}
use Rattle.road_model.specs.Links.{IsWithin, IsTouched, AreChanged}
use Rattle.road_model.proofs.LocalPieces.{NeedsHighway}
use Rattle.road_model.proofs.LocalContexts.{piece_near, piece_of}
use Rattle.touched_ways.specs.Altering.{IsAround, IsNearChange, ListsArc, MeetsChange}
use Rattle.touched_ways.proofs.ChangedLinks.{IsWithinInOne, turned, one_further, one_more}
use Rattle.touched_ways.proofs.FiniteTouched.{changed_keys}
use Rattle.touched_ways.proofs.LedBlocks.{arc_listed}

swapped : (M N : Objects) (keys : List Key) (n : ℕ) (k : Key) → IsWithinInOne M N keys n k
    → IsWithinInOne N M keys n k
swapped M N keys n k (c, has, inl here) = (c, has, inr here)
swapped M N keys n k (c, has, inr there) = (c, has, inl there)

module _ (M N : Objects) (keys : List Key) (changed : AreChanged M N keys) where
  -- some links of N further
  beyond : (m n : ℕ) (a b : Key) → IsWithinInOne M N keys n a → IsWithin N m a b → IsWithinInOne M N keys (m + n) b
  beyond zero n a b h e = let z : n ≡ 0 + n = omega arith in
      subst (λ k. IsWithinInOne M N keys k b) z (subst (IsWithinInOne M N keys n) e h)
  beyond (suc m) n a b h (inl i) = let z : suc (m + n) ≡ suc m + n = omega arith in
      subst (λ k. IsWithinInOne M N keys k b) z (one_more M N keys changed (m + n) b (beyond m n a b h i))
  beyond (suc m) n a b h (inr (c, i, l)) = let z : suc (m + n) ≡ suc m + n = omega arith in
      subst (λ k. IsWithinInOne M N keys k b) z (one_further M N keys changed (m + n) c b (beyond m n a c h i) l)

  two_more : (n : ℕ) (k : Key) → IsWithinInOne M N keys n k → IsWithinInOne M N keys (suc (suc n)) k
  two_more n k h = one_more M N keys changed (suc n) k (one_more M N keys changed n k h)

  here_within : (w : WayId) → IsNearChange M N w → IsWithinInOne M N keys 2 (WayKey w)
  here_within w (k, differs, near) = (k, changed.complete k differs, near)

  meets_within : (w : WayId) → MeetsChange M N w → IsWithinInOne M N keys 4 (WayKey w)
  meets_within w (v, n, near, rw, rv) = one_further M N keys changed 3 (NodeKey n) (WayKey w)
      (one_further M N keys changed 2 (WayKey v) (NodeKey n) (here_within v near) rv) rw

  either_within : (w : WayId) → IsNearChange M N w ⊎ MeetsChange M N w → IsWithinInOne M N keys 4 (WayKey w)
  either_within w (inl near) = two_more 2 (WayKey w) (here_within w near)
  either_within w (inr meets) = meets_within w meets

  around_within : (w : WayId) → IsAround M N w → IsWithinInOne M N keys 6 (WayKey w)
  around_within w (inl here) = two_more 4 (WayKey w) (either_within w here)
  around_within w (inr (v, (r, hw, hv), is)) = one_further M N keys changed 5 (RelationKey r) (WayKey w)
      (one_further M N keys changed 4 (WayKey v) (RelationKey r) (either_within v is) hv) hw

  within_touched : (w : WayId) → IsWithinInOne M N keys 8 (WayKey w) → IsTouched M N w
  within_touched w (c, has, near) = (c, changed.sound c has, near)

pub around_touched : (M N : Objects) (w : WayId) → IsAround M N w → IsTouched M N w
around_touched M N w around =
    let keys = changed_keys M N in
    within_touched M N keys.0 keys.1 w
    (two_more M N keys.0 keys.1 6 (WayKey w) (around_within M N keys.0 keys.1 w around))

-- an arc leads from the block of a way to one within two links of it
arc_near : (M : Objects) (P : Rules) → NeedsHighway P → (w : WayId) (b : Block) (name : PieceName)
    (before : List PieceName) (a : TurnArc) → IsBlock M P w b → ListsArc b.pieces name before a
    → IsWithin M 2 (WayKey w) (WayKey a.piece.way)
arc_near M P needs w b name before a is l =
    let r = arc_listed M P w b is name before a l in
    let e = is.pieces.sound l.piece l.listed in
    let from : r.last.way ≡ w =
    ap (λ (n : PieceName). n.way) (sym r.from ∙ sym l.named ∙ e.named) ∙ e.of in
    let to : r.piece.way ≡ a.piece.way = ap (λ (n : PieceName). n.way) (sym r.by) in
    subst (λ v. IsWithin M 2 (WayKey v) (WayKey a.piece.way)) from
    (subst (λ v. IsWithin M 2 (WayKey r.last.way) (WayKey v)) to
    (piece_near M P needs r.before r.last r.piece (piece_of M P needs r.before r.last r.arc.from) r.arc.by r.arc.legal))

pub led_touched : (M N : Objects) (P : Rules) → NeedsHighway P → (w : WayId) (b : Block) (name : PieceName)
    (before : List PieceName) (a : TurnArc) → IsAround M N w → IsBlock M P w b ⊎ IsBlock N P w b
    → ListsArc b.pieces name before a → IsTouched M N a.piece.way
led_touched M N P needs w b name before a around is l =
    let keys = changed_keys M N in
    let here = around_within M N keys.0 keys.1 w around in
    within_touched M N keys.0 keys.1 a.piece.way (elim is [
      | inl was ↦ swapped N M keys.0 8 (WayKey a.piece.way)
          (beyond N M keys.0 (turned M N keys.0 keys.1) 2 6 (WayKey w) (WayKey a.piece.way)
          (swapped M N keys.0 6 (WayKey w) here) (arc_near M P needs w b name before a was l))
      | inr now ↦ beyond M N keys.0 keys.1 2 6 (WayKey w) (WayKey a.piece.way) here
          (arc_near N P needs w b name before a now l)
    ])
