-- What stands at each way where blocks were built: first of those near a change and beside those, then of those that
-- meet one near whose pieces are others than before, and beside those, and then of those by whose pieces another arc
-- leads than before.
use Rattle.std.proofs.Common.{◌≡◌, inl, inr, List, [], ◌∷◌, ◌++◌, Option, Some, None, Contains, refl, sym, ap}
use Rattle.std.proofs.Common.{subst, ◌∙◌}
use Rattle.std.specs.Prelude.{◌↔◌}
use Rattle.std.specs.Cmp.{IsTotalOrder}
use Rattle.std.specs.FinMap.{FinMap, IsAntisymmetric}
use Rattle.road_base.specs.declared.ids.WayId.{WayId}
use Rattle.road_base.specs.Objects.{Objects}
use Rattle.road_model.specs.declared.lists.Piece.{Piece}
use Rattle.road_model.specs.declared.blocks.Block.{Block}
use Rattle.road_model.specs.Rules.{Rules}
use Rattle.ordered_lists.specs.Orders.{Lists}
use Rattle.road_model.specs.Orders.{way_cmp}
use Rattle.road_model.specs.Local.{IsSameWithin, HasSameArcs}
use Rattle.road_model.specs.Blocks.{IsBlock}
use Rattle.road_model.specs.Naming.{OneBlock, HasBlock}
use Rattle.touched_ways.specs.Altering.{IsNearChange, IsUnaltered, HasSamePieces, HereOrBeside}
use Rattle.touched_ways.specs.Altering.{MeetsOne, MeetsSamePieces, listed_pieces}
use Rattle.touched_ways.specs.Altering.{HasSameArcsTo, IsLedAlike, ListSameArcs}
use Rattle.change_apply.specs.Engines.{AreKept, IsBlockAt}
use Rattle.change_apply.specs.Rebuilding.{AreMet, AreRebuilt, block_at, listed, pieces_in, pieces_at}
use Rattle.ordered_lists.proofs.ListMembers.{contains_from_in, in_from_contains, in_left, in_right}
use Rattle.change_apply.proofs.RebuiltBlocks.{listed_or_not, both_rebuilt, kept_behind, at_built}

-- the block with pieces has its pieces, and where it has none, so has no block
some_pieces_in : (ps : List Piece) (b : Block) → b.pieces ≡ ps
    → pieces_in (elim ps [ [] ↦ None | p ∷ qs ↦ Some b ]) ≡ b.pieces
some_pieces_in [] b e = sym e
some_pieces_in (p ∷ qs) b e = refl

-- what stands at a way has the pieces of its block
pub block_standing : (M : Objects) (P : Rules) (w : WayId) (at : Option Block) → HasBlock M P → IsBlockAt M P w at
    → (b : Block) × IsBlock M P w b × (pieces_in at ≡ b.pieces)
block_standing M P w (Some c) has is =
    let r = (is c).0 refl in (c, subst (λ v. IsBlock M P v c) r.0 r.1.block, refl)
block_standing M P w None has is = let h = has w in (h.0, h.1, none h.0.pieces refl)
  where
    none : (ps : List Piece) → (has w).0.pieces ≡ ps → pieces_in None ≡ (has w).0.pieces
    none [] e = sym e
    none (p ∷ ps) e =
        let h = has w in
        let own : IsBlock M P h.0.way h.0 = subst (λ v. IsBlock M P v h.0) (sym h.1.way) h.1 in
        let some : h.0.pieces ≡ [] → ⊥ = λ gone. let clash : p ∷ ps ≡ [] = sym e ∙ gone in cc in
        let got : None ≡ Some h.0 = (is h.0).1 (h.1.way, record { block = own; some = some }) in
        absurd (cc)

-- a way whose block was built has its pieces
pub built_pieces : (N : Objects) (P : Rules) (before : List (WayId × Block)) (stood : FinMap way_cmp Block)
    (ways : List WayId) (now : List (WayId × Block)) (built : AreRebuilt N P ways before now) (v : WayId)
    (i : Contains ways v) → pieces_at now stood v ≡ (built.built v i).0.pieces
built_pieces N P before stood ways now built v i =
    let is = built.built v i in
    ap pieces_in (at_built now stood v is.0 is.2) ∙ some_pieces_in is.0.pieces is.0 refl

module _ (M N : Objects) (P : Rules) (close near met led : List WayId)
    (before first second after : List (WayId × Block)) (stood : FinMap way_cmp Block) (total : IsTotalOrder way_cmp)
    (ties : IsAntisymmetric way_cmp) (one : OneBlock N P) (has : HasBlock M P)
    (arcs_stay : (w : WayId) → IsUnaltered M N P w → HasSameArcs M N P w)
    (led_stay : (w : WayId) (b : Block) → HasSameArcs M N P w → ((v : WayId) → IsLedAlike M N P w v)
    → IsBlock M P w b ↔ IsBlock N P w b)
    (far_stay : (w : WayId) → IsSameWithin 2 M N w → HasSamePieces M N P w)
    (listed_stay : (w : WayId) (b c : Block) → IsBlock M P w b → IsBlock N P w c → listed_pieces b ≡ listed_pieces c
    → HasSamePieces M N P w)
    (close_are : Lists (λ w. w) way_cmp (IsNearChange M N) close)
    (near_are : Lists (λ w. w) way_cmp (HereOrBeside N (Contains close)) near)
    (met_are : AreMet N (pieces_at before stood) (pieces_at first stood) close near met)
    (near_alike : (v w : WayId) → Contains near v → (Contains led w → ⊥) → (Contains near w → ⊥)
    → (Contains met w → ⊥) → ListSameArcs w (pieces_at before stood v) (pieces_at first stood v))
    (met_alike : (v w : WayId) → Contains met v → (Contains led w → ⊥) → (Contains near w → ⊥)
    → (Contains met w → ⊥) → ListSameArcs w (pieces_at before stood v) (pieces_at second stood v))
    (near_built : AreRebuilt N P near before first) (met_built : AreRebuilt N P met before second)
    (later_built : AreRebuilt N P (met ++ led) first after)
    (kept : AreKept M P (block_at before stood)) where
  -- ---- pieces

  -- the pieces of a way near the change are the same where the blocks list the same
  near_same : (v : WayId) → Contains near v → listed (pieces_at before stood v) ≡ listed (pieces_at first stood v)
      → HasSamePieces M N P v
  near_same v isnear e =
      let was = block_standing M P v (block_at before stood v) has (kept.blocks v) in
      let is = near_built.built v isnear in
      listed_stay v was.0 is.0 was.1 is.1.block
      (sym (ap listed was.2) ∙ e ∙ ap listed (built_pieces N P before stood near first near_built v isnear))

  -- what is close is near, and what isn't close is far
  is_close : (w : WayId) → Contains close w → Contains near w
  is_close w i = near_are.complete w (inl i)

  far : (w : WayId) → (Contains close w → ⊥) → IsSameWithin 2 M N w
  far w not change = not (close_are.complete w change)

  -- so are those of every way, but of one whose block lists others
  pieces_same : (v : WayId) → (Contains met_are.altered v → ⊥) → HasSamePieces M N P v
  pieces_same v not = elim (listed_or_not total ties close v) [
    | inl isclose ↦ near_same v (is_close v isclose) (met_are.same v isclose not)
    | inr notclose ↦ far_stay v (far v notclose)
  ]

  -- and so those of all that meet a way that meets none of these
  meets_same : (w : WayId) → (MeetsOne N met_are.altered w → ⊥) → MeetsSamePieces M N P w
  meets_same w none v n rw rv = pieces_same v (λ is. none (v, n, is, rw, rv))

  -- ---- arcs

  unaltered : (w : WayId) → (Contains near w → ⊥) → (Contains met w → ⊥) → IsUnaltered M N P w
  unaltered w notnear notmet =
      let apart : HereOrBeside N (MeetsOne N met_are.altered) w → ⊥ =
      λ m. notmet (met_are.exactly.complete w (m, notnear)) in
      inr (
        (far w (λ i. notnear (is_close w i)), meets_same w (λ m. apart (inl m))),
        λ v named. (
          far v (λ i. notnear (near_are.complete w (inr (v, named, i)))),
          meets_same v (λ m. apart (inr (v, named, m))),
        ),
      )

  -- a way whose block was built has the same arcs by pieces of another where both blocks list the same
  built_alike : (ways : List WayId) (now : List (WayId × Block)) → AreRebuilt N P ways before now → (v w : WayId)
      → Contains ways v → ListSameArcs w (pieces_at before stood v) (pieces_at now stood v) → HasSameArcsTo M N P w v
  built_alike ways now built v w i alike =
      let was = block_standing M P v (block_at before stood v) has (kept.blocks v) in
      let is = built.built v i in
      record {
        was = was.0;
        is = is.0;
        before = was.1;
        after = is.1.block;
        same =
            subst (λ l. ListSameArcs w l is.0.pieces) was.2
            (subst (λ l. ListSameArcs w (pieces_at before stood v) l)
            (built_pieces N P before stood ways now built v i) alike);
      }

  -- so it is with every way, for one that isn't among those to which other arcs lead
  led_alike : (w : WayId) → (Contains led w → ⊥) → (Contains near w → ⊥) → (Contains met w → ⊥) → (v : WayId)
      → IsLedAlike M N P w v
  led_alike w notled notnear notmet v = elim (listed_or_not total ties near v) [
    | inl isnear ↦ inr (built_alike near first near_built v w isnear (near_alike v w isnear notled notnear notmet))
    | inr far ↦ elim (listed_or_not total ties met v) [
      | inl ismet ↦ inr (built_alike met second met_built v w ismet (met_alike v w ismet notled notnear notmet))
      | inr apart ↦ inl (arcs_stay v (unaltered v far apart))
    ]
  ]

  -- ---- blocks

  abbrev all_built : List WayId
  all_built = near ++ (met ++ led)

  is_near : (w : WayId) → Contains near w → Contains all_built w
  is_near w i = contains_from_in all_built w (in_left near (met ++ led) w (in_from_contains near w i))

  is_met : (w : WayId) → Contains met w → Contains all_built w
  is_met w i = contains_from_in all_built w
      (in_right near (met ++ led) w (in_left met led w (in_from_contains met w i)))

  is_led : (w : WayId) → Contains led w → Contains all_built w
  is_led w i = contains_from_in all_built w
      (in_right near (met ++ led) w (in_right met led w (in_from_contains led w i)))

  -- the block of a way that wasn't built is the same
  others_stay : (w : WayId) → (Contains all_built w → ⊥) → (b : Block) → IsBlock M P w b ↔ IsBlock N P w b
  others_stay w not b =
      let notnear : Contains near w → ⊥ = λ i. not (is_near w i) in
      let notmet : Contains met w → ⊥ = λ i. not (is_met w i) in
      led_stay w b (arcs_stay w (unaltered w notnear notmet))
      (led_alike w (λ i. not (is_led w i)) notnear notmet)

  -- what stands at each way is its block
  pub kept_after : AreKept N P (block_at after stood)
  kept_after =
      kept_behind M N P all_built before after stood total ties one others_stay
      (both_rebuilt total ties N P near (met ++ led) before first after near_built later_built) kept
