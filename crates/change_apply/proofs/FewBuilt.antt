-- No more blocks are built than there are ways that the change touches: those that are built are touched, and no way's
-- is built twice.
use Rattle.std.proofs.Common.{◌≡◌, suc, ◌+◌, ◌≤◌, ◌⊎◌, inl, inr, List, [], ◌∷◌, ◌++◌, length, IsTrue, Contains}
use Rattle.std.proofs.Common.{refl, sym, ap, subst, ◌∙◌, arith, length-append}
use Rattle.std.specs.Cmp.{IsTotalOrder}
use Rattle.std.specs.FinMap.{FinMap}
use Rattle.road_base.specs.declared.ids.WayId.{WayId}
use Rattle.road_base.specs.Objects.{Objects}
use Rattle.road_model.specs.declared.lists.PieceName.{PieceName}
use Rattle.road_model.specs.declared.lists.Piece.{Piece}
use Rattle.road_model.specs.declared.lists.TurnArc.{TurnArc}
use Rattle.road_model.specs.declared.blocks.Block.{Block}
use Rattle.road_model.specs.Rules.{Rules}
use Rattle.road_model.specs.Blocks.{IsBlock}
use Rattle.road_model.specs.Links.{IsTouched, AreTouched}
use Rattle.road_model.specs.Naming.{HasBlock}
use Rattle.road_model.specs.Orders.{way_cmp}
use Rattle.ordered_lists.specs.Orders.{Lists, rises, rises_from}
use Rattle.ordered_lists.proofs.AscendingLists.{above, rest_rises}
use Rattle.ordered_lists.proofs.Comparisons.{not_itself}
use Rattle.ordered_lists.proofs.ListMembers.{In, contains_from_in, contains_none, in_cases, in_from_contains}
use Rattle.touched_ways.specs.Altering.{HereOrBeside, IsAround, IsNearChange, ListsArc}
use Rattle.touched_ways.proofs.WayLists.{same}
use Rattle.change_apply.specs.Engines.{AreKept}
use Rattle.change_apply.specs.Rebuilding.{AreMet, AreRebuilt, block_at, pieces_at}
use Rattle.change_apply.specs.Sourcing.{IsLedFrom, ListArcTo}
use Rattle.change_apply.proofs.AlteredBlocks.{block_standing, built_pieces}

-- ---- lists of different ways

-- no way stands in it twice
abbrev Once : List WayId → Type 0
Once [] = Unit {0}
Once (w ∷ ws) = (In w ws → ⊥) × Once ws

-- so it is where they ascend
once_rising : IsTotalOrder way_cmp → (ws : List WayId) → IsTrue (rises way_cmp ws) → Once ws
once_rising total [] up = tt
once_rising total (w ∷ ws) up = (
  λ i. not_itself way_cmp total w
      (above (λ v. v) way_cmp total w ws (subst (λ l. IsTrue (rises_from way_cmp w l)) (sym (same ws)) up) w i),
  once_rising total ws (rest_rises way_cmp w ws up),
)

-- and in two lists that have none in common
once_joined : (vs ws : List WayId) → Once vs → Once ws → ((w : WayId) → In w vs → In w ws → ⊥) → Once (vs ++ ws)
once_joined [] ws one two apart = two
once_joined (v ∷ vs) ws one two apart = (
  λ i. elim (in_cases vs ws v i) [ inl here ↦ one.0 here | inr there ↦ apart v (inl refl) there ],
  once_joined vs ws one.1 two (λ w i j. apart w (inr i) j),
)

-- a list without one place of a member
without : (w : WayId) (ws : List WayId) → In w ws
    → (vs : List WayId) × (length ws ≡ suc (length vs)) × ((v : WayId) → In v ws → (v ≡ w) ⊎ In v vs)
without w [] i = absurd i
without w (u ∷ ws) (inl e) = (ws, refl, λ v i. elim i [ inl f ↦ inl (f ∙ sym e) | inr j ↦ inr j ])
without w (u ∷ ws) (inr i) =
    let r = without w ws i in (
      u ∷ r.0,
      ap suc r.1,
      λ v j.
          elim j [
            | inl f ↦ inr (inl f)
            | inr k ↦ elim (r.2 v k) [ inl f ↦ inl f | inr l ↦ inr (inr l) ]
          ],
    )

-- a list of different ways is no longer than one that has them all
no_longer : (vs ws : List WayId) → Once vs → ((w : WayId) → In w vs → In w ws) → length vs ≤ length ws
no_longer [] ws once among = omega arith
no_longer (v ∷ vs) ws once among =
    let r = without v ws (among v (inl refl)) in
    let rest : (w : WayId) → In w vs → In w r.0 =
    λ w i.
    elim (r.2 w (among w (inr i))) [
      | inl e ↦ absurd (once.0 (subst (λ u. In u vs) e i))
      | inr j ↦ j
    ]
    in
    let shorter = no_longer vs r.0 once.1 rest in
    let count = r.1 in
    omega arith

module _ (total : IsTotalOrder way_cmp) (touched near met led : List WayId)
    (near_up : IsTrue (rises way_cmp near)) (met_up : IsTrue (rises way_cmp met)) (led_up : IsTrue (rises way_cmp led))
    (met_apart : (w : WayId) → Contains met w → Contains near w → ⊥)
    (led_apart : (w : WayId) → Contains led w → (Contains near w → ⊥) × (Contains met w → ⊥))
    (near_in : (w : WayId) → Contains near w → Contains touched w)
    (met_in : (w : WayId) → Contains met w → Contains touched w)
    (led_in : (w : WayId) → Contains led w → Contains touched w) where
  all_once : Once (near ++ (met ++ led))
  all_once = once_joined near (met ++ led) (once_rising total near near_up)
      (once_joined met led (once_rising total met met_up) (once_rising total led led_up)
      (λ w i j. (led_apart w (contains_from_in led w j)).1 (contains_from_in met w i)))
      (λ w i j. elim (in_cases met led w j) [
        | inl ismet ↦ met_apart w (contains_from_in met w ismet) (contains_from_in near w i)
        | inr isled ↦ (led_apart w (contains_from_in led w isled)).0 (contains_from_in near w i)
      ])

  all_in : (w : WayId) → In w (near ++ (met ++ led)) → In w touched
  all_in w i = in_from_contains touched w (elim (in_cases near (met ++ led) w i) [
    | inl isnear ↦ near_in w (contains_from_in near w isnear)
    | inr j ↦ elim (in_cases met led w j) [
      | inl ismet ↦ met_in w (contains_from_in met w ismet)
      | inr isled ↦ led_in w (contains_from_in led w isled)
    ]
  ])

  pub no_more : length near + (length met + length led) ≤ length touched
  no_more =
      let most = no_longer (near ++ (met ++ led)) touched all_once all_in in
      let both : length (near ++ (met ++ led)) ≡ length near + length (met ++ led) = length-append near (met ++ led) in
      let rest : length (met ++ led) ≡ length met + length led = length-append met led in
      omega arith

-- ---- the ways whose blocks are built

module _ (M N : Objects) (close near : List WayId)
    (close_are : Lists (λ w. w) way_cmp (IsNearChange M N) close)
    (near_are : Lists (λ w. w) way_cmp (HereOrBeside N (Contains close)) near) where
  near_around : (w : WayId) → Contains near w → IsAround M N w
  near_around w i = elim (near_are.sound w i) [
    | inl here ↦ inl (inl (close_are.sound w here))
    | inr beside ↦ inr (beside.0, beside.1, inl (close_are.sound beside.0 beside.2))
  ]

  module _ (before first : WayId → List Piece) (met : List WayId) (met_are : AreMet N before first close near met)
    where
      met_around : (w : WayId) → Contains met w → IsAround M N w
      met_around w i = elim (met_are.exactly.sound w i).0 [
        | inl m ↦ inl (inr (m.0, m.1, close_are.sound m.0 (met_are.only m.0 m.2), m.3, m.4))
        | inr beside ↦
            let m = beside.2 in
            inr (
              beside.0,
              beside.1,
              inr (m.0, m.1, close_are.sound m.0 (met_are.only m.0 m.2), m.3, m.4),
            )
      ]

module _ (M N : Objects) (P : Rules) (stood : FinMap way_cmp Block) (before : List (WayId × Block)) (has : HasBlock M P)
    (kept : AreKept M P (block_at before stood))
    (led_stays : (w : WayId) (b : Block) (name : PieceName) (ns : List PieceName) (a : TurnArc) → IsAround M N w
    → IsBlock M P w b ⊎ IsBlock N P w b → ListsArc b.pieces name ns a → IsTouched M N a.piece.way) where
  -- where an arc leads to a way from a block of one around the change, that of before or that which was built
  pub led_from : (ways : List WayId) (now : List (WayId × Block)) → AreRebuilt N P ways before now
      → ((v : WayId) → Contains ways v → IsAround M N v) → (w : WayId)
      → IsLedFrom (pieces_at before stood) (pieces_at now stood) ways w → IsTouched M N w
  led_from ways now built around w (v, i, inl was) =
      let b = block_standing M P v (block_at before stood v) has (kept.blocks v) in
      let arc = subst (λ (ps : List Piece). ListArcTo ps w) b.2 was in
      subst (IsTouched M N) arc.4 (led_stays v b.0 arc.0 arc.1 arc.2 (around v i) (inl b.1) arc.3)
  led_from ways now built around w (v, i, inr is) =
      let b = built.built v i in
      let arc = subst (λ (ps : List Piece). ListArcTo ps w) (built_pieces N P before stood ways now built v i) is in
      subst (IsTouched M N) arc.4 (led_stays v b.0 arc.0 arc.1 arc.2 (around v i) (inr b.1.block) arc.3)

-- ---- how many are built

module _ (M N : Objects) (P : Rules) (close near met led : List WayId) (before first second : List (WayId × Block))
    (stood : FinMap way_cmp Block) (total : IsTotalOrder way_cmp) (has : HasBlock M P)
    (around : (w : WayId) → IsAround M N w → IsTouched M N w)
    (led_stays : (w : WayId) (b : Block) (name : PieceName) (ns : List PieceName) (a : TurnArc) → IsAround M N w
    → IsBlock M P w b ⊎ IsBlock N P w b → ListsArc b.pieces name ns a → IsTouched M N a.piece.way)
    (close_are : Lists (λ w. w) way_cmp (IsNearChange M N) close)
    (near_are : Lists (λ w. w) way_cmp (HereOrBeside N (Contains close)) near)
    (kept : AreKept M P (block_at before stood)) (touched : List WayId) (all : AreTouched M N touched) where
  near_up : IsTrue (rises way_cmp near)
  near_up = subst (λ l. IsTrue (rises way_cmp l)) (same near) near_are.ascending

  near_in : (w : WayId) → Contains near w → Contains touched w
  near_in w i = all.complete w (around w (near_around M N close near close_are near_are w i))

  -- those near the change
  pub few_near : length near ≤ length touched
  few_near =
      let most = no_more total touched near [] [] near_up refl refl (λ w i. absurd (contains_none w i))
      (λ w i. absurd (contains_none w i)) near_in (λ w i. absurd (contains_none w i))
      (λ w i. absurd (contains_none w i)) in
      omega arith

  module _ (met_are : AreMet N (pieces_at before stood) (pieces_at first stood) close near met) where
    met_up : IsTrue (rises way_cmp met)
    met_up = subst (λ l. IsTrue (rises way_cmp l)) (same met) met_are.exactly.ascending

    met_near : (w : WayId) → Contains met w → IsAround M N w
    met_near w i = met_around M N close near close_are near_are (pieces_at before stood) (pieces_at first stood) met
        met_are w i

    met_in : (w : WayId) → Contains met w → Contains touched w
    met_in w i = all.complete w (around w (met_near w i))

    met_apart : (w : WayId) → Contains met w → Contains near w → ⊥
    met_apart w i = (met_are.exactly.sound w i).1

    -- with those that meet one whose pieces are others
    pub few_met : length near + length met ≤ length touched
    few_met =
        let most = no_more total touched near met [] near_up met_up refl met_apart
        (λ w i. absurd (contains_none w i)) near_in met_in (λ w i. absurd (contains_none w i)) in
        omega arith

    module _ (near_built : AreRebuilt N P near before first) (met_built : AreRebuilt N P met before second)
        (led_up : IsTrue (rises way_cmp led))
        (led_apart : (w : WayId) → Contains led w → (Contains near w → ⊥) × (Contains met w → ⊥))
        (led_only : (w : WayId) → Contains led w
        → IsLedFrom (pieces_at before stood) (pieces_at first stood) near w
        ⊎ IsLedFrom (pieces_at before stood) (pieces_at second stood) met w) where
      led_in : (w : WayId) → Contains led w → Contains touched w
      led_in w i = all.complete w (elim (led_only w i) [
        | inl from ↦ led_from M N P stood before has kept led_stays near first near_built
            (near_around M N close near close_are near_are) w from
        | inr from ↦ led_from M N P stood before has kept led_stays met second met_built met_near w from
      ])

      -- and with those to which other arcs lead
      pub few_led : length near + (length met + length led) ≤ length touched
      few_led = no_more total touched near met led near_up met_up led_up met_apart led_apart near_in met_in led_in
