-- The blocks that stand list the pieces of their ways behind a change: those of the ways that are far from it, and
-- those that were built.
use Rattle.std.proofs.Common.{◌≡◌, inl, inr, Bool, true, false, cond, List, [], Option, Some, None, Contains, refl}
use Rattle.std.proofs.Common.{sym, ap, subst, ◌∙◌}
use Rattle.std.specs.List.{list_any}
use Rattle.std.specs.Prelude.{◌↔◌, IsTrue}
use Rattle.std.specs.Cmp.{IsTotalOrder, Equal-is}
use Rattle.std.specs.FinMap.{FinMap, IsAntisymmetric, find, get}
use Rattle.std.specs.Ordering.{eq_by_cmp}
use Rattle.std.proofs.lemmas.Cmp.{eq_by_cmp_equiv}
use Rattle.std.proofs.lemmas.Map.Views.{list_any-from_Contains, Contains-from_any}
use Rattle.road_base.specs.declared.ids.WayId.{WayId}
use Rattle.road_base.specs.Objects.{Objects}
use Rattle.road_model.specs.declared.blocks.Block.{Block}
use Rattle.road_model.specs.Rules.{Rules}
use Rattle.road_model.specs.Orders.{way_cmp}
use Rattle.road_model.specs.Local.{IsSameWithin}
use Rattle.road_model.specs.Blocks.{IsBlock, ListsPieces}
use Rattle.way_pieces.specs.Known.{AreKnown}
use Rattle.change_apply.specs.Engines.{AreKept, IsBlockAt}
use Rattle.change_apply.specs.Rebuilding.{AreRebuilt}
use Rattle.change_apply.specs.Standing.{newest, newest_but}
use Rattle.change_apply.proofs.RebuiltBlocks.{listed_or_not}

-- ---- what is known of a way

-- the newest block of a way is known, unless the way is one of these
pub known_newest : IsAntisymmetric way_cmp → (ways : List WayId) (rebuilt : List (WayId × Block))
    (listed : FinMap way_cmp Block) (w : WayId) (r : Bool) → IsTrue r ↔ Contains ways w → r ≡ false
    → newest_but ways rebuilt listed w ≡ newest rebuilt listed w
known_newest ties ways rebuilt listed w r among fails = by (list_any (eq_by_cmp way_cmp w) ways) refl
  where
    by : (t : Bool) → list_any (eq_by_cmp way_cmp w) ways ≡ t
        → newest_but ways rebuilt listed w ≡ newest rebuilt listed w
    by true e =
        let has = Contains-from_any (λ x y same. ties x y ((Equal-is (way_cmp x y)).0 same)) w ways e in
        let clash : true ≡ false = sym (among.1 has) ∙ fails in
        absurd (cc)
    by false e = ap (λ t. cond t None (newest rebuilt listed w)) e

-- it is what was built, if it was, and else what stood before
pub newest_as : (rebuilt : List (WayId × Block)) (listed : FinMap way_cmp Block) (w : WayId) (o : Option Block)
    → find way_cmp w rebuilt ≡ o → newest rebuilt listed w ≡ elim o [ None ↦ get listed w | Some b ↦ Some b ]
newest_as rebuilt listed w o found =
    ap (λ (x : Option Block). elim x [ None ↦ get listed w | Some b ↦ Some b ]) found

-- ---- the blocks that stand before a step

-- what stands at a way is its block
stood : (M : Objects) (P : Rules) (w : WayId) (at : Option Block) (b : Block) → IsBlockAt M P w at → at ≡ Some b
    → IsBlock M P w b
stood M P w at b is e = let r = (is b).0 e in subst (λ v. IsBlock M P v b) r.0 r.1.block

module _ (M N : Objects) (P : Rules) (near : List WayId) (listed : FinMap way_cmp Block)
    (total : IsTotalOrder way_cmp)
    (far_lists : (w : WayId) (b : Block) → IsSameWithin 2 M N w → IsBlock M P w b → ListsPieces N P w b)
    (far : (w : WayId) → (Contains near w → ⊥) → IsSameWithin 2 M N w) (kept : AreKept M P (get listed)) where
  -- the block of a way far from the change lists its pieces behind the change
  far_known : (w : WayId) (b : Block) → (Contains near w → ⊥) → get listed w ≡ Some b → ListsPieces N P w b
  far_known w b not e = far_lists w b (far w not) (stood M P w (get listed w) b (kept.blocks w) e)

  but_near : (w : WayId) (b : Block) (t : Bool) → list_any (eq_by_cmp way_cmp w) near ≡ t
      → cond t None (get listed w) ≡ Some b → ListsPieces N P w b
  but_near w b true is e = let gone : None ≡ Some b = e in absurd (cc)
  but_near w b false is e = far_known w b (λ isnear.
      let clash : true ≡ false = sym (list_any-from_Contains (eq_by_cmp_equiv total) w near isnear) ∙ is in cc) e

  -- so do those that stand before the first step, but those of ways near the change
  pub known_before : AreKnown N P (newest_but near [] listed)
  known_before w b e = but_near w b (list_any (eq_by_cmp way_cmp w) near) refl e

  module _ (first : List (WayId × Block)) (ties : IsAntisymmetric way_cmp)
      (lists : (w : WayId) (b : Block) → IsBlock N P w b → ListsPieces N P w b)
      (built : AreRebuilt N P near [] first) where
    newest_built : (w : WayId) (b c : Block) → find way_cmp w first ≡ Some c → newest first listed w ≡ Some b → c ≡ b
    newest_built w b c found e =
        let got : Some c ≡ Some b = sym (newest_as first listed w (Some c) found) ∙ e in cc

    -- and all that stand behind the first step
    pub known_between : AreKnown N P (newest_but [] first listed)
    known_between w b e = elim (listed_or_not total ties near w) [
      | inl isnear ↦ let r = built.built w isnear in
          lists w b (subst (IsBlock N P w) (newest_built w b r.0 r.2 e) r.1.block)
      | inr not ↦ far_known w b not (sym (newest_as first listed w None (built.stays w not)) ∙ e)
    ]
