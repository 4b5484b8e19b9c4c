-- Blocks that were built again, and what stands then at each way.
use Rattle.std.proofs.Common.{◌≡◌, ◌⊎◌, inl, inr, Bool, true, false, cond, List, [], ◌∷◌, ◌++◌}
use Rattle.std.proofs.Common.{Option, Some, None, Contains, refl, sym, ap, subst, ◌∙◌}
use Rattle.std.specs.Prelude.{◌↔◌}
use Rattle.std.specs.Cmp.{IsTotalOrder, Equal-is}
use Rattle.std.specs.FinMap.{FinMap, IsAntisymmetric, get, find}
use Rattle.std.specs.Ordering.{is_eq, eq_by_cmp}
use Rattle.std.proofs.lemmas.Cmp.{tied_itself}
use Rattle.road_base.specs.declared.ids.WayId.{WayId}
use Rattle.road_base.specs.Objects.{Objects}
use Rattle.road_model.specs.declared.blocks.Block.{Block}
use Rattle.road_model.specs.declared.lists.Piece.{Piece}
use Rattle.road_model.specs.Rules.{Rules}
use Rattle.road_model.specs.Orders.{way_cmp}
use Rattle.road_model.specs.Blocks.{IsBlock, IsRoadBlock}
use Rattle.road_model.specs.Naming.{OneBlock}
use Rattle.road_model.specs.Format.{IsBlockForm}
use Rattle.change_apply.specs.Engines.{AreInForm, AreKept, IsBlockAt}
use Rattle.change_apply.specs.Rebuilding.{with_pieces, block_at, IsBuilt, IsRebuiltWith, AreRebuilt}
use Rattle.ordered_lists.proofs.ListMembers.{contains_from_in, in_from_contains, contains_head, contains_later}
use Rattle.ordered_lists.proofs.ListMembers.{contains_cases, contains_none, contains_more, in_left, in_right, in_cases}
use Rattle.ordered_lists.proofs.ListMembers.{in_end}

-- ---- whether two ways are one, and whether a way is in a list

pub itself : IsTotalOrder way_cmp → (w v : WayId) → w ≡ v → eq_by_cmp way_cmp w v ≡ true
itself total w v same = ap (λ x. eq_by_cmp way_cmp x v) same ∙ ap is_eq (tied_itself total v)

apart : (w v : WayId) → IsTotalOrder way_cmp → eq_by_cmp way_cmp w v ≡ false → w ≡ v → ⊥
apart w v total e same = let clash : true ≡ false = sym (itself total w v same) ∙ e in cc

module _ (total : IsTotalOrder way_cmp) (ties : IsAntisymmetric way_cmp) where
  same_by : (w v : WayId) (t : Bool) → eq_by_cmp way_cmp w v ≡ t → (w ≡ v) ⊎ (w ≡ v → ⊥)
  same_by w v true e = inl (ties w v ((Equal-is (way_cmp w v)).0 e))
  same_by w v false e = inr (apart w v total e)

  pub same_or_not : (w v : WayId) → (w ≡ v) ⊎ (w ≡ v → ⊥)
  same_or_not w v = same_by w v (eq_by_cmp way_cmp w v) refl

  other_by : (w v : WayId) (t : Bool) → eq_by_cmp way_cmp w v ≡ t → (w ≡ v → ⊥) → eq_by_cmp way_cmp w v ≡ false
  other_by w v true e other = absurd (other (ties w v ((Equal-is (way_cmp w v)).0 e)))
  other_by w v false e other = e

  pub other_way : (w v : WayId) → (w ≡ v → ⊥) → eq_by_cmp way_cmp w v ≡ false
  other_way w v other = other_by w v (eq_by_cmp way_cmp w v) refl other

  abbrev pub Listed : List WayId → WayId → Type 0
  Listed ways w = Contains ways w ⊎ (Contains ways w → ⊥)

  pub listed_or_not : (ways : List WayId) (w : WayId) → Listed ways w
  listed_or_not [] w = inr (contains_none w)
  listed_or_not (v ∷ ways) w = elim (same_or_not w v) [
    | inl same ↦ inl (subst (λ x. Contains (v ∷ ways) x) (sym same) (contains_head v ways))
    | inr other ↦ elim (listed_or_not ways w) [
      | inl has ↦ inl (contains_later v w ways has)
      | inr not ↦ inr (λ has. elim (contains_cases v w ways has) [ inl same ↦ other same | inr more ↦ not more ])
    ]
  ]

  -- ---- one block more

  module _ (M : Objects) (P : Rules) where
    pub rebuilt_with : (way : WayId) (b : Block) (before after : List (WayId × Block)) → IsBuilt M P way b
        → ((w : WayId) → find way_cmp w after ≡ cond (eq_by_cmp way_cmp w way) (Some b) (find way_cmp w before))
        → IsRebuiltWith M P way before after
    rebuilt_with way b before after is got = record { built = (b, is, here); stays = there }
      where
        here : find way_cmp way after ≡ Some b
        here = got way ∙ ap (λ t. cond t (Some b) (find way_cmp way before)) (itself total way way refl)

        there : (w : WayId) → (w ≡ way → ⊥) → find way_cmp w after ≡ find way_cmp w before
        there w other = got w ∙ ap (λ t. cond t (Some b) (find way_cmp w before)) (other_way w way other)

    pub none_rebuilt : (before after : List (WayId × Block)) → after ≡ before → AreRebuilt M P [] before after
    none_rebuilt before after same = record {
      built = λ w has. absurd (contains_none w has);
      stays = λ w not. ap (λ l. find way_cmp w l) same;
    }

    abbrev Built : WayId → List (WayId × Block) → Type 0
    Built w es = (b : Block) × IsBuilt M P w b × (find way_cmp w es ≡ Some b)

    in_more : (ways : List WayId) (way w : WayId) → Contains ways w → Contains (ways ++ way ∷ []) w
    in_more ways way w has =
        contains_from_in (ways ++ way ∷ []) w (in_left ways (way ∷ []) w (in_from_contains ways w has))

    at_end : (ways : List WayId) (way w : WayId) → w ≡ way → Contains (ways ++ way ∷ []) w
    at_end ways way w same = subst (λ x. Contains (ways ++ way ∷ []) x) (sym same)
        (contains_from_in (ways ++ way ∷ []) way (in_end ways way []))

    pub more_rebuilt : (ways : List WayId) (way : WayId) (before mid after : List (WayId × Block))
        → AreRebuilt M P ways before mid → IsRebuiltWith M P way mid after
        → AreRebuilt M P (ways ++ way ∷ []) before after
    more_rebuilt ways way before mid after all one = record { built = built; stays = stays }
      where
        here : (w : WayId) → w ≡ way → Built w after
        here w same = subst (λ x. Built x after) (sym same) one.built

        there : (w : WayId) → (w ≡ way → ⊥) → Built w mid → Built w after
        there w other is = (is.0, is.1, one.stays w other ∙ is.2)

        built : (w : WayId) → Contains (ways ++ way ∷ []) w → Built w after
        built w has = elim (same_or_not w way) [
          | inl same ↦ here w same
          | inr other ↦ elim (contains_more ways way w has)
              [ inl before ↦ there w other (all.built w before) | inr same ↦ here w same ]
        ]

        stays : (w : WayId) → (Contains (ways ++ way ∷ []) w → ⊥) → find way_cmp w after ≡ find way_cmp w before
        stays w not = one.stays w (λ same. not (at_end ways way w same))
            ∙ all.stays w (λ has. not (in_more ways way w has))

    -- some ways' blocks were built, and then those of others
    pub both_rebuilt : (near met : List WayId) (before first after : List (WayId × Block))
        → AreRebuilt M P near before first → AreRebuilt M P met first after → AreRebuilt M P (near ++ met) before after
    both_rebuilt near met before first after one two = record { built = built; stays = stays }
      where
        built : (w : WayId) → Contains (near ++ met) w → Built w after
        built w has = elim (listed_or_not met w) [
          | inl second ↦ two.built w second
          | inr not ↦ elim (in_cases near met w (in_from_contains (near ++ met) w has)) [
            | inl i ↦ let r = one.built w (contains_from_in near w i) in (r.0, r.1, two.stays w not ∙ r.2)
            | inr i ↦ absurd (not (contains_from_in met w i))
          ]
        ]

        stays : (w : WayId) → (Contains (near ++ met) w → ⊥) → find way_cmp w after ≡ find way_cmp w before
        stays w not = two.stays w (λ has. not (contains_from_in (near ++ met) w
            (in_right near met w (in_from_contains met w has))))
            ∙ one.stays w (λ has. not (contains_from_in (near ++ met) w
            (in_left near met w (in_from_contains near w has))))

-- ---- a block with pieces

pub pieces_of : (ps : List Piece) (b c : Block) → elim ps [ [] ↦ None | p ∷ qs ↦ Some b ] ≡ Some c
    → (b ≡ c) × (ps ≡ [] → ⊥)
pieces_of [] b c e = let gone : None ≡ Some c = e in absurd (cc)
pieces_of (p ∷ qs) b c e = let got : Some b ≡ Some c = e in (cc, λ none. cc)

pub some_pieces : (ps : List Piece) (b : Block) → (ps ≡ [] → ⊥) → elim ps [ [] ↦ None | p ∷ qs ↦ Some b ] ≡ Some b
some_pieces [] b some = absurd (some refl)
some_pieces (p ∷ qs) b some = refl

-- ---- what stands at a way

-- what was built stands there, if it has pieces
pub at_built : (rebuilt : List (WayId × Block)) (listed : FinMap way_cmp Block) (w : WayId) (b : Block)
    → find way_cmp w rebuilt ≡ Some b → block_at rebuilt listed w ≡ with_pieces b
at_built rebuilt listed w b found =
    ap (λ (o : Option Block). elim o [ None ↦ get listed w | Some x ↦ with_pieces x ]) found

-- where the same was built, the same stands there
pub at_other : (before after : List (WayId × Block)) (listed : FinMap way_cmp Block) (w : WayId)
    → find way_cmp w after ≡ find way_cmp w before → block_at after listed w ≡ block_at before listed w
at_other before after listed w same =
    ap (λ (o : Option Block). elim o [ None ↦ get listed w | Some x ↦ with_pieces x ]) same

module _ (M N : Objects) (P : Rules) (ways : List WayId) (before after : List (WayId × Block))
    (listed : FinMap way_cmp Block) (total : IsTotalOrder way_cmp) (ties : IsAntisymmetric way_cmp)
    (one : OneBlock N P) (stay : (w : WayId) → (Contains ways w → ⊥) → (b : Block) → IsBlock M P w b ↔ IsBlock N P w b)
    (rebuilt : AreRebuilt N P ways before after) where
  -- at a way whose block was built
  module _ (w : WayId) (b : Block) (is : IsBuilt N P w b) (found : find way_cmp w after ≡ Some b) where
    built_block : IsBlockAt N P w (with_pieces b)
    built_block c = (to, from)
      where
        to : with_pieces b ≡ Some c → (c.way ≡ w) × IsRoadBlock N P c
        to e =
            let r = pieces_of b.pieces b c e in
            let own : IsBlock N P b.way b = subst (λ v. IsBlock N P v b) (sym is.block.way) is.block in
            let road : IsRoadBlock N P b = record { block = own; some = r.1 } in
            subst (λ (x : Block). (x.way ≡ w) × IsRoadBlock N P x) r.0 (is.block.way, road)

        from : (c.way ≡ w) × IsRoadBlock N P c → with_pieces b ≡ Some c
        from r =
            let here : IsBlock N P w c = subst (λ v. IsBlock N P v c) r.0 r.1.block in
            let same : b ≡ c = one w b c is.block here in
            some_pieces b.pieces b (λ none. r.1.some (ap (λ x. x.pieces) (sym same) ∙ none)) ∙ ap Some same

    built_form : (c : Block) → with_pieces b ≡ Some c → IsBlockForm true c
    built_form c e =
        let r = pieces_of b.pieces b c e in
        let form : IsBlockForm true b = record { some = r.1; ascend = is.ascend; pieces = is.pieces } in
        subst (λ (x : Block). IsBlockForm true x) r.0 form

  -- at any other way
  other_block : (w : WayId) (at : Option Block) → ((b : Block) → IsBlock M P w b ↔ IsBlock N P w b)
      → IsBlockAt M P w at → IsBlockAt N P w at
  other_block w at same is c = (to, from)
    where
      to : at ≡ Some c → (c.way ≡ w) × IsRoadBlock N P c
      to e =
          let r = (is c).0 e in
          let here : IsBlock M P w c = subst (λ v. IsBlock M P v c) r.0 r.1.block in
          let there = (same c).0 here in
          (r.0, record { block = subst (λ v. IsBlock N P v c) (sym r.0) there; some = r.1.some })

      from : (c.way ≡ w) × IsRoadBlock N P c → at ≡ Some c
      from r =
          let there : IsBlock N P w c = subst (λ v. IsBlock N P v c) r.0 r.1.block in
          let here = (same c).1 there in
          (is c).1 (r.0, record { block = subst (λ v. IsBlock M P v c) (sym r.0) here; some = r.1.some })

  -- what stands at each way is its block behind the change, where it was before
  pub kept_behind : AreKept M P (block_at before listed) → AreKept N P (block_at after listed)
  kept_behind kept = record { blocks = blocks; forms = forms }
    where
      blocks : (w : WayId) → IsBlockAt N P w (block_at after listed w)
      blocks w = elim (listed_or_not total ties ways w) [
        | inl has ↦ let r = rebuilt.built w has in
            subst (λ (o : Option Block). IsBlockAt N P w o) (sym (at_built after listed w r.0 r.2))
            (built_block w r.0 r.1 r.2)
        | inr not ↦ subst (λ (o : Option Block). IsBlockAt N P w o)
            (sym (at_other before after listed w (rebuilt.stays w not)))
            (other_block w (block_at before listed w) (stay w not) (kept.blocks w))
      ]

      forms : AreInForm (block_at after listed)
      forms w c e = elim (listed_or_not total ties ways w) [
        | inl has ↦ let r = rebuilt.built w has in
            built_form w r.0 r.1 r.2 c (sym (at_built after listed w r.0 r.2) ∙ e)
        | inr not ↦ kept.forms w c (sym (at_other before after listed w (rebuilt.stays w not)) ∙ e)
      ]

-- ---- however they are held

-- what stands at each way stays what it is, however it is held
pub kept_as : (M : Objects) (P : Rules) (at bt : WayId → Option Block) → ((w : WayId) → bt w ≡ at w)
    → AreKept M P at → AreKept M P bt
kept_as M P at bt same kept = record {
  blocks = λ w. subst (λ (o : Option Block). IsBlockAt M P w o) (sym (same w)) (kept.blocks w);
  forms = λ w b e. kept.forms w b (sym (same w) ∙ e);
}
