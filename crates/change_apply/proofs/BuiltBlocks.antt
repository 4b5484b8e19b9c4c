-- The blocks of ways, one way after another.
use Rattle.std.proofs.Common.{◌≡◌, ◌≢◌, ℕ, ◌+◌, ◌≤◌, Bool, true, false, cond, List, [], ◌∷◌, ◌++◌, map, length}
use Rattle.std.proofs.Common.{Option, Some, None, Contains, inl, inr, refl, sym, ap, subst, ◌∙◌, arith}
use Rattle.std.specs.Prelude.{◌↔◌, IsTrue}
use Rattle.std.specs.List.{AllByRecursion}
use Rattle.std.specs.Bool.{◌==◌}
use Rattle.std.specs.Cmp.{IsTotalOrder, Equal-is}
use Rattle.std.specs.FinMap.{FinMap, IsAntisymmetric, empty, get, insert, get-insert, get-empty, values}
use Rattle.std.specs.Ordering.{is_eq, eq_by_cmp}
use Rattle.std.specs.declared.cmp.Ordering.TheVariants.{Equal}
use Rattle.std.proofs.lemmas.Bool.{false≢true}
use Rattle.std.proofs.lemmas.Bool.Decides.{nat_tests}
use Rattle.std.proofs.lemmas.Cmp.{tied_itself}
use Rattle.std.proofs.lemmas.List.{nil_from_length}
use Rattle.road_base.specs.declared.ids.WayId.{WayId}
use Rattle.road_base.specs.declared.event.Event.{Event}
use Rattle.road_base.specs.Objects.{Objects}
use Rattle.road_base.specs.Applying.{IsApplied}
use Rattle.road_model.specs.declared.blocks.Block.{Block}
use Rattle.road_model.specs.Rules.{Rules}
use Rattle.ordered_lists.specs.Orders.{Lists, rises}
use Rattle.road_model.specs.Orders.{way_cmp}
use Rattle.road_model.specs.Blocks.{IsBlock, IsRoadBlock}
use Rattle.road_model.specs.BlockMap.{AreBlocksOf}
use Rattle.road_model.specs.Highways.{AreRoadWays, highways}
use Rattle.road_model.specs.Naming.{OneBlock}
use Rattle.road_model.specs.Format.{IsBlockForm}
use Rattle.change_apply.specs.Engines.{AreBlocksAmong, AreInForm}
use Rattle.ordered_lists.proofs.ListMembers.{In, contains_from_in, in_from_contains, contains_more, in_left, in_end}

module _ (M : Objects) (P : Rules) where
  -- what is said of a block that stands at a way
  abbrev Stands : List WayId → WayId → Block → Type 0
  Stands ways w b = Contains ways w × (b.way ≡ w) × IsRoadBlock M P b

  among_more : (ways : List WayId) (w v : WayId) → Contains ways v → Contains (ways ++ w ∷ []) v
  among_more ways w v has = contains_from_in (ways ++ w ∷ []) v (in_left ways (w ∷ []) v (in_from_contains ways v has))

  -- the way's own block is the one that was built
  own_block : OneBlock M P → (w : WayId) (block : Block) → IsBlock M P w block
      → (b : Block) → b.way ≡ w → IsRoadBlock M P b → b ≡ block
  own_block one w block is b way road = one w b block (subst (λ v. IsBlock M P v b) way road.block) is

  -- a way without pieces changes nothing
  pub skipped : OneBlock M P → (ways : List WayId) (w : WayId) (block : Block) (m : FinMap way_cmp Block)
      → IsBlock M P w block → block.pieces ≡ [] → AreBlocksAmong M P ways m → AreBlocksAmong M P (ways ++ w ∷ []) m
  skipped one ways w block m is none has v b = (to, from)
    where
      to : get m v ≡ Some b → Stands (ways ++ w ∷ []) v b
      to got = let r = (has v b).0 got in (among_more ways w v r.0, r.1, r.2)

      from : Stands (ways ++ w ∷ []) v b → get m v ≡ Some b
      from r = elim (contains_more ways w v r.0) [
        | inl before ↦ (has v b).1 (before, r.1, r.2)
        | inr same ↦ absurd (r.2.some (ap (λ x. x.pieces) (own_block one w block is b (r.1 ∙ same) r.2) ∙ none))
      ]

  module _ (total : IsTotalOrder way_cmp) (ties : IsAntisymmetric way_cmp) (one : OneBlock M P)
      (ways : List WayId) (block : Block) (m : FinMap way_cmp Block)
      (is : IsBlock M P block.way block) (road : IsRoadBlock M P block) (has : AreBlocksAmong M P ways m) where
    abbrev Put : WayId → Block → Option Block → Type 0
    Put v b got = (got ≡ Some b) ↔ Stands (ways ++ block.way ∷ []) v b

    at_way : (v : WayId) (b : Block) → v ≡ block.way → Put v b (Some block)
    at_way v b same = (to, from)
      where
        listed : Contains (ways ++ block.way ∷ []) v
        listed = contains_from_in (ways ++ block.way ∷ []) v
            (subst (λ w. In w (ways ++ block.way ∷ [])) (sym same) (in_end ways block.way []))

        stands : block ≡ b → Stands (ways ++ block.way ∷ []) v b
        stands e = subst (λ x. Stands (ways ++ block.way ∷ []) v x) e (listed, sym same, road)

        to : Some block ≡ Some b → Stands (ways ++ block.way ∷ []) v b
        to e = stands (cc)

        from : Stands (ways ++ block.way ∷ []) v b → Some block ≡ Some b
        from r = ap Some (sym (own_block one block.way block is b (r.1 ∙ same) r.2))

    elsewhere : (v : WayId) (b : Block) → (v ≡ block.way → ⊥) → Put v b (get m v)
    elsewhere v b other = (to, from)
      where
        to : get m v ≡ Some b → Stands (ways ++ block.way ∷ []) v b
        to got = let r = (has v b).0 got in (among_more ways block.way v r.0, r.1, r.2)

        from : Stands (ways ++ block.way ∷ []) v b → get m v ≡ Some b
        from r = elim (contains_more ways block.way v r.0)
            [ inl before ↦ (has v b).1 (before, r.1, r.2) | inr same ↦ absurd (other same) ]

    apart : (v : WayId) → eq_by_cmp way_cmp v block.way ≡ false → v ≡ block.way → ⊥
    apart v e same =
        let tied : way_cmp v block.way ≡ Equal =
        ap (λ w. way_cmp w block.way) same ∙ tied_itself total block.way in
        false≢true (sym e ∙ ap is_eq tied)

    by_test : (v : WayId) (b : Block) (t : Bool) → eq_by_cmp way_cmp v block.way ≡ t
        → Put v b (cond t (Some block) (get m v))
    by_test v b true e = at_way v b (ties v block.way ((Equal-is (way_cmp v block.way)).0 e))
    by_test v b false e = elsewhere v b (apart v e)

    -- the block of one way more is put at its way
    pub added : AreBlocksAmong M P (ways ++ block.way ∷ []) (insert m block.way block)
    added v b = subst (λ got. Put v b got) (sym (get-insert total m block.way block v))
        (by_test v b (eq_by_cmp way_cmp v block.way) refl)

-- the block that is put has the form
pub in_form : IsTotalOrder way_cmp → (block : Block) (m : FinMap way_cmp Block) → IsBlockForm true block
    → AreInForm (get m)
    → AreInForm (get (insert m block.way block))
in_form total block m form all w b got =
    at (eq_by_cmp way_cmp w block.way) (sym (get-insert total m block.way block w) ∙ got)
  where
    at : (t : Bool) → cond t (Some block) (get m w) ≡ Some b → IsBlockForm true b
    at true e = let same : block ≡ b = cc in subst (λ x. IsBlockForm true x) same form
    at false e = all w b e

pub none_in_form : (m : FinMap way_cmp Block) → m ≡ empty → AreInForm (get m)
none_in_form m bare w b got =
    let gone : None ≡ Some b = sym (ap (λ n. get n w) bare ∙ get-empty way_cmp w) ∙ got in cc

-- the blocks of a list, which are all of the map
all_in_form : (m : FinMap way_cmp Block) (bs : List Block)
    → ((b : Block) → In b bs → get m b.way ≡ Some b) → AreInForm (get m) → AllByRecursion (IsBlockForm true) bs
all_in_form m [] each all = tt
all_in_form m (b ∷ bs) each all = (all b.way b (each b (inl refl)), all_in_form m bs (λ x i. each x (inr i)) all)

pub listed_forms : (m : FinMap way_cmp Block) → ((b : Block) → Contains (values m) b ↔ (get m b.way ≡ Some b))
    → AreInForm (get m) → AllByRecursion (IsBlockForm true) (values m)
listed_forms m each all = all_in_form m (values m) (λ b i. (each b).0 (contains_from_in (values m) b i)) all

-- in the order of their ways they are those of the graph
pub listed_blocks : (M : Objects) (P : Rules) (m : FinMap way_cmp Block)
    → IsTrue (rises way_cmp (map (λ b. b.way) (values m)))
    → ((b : Block) → Contains (values m) b ↔ (get m b.way ≡ Some b))
    → AreBlocksOf M P m → Lists (λ b. b.way) way_cmp (IsRoadBlock M P) (values m)
listed_blocks M P m up each all = record {
  ascending = up;
  sound = λ b has. ((all b.way b).0 ((each b).0 has)).1;
  complete = λ b road. (each b).1 ((all b.way b).1 (refl, road));
}

-- ---- lists that are empty or not

pub zero_by_test : (n : ℕ) (t : Bool) → t ≡ (n == 0) → t ≡ true → n ≡ 0
zero_by_test n t e h = grind (arith, nat_tests)

pub some_by_test_of : (n : ℕ) (t : Bool) → t ≡ (n == 0) → t ≡ false → n ≢ 0
some_by_test_of n t e h = λ z. absurd (grind (arith, nat_tests))

pub empty_by_test : {A : Type 0} (l : List A) (t : Bool) → t ≡ (length l == 0) → t ≡ true → l ≡ []
empty_by_test l t e h = nil_from_length l (zero_by_test (length l) t e h)

pub some_by_test : {A : Type 0} (l : List A) (t : Bool) → t ≡ (length l == 0) → t ≡ false → l ≡ [] → ⊥
some_by_test l t e h none = some_by_test_of (length l) t e h (ap length none)

-- ---- none, and all

pub none_among : (M : Objects) (P : Rules) (m : FinMap way_cmp Block) → m ≡ empty → AreBlocksAmong M P [] m
none_among M P m bare w b = (to, λ r. absurd (in_from_contains [] w r.0))
  where
    to : get m w ≡ Some b → Contains [] w × (b.way ≡ w) × IsRoadBlock M P b
    to got = let gone : None ≡ Some b = sym (ap (λ n. get n w) bare ∙ get-empty way_cmp w) ∙ got in cc

pub all_among : (M : Objects) (P : Rules) (ways : List WayId) (m : FinMap way_cmp Block)
    → AreRoadWays M P ways → AreBlocksAmong M P ways m → AreBlocksOf M P m
all_among M P ways m all has w b = (λ got. let r = (has w b).0 got in (r.1, r.2), from)
  where
    from : (b.way ≡ w) × IsRoadBlock M P b → get m w ≡ Some b
    from r = (has w b).1 (subst (λ v. Contains ways v) r.0 (all.all b r.1), r.0, r.1)

-- ---- how many

-- what events leave is one map, so its number of ways bounds what was built
pub few_built : (M : Objects) (events : List Event) (old new : ℕ)
    → ((A B : Objects) → IsApplied M events A → IsApplied M events B → A ≡ B)
    → (world : Objects) → IsApplied M events world → new ≤ old + length (highways world)
    → (objects : Objects) → IsApplied M events objects → new ≤ old + length (highways objects)
few_built M events old new one world applied few objects other =
    subst (λ (N : Objects). new ≤ old + length (highways N)) (one world objects applied other) few
