-- Blocks of two lists in one.
use Rattle.std.proofs.Common.{◌≡◌, ◌⊎◌, inl, inr, Bool, true, false, cond, List, [], ◌∷◌, ◌++◌, Option, Some, None}
use Rattle.std.proofs.Common.{Contains, map, refl, sym, ap, subst, ◌∙◌}
use Rattle.std.specs.Prelude.{◌↔◌}
use Rattle.std.specs.Cmp.{IsTotalOrder, Equal-is}
use Rattle.std.specs.List.Sorted.{IsPermutation}
use Rattle.std.specs.FinMap.{FinMap, IsAntisymmetric, empty, entries, find, get, get-empty, get-entries, get-insert}
use Rattle.std.specs.FinMap.{insert}
use Rattle.std.specs.Ordering.{eq_by_cmp}
use Rattle.std.proofs.lemmas.List.Sorted.{Contains-permutation, IsPermutation-sym}
use Rattle.road_base.specs.declared.ids.WayId.{WayId}
use Rattle.road_base.specs.Objects.{Objects}
use Rattle.road_model.specs.declared.blocks.Block.{Block}
use Rattle.road_model.specs.Rules.{Rules}
use Rattle.road_model.specs.BlockMap.{entry_of}
use Rattle.road_model.specs.Orders.{way_cmp}
use Rattle.change_apply.specs.Rebuilding.{AreRebuilt, IsBuilt, over}
use Rattle.ordered_lists.proofs.ListMembers.{contains_from_in, in_from_contains, contains_none, contains_more}
use Rattle.ordered_lists.proofs.ListMembers.{in_left, in_right, in_cases, in_end}
use Rattle.change_apply.proofs.ChangedBlocks.{at_its_way, listed_at}
use Rattle.change_apply.proofs.FreshBlocks.{over_fresh, over_none}
use Rattle.change_apply.proofs.RebuiltBlocks.{itself, listed_or_not}

-- ---- the blocks of a list

-- what stands at a way is a block of the list, and there is one at the way of each
pub record AreListed (blocks : List Block) (m : FinMap way_cmp Block) : Type 0 where
  pub sound : (w : WayId) (b : Block) → get m w ≡ Some b → Contains blocks b × (b.way ≡ w)
  pub complete : (b : Block) → Contains blocks b → get m b.way ≡ None → ⊥

pub none_listed : (m : FinMap way_cmp Block) → m ≡ empty → AreListed [] m
none_listed m bare = record {
  sound = λ w b got.
      let gone : None ≡ Some b = sym (ap (λ n. get n w) bare ∙ get-empty way_cmp w) ∙ got in absurd (cc);
  complete = λ b has. absurd (contains_none b has);
}

module _ (total : IsTotalOrder way_cmp) (ties : IsAntisymmetric way_cmp) (blocks : List Block) (block : Block)
    (m : FinMap way_cmp Block) (are : AreListed blocks m) where
  more_sound : (w : WayId) (b : Block) (t : Bool) → eq_by_cmp way_cmp w block.way ≡ t
      → cond t (Some block) (get m w) ≡ Some b → Contains (blocks ++ block ∷ []) b × (b.way ≡ w)
  more_sound w b true e got =
      let is : block ≡ b = let h : Some block ≡ Some b = got in cc in
      let way : w ≡ block.way = ties w block.way ((Equal-is (way_cmp w block.way)).0 e) in
      let last = contains_from_in (blocks ++ block ∷ []) block (in_end blocks block []) in
      (subst (Contains (blocks ++ block ∷ [])) is last, ap (λ x. x.way) (sym is) ∙ sym way)
  more_sound w b false e got =
      let r = are.sound w b got in
      (contains_from_in (blocks ++ block ∷ []) b (in_left blocks (block ∷ []) b (in_from_contains blocks b r.0)), r.1)

  some_left : (b : Block) (t : Bool) → (get m b.way ≡ None → ⊥) → cond t (Some block) (get m b.way) ≡ None → ⊥
  some_left b true some none = let clash : Some block ≡ None = none in cc
  some_left b false some none = some none

  -- one block more is put at its way
  pub more_listed : (n : FinMap way_cmp Block) → n ≡ insert m block.way block → AreListed (blocks ++ block ∷ []) n
  more_listed n put =
      let at : (w : WayId) → get n w ≡ cond (eq_by_cmp way_cmp w block.way) (Some block) (get m w) =
      λ w. ap (λ (x : FinMap way_cmp Block). get x w) put ∙ get-insert total m block.way block w in
      record {
        sound = λ w b got. more_sound w b (eq_by_cmp way_cmp w block.way) refl (sym (at w) ∙ got);
        complete = λ b has none. elim (contains_more blocks block b has) [
          | inl earlier ↦ some_left b (eq_by_cmp way_cmp b.way block.way) (are.complete b earlier)
              (sym (at b.way) ∙ none)
          | inr same ↦
              let test = itself total b.way block.way (ap (λ x. x.way) same) in
              let put : get n b.way ≡ Some block =
              at b.way ∙ ap (λ t. cond t (Some block) (get m b.way)) test in
              let clash : Some block ≡ None = sym put ∙ none in
              absurd (cc)
        ];
      }

-- ---- two lists in one

-- without blocks in the list none stands anywhere
pub no_block : (m : FinMap way_cmp Block) (list : List Block) → entries m ≡ map entry_of list → list ≡ [] → (w : WayId)
    → get m w ≡ None
no_block m list are none w = get-entries m w ∙ ap (find way_cmp w) (are ∙ ap (map entry_of) none)

pub joined_sound : (first second all : List Block) (a b j : FinMap way_cmp Block) → IsPermutation (first ++ second) all
    → ((x : Block) → Contains first x ↔ (get a x.way ≡ Some x))
    → ((x : Block) → Contains second x ↔ (get b x.way ≡ Some x))
    → ((w : WayId) (x : Block) → get j w ≡ Some x → Contains all x × (x.way ≡ w))
    → (w : WayId) (x : Block) → get j w ≡ Some x → (get a w ≡ Some x) ⊎ (get b w ≡ Some x)
joined_sound first second all a b j sorted one two sound w x got =
    let r = sound w x got in
    let has = Contains-permutation all (first ++ second) x (IsPermutation-sym (first ++ second) all sorted) r.0 in
    elim (in_cases first second x (in_from_contains (first ++ second) x has)) [
      | inl i ↦ inl (subst (λ v. get a v ≡ Some x) r.1 ((one x).0 (contains_from_in first x i)))
      | inr i ↦ inr (subst (λ v. get b v ≡ Some x) r.1 ((two x).0 (contains_from_in second x i)))
    ]

-- none stands at a way in one list where none stands in a map that has one at the way of each of its blocks
none_of : IsAntisymmetric way_cmp → (list : List Block) (m j : FinMap way_cmp Block) → entries m ≡ map entry_of list
    → ((x : Block) → Contains list x → get j x.way ≡ None → ⊥) → (w : WayId) → get j w ≡ None
    → (o : Option Block) → get m w ≡ o → get m w ≡ None
none_of ties list m j are complete w none None got = got
none_of ties list m j are complete w none (Some x) got =
    let way = at_its_way m ties list are w x got in
    absurd (complete x (listed_at m ties list are w x got) (ap (get j) way ∙ none))

pub joined_complete : IsAntisymmetric way_cmp → (first second all : List Block) (a b j : FinMap way_cmp Block)
    → IsPermutation (first ++ second) all → entries a ≡ map entry_of first → entries b ≡ map entry_of second
    → ((x : Block) → Contains all x → get j x.way ≡ None → ⊥)
    → (w : WayId) → get j w ≡ None → (get a w ≡ None) × (get b w ≡ None)
joined_complete ties first second all a b j sorted one two complete w none = (
  none_of ties first a j one (λ x has. complete x (Contains-permutation (first ++ second) all x sorted
      (contains_from_in (first ++ second) x (in_left first second x (in_from_contains first x has))))) w none (get a w)
      refl,
  none_of ties second b j two (λ x has. complete x (Contains-permutation (first ++ second) all x sorted
      (contains_from_in (first ++ second) x (in_right first second x (in_from_contains second x has))))) w none
      (get b w) refl,
)

-- ---- the blocks of some ways, and those of some more

module _ (total : IsTotalOrder way_cmp) (ties : IsAntisymmetric way_cmp) (N : Objects) (P : Rules) where
  -- where blocks were built for these ways alone, a block that stands is one of them
  fresh_built : (ways : List WayId) (m : FinMap way_cmp Block) → AreRebuilt N P ways [] (over m []) → (w : WayId)
      (b : Block) → get m w ≡ Some b → Contains ways w × IsBuilt N P w b
  fresh_built ways m built w b got = elim (listed_or_not total ties ways w) [
    | inl i ↦
        let r = built.built w i in
        let same : r.0 ≡ b = let h : Some r.0 ≡ Some b = sym r.2 ∙ over_fresh m [] w b got in cc in
        (i, subst (IsBuilt N P w) same r.1)
    | inr not ↦
        let none : None ≡ Some b = sym (built.stays w not) ∙ over_fresh m [] w b got in absurd (cc)
  ]

  -- and one stands at each of them
  fresh_some : (ways : List WayId) (m : FinMap way_cmp Block) → AreRebuilt N P ways [] (over m []) → (w : WayId)
      → Contains ways w → get m w ≡ None → ⊥
  fresh_some ways m built w i none =
      let r = built.built w i in let clash : None ≡ Some r.0 = sym (over_none m [] w none) ∙ r.2 in cc

  module _ (ways more : List WayId) (a b j : FinMap way_cmp Block) (before : List (WayId × Block))
      (one : AreRebuilt N P ways [] (over a [])) (two : AreRebuilt N P more [] (over b []))
      (sound : (w : WayId) (x : Block) → get j w ≡ Some x → (get a w ≡ Some x) ⊎ (get b w ≡ Some x))
      (complete : (w : WayId) → get j w ≡ None → (get a w ≡ None) × (get b w ≡ None)) where
    from_either : (w : WayId) (x : Block) → get j w ≡ Some x → Contains (ways ++ more) w × IsBuilt N P w x
    from_either w x got = elim (sound w x got) [
      | inl here ↦ let r = fresh_built ways a one w x here in
          (contains_from_in (ways ++ more) w (in_left ways more w (in_from_contains ways w r.0)), r.1)
      | inr here ↦ let r = fresh_built more b two w x here in
          (contains_from_in (ways ++ more) w (in_right ways more w (in_from_contains more w r.0)), r.1)
    ]

    not_none : (w : WayId) → Contains (ways ++ more) w → get j w ≡ None → ⊥
    not_none w has none = elim (in_cases ways more w (in_from_contains (ways ++ more) w has)) [
      | inl i ↦ fresh_some ways a one w (contains_from_in ways w i) (complete w none).0
      | inr i ↦ fresh_some more b two w (contains_from_in more w i) (complete w none).1
    ]

    built_by : (w : WayId) (o : Option Block) → get j w ≡ o → Contains (ways ++ more) w
        → (x : Block) × IsBuilt N P w x × (find way_cmp w (over j before) ≡ Some x)
    built_by w None got has = absurd (not_none w has got)
    built_by w (Some x) got has = (x, (from_either w x got).1, over_fresh j before w x got)

    stays_by : (w : WayId) (o : Option Block) → get j w ≡ o → (Contains (ways ++ more) w → ⊥)
        → find way_cmp w (over j before) ≡ find way_cmp w before
    stays_by w None got not = over_none j before w got
    stays_by w (Some x) got not = absurd (not (from_either w x got).0)

    -- with the blocks of both, those of all these ways were built
    pub joined_built : AreRebuilt N P (ways ++ more) before (over j before)
    joined_built = record {
      built = λ w has. built_by w (get j w) refl has;
      stays = λ w not. stays_by w (get j w) refl not;
    }
