-- Blocks that stand one after another, and changes that leave them.
use Rattle.std.proofs.Common.{◌≡◌, inl, inr, Bool, true, false, cond, List, [], ◌∷◌, ◌++◌, map, IsTrue}
use Rattle.std.proofs.Common.{Option, Some, None, Contains, refl, sym, ap, subst, ◌∙◌}
use Rattle.std.specs.Prelude.{◌↔◌}
use Rattle.std.specs.Cmp.{IsTotalOrder, Equal-is}
use Rattle.std.specs.FinMap.{FinMap, IsAntisymmetric, entries, find, get, get-entries}
use Rattle.std.specs.FinMap.Entries.{below_all}
use Rattle.std.specs.Ordering.{eq_by_cmp, is_eq, is_lt}
use Rattle.std.specs.declared.cmp.Ordering.TheVariants.{Less, Equal}
use Rattle.std.proofs.lemmas.Bool.{and_from, and_parts}
use Rattle.road_base.specs.declared.ids.WayId.{WayId}
use Rattle.ordered_lists.specs.Orders.{rises}
use Rattle.ordered_lists.proofs.AscendingLists.{climbs, rises_again}
use Rattle.ordered_lists.proofs.Comparisons.{less, turned}
use Rattle.ordered_lists.proofs.ListMembers.{In, contains_from_in, in_from_contains, contains_more, contains_none}
use Rattle.ordered_lists.proofs.ListMembers.{from_map, in_end, in_left, push_cases}
use Rattle.road_model.specs.declared.blocks.Block.{Block}
use Rattle.road_model.specs.BlockMap.{entry_of}
use Rattle.road_model.specs.Orders.{way_cmp}
use Rattle.layered_maps.specs.Layers.{Rise}
use Rattle.layered_maps.specs.Maps.{over}
use Rattle.layered_maps.proofs.OverPairs.{find_over, settled}
use Rattle.change_apply.specs.Rebuilding.{block_at, over as built_over, way_of, with_fresh, with_pieces}
use Rattle.change_apply.proofs.FreshBlocks.{over_fresh, over_none}
use Rattle.change_apply.proofs.RebuiltBlocks.{at_built, at_other, itself, other_way, same_or_not}

-- ---- blocks one after another

-- each block of the list is what stands at its way
abbrev pub IsOf : (WayId → Option Block) → List Block → Type 0
IsOf at blocks = (b : Block) → Contains blocks b → at b.way ≡ Some b

-- the block, if it has pieces, stands at its way, and at all others what stood there
pub record IsPlaced (block : Block) (before after : WayId → Option Block) : Type 0 where
  pub own : after block.way ≡ with_pieces block
  pub others : (w : WayId) → (w ≡ block.way → ⊥) → after w ≡ before w

-- each of the blocks that has pieces stands at its way, and elsewhere what stood there
pub record ArePlaced (blocks : List Block) (before after : WayId → Option Block) : Type 0 where
  pub own : (at : WayId → Option Block) → IsOf at blocks → (b : Block) → Contains blocks b
      → after b.way ≡ with_pieces b
  pub others : (w : WayId) → ((b : Block) → Contains blocks b → b.way ≡ w → ⊥) → after w ≡ before w

pub none_placed : (at : WayId → Option Block) → ArePlaced [] at at
none_placed at = record { own = λ own are b has. absurd (contains_none b has); others = λ w not. refl }

-- what the front of a list contains, the list contains
in_front : (front : List Block) (x b : Block) → Contains front b → Contains (front ++ x ∷ []) b
in_front front x b has =
    contains_from_in (front ++ x ∷ []) b (in_left front (x ∷ []) b (in_from_contains front b has))

-- ---- what is found in entries stands among them

abbrev Found : WayId → List (WayId × Block) → Block → Type 0
Found w es b = (e : WayId × Block) × In e es × (way_cmp w e.0 ≡ Equal) × (e.1 ≡ b)

first_or_later : (w : WayId) (d : WayId × Block) (es : List (WayId × Block)) (b : Block) (t : Bool)
    → eq_by_cmp way_cmp w d.0 ≡ t → cond t (Some d.1) (find way_cmp w es) ≡ Some b
    → (find way_cmp w es ≡ Some b → Found w es b) → Found w (d ∷ es) b
first_or_later w d es b true tied is later = (d, inl refl, (Equal-is (way_cmp w d.0)).0 tied, (cc))
first_or_later w d es b false tied is later = let r = later is in (r.0, inr r.1, r.2, r.3)

found_in : (w : WayId) (es : List (WayId × Block)) (b : Block) → find way_cmp w es ≡ Some b → Found w es b
found_in w [] b got = cc
found_in w (d ∷ es) b got =
    first_or_later w d es b (eq_by_cmp way_cmp w d.0) refl got (λ is. found_in w es b is)

-- a block that a list's map has stands at its way
pub at_its_way : (m : FinMap way_cmp Block) → IsAntisymmetric way_cmp → (list : List Block) → entries m
    ≡ map entry_of list
    → (w : WayId) (b : Block) → get m w ≡ Some b → b.way ≡ w
at_its_way m ties list are w b got =
    let r = found_in w (map entry_of list) b (sym (get-entries m w ∙ ap (find way_cmp w) are) ∙ got) in
    let e = from_map entry_of list r.0 r.1 in
    let same : e.0 ≡ b = ap (λ (x : WayId × Block). x.1) (sym e.2) ∙ r.3 in
    sym (ties w r.0.0 r.2 ∙ ap (λ (x : WayId × Block). x.0) e.2 ∙ ap (λ (x : Block). x.way) same)

-- and is one of the list's
pub listed_at : (m : FinMap way_cmp Block) → IsAntisymmetric way_cmp → (list : List Block)
    → entries m ≡ map entry_of list → (w : WayId) (b : Block) → get m w ≡ Some b → Contains list b
listed_at m ties list are w b got =
    let r = found_in w (map entry_of list) b (sym (get-entries m w ∙ ap (find way_cmp w) are) ∙ got) in
    let e = from_map entry_of list r.0 r.1 in
    let same : e.0 ≡ b = ap (λ (x : WayId × Block). x.1) (sym e.2) ∙ r.3 in
    subst (Contains list) same (contains_from_in list e.0 e.1)

-- ---- pairs whose ways rise

abbrev pub Pairs : Type 0
Pairs = List (WayId × Option Block)

below_more : (k : WayId) (ps : Pairs) (p : WayId × Option Block) → IsTrue (below_all way_cmp k ps)
    → IsTrue (is_lt (way_cmp k p.0)) → IsTrue (below_all way_cmp k (ps ++ p ∷ []))
below_more k [] p h l = and_from _ _ l refl
below_more k (q ∷ ps) p h l = and_from _ _ (and_parts _ _ h).0 (below_more k ps p (and_parts _ _ h).1 l)

-- with a pair more that is above all of them they rise
rise_push : (ps : Pairs) (p : WayId × Option Block) → Rise way_cmp ps
    → ((q : WayId × Option Block) → In q ps → IsTrue (is_lt (way_cmp q.0 p.0))) → Rise way_cmp (ps ++ p ∷ [])
rise_push [] p up below = refl
rise_push (q ∷ ps) p up below =
    and_from _ _ (below_more q.0 ps p (and_parts _ _ up).0 (below q (inl refl)))
    (rise_push ps p (and_parts _ _ up).1 (λ r i. below r (inr i)))

-- the ways of the pairs are ways of the blocks
abbrev pub AreAmong : List Block → Pairs → Type 0
AreAmong blocks ps = (p : WayId × Option Block) → In p ps → (b : Block) × In b blocks × (b.way ≡ p.0)

module _ (total : IsTotalOrder way_cmp) (ties : IsAntisymmetric way_cmp) where
  -- what a list holds stands below the one behind it
  below_block : (front rest : List Block) (b : Block) → IsTrue (rises way_cmp (map way_of (front ++ b ∷ rest)))
      → (x : Block) → In x front → IsTrue (is_lt (way_cmp x.way b.way))
  below_block [] rest b up x i = absurd i
  below_block (y ∷ front) rest b up x (inl e) =
      subst (λ z. IsTrue (is_lt (way_cmp (way_of z) b.way))) (sym e)
      ((climbs way_of way_cmp total (y ∷ front ++ b ∷ rest) up).0 b (in_end front b rest))
  below_block (y ∷ front) rest b up x (inr i) = below_block front rest b (rest_up up) x i
    where
      rest_up : IsTrue (rises way_cmp (map way_of (y ∷ front ++ b ∷ rest)))
          → IsTrue (rises way_cmp (map way_of (front ++ b ∷ rest)))
      rest_up h = rises_again way_of way_cmp total (front ++ b ∷ rest)
          (climbs way_of way_cmp total (y ∷ front ++ b ∷ rest) h).1

  module _ (front rest : List Block) (b : Block) (ps : Pairs) (o : Option Block)
      (up : IsTrue (rises way_cmp (map way_of (front ++ b ∷ rest)))) (among : AreAmong front ps) where
    below_pair : (p : WayId × Option Block) → In p ps → IsTrue (is_lt (way_cmp p.0 b.way))
    below_pair p i = let r = among p i in
        subst (λ w. IsTrue (is_lt (way_cmp w b.way))) r.2 (below_block front rest b up r.0 r.1)

    -- a pair more behind them
    pub rise_more : Rise way_cmp ps → Rise way_cmp (ps ++ (b.way, o) ∷ [])
    rise_more r = rise_push ps (b.way, o) r below_pair

    pub among_more : AreAmong (front ++ b ∷ []) (ps ++ (b.way, o) ∷ [])
    among_more p i = elim (push_cases ps (b.way, o) p i) [
      | inl j ↦ let r = among p j in (r.0, in_left front (b ∷ []) r.0 r.1, r.2)
      | inr e ↦ (b, in_end front b [], ap (λ (x : WayId × Option Block). x.0) (sym e))
    ]

    -- none of them is at the way
    none_at : (qs : Pairs) → ((p : WayId × Option Block) → In p qs → IsTrue (is_lt (way_cmp p.0 b.way)))
        → find way_cmp b.way qs ≡ None
    none_at [] h = refl
    none_at (q ∷ qs) h =
        ap (λ r. cond (is_eq r) (Some q.1) (find way_cmp b.way qs))
        (turned way_cmp total q.0 b.way Less (less _ (h q (inl refl))))
        ∙ none_at qs (λ p i. h p (inr i))

    found_last : (qs : Pairs) → find way_cmp b.way qs ≡ None → find way_cmp b.way (qs ++ (b.way, o) ∷ []) ≡ Some o
    found_last [] none = ap (λ t. cond t (Some o) None) (itself total b.way b.way refl)
    found_last (q ∷ qs) none = by (eq_by_cmp way_cmp b.way q.0) none (λ n. found_last qs n)
      where
        by : (t : Bool) → cond t (Some q.1) (find way_cmp b.way qs) ≡ None
            → (find way_cmp b.way qs ≡ None → find way_cmp b.way (qs ++ (b.way, o) ∷ []) ≡ Some o)
            → cond t (Some q.1) (find way_cmp b.way (qs ++ (b.way, o) ∷ [])) ≡ Some o
        by true n f = cc
        by false n f = f n

    found_others : (w : WayId) → (w ≡ b.way → ⊥) → (qs : Pairs)
        → find way_cmp w (qs ++ (b.way, o) ∷ []) ≡ find way_cmp w qs
    found_others w other [] = ap (λ t. cond t (Some o) None) (other_way total ties w b.way other)
    found_others w other (q ∷ qs) = ap (cond (eq_by_cmp way_cmp w q.0) (Some q.1)) (found_others w other qs)

    -- the block's change leaves it
    pub placed_by : (before : List (WayId × Block)) → o ≡ with_pieces b
        → IsPlaced b (λ w. find way_cmp w (over way_cmp ps before))
        (λ w. find way_cmp w (over way_cmp (ps ++ (b.way, o) ∷ []) before))
    placed_by before is = record {
      own =
          find_over way_cmp total b.way (ps ++ (b.way, o) ∷ []) before
          ∙ ap (λ f. settled f (find way_cmp b.way before)) (found_last ps (none_at ps below_pair)) ∙ is;
      others = λ w other.
          find_over way_cmp total w (ps ++ (b.way, o) ∷ []) before
          ∙ ap (λ f. settled f (find way_cmp w before)) (found_others w other ps)
          ∙ sym (find_over way_cmp total w ps before);
    }

    -- where what stands is the block, nothing is to change
    pub placed_still : (before : List (WayId × Block)) → find way_cmp b.way before ≡ with_pieces b
        → IsPlaced b (λ w. find way_cmp w (over way_cmp ps before)) (λ w. find way_cmp w (over way_cmp ps before))
    placed_still before is = record {
      own =
          find_over way_cmp total b.way ps before
          ∙ ap (λ f. settled f (find way_cmp b.way before)) (none_at ps below_pair) ∙ is;
      others = λ w other. refl;
    }

    pub among_still : AreAmong (front ++ b ∷ []) ps
    among_still p i = let r = among p i in (r.0, in_left front (b ∷ []) r.0 r.1, r.2)

  -- ---- one block more, and all of a map

  last_in : (front : List Block) (block : Block) → Contains (front ++ block ∷ []) block
  last_in front block = contains_from_in (front ++ block ∷ []) block (in_end front block [])

  pub more_placed : (front : List Block) (block : Block) (before mid after : WayId → Option Block)
      → ArePlaced front before mid → IsPlaced block mid after → ArePlaced (front ++ block ∷ []) before after
  more_placed front block before mid after so_far one = record { own = own; others = others }
    where
      own : (at : WayId → Option Block) → IsOf at (front ++ block ∷ []) → (b : Block)
          → Contains (front ++ block ∷ []) b → after b.way ≡ with_pieces b
      own at are b has = elim (same_or_not total ties b.way block.way) [
        | inl same ↦
            let both : Some block ≡ Some b = sym (are block (last_in front block)) ∙ ap at (sym same) ∙ are b has in
            let one_block : block ≡ b = cc in
            subst (λ (x : Block). after x.way ≡ with_pieces x) one_block one.own
        | inr other ↦ elim (contains_more front block b has) [
          | inl more ↦
              one.others b.way other ∙ so_far.own at (λ x h. are x (in_front front block x h)) b more
          | inr last ↦ absurd (other (ap (λ (x : Block). x.way) last))
        ]
      ]

      others : (w : WayId) → ((b : Block) → Contains (front ++ block ∷ []) b → b.way ≡ w → ⊥) → after w ≡ before w
      others w not =
          one.others w (λ same. not block (last_in front block) (sym same))
          ∙ so_far.others w (λ b has. not b (in_front front block b has))

  -- the blocks of a map
  pub all_placed : (m : FinMap way_cmp Block) (list : List Block) → entries m ≡ map entry_of list
      → ((b : Block) → Contains list b ↔ (get m b.way ≡ Some b)) → (before after : WayId → Option Block)
      → ArePlaced list before after → (w : WayId) → after w ≡ with_fresh m before w
  all_placed m list are each before after placed w = by (get m w) refl
    where
      by : (o : Option Block) → get m w ≡ o
          → after w ≡ elim o [ None ↦ before w | Some b ↦ with_pieces b ]
      by None none = placed.others w (λ b has way.
          let got : None ≡ Some b = sym none ∙ subst (λ v. get m v ≡ Some b) way ((each b).0 has) in cc)
      by (Some b) got =
          let way = at_its_way m ties list are w b got in
          let has = (each b).1 (subst (λ v. get m v ≡ Some b) (sym way) got) in
          subst (λ v. after v ≡ with_pieces b) way (placed.own (get m) (λ x h. (each x).0 h) b has)

-- ---- fresh blocks over others

-- what stands where there are fresh blocks
pub at_fresh : (fresh : FinMap way_cmp Block) (rebuilt : List (WayId × Block)) (listed : FinMap way_cmp Block)
    (w : WayId) → with_fresh fresh (block_at rebuilt listed) w ≡ block_at (built_over fresh rebuilt) listed w
at_fresh fresh rebuilt listed w = by (get fresh w) refl
  where
    by : (o : Option Block) → get fresh w ≡ o
        → elim o [ None ↦ block_at rebuilt listed w | Some b ↦ with_pieces b ]
        ≡ block_at (built_over fresh rebuilt) listed w
    by None none = sym (at_other rebuilt (built_over fresh rebuilt) listed w (over_none fresh rebuilt w none))
    by (Some b) got = sym (at_built (built_over fresh rebuilt) listed w b (over_fresh fresh rebuilt w b got))

pub with_fresh_as : (fresh : FinMap way_cmp Block) (before after : WayId → Option Block) (w : WayId)
    → before w ≡ after w → with_fresh fresh before w ≡ with_fresh fresh after w
with_fresh_as fresh before after w same =
    ap (λ (o : Option Block). elim (get fresh w) [ None ↦ o | Some b ↦ with_pieces b ]) same
