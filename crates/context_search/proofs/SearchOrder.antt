-- All contexts of a graph ascend by their names.
use Rattle.std.proofs.Common.{◌≡◌, List, [], ◌∷◌, ◌++◌, map, inl, inr, refl, sym, ap, subst, IsTrue, Ordering}
use Rattle.std.specs.declared.cmp.Ordering.TheVariants.{Less, Equal}
use Rattle.std.specs.Ordering.{is_lt, ordering_then}
use Rattle.std.specs.Cmp.{IsTotalOrder}
use Rattle.std.specs.List.{flat_map}
use Rattle.std.proofs.lemmas.Cmp.{tied_itself}
use Rattle.ordered_lists.proofs.ListMembers.{In, in_cases, from_map, from_flat}
use Rattle.ordered_lists.proofs.Comparisons.{less}
use Rattle.road_model.specs.declared.lists.PieceName.{PieceName}
use Rattle.road_model.specs.declared.lists.Context.{Context}
use Rattle.road_model.specs.declared.lists.Piece.{Piece}
use Rattle.road_model.specs.declared.blocks.Block.{Block}
use Rattle.ordered_lists.specs.Orders.{rises}
use Rattle.road_model.specs.Orders.{way_cmp, name_cmp, names_cmp}
use Rattle.ordered_lists.proofs.AscendingLists.{Climbs, Below, climbs, rises_again}
use Rattle.context_search.specs.Marks.{At, at_by, key_of, key_cmp, contexts_at, contexts_over, all_contexts}
use Rattle.road_model.proofs.TotalOrders.{less_first}
use Rattle.context_search.proofs.SearchKeys.{key_total}

abbrev Key : Type 0
Key = PieceName × List PieceName

-- ---- lists one behind the other

module _ {A N : Type 0} (name : A → N) (R : N → N → Ordering) (total : IsTotalOrder R) where
  climbs_joined : (xs ys : List A) → Climbs name R total xs → Climbs name R total ys
      → ((x y : A) → In x xs → In y ys → Below name R total x y) → Climbs name R total (xs ++ ys)
  climbs_joined [] ys c d up = d
  climbs_joined (x ∷ xs) ys c d up = (
    λ z i. elim (in_cases xs ys z i) [ inl h ↦ c.0 z h | inr h ↦ up x z (inl refl) h ],
    climbs_joined xs ys c.1 d (λ a b i j. up a b (inr i) j),
  )

module _ {A B N O : Type 0} (f : B → List A) (name : A → N) (R : N → N → Ordering) (total : IsTotalOrder R)
    (over : B → O) (S : O → O → Ordering) (totals : IsTotalOrder S) where
  climbs_flat : (bs : List B) → Climbs over S totals bs → ((b : B) → In b bs → Climbs name R total (f b))
      → ((b c : B) (x y : A) → In b bs → In c bs → Below over S totals b c → In x (f b) → In y (f c)
      → Below name R total x y)
      → Climbs name R total (flat_map f bs)
  climbs_flat [] up each apart = tt
  climbs_flat (b ∷ bs) up each apart = climbs_joined name R total (f b) (flat_map f bs) (each b (inl refl))
      (climbs_flat bs up.1 (λ c i. each c (inr i)) (λ c d x y i j. apart c d x y (inr i) (inr j)))
      (λ x y i j.
      let g = from_flat f bs y j in
      apart b g.0 x y (inl refl) (inr g.1) (up.0 g.0 g.1) i g.2)

module _ {A B N O : Type 0} (f : B → A) (name : A → N) (R : N → N → Ordering) (total : IsTotalOrder R)
    (over : B → O) (S : O → O → Ordering) (totals : IsTotalOrder S)
    (same : (b c : B) → Below over S totals b c → Below name R total (f b) (f c)) where
  climbs_map : (bs : List B) → Climbs over S totals bs → Climbs name R total (map f bs)
  climbs_map [] up = tt
  climbs_map (b ∷ bs) up = (
    λ y i. let g = from_map f bs y i in subst (λ z. Below name R total (f b) z) (sym g.2) (same b g.0 (up.0 g.0 g.1)),
    climbs_map bs up.1,
  )

-- ---- contexts

second_less : (r s : Ordering) → r ≡ Equal → s ≡ Less → IsTrue (is_lt (ordering_then r s))
second_less r s e f = rw (e, f) refl

module _ (ways : IsTotalOrder way_cmp) (names : IsTotalOrder name_cmp) (lists : IsTotalOrder names_cmp) where
  abbrev Rising : List At → Type 0
  Rising = Climbs key_of key_cmp (key_total names lists)

  by_piece : (x y : At) (p q : Piece) → x.piece ≡ p → y.piece ≡ q → IsTrue (is_lt (name_cmp p.name q.name))
      → IsTrue (is_lt (key_cmp (key_of x) (key_of y)))
  by_piece x y p q e f l =
      let h : name_cmp x.piece.name y.piece.name ≡ Less
      = subst (λ a. name_cmp a.name y.piece.name ≡ Less) (sym e)
      (subst (λ b. name_cmp p.name b.name ≡ Less) (sym f) (less _ l)) in
      less_first _ _ h

  piece_rises : (p : Piece) → IsTrue (rises names_cmp (map (λ c. c.before) p.contexts)) → Rising (contexts_at p)
  piece_rises p up = climbs_map (at_by p) key_of key_cmp (key_total names lists)
      (λ (c : Context). c.before) names_cmp lists
      (λ b c l. second_less _ _ (tied_itself names p.name) (less _ l)) p.contexts
      (climbs (λ (c : Context). c.before) names_cmp lists p.contexts up)

  of_piece : (p : Piece) (x : At) → In x (contexts_at p) → x.piece ≡ p
  of_piece p x i = let g = from_map (at_by p) p.contexts x i in ap (λ z. z.piece) g.2

  pieces_rise : (ps : List Piece) → IsTrue (rises name_cmp (map (λ p. p.name) ps))
      → ((p : Piece) → In p ps → IsTrue (rises names_cmp (map (λ c. c.before) p.contexts)))
      → Rising (contexts_over ps)
  pieces_rise ps up each = climbs_flat contexts_at key_of key_cmp (key_total names lists)
      (λ (p : Piece). p.name) name_cmp names ps (climbs (λ (p : Piece). p.name) name_cmp names ps up)
      (λ p i. piece_rises p (each p i))
      (λ p q x y i j l h k. by_piece x y p q (of_piece p x h) (of_piece q y k) l)

  piece_over : (ps : List Piece) (x : At) → In x (contexts_over ps) → In x.piece ps
  piece_over ps x i =
      let g = from_flat contexts_at ps x i in
      subst (λ p. In p ps) (sym (of_piece g.0 x g.2)) g.1

  -- the pieces of each block are of its way
  pub record AreOrdered (bs : List Block) : Type 0 where
    pub up : IsTrue (rises way_cmp (map (λ b. b.way) bs))
    pub pieces : (b : Block) → In b bs → IsTrue (rises name_cmp (map (λ p. p.name) b.pieces))
    pub of_way : (b : Block) (p : Piece) → In b bs → In p b.pieces → p.name.way ≡ b.way
    pub contexts : (b : Block) (p : Piece) → In b bs → In p b.pieces
        → IsTrue (rises names_cmp (map (λ c. c.before) p.contexts))

  by_way : (b c : Block) (p q : Piece) → p.name.way ≡ b.way → q.name.way ≡ c.way
      → IsTrue (is_lt (way_cmp b.way c.way)) → IsTrue (is_lt (name_cmp p.name q.name))
  by_way b c p q e f l =
      let h : way_cmp p.name.way q.name.way ≡ Less
      = subst (λ a. way_cmp a q.name.way ≡ Less) (sym e)
      (subst (λ a. way_cmp b.way a ≡ Less) (sym f) (less _ l)) in
      less_first _ _ h

  all_climb : (bs : List Block) → AreOrdered bs → Rising (all_contexts bs)
  all_climb bs o = climbs_flat (λ (b : Block). contexts_over b.pieces) key_of key_cmp (key_total names lists)
      (λ (b : Block). b.way) way_cmp ways bs (climbs (λ (b : Block). b.way) way_cmp ways bs o.up)
      (λ b i. pieces_rise b.pieces (o.pieces b i) (λ p j. o.contexts b p i j))
      (λ b c x y i j l h k.
      let p = piece_over b.pieces x h in
      let q = piece_over c.pieces y k in
      by_piece x y x.piece y.piece refl refl
      (by_way b c x.piece y.piece (o.of_way b x.piece i p) (o.of_way c y.piece j q) l))

  pub all_rise : (bs : List Block) → AreOrdered bs → IsTrue (rises key_cmp (map key_of (all_contexts bs)))
  all_rise bs o = rises_again key_of key_cmp (key_total names lists) (all_contexts bs) (all_climb bs o)
