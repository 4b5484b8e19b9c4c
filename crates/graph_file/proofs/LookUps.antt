-- What a search by name finds in an ascending list, and the pieces of a graph by their names.
use Rattle.std.proofs.Common.{◌≡◌, ℕ, ◌<◌, List, length, map, inl, inr, refl, sym, ap, subst, ◌∙◌, arith, Some, IsTrue}
use Rattle.std.proofs.Common.{Contains, Ordering, Ok, Err, slice_index_or, Option, None, IfSome, IfNone, Bor}
use Rattle.std.proofs.Common.{[], ◌∷◌, ◌&&◌, Bool}
use Rattle.std.specs.Ordering.{is_lt, ordering_then}
use Rattle.std.specs.declared.cmp.Ordering.TheVariants.{Less, Equal, Greater}
use Rattle.std.specs.Cmp.{IsTotalOrder}
use Rattle.std.specs.FinMap.{get, IsAntisymmetric}
use Rattle.std.specs.Prelude.{option_copied}
use Rattle.std.specs.List.{AllWithin, AllByRecursion}
use Rattle.std.specs.List.Sorted.{IsBinarySearchResult}
use Rattle.std.proofs.lemmas.Bool.{cases_lt}
use Rattle.std.proofs.lemmas.Cmp.{tied_itself}
use Rattle.road_base.specs.declared.ids.WayId.{WayId}
use Rattle.road_model.specs.declared.lists.PieceName.{PieceName}
use Rattle.road_model.specs.declared.lists.Piece.{Piece}
use Rattle.road_model.specs.declared.blocks.Block.{Block}
use Rattle.ordered_lists.proofs.ListMembers.{all_at}
use Rattle.road_model.specs.declared.lists.Context.{Context}
use Rattle.road_model.specs.declared.lists.TurnArc.{TurnArc}
use Rattle.ordered_lists.specs.Orders.{rises, rises_from}
use Rattle.road_model.specs.Orders.{way_cmp, name_cmp}
use Rattle.road_model.specs.Format.{place_cmp}
use Rattle.road_model.proofs.TotalOrders.{way_cmp_total, name_cmp_total}
use Rattle.ordered_lists.proofs.SortedMaps.{map_of, get_member, search_found, search_below, search_behind}
use Rattle.graph_file.specs.GraphReading.{IsPieceAt, IsWayBlock}
use Rattle.graph_file.specs.LookUps.{AreOrdered, HasNamed, HasContextsOf, HasContextAt, HasArcsOf, HasSourcesAt}
use Rattle.graph_file.specs.LookUps.{HasSourcesOf}

module _ {A N : Type 0} (name : A → N) (R : N → N → Ordering) (total : IsTotalOrder R) where
  -- members of one name are one
  pub one_named : (xs : List A) → IsTrue (rises R (map name xs)) → (x y : A) → Contains xs x → Contains xs y
      → name x ≡ name y → x ≡ y
  one_named xs up x y i j e =
      let f : Some x ≡ Some y = sym (get_member name R total x xs up i) ∙ ap (get (map_of name R total xs)) e
      ∙ get_member name R total y xs up j in
      cc

  tied : (n : N) (x : A) (r : Ordering) → R (name x) n ≡ r → name x ≡ n → r ≡ Equal
  tied n x r h e = sym h ∙ subst (λ m. R m n ≡ Equal) (sym e) (tied_itself total n)

  missed_at : (n : N) (xs : List A) (i : ℕ) → AllWithin (λ x. R (name x) n ≡ Less) xs 0 i
      → AllWithin (λ x. R (name x) n ≡ Greater) xs i (length xs) → (j : ℕ) (x : A) → j < length xs
      → slice_index_or xs j x ≡ x → name x ≡ n → ⊥
  missed_at n xs i below behind j x within at e = elim (cases_lt j i) [
    | inl l ↦ let h : R (name x) n ≡ Less = subst (λ y. R (name y) n ≡ Less) at (below j x (omega arith) l) in
        let f = tied n x Less h e in cc
    | inr l ↦ let h : R (name x) n ≡ Greater = subst (λ y. R (name y) n ≡ Greater) at (behind j x l within) in
        let f = tied n x Greater h e in cc
  ]

  -- a search that finds nothing: nothing has the name
  pub missed : (n : N) (xs : List A) (i : ℕ) → IsTrue (rises R (map name xs))
      → IsBinarySearchResult (λ x. R (name x) n) xs (Err i) → (x : A) → Contains xs x → name x ≡ n → ⊥
  missed n xs i up h x has = missed_at n xs i (search_below name R total n xs (Err i) up h)
      (search_behind name R total n xs (Err i) up h) has.0 x has.1 has.2

  -- what stands at the place that a search finds has the name
  pub found : IsAntisymmetric R → (n : N) (xs : List A) (i : ℕ) (x : A) → x ≡ slice_index_or xs i x
      → IsBinarySearchResult (λ x. R (name x) n) xs (Ok i) → name x ≡ n
  found same n xs i x e h = ap name e ∙ search_found name R total same n xs (Ok i) h x

  -- what a search among members answers is the one of that name
  pub only_found : (xs : List A) → IsTrue (rises R (map name xs)) → (n : N) (r : Option (Bor A))
      → IfSome r (λ x. Contains xs x.now) → IfSome r (λ x. name x.now ≡ n)
      → IfNone r ((x : A) → Contains xs x → name x ≡ n → ⊥) → (x : A) → Contains xs x → name x ≡ n
      → option_copied r ≡ Some x
  only_found xs up n (Some y) among named none x has e = ap Some (one_named xs up y.now x among has (named ∙ sym e))
  only_found xs up n None among named none x has e = absurd (none x has e)

-- a piece is in the block of the way that its name says
pub named_way : (bs : List Block) → AreOrdered bs → (n : PieceName) (p : Piece) (h : HasNamed bs n p)
    → h.stands.block.way ≡ n.way
named_way bs ordered n p h =
    let s = h.stands in sym (ordered.ways s.block p s.in_file s.in_block) ∙ ap (λ m. m.way) h.named

-- the piece of that name is in the block of its way
pub in_block : (bs : List Block) → IsTrue (rises way_cmp (map (λ b. b.way) bs)) → AreOrdered bs → (n : PieceName)
    → (b : Block) → Contains bs b → b.way ≡ n.way → (p : Piece) → HasNamed bs n p → Contains b.pieces p
in_block bs up ordered n b has way p h =
    let s = h.stands in
    let e = named_way bs ordered n p h in
    let same : s.block ≡ b = one_named (λ (k : Block). k.way) way_cmp way_cmp_total bs up s.block b s.in_file has
    (e ∙ sym way) in
    subst (λ k. Contains k.pieces p) same s.in_block

pub only_named : (bs : List Block) → IsTrue (rises way_cmp (map (λ b. b.way) bs)) → AreOrdered bs → (n : PieceName)
    → (b : Block) → Contains bs b → b.way ≡ n.way → (ps : List Piece) → ps ≡ b.pieces → (r : Option (Bor Piece))
    → IfSome r (λ p. Contains ps p.now) → IfSome r (λ p. p.now.name ≡ n)
    → IfNone r ((p : Piece) → Contains ps p → p.name ≡ n → ⊥) → (p : Piece) → HasNamed bs n p
    → option_copied r ≡ Some p
only_named bs up ordered n b has way ps is r among named none p h =
    let l = λ (q : List Piece) (e : q ≡ b.pieces). subst (λ k. IsTrue (rises name_cmp (map (λ x. x.name) k))) (sym e)
    (ordered.ascend b has) in
    only_found (λ (x : Piece). x.name) name_cmp name_cmp_total ps (l ps is) n r among named none p
    (subst (λ k. Contains k p) (sym is) (in_block bs up ordered n b has way p h)) h.named

-- ---- pieces of one way ascend by name where they ascend by position and direction

level : (m n : PieceName) → m.way ≡ n.way → name_cmp m n ≡ place_cmp m n
level m n e =
    let t : way_cmp m.way n.way ≡ Equal = subst (λ w. way_cmp m.way w ≡ Equal) e (tied_itself way_cmp_total m.way) in
    ap (λ o. ordering_then o (place_cmp m n)) t

levels_from : (w : WayId) (n : PieceName) (ps : List Piece) → n.way ≡ w → AllByRecursion (λ p. p.name.way ≡ w) ps
    → rises_from name_cmp n (map (λ p. p.name) ps) ≡ rises_from place_cmp n (map (λ p. p.name) ps)
levels_from w n [] e all = refl
levels_from w n (p ∷ ps) e all =
    let a = level n p.name (e ∙ sym all.0) in
    let b = levels_from w p.name ps all.0 all.1 in
    λ i. is_lt (a i) && b i

levels : (w : WayId) (ps : List Piece) → AllByRecursion (λ p. p.name.way ≡ w) ps
    → rises name_cmp (map (λ p. p.name) ps) ≡ rises place_cmp (map (λ p. p.name) ps)
levels w [] all = refl
levels w (p ∷ ps) all = levels_from w p.name ps all.0 all.1

ways_at : (sourced : Bool) (w : WayId) (ps : List Piece) → AllByRecursion (IsPieceAt sourced w) ps
    → AllByRecursion (λ p. p.name.way ≡ w) ps
ways_at sourced w [] all = tt
ways_at sourced w (p ∷ ps) all = (all.0.way_is, ways_at sourced w ps all.1)

pub are_ordered : (sourced : Bool) (bs : List Block) → AllByRecursion (IsWayBlock sourced) bs → AreOrdered bs
are_ordered sourced bs all = record {
  ascend = λ b has.
      let is = all_at (IsWayBlock sourced) bs b all has in
      levels b.way b.pieces (ways_at sourced b.way b.pieces is.pieces) ∙ is.ascend;
  ways = λ b p has has_piece.
      let is = all_at (IsWayBlock sourced) bs b all has in
      (all_at (IsPieceAt sourced b.way) b.pieces p is.pieces has_piece).way_is;
}

-- what the one piece of a name has is the only thing that a piece of the name has
pub only_contexts : (bs : List Block) (n : PieceName) (q : Piece) → ((p : Piece) → HasNamed bs n p → Some q ≡ Some p)
    → (l : List Context) → HasContextsOf bs n l → Some q.contexts ≡ Some l
only_contexts bs n q only l h = let f = only h.piece h.has in
    let same : q ≡ h.piece = cc in
    ap (λ p. Some p.contexts) same ∙ ap Some h.contexts_are

pub only_arcs : (bs : List Block) (n : PieceName) (k : ℕ) (cs items : List Context) (r : Option (List TurnArc))
    → items ≡ cs → ((l : List Context) → HasContextsOf bs n l → Some cs ≡ Some l)
    → ((l : List TurnArc) → HasContextAt items k l → r ≡ Some l) → (l : List TurnArc) → HasArcsOf bs n k l → r ≡ Some l
only_arcs bs n k cs items r are only at l h = let f = only h.contexts h.has in
    let same : cs ≡ h.contexts = cc in
    at l (subst (λ v. HasContextAt v k l) (sym (are ∙ same)) h.at)

pub only_sources : (bs : List Block) (n : PieceName) (k : ℕ) (cs items : List Context)
    (r : Option (List (List PieceName))) → items ≡ cs
    → ((l : List Context) → HasContextsOf bs n l → Some cs ≡ Some l)
    → ((l : List (List PieceName)) → HasSourcesAt items k l → r ≡ Some l) → (l : List (List PieceName))
    → HasSourcesOf bs n k l → r ≡ Some l
only_sources bs n k cs items r are only at l h = let f = only h.contexts h.has in
    let same : cs ≡ h.contexts = cc in
    at l (subst (λ v. HasSourcesAt v k l) (sym (are ∙ same)) h.at)

pub not_none : {A : Type 0} (x : A) → ◌≡◌ {A = Option A} None (Some x) → ⊥
not_none x e = cc
