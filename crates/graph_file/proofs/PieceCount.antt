-- How many pieces the block of a way has at most.
use Rattle.std.proofs.Common.{◌≡◌, ℕ, ◌+◌, ◌*◌, ◌<◌, ◌≤◌, ◌⊎◌, inl, inr, Bool, true, IsTrue, List, [], ◌∷◌, length, map}
use Rattle.std.proofs.Common.{refl}
use Rattle.std.proofs.Common.{arith}
use Rattle.std.specs.List.{AllByRecursion}
use Rattle.std.specs.Ordering.{nat_cmp, is_lt, ordering_then}
use Rattle.std.specs.declared.cmp.Ordering.{Ordering}
use Rattle.std.specs.declared.cmp.Ordering.TheVariants.{Less, Equal, Greater}
use Rattle.std.specs.Cmp.{ranked, first_so, second_so}
use Rattle.road_base.specs.declared.ids.Dir.{Dir}
use Rattle.road_base.specs.declared.ids.Dir.TheVariants.{Forward, Backward}
use Rattle.road_model.specs.declared.lists.PieceName.{PieceName}
use Rattle.road_model.specs.declared.lists.Piece.{Piece}
use Rattle.ordered_lists.specs.Orders.{rises, rises_from}
use Rattle.road_model.specs.Orders.{dir_cmp}
use Rattle.road_model.specs.Format.{place_cmp, IsPieceForm}

dir_rank : Dir → ℕ
dir_rank Forward = 0
dir_rank Backward = 1

-- twice the position, and one more for backward: it rises with the place of a piece in its block
rank : PieceName → ℕ
rank n = 2 * n.index + dir_rank n.dir

dir_rank_small : (d : Dir) → dir_rank d ≤ 1
unfolding dir_rank
dir_rank_small Forward = omega arith
dir_rank_small Backward = omega arith

dir_rank_rises : (c d : Dir) → is_lt (dir_cmp c d) ≡ true → dir_rank c < dir_rank d
unfolding dir_rank
dir_rank_rises Forward Forward up = cc
dir_rank_rises Forward Backward up = omega arith
dir_rank_rises Backward Forward up = cc
dir_rank_rises Backward Backward up = cc

lower_or_level : (i j : ℕ) (r s : Ordering) → r ≡ nat_cmp i j → is_lt (ordering_then r s) ≡ true
    → (i < j) ⊎ ((i ≡ j) × (is_lt s ≡ true))
lower_or_level i j Less s is up = inl (ranked i j Less is)
lower_or_level i j Equal s is up = inr (ranked i j Equal is, up)
lower_or_level i j Greater s is up = cc

rank_rises : (m n : PieceName) → is_lt (place_cmp m n) ≡ true → rank m < rank n
unfolding rank
rank_rises m n up =
    let first : dir_rank m.dir ≤ 1 = dir_rank_small m.dir in
    elim (lower_or_level m.index n.index (nat_cmp m.index n.index) (dir_cmp m.dir n.dir) refl up) [
      | inl lower ↦ omega arith
      | inr level ↦ let above : dir_rank m.dir < dir_rank n.dir = dir_rank_rises m.dir n.dir level.1
          in let same : m.index ≡ n.index = level.0 in omega arith
    ]

-- a position of a piece lies below 65,534
rank_small : (sourced : Bool) (p : Piece) → IsPieceForm sourced p → rank p.name ≤ 131067
unfolding rank
rank_small sourced p form =
    let low : p.name.index < p.end = form.ascends in
    let high : p.end ≤ 65534 = form.bounded in
    let one : dir_rank p.name.dir ≤ 1 = dir_rank_small p.name.dir in
    omega arith

few_above : (sourced : Bool) (n : PieceName) (ps : List Piece) → rank n ≤ 131067
    → IsTrue (rises_from place_cmp n (map (λ p. p.name) ps)) → AllByRecursion (IsPieceForm sourced) ps
    → rank n + length ps ≤ 131067
few_above sourced n [] small up forms = omega arith
few_above sourced n (p ∷ ps) small up forms =
    let next : rank n < rank p.name = rank_rises n p.name (first_so _ _ up) in
    let rest : rank p.name + length ps ≤ 131067 = few_above sourced p.name ps (rank_small sourced p forms.0)
    (second_so _ _ up) forms.1 in
    omega arith

-- pieces that ascend by position and direction are at most twice as many as there are positions
pub few_pieces : (sourced : Bool) (ps : List Piece) → IsTrue (rises place_cmp (map (λ p. p.name) ps))
    → AllByRecursion (IsPieceForm sourced) ps → length ps ≤ 131068
few_pieces sourced [] up forms = omega arith
few_pieces sourced (p ∷ ps) up forms =
    let rest : rank p.name + length ps ≤ 131067 = few_above sourced p.name ps (rank_small sourced p forms.0) up
    forms.1 in
    omega arith
