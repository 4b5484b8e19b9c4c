-- A line is no longer than the references.
use Rattle.std.proofs.Common.{◌≤◌, cond, List, [], ◌∷◌, length, Bool, true, false, arith}
use Rattle.road_base.specs.declared.ids.NodeId.{NodeId}
use Rattle.road_model.specs.Lines.{same_node, changes, changes_from}

short_either : (x y : NodeId) (xs : List NodeId) (b : Bool) → length (changes_from x xs) ≤ length xs
    → length (changes_from y xs) ≤ length xs → length (cond b (changes_from x xs) (y ∷ changes_from y xs)) ≤ length
    (y ∷ xs)
short_either x y xs true dropped kept = omega arith
short_either x y xs false dropped kept = omega arith

short_behind : (x : NodeId) (xs : List NodeId) → length (changes_from x xs) ≤ length xs
short_behind x [] = omega arith
short_behind x (y ∷ xs) = short_either x y xs (same_node x y) (short_behind x xs) (short_behind y xs)

pub short_line : (xs : List NodeId) → length (changes xs) ≤ length xs
short_line [] = omega arith
short_line (x ∷ xs) = let short = short_behind x xs in omega arith
