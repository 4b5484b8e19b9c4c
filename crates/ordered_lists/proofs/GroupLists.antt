-- Groups that lie one behind the other in one list: which one stands where, and one more.
use Rattle.std.proofs.Common.{◌≡◌, ℕ, zero, suc, ◌-◌, ◌<◌, ◌≤◌, List, [], ◌∷◌, ◌++◌, length, get_or, take, drop, Some}
use Rattle.std.proofs.Common.{refl, sym, ap, ◌∙◌, arith, length-append, slice_get}
use Rattle.std.proofs.Math.Seq.{drop-append_seam, drop-length}
use Rattle.std.proofs.Common.{drop-drop}
use Rattle.std.proofs.lemmas.List.{take-append-drop, take-append-le, drop-append-le, length-drop, take_all}
use Rattle.std.specs.List.{flat_map}
use Rattle.ordered_lists.specs.Groups.{groups_of, AreEnds, start_at}

pub length_groups : {T : Type 0} (from : ℕ) (items : List T) (ends : List ℕ)
    → length (groups_of from items ends) ≡ length ends
length_groups from items [] = refl
length_groups from items (end ∷ ends) = ap suc (length_groups end items ends)

begins_behind : (from : ℕ) (ends : List ℕ) (place : ℕ) (d : ℕ) → place < length ends
    → start_at from ends (suc place) ≡ get_or ends place d
begins_behind from [] place d within = absurd (omega arith)
begins_behind from (end ∷ ends) zero d within = refl
begins_behind from (end ∷ ends) (suc place) d within = begins_behind end ends place d (omega arith)

-- behind the first place a group begins where the one before it ends
pub start_behind : (from : ℕ) (ends : List ℕ) (place before d : ℕ) → suc before ≡ place → place ≤ length ends
    → start_at from ends place ≡ get_or ends before d
start_behind from ends place before d next within =
    ap (λ n. start_at from ends n) (sym next) ∙ begins_behind from ends before d (omega arith)

from_within : {T : Type 0} (from : ℕ) (items : List T) (ends : List ℕ) → AreEnds from items ends → from ≤ length items
from_within from items [] are = omega arith
from_within from items (end ∷ ends) are = let later = from_within end items ends are.1 in omega (arith, are.0)

-- a group begins before it ends, and ends within the list
pub bounds : {T : Type 0} (from : ℕ) (items : List T) (ends : List ℕ) (place d : ℕ) → AreEnds from items ends
    → place < length ends → (start_at from ends place ≤ get_or ends place d) × (get_or ends place d ≤ length items)
bounds from items [] place d are within = absurd (omega arith)
bounds from items (end ∷ ends) zero d are within = (are.0, from_within end items ends are.1)
bounds from items (end ∷ ends) (suc place) d are within = bounds end items ends place d are.1 (omega arith)

pub group_at : {T : Type 0} (from : ℕ) (items : List T) (ends : List ℕ) (place d : ℕ) → place < length ends
    → slice_get (groups_of from items ends) place
    ≡ Some (take (get_or ends place d - start_at from ends place) (drop (start_at from ends place) items))
group_at from items [] place d within = absurd (omega arith)
group_at from items (end ∷ ends) zero d within = refl
group_at from items (end ∷ ends) (suc place) d within = group_at end items ends place d (omega arith)

-- the groups joined are what lies behind the place where the first one begins
pub groups_joined : {T : Type 0} (from : ℕ) (items : List T) (ends : List ℕ) → AreEnds from items ends
    → flat_map (λ group. group) (groups_of from items ends) ≡ drop from items
groups_joined from items [] are = sym (ap (λ n. drop n items) are ∙ drop-length items)
groups_joined from items (end ∷ ends) are =
    let after : drop end items ≡ drop (end - from) (drop from items)
    = ap (λ n. drop n items) (omega (arith, are.0)) ∙ sym (drop-drop (end - from) from items) in
    ap (λ l. take (end - from) (drop from items) ++ l) (groups_joined end items ends are.1 ∙ after)
    ∙ take-append-drop (end - from) (drop from items)

-- one group more
pub ends_more : {T : Type 0} (from : ℕ) (items group : List T) (ends : List ℕ) (end : ℕ) → AreEnds from items ends
    → end ≡ length (items ++ group) → AreEnds from (items ++ group) (ends ++ end ∷ [])
ends_more from items group [] end are is = (omega (arith, length-append items group), is)
ends_more from items group (next ∷ ends) end are is = (are.0, ends_more next items group ends end are.1 is)

part_kept : {T : Type 0} (items group : List T) (from end : ℕ) → from ≤ end → end ≤ length items
    → take (end - from) (drop from (items ++ group)) ≡ take (end - from) (drop from items)
part_kept items group from end rises within =
    ap (λ l. take (end - from) l) (drop-append-le from items group (omega arith))
    ∙ take-append-le (end - from) (drop from items) group (omega (arith, length-drop from items))

pub groups_more : {T : Type 0} (from : ℕ) (items group : List T) (ends : List ℕ) (end : ℕ) → AreEnds from items ends
    → end ≡ length (items ++ group) → groups_of from (items ++ group) (ends ++ end ∷ [])
    ≡ groups_of from items ends ++ group ∷ []
groups_more from items group [] end are is =
    let behind : drop from (items ++ group) ≡ group = ap (λ n. drop n (items ++ group)) are
    ∙ drop-append_seam items group in
    let count : end - from ≡ length group = omega (arith, length-append items group) in
    ap (λ l. l ∷ []) (ap (λ l. take (end - from) l) behind ∙ take_all (end - from) group (omega arith))
groups_more from items group (next ∷ ends) end are is =
    ap (λ l. l ∷ groups_of next (items ++ group) (ends ++ end ∷ []))
    (part_kept items group from next are.0 (from_within next items ends are.1))
    ∙ ap (λ l. take (next - from) (drop from items) ∷ l) (groups_more next items group ends end are.1 is)
