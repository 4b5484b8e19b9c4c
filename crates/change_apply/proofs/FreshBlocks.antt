-- Fresh blocks before those that were built since the others were listed.
use Rattle.std.proofs.Common.{◌≡◌, Bool, true, false, cond, List, [], ◌∷◌, ◌++◌, Option, Some, None, refl, sym, ap, ◌∙◌}
use Rattle.std.specs.Cmp.{IsTotalOrder}
use Rattle.std.specs.FinMap.{FinMap, empty, entries, find, get, insert, get-entries, get-insert, len-empty, len-entries}
use Rattle.std.specs.Ordering.{eq_by_cmp}
use Rattle.std.proofs.lemmas.List.{nil_from_length}
use Rattle.road_base.specs.declared.ids.WayId.{WayId}
use Rattle.road_model.specs.declared.blocks.Block.{Block}
use Rattle.road_model.specs.Orders.{way_cmp}
use Rattle.change_apply.specs.Rebuilding.{over}

-- the first one, and where there is none the second
abbrev pub or_else : Option Block → Option Block → Option Block
or_else first second = elim first [ None ↦ second | Some b ↦ Some b ]

-- what one list has of a way, and else what the other has
find_append : (w : WayId) (es fs : List (WayId × Block))
    → find way_cmp w (es ++ fs) ≡ or_else (find way_cmp w es) (find way_cmp w fs)
find_append w [] fs = refl
find_append w (e ∷ es) fs = by (eq_by_cmp way_cmp w e.0) (find_append w es fs)
  where
    by : (t : Bool) → find way_cmp w (es ++ fs) ≡ or_else (find way_cmp w es) (find way_cmp w fs)
        → cond t (Some e.1) (find way_cmp w (es ++ fs))
        ≡ or_else (cond t (Some e.1) (find way_cmp w es)) (find way_cmp w fs)
    by true rest = refl
    by false rest = rest

-- the fresh block of a way, and else what was built before
pub find_over : (fresh : FinMap way_cmp Block) (rebuilt : List (WayId × Block)) (w : WayId)
    → find way_cmp w (over fresh rebuilt) ≡ or_else (get fresh w) (find way_cmp w rebuilt)
find_over fresh rebuilt w =
    find_append w (entries fresh) rebuilt ∙ ap (λ o. or_else o (find way_cmp w rebuilt)) (sym (get-entries fresh w))

pub over_fresh : (fresh : FinMap way_cmp Block) (rebuilt : List (WayId × Block)) (w : WayId) (b : Block)
    → get fresh w ≡ Some b → find way_cmp w (over fresh rebuilt) ≡ Some b
over_fresh fresh rebuilt w b got =
    find_over fresh rebuilt w ∙ ap (λ o. or_else o (find way_cmp w rebuilt)) got

pub over_none : (fresh : FinMap way_cmp Block) (rebuilt : List (WayId × Block)) (w : WayId)
    → get fresh w ≡ None → find way_cmp w (over fresh rebuilt) ≡ find way_cmp w rebuilt
over_none fresh rebuilt w got =
    find_over fresh rebuilt w ∙ ap (λ o. or_else o (find way_cmp w rebuilt)) got

-- with no fresh blocks, what was built before
pub over_empty : (fresh : FinMap way_cmp Block) (rebuilt : List (WayId × Block)) → fresh ≡ empty
    → over fresh rebuilt ≡ rebuilt
over_empty fresh rebuilt bare =
    let none : entries (empty {X = Block} {R = way_cmp}) ≡ [] =
    nil_from_length _ (sym (len-entries empty) ∙ len-empty way_cmp Block) in
    ap (λ m. entries m ++ rebuilt) bare ∙ ap (λ es. es ++ rebuilt) none

-- with a fresh block more
pub over_insert : IsTotalOrder way_cmp → (fresh : FinMap way_cmp Block) (rebuilt : List (WayId × Block)) (way : WayId)
    (block : Block) (w : WayId) → find way_cmp w (over (insert fresh way block) rebuilt)
    ≡ cond (eq_by_cmp way_cmp w way) (Some block) (find way_cmp w (over fresh rebuilt))
over_insert total fresh rebuilt way block w =
    find_over (insert fresh way block) rebuilt w
    ∙ ap (λ o. or_else o (find way_cmp w rebuilt)) (get-insert total fresh way block w)
    ∙ by (eq_by_cmp way_cmp w way)
    ∙ ap (cond (eq_by_cmp way_cmp w way) (Some block)) (sym (find_over fresh rebuilt w))
  where
    by : (t : Bool) → or_else (cond t (Some block) (get fresh w)) (find way_cmp w rebuilt)
        ≡ cond t (Some block) (or_else (get fresh w) (find way_cmp w rebuilt))
    by true = refl
    by false = refl
