-- Runs that are gone over side by side, from their lowest keys on.
use Rattle.std.specs.Prelude.{◌≡◌, ◌≢◌, ℕ, zero, suc, List, [], ◌∷◌, Option, Some, None, map, cond}
use Rattle.std.specs.Borrow.{Bor}
use Rattle.std.specs.Ordering.{eq_by_cmp, is_lt}
use Rattle.std.specs.declared.cmp.Ordering.{Ordering}
use Rattle.std.specs.declared.cmp.Ordering.TheVariants.{Less}
use Rattle.layered_maps.specs.declared.entry_run.Entry.{Entry}
use Rattle.layered_maps.specs.Layers.{pair, Rise}

-- the pairs of a run's entries
abbrev pub run_pairs : {K V : Type 0} → Bor (List (Entry K V)) → List (K × V)
run_pairs run = map pair run.now

-- all of them are in order
abbrev pub AllRise : {K V : Type 0} → (K → K → Ordering) → List (List (K × V)) → Type 0
AllRise R [] = Unit {0}
AllRise R (run ∷ runs) = Rise R run × AllRise R runs

-- the key of the first pair
abbrev pub first_key : {K V : Type 0} → List (K × V) → Option K
first_key [] = None
first_key (p ∷ pairs) = Some p.0

-- the run at a place, and no pairs where there is none
abbrev pub run_at : {A : Type 0} → ℕ → List (List A) → List A
run_at place [] = []
run_at zero (run ∷ runs) = run
run_at (suc place) (run ∷ runs) = run_at place runs

-- the lower one of both keys, where there are two, and of keys that tie the second one
abbrev pub lower_of : {K : Type 0} → (K → K → Ordering) → Option K → Option K → Option K
lower_of R None other = other
lower_of R (Some own) None = Some own
lower_of R (Some own) (Some other) = Some (cond (is_lt (R own other)) own other)

-- the value of the first pair, if it has the key
abbrev pub head_at : {K V : Type 0} → (K → K → Ordering) → K → List (K × V) → Option V
head_at R k [] = None
head_at R k (p ∷ pairs) = cond (eq_by_cmp R p.0 k) (Some p.1) None

-- that of the first run which begins with the key
abbrev pub first_at : {K V : Type 0} → (K → K → Ordering) → K → List (List (K × V)) → Option V
first_at R k [] = None
first_at R k (run ∷ runs) = elim (head_at R k run) [ None ↦ first_at R k runs | Some v ↦ Some v ]

-- the pairs without the first one, if it has the key
abbrev pub behind_key : {K V : Type 0} → (K → K → Ordering) → K → List (K × V) → List (K × V)
behind_key R k [] = []
behind_key R k (p ∷ pairs) = cond (eq_by_cmp R p.0 k) pairs (p ∷ pairs)

-- the first pair, with its key and the value, if that is told, is taken off
abbrev pub IsTaken : {K V : Type 0} → K → Option V → List (K × V) → List (K × V) → Type 0
IsTaken k None old new = ⊥
IsTaken k (Some v) old new = old ≡ (k, v) ∷ new

-- the key is the least of what has changed, and no value of a lower key stands in the floor
abbrev pub IsDue : {K V : Type 0} → (V → K) → (K → K → Ordering) → Option K → K → List V → Type 0
IsDue key R least k [] = least ≡ Some k
IsDue key R least k (v ∷ values) = (least ≡ Some k) × (R (key v) k ≢ Less)

-- the first value is taken off, if there is one
abbrev pub IsNext : {V : Type 0} → Option V → List V → List V → Type 0
IsNext None old new = (old ≡ []) × (new ≡ [])
IsNext (Some v) old new = old ≡ v ∷ new

-- nothing has changed, or a value of a lower key stands in the floor
abbrev pub IsNotDue : {K V : Type 0} → (V → K) → (K → K → Ordering) → Option K → List V → Type 0
IsNotDue key R None values = Unit {0}
IsNotDue key R (Some k) [] = ⊥
IsNotDue key R (Some k) (v ∷ values) = R (key v) k ≡ Less
