-- Entries of a map in runs, of which the first ones stand in the place of the others.
use Rattle.std.specs.Prelude.{List, [], ◌∷◌, IsTrue, map}
use Rattle.std.specs.FinMap.{is_sorted, put}
use Rattle.std.specs.declared.cmp.Ordering.{Ordering}
use Rattle.std.specs.declared.rc.Rc.{Rc}
use Rattle.layered_maps.specs.declared.entry_run.Entry.{Entry}

abbrev pub pair : {K V : Type 0} → Entry K V → K × V
pair e = (e.key, e.value.value)

-- the keys strictly rise
abbrev pub Rise : {K V : Type 0} → (K → K → Ordering) → List (K × V) → Type 0
Rise R pairs = IsTrue (is_sorted R pairs)

-- the pairs with each of the others at its key, the first of them last
abbrev pub put_all : {K V : Type 0} → (K → K → Ordering) → List (K × V) → List (K × V) → List (K × V)
put_all R [] pairs = pairs
put_all R (p ∷ more) pairs = put R p.0 p.1 (put_all R more pairs)

-- the pairs of all runs: those of a run stand in the place of those behind it
abbrev pub laid : {K V : Type 0} → (K → K → Ordering) → List (List (K × V)) → List (K × V)
laid R [] = []
laid R (run ∷ runs) = put_all R run (laid R runs)

-- the values that are shared
abbrev pub values_of : {V Z : Type 0} → List (Rc V Z) → List V
values_of = map (λ v. v.value)
