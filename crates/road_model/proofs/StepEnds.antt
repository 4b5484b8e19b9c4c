-- A step that names a pair has both ends, and a step with an end names a pair.
use Rattle.std.proofs.Common.{◌≡◌, ℕ, ◌+◌, ◌<◌, cond, length, refl, ap, Bool, true, false, Option, Some, None, IsTrue}
use Rattle.std.proofs.lemmas.Bool.{false≢true, lt-ltb}
use Rattle.road_base.specs.declared.ids.NodeId.{NodeId}
use Rattle.road_base.specs.declared.ids.Step.{Step}
use Rattle.road_base.specs.Objects.{Objects}
use Rattle.road_model.specs.Rules.{Rules}
use Rattle.road_model.specs.Lines.{line_of, node_at, names_pair, end_at}
use Rattle.road_model.specs.Driving.{located, drivable}
use Rattle.road_model.proofs.Positions.{at_within}
use Rattle.road_model.proofs.OnePiece.{parts}

pub pair_named : (M : Objects) (s : Step) → s.index + 1 < length (line_of M s.way) → IsTrue (names_pair M s)
unfolding names_pair
pair_named M s l = lt-ltb _ _ l

-- where a step names a pair, the node at its end is the one at the position
pub named_end : (M : Objects) (s : Step) (i : ℕ) → IsTrue (names_pair M s) → end_at M s i ≡ node_at M s.way i
unfolding end_at
named_end M s i named = ap (λ b. cond b (node_at M s.way i) None) named

if_named : (b : Bool) (o : Option NodeId) (v : NodeId) → cond b o None ≡ Some v → IsTrue b × (o ≡ Some v)
if_named true o v e = (refl, e)
if_named false o v e = cc

-- a step that has an end names a pair, and the end is the node at the position
pub end_named : (M : Objects) (s : Step) (i : ℕ) (v : NodeId) → end_at M s i ≡ Some v
    → IsTrue (names_pair M s) × (node_at M s.way i ≡ Some v)
unfolding end_at
end_named M s i v e = if_named (names_pair M s) (node_at M s.way i) v e

pub some_located : (M : Objects) (o : Option NodeId) → IsTrue (located M o) → (v : NodeId) × (o ≡ Some v)
some_located M None h = absurd (false≢true h)
some_located M (Some v) h = (v, refl)

-- a step that may be driven names a pair
pub drives_named : (M : Objects) (P : Rules) (s : Step) → IsTrue (drivable M P s) → IsTrue (names_pair M s)
drives_named M P s d = let n = some_located M _ ((parts M P s.way s.dir s.index d).next) in
    pair_named M s (at_within M s.way (s.index + 1) n.0 n.1)
