-- Steps that name no pair of a line, and steps that do.
use Rattle.std.proofs.Common.{◌≡◌, ℕ, ◌+◌, ◌<◌, ◌≤◌, ◌&&◌, nat_lt, Bool, true, false, IsTrue, length, slice_get, Option}
use Rattle.std.proofs.Common.{Some, None, cond, ◌⊎◌, inl, inr, refl, sym, ap, subst, ◌∙◌, arith}
use Rattle.std.proofs.lemmas.Bool.{false≢true}
use Rattle.std.specs.Ordering.{int_eq}
use Rattle.std.proofs.lemmas.Bool.Decides.{nat_tests, Decides-int_eq}
use Rattle.std.proofs.lemmas.Option.{slice_get_past}
use Rattle.road_base.specs.declared.ids.NodeId.{NodeId}
use Rattle.road_base.specs.declared.ids.Step.{Step}
use Rattle.road_base.specs.declared.ids.Dir.{Dir}
use Rattle.road_base.specs.declared.ids.Dir.TheVariants.{Forward, Backward}
use Rattle.road_base.specs.declared.ids.WayId.{WayId}
use Rattle.road_base.specs.declared.objects.Way.{Way}
use Rattle.road_base.specs.Objects.{Objects, way_of}
use Rattle.road_model.specs.Rules.{Rules}
use Rattle.road_model.specs.Lines.{changes, refs_of, line_of, names_pair, node_at, end_at, tail_of, head_of}
use Rattle.road_model.specs.Lines.{tail_position, head_position}
use Rattle.road_model.specs.Driving.{is_open, located, drivable, Leaves}

last_false : (a b : Bool) → (a && (b && false)) ≡ false
last_false true true = refl
last_false true false = refl
last_false false b = refl

past : (s : ℕ) (n : ℕ) → false ≡ nat_lt (s + 1) n → n ≤ s + 1
past s n not_below = grind (arith, nat_tests)

-- a step that names no pair can't be driven
pub undrivable : (M : Objects) (P : Rules) (s : Step) → false ≡ names_pair M s → false ≡ drivable M P s
unfolding drivable node_at names_pair
undrivable M P s unnamed =
    let none : slice_get (line_of M s.way) (s.index + 1)
    ≡ None = slice_get_past (line_of M s.way) (s.index + 1) (past s.index (length (line_of M s.way)) unnamed) in
    rw none (sym (last_false (is_open M P s.way s.dir) (located M (slice_get (line_of M s.way) s.index))))

true_of_not_false : (b : Bool) → ¬ (false ≡ b) → b ≡ true
true_of_not_false true h = refl
true_of_not_false false h = absurd (h refl)

-- a step that can be driven names a pair
pub named : (M : Objects) (P : Rules) (s : Step) → IsTrue (drivable M P s) → names_pair M s ≡ true
named M P s drives = true_of_not_false (names_pair M s) (λ unnamed. false≢true (undrivable M P s unnamed ∙ drives))

-- and lies on its way's line
pub drivable_within : (M : Objects) (P : Rules) (s : Step) → IsTrue (drivable M P s)
    → s.index + 1 < length (line_of M s.way)
unfolding names_pair
drivable_within M P s drives = let below = named M P s drives in grind (arith, nat_tests)

-- a way that isn't visible has no step that can be driven
pub no_way : (M : Objects) (P : Rules) (w : WayId) → None ≡ way_of M w → (u : Step) → u.way ≡ w
    → IsTrue (drivable M P u) → ⊥
unfolding line_of
no_way M P w hidden u on drives =
    let within : u.index + 1 < length (changes (refs_of (way_of M u.way))) = drivable_within M P u drives in
    let none : way_of M u.way ≡ None = ap (way_of M) on ∙ sym hidden in
    let empty : u.index + 1 < length (changes (refs_of None)) = subst
    (λ (o : Option Way). u.index + 1 < length (changes (refs_of o))) none within in
    omega arith

-- ---- where steps begin and end

at_named : (M : Objects) (s : Step) (i : ℕ) (v : NodeId) → names_pair M s ≡ true → node_at M s.way i ≡ Some v
    → end_at M s i ≡ Some v
unfolding end_at
at_named M s i v named there = ap (λ b. cond b (node_at M s.way i) None) named ∙ there

pub if_named : (b : Bool) (o : Option NodeId) (v : NodeId) → cond b o None ≡ Some v → o ≡ Some v
if_named true o v is = is
if_named false o v is = cc

-- a step that names no pair has no end
pub no_end : (M : Objects) (s : Step) (i : ℕ) → false ≡ names_pair M s → None ≡ end_at M s i
unfolding end_at
no_end M s i unnamed = ap (λ b. cond b (node_at M s.way i) None) unnamed

-- the ends of a step that names a pair, from the nodes there
pub ends_are : (M : Objects) (s : Step) (d : Dir) (a b : NodeId) → s.dir ≡ d → names_pair M s ≡ true
    → node_at M s.way (tail_position d s.index) ≡ Some a → node_at M s.way (head_position d s.index) ≡ Some b
    → (tail_of M s ≡ Some a) × (head_of M s ≡ Some b)
ends_are M s d a b is pair tail head = (
  subst (λ (e : Dir). end_at M s (tail_position e s.index) ≡ Some a) (sym is)
      (at_named M s (tail_position d s.index) a pair tail),
  subst (λ (e : Dir). end_at M s (head_position e s.index) ≡ Some b) (sym is)
      (at_named M s (head_position d s.index) b pair head),
)

-- the node where a step begins is one of the two at its positions
pub tail_between : (M : Objects) (s : Step) (a b t : NodeId) → node_at M s.way s.index ≡ Some a
    → node_at M s.way (s.index + 1) ≡ Some b
    → ((s.dir ≡ Forward) × (t ≡ a)) ⊎ ((s.dir ≡ Backward) × (t ≡ b))
    → node_at M s.way (tail_position s.dir s.index) ≡ Some t
tail_between M s a b t first second (inl (dir, is)) =
    subst (λ (d : Dir). node_at M s.way (tail_position d s.index) ≡ Some t) (sym dir) (first ∙ ap Some (sym is))
tail_between M s a b t first second (inr (dir, is)) =
    subst (λ (d : Dir). node_at M s.way (tail_position d s.index) ≡ Some t) (sym dir) (second ∙ ap Some (sym is))

same_node_id : (a b : NodeId) → a.0 ≡ b.0 → a ≡ b
same_node_id a b is = λ x. record { 0 = is x }

-- whether a step leaves the node where it begins, and another one
module _ (M : Objects) (P : Rules) (s : Step) (t v : NodeId)
    (there : node_at M s.way (tail_position s.dir s.index) ≡ Some t) where
  pub leaves_here : int_eq t.0 v.0 ≡ true → IsTrue (drivable M P s) → Leaves M P v s
  leaves_here same drives =
      let is : t ≡ v = same_node_id t v ((Decides-int_eq t.0 v.0).0 same) in
      let tail = at_named M s (tail_position s.dir s.index) t (named M P s drives) there in
      record { drives = drives; tail = tail ∙ ap Some is }

  pub leaves_no_other : int_eq t.0 v.0 ≡ false → Leaves M P v s → ⊥
  unfolding end_at
  leaves_no_other other goes =
      let tail = if_named (names_pair M s) (node_at M s.way (tail_position s.dir s.index)) v goes.tail in
      let is : t ≡ v = cc (there, tail) in
      false≢true (sym other ∙ (Decides-int_eq t.0 v.0).1 (ap (λ (n : NodeId). n.0) is))
