-- A road refers to the nodes that its line passes.
use Rattle.std.proofs.Common.{◌≡◌, ℕ, zero, suc, cond, List, [], ◌∷◌, slice_get, Option, Some, None, Bool, true, false}
use Rattle.std.proofs.Common.{IsTrue, Contains, inl, inr, refl, sym, ap, subst, ◌∙◌, ◌≤◌, arith}
use Rattle.std.proofs.lemmas.Bool.{and_parts, or_cases, false≢true}
use Rattle.road_base.specs.declared.ids.NodeId.{NodeId}
use Rattle.road_base.specs.declared.ids.WayId.{WayId}
use Rattle.road_base.specs.declared.ids.Step.{Step}
use Rattle.road_base.specs.declared.ids.Dir.{Dir}
use Rattle.road_base.specs.declared.ids.Dir.TheVariants.{Forward, Backward}
use Rattle.road_base.specs.declared.objects.Way.{Way}
use Rattle.road_base.specs.Objects.{Objects, way_of}
use Rattle.road_base.specs.Tags.{TagList}
use Rattle.road_model.specs.Rules.{Rules, is_free, has_highway}
use Rattle.road_model.specs.Lines.{same_node, changes, changes_from, refs_of, line_of, node_at, tail_position}
use Rattle.road_model.specs.Driving.{open_way, is_open, is_road, drivable, Leaves}
use Rattle.road_model.specs.Links.{RefersTo}
use Rattle.road_model.specs.declared.blocks.Block.{Block}
use Rattle.road_model.specs.declared.lists.Piece.{Piece}
use Rattle.road_model.specs.Blocks.{IsRoadBlock}
use Rattle.road_model.specs.Highways.{IsHighway}
use Rattle.ordered_lists.proofs.ListMembers.{contains_from_in}
use Rattle.road_model.proofs.StepEnds.{end_named}

later : (x y : NodeId) (xs : List NodeId) → Contains xs y → Contains (x ∷ xs) y
later x y xs (k, within, is) = (suc k, omega arith, is)

on_either : (x y v : NodeId) (ys : List NodeId) (k : ℕ) (same : Bool)
    → ((k : ℕ) → slice_get (changes_from x ys) k ≡ Some v → Contains ys v)
    → ((k : ℕ) → slice_get (changes_from y ys) k ≡ Some v → Contains ys v)
    → slice_get (cond same (changes_from x ys) (y ∷ changes_from y ys)) k ≡ Some v → Contains (y ∷ ys) v
on_either x y v ys k true dropped kept found = later y v ys (dropped k found)
on_either x y v ys zero false dropped kept found = (0, omega arith, (cc))
on_either x y v ys (suc k) false dropped kept found = later y v ys (kept k found)

among_behind : (x v : NodeId) (ys : List NodeId) (k : ℕ) → slice_get (changes_from x ys) k ≡ Some v → Contains ys v
among_behind x v [] k found = cc
among_behind x v (y ∷ ys) k found = on_either x y v ys k (same_node x y) (among_behind x v ys) (among_behind y v ys)
    found

-- what stands on a line stands among the references that make it
among_refs : (v : NodeId) (xs : List NodeId) (k : ℕ) → slice_get (changes xs) k ≡ Some v → Contains xs v
among_refs v [] k found = cc
among_refs v (x ∷ xs) zero found = (0, omega arith, (cc))
among_refs v (x ∷ xs) (suc k) found = later x v xs (among_behind x v xs k found)

passed_among : (M : Objects) (w : WayId) (body : Way) (i : ℕ) (v : NodeId) → way_of M w ≡ Some body
    → node_at M w i ≡ Some v → Contains body.refs v
unfolding node_at line_of
passed_among M w body i v visible at =
    let line : changes (refs_of (way_of M w))
    ≡ changes body.refs = ap (λ (o : Option Way). changes (refs_of o)) visible in
    among_refs v body.refs i (ap (λ (xs : List NodeId). slice_get xs i) (sym line) ∙ at)

-- an open way is visible, and free in the direction
opened : (P : Rules) (way : Option Way) (d : Dir) → open_way P way d ≡ true
    → (body : Way) × ((way ≡ Some body) × (is_free (P.direction body.tags d) ≡ true))
opened P None d is = absurd (false≢true is)
opened P (Some body) d is = (body, (refl, is))

module _ (M : Objects) (P : Rules) (needs : (tags : TagList) (d : Dir) → IsTrue (is_free (P.direction tags d))
    → IsTrue (has_highway tags)) where
  open_refers : (w : WayId) (d : Dir) (i : ℕ) (v : NodeId) → is_open M P w d ≡ true → node_at M w i ≡ Some v
      → RefersTo M w v
  unfolding is_open
  open_refers w d i v is at =
      let way = opened P (way_of M w) d is in
      record {
        body = way.0;
        is = way.1.0;
        highway = needs (way.0).tags d way.1.1;
        member = passed_among M w way.0 i v way.1.0 at;
      }

  pub road_refers : (w : WayId) (i : ℕ) (v : NodeId) → IsTrue (is_road M P w) → node_at M w i ≡ Some v → RefersTo M w v
  road_refers w i v road at = elim (or_cases _ _ road)
      [ inl a ↦ open_refers w Forward i v a at | inr b ↦ open_refers w Backward i v b at ]

  pub step_refers : (v : NodeId) (u : Step) → Leaves M P v u → RefersTo M u.way v
  unfolding drivable
  step_refers v u goes = let parts = and_parts _ _ goes.drives in
      open_refers u.way u.dir (tail_position u.dir u.index) v parts.0
      (end_named M u (tail_position u.dir u.index) v goes.tail).1

  open_highway : (w : WayId) (d : Dir) → is_open M P w d ≡ true → IsHighway M w
  unfolding is_open
  open_highway w d is =
      let way = opened P (way_of M w) d is in
      record { body = way.0; visible = way.1.0; tagged = needs (way.0).tags d way.1.1 }

  drivable_highway : (s : Step) → IsTrue (drivable M P s) → IsHighway M s.way
  unfolding drivable
  drivable_highway s drives = open_highway s.way s.dir (and_parts _ _ drives).0

  among_pieces : (b : Block) (ps : List Piece) → b.pieces ≡ ps → IsRoadBlock M P b → IsHighway M b.way
  among_pieces b [] none road = absurd (road.some none)
  among_pieces b (e ∷ rest) is road =
      let first = contains_from_in (e ∷ rest) e (inl refl) in
      let entry = road.block.pieces.sound e (subst (λ ps. Contains ps e) (sym is) first) in
      let piece = entry.piece in
      let low : piece.index ≤ piece.index = omega arith in
      let step : Step = record { way = piece.way; index = piece.index; dir = piece.dir } in
      subst (λ w. IsHighway M w) entry.of
      (drivable_highway step (entry.is.drives piece.index low entry.is.ascends))

  pub block_highway : (b : Block) → IsRoadBlock M P b → IsHighway M b.way
  block_highway b road = among_pieces b b.pieces refl road
