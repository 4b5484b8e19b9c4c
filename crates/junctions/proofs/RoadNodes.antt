-- A way passes the nodes that it refers to, and one that isn't visible is no road.
use Rattle.std.proofs.Common.{◌≡◌, ℕ, suc, cond, List, [], ◌∷◌, slice_get, Option, Some, None, Bool, true, false}
use Rattle.std.proofs.Common.{IsTrue, Contains, ◌⊎◌, inl, inr, refl, sym, ap, ◌∙◌, arith}
use Rattle.std.proofs.lemmas.Bool.{or_cases, false≢true}
use Rattle.road_base.specs.declared.ids.NodeId.{NodeId}
use Rattle.road_base.specs.declared.ids.WayId.{WayId}
use Rattle.road_base.specs.declared.ids.Dir.{Dir}
use Rattle.road_base.specs.declared.ids.Dir.TheVariants.{Forward, Backward}
use Rattle.road_base.specs.declared.objects.Way.{Way}
use Rattle.road_base.specs.Objects.{Objects, way_of}
use Rattle.ordered_lists.proofs.ListMembers.{contains_cases}
use Rattle.road_model.specs.Rules.{Rules}
use Rattle.road_model.specs.Lines.{same_node, changes, changes_from, refs_of, line_of, node_at}
use Rattle.road_model.specs.Driving.{open_way, is_open, is_road}
use Rattle.road_model.specs.Links.{RefersTo}
use Rattle.road_model.proofs.SameNodes.{node_from_same}

-- ---- references and lines

-- x is the node, or it stands on the line behind x
abbrev IsBehind : NodeId → NodeId → List NodeId → Type 0
IsBehind x v line = (x ≡ v) ⊎ ((k : ℕ) × (slice_get line k ≡ Some v))

one_on : (y v : NodeId) (line : List NodeId) → IsBehind y v line → (k : ℕ) × (slice_get (y ∷ line) k ≡ Some v)
one_on y v line (inl same) = (0, ap Some same)
one_on y v line (inr (k, is)) = (suc k, is)

behind_either : (x y v : NodeId) (ys : List NodeId) (same : Bool) → same_node x y ≡ same
    → (Contains ys v → IsBehind x v (changes_from x ys)) → (Contains ys v → IsBehind y v (changes_from y ys))
    → (v ≡ y) ⊎ Contains ys v → IsBehind x v (cond same (changes_from x ys) (y ∷ changes_from y ys))
behind_either x y v ys true e dropped kept (inl is) = inl (node_from_same x y e ∙ sym is)
behind_either x y v ys true e dropped kept (inr rest) = dropped rest
behind_either x y v ys false e dropped kept (inl is) = inr (one_on y v (changes_from y ys) (inl (sym is)))
behind_either x y v ys false e dropped kept (inr rest) = inr (one_on y v (changes_from y ys) (kept rest))

behind_from_refs : (x v : NodeId) (ys : List NodeId) → Contains ys v → IsBehind x v (changes_from x ys)
behind_from_refs x v [] (k, within, is) = absurd (omega arith)
behind_from_refs x v (y ∷ ys) has = behind_either x y v ys (same_node x y) refl (behind_from_refs x v ys)
    (behind_from_refs y v ys) (contains_cases y v ys has)

on_cases : (x v : NodeId) (xs : List NodeId) → (v ≡ x) ⊎ Contains xs v
    → (k : ℕ) × (slice_get (changes (x ∷ xs)) k ≡ Some v)
on_cases x v xs (inl is) = (0, ap Some (sym is))
on_cases x v xs (inr rest) = one_on x v (changes_from x xs) (behind_from_refs x v xs rest)

-- what stands among the references stands on the line that they make
on_changes : (v : NodeId) (xs : List NodeId) → Contains xs v → (k : ℕ) × (slice_get (changes xs) k ≡ Some v)
on_changes v [] (k, within, is) = absurd (omega arith)
on_changes v (x ∷ xs) has = on_cases x v xs (contains_cases x v xs has)

-- ---- roads

-- the line of a visible way is that of its references
pub visible_line : (M : Objects) (w : WayId) (body : Way) → way_of M w ≡ Some body → line_of M w ≡ changes body.refs
unfolding line_of
visible_line M w body visible = ap (λ (o : Option Way). changes (refs_of o)) visible

pub visible_node : (M : Objects) (w : WayId) (body : Way) (k : ℕ) → way_of M w ≡ Some body
    → node_at M w k ≡ slice_get (changes body.refs) k
unfolding node_at
visible_node M w body k visible = ap (λ (xs : List NodeId). slice_get xs k) (visible_line M w body visible)

-- a way passes the nodes that it refers to
pub passes : (M : Objects) (u : WayId) (v : NodeId) → RefersTo M u v → (j : ℕ) × (node_at M u j ≡ Some v)
passes M u v link =
    let on = on_changes v (link.body).refs link.member in
    (on.0, visible_node M u link.body on.0 link.is ∙ on.1)

closed : (P : Rules) (d : Dir) → open_way P None d ≡ true → ⊥
closed P d is = false≢true is

not_open : (M : Objects) (P : Rules) (w : WayId) (d : Dir) → None ≡ way_of M w → is_open M P w d ≡ true → ⊥
unfolding is_open
not_open M P w d hidden is = closed P d (ap (λ (o : Option Way). open_way P o d) hidden ∙ is)

-- a way that isn't visible is no road
pub no_road : (M : Objects) (P : Rules) (w : WayId) → None ≡ way_of M w → IsTrue (is_road M P w) → ⊥
no_road M P w hidden road = elim (or_cases _ _ road)
    [ inl a ↦ not_open M P w Forward hidden a | inr b ↦ not_open M P w Backward hidden b ]
