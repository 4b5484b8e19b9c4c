-- The words of restrictions: the lists of steps that a No rule forbids, or of which an Only rule demands each next step
-- once enough of the steps before it were driven (OSM wiki, Relation:restriction).
use Rattle.std.specs.Prelude.{◌≡◌, ℕ, ◌+◌, ◌⊎◌, List, [], ◌∷◌, ◌++◌, length, Some, Bool, true, false, IsTrue, Contains}
use Rattle.road_base.specs.declared.ids.NodeId.{NodeId}
use Rattle.road_base.specs.declared.ids.WayId.{WayId}
use Rattle.road_base.specs.declared.ids.RelationId.{RelationId}
use Rattle.road_base.specs.declared.ids.Key.{Key}
use Rattle.road_base.specs.declared.ids.Key.TheVariants.{Node as NodeKey, Way as WayKey, Relation as RelationKey}
use Rattle.road_base.specs.declared.ids.Step.{Step}
use Rattle.road_base.specs.declared.ids.Dir.TheVariants.{Forward, Backward}
use Rattle.road_base.specs.declared.objects.Relation.{Relation}
use Rattle.road_base.specs.Objects.{Objects, relation_of}
use Rattle.road_model.specs.declared.answers.RuleKind.{RuleKind}
use Rattle.road_model.specs.declared.answers.RuleKind.TheVariants.{No, Only}
use Rattle.road_model.specs.Rules.{Rules, is_restriction}
use Rattle.road_model.specs.Lines.{line_of, tail_of, head_of}
use Rattle.road_model.specs.Driving.{is_open}
use Rattle.road_model.specs.Restrictions.{froms, vias, tos, via_order, IsRun, IsUsable}

-- s is an end step of the way into v: the last step forward, or step 0 backward
pub record IsEndInto (M : Objects) (w : WayId) (v : NodeId) (s : Step) : Type 0 where
  pub of : s.way ≡ w
  pub head : head_of M s ≡ Some v
  pub end : ((s.dir ≡ Forward) × (s.index + 2 ≡ length (line_of M w))) ⊎ ((s.dir ≡ Backward) × (s.index ≡ 0))

-- s is an end step of the way out of v: step 0 forward, or the last step backward
pub record IsEndFrom (M : Objects) (w : WayId) (v : NodeId) (s : Step) : Type 0 where
  pub of : s.way ≡ w
  pub tail : tail_of M s ≡ Some v
  pub end : ((s.dir ≡ Forward) × (s.index ≡ 0)) ⊎ ((s.dir ≡ Backward) × (s.index + 2 ≡ length (line_of M w)))

-- what the via members spell, and the nodes where they are entered and left: nothing at a via node, and all steps of
-- each via way in an open direction, each begun where the one before ended
abbrev pub IsVia : Objects → Rules → List Key → NodeId → List Step → NodeId → Type 0
IsVia M P [] v steps out = ⊥
IsVia M P (NodeKey n ∷ []) v steps out = (v ≡ n) × (steps ≡ []) × (out ≡ n)
IsVia M P (NodeKey n ∷ k ∷ ks) v steps out = ⊥
IsVia M P (WayKey w ∷ ks) v steps out = IsRun M (is_open M P) (WayKey w ∷ ks) v steps out
IsVia M P (RelationKey r ∷ ks) v steps out = ⊥

-- How many steps must have been driven before an Only rule demands the next one: 1 with a via node, and 2 with via
-- ways, so that it binds once the first via way was entered from the from way.
abbrev pub binding_of : List Key → ℕ
binding_of [] = 1
binding_of (NodeKey n ∷ ks) = 1
binding_of (WayKey w ∷ ks) = 2
binding_of (RelationKey r ∷ ks) = 1

abbrev pub kind_of : Bool → RuleKind
kind_of true = Only
kind_of false = No

-- The list of steps is a word of the relation, an Only word or a No word, with its binding length. Any from member, any
-- to member and any fitting directions of the via ways give one.
pub record IsWord (M : Objects) (P : Rules) (r : RelationId) (only : Bool) (binding : ℕ) (steps : List Step) : Type 0
  where
    pub body : Relation
    pub visible : relation_of M r ≡ Some body
    pub restriction : IsTrue (is_restriction body.tags)
    pub usable : IsUsable M P body
    pub kind : P.rule body.tags ≡ kind_of only
    pub from_way : WayId
    pub to_way : WayId
    pub from_member : Contains (froms body) (WayKey from_way)
    pub to_member : Contains (tos body) (WayKey to_way)
    pub bound : binding ≡ binding_of (vias body)
    pub enter : NodeId
    pub leave : NodeId
    pub first : Step
    pub via : List Step
    pub last : Step
    pub spelled : steps ≡ first ∷ (via ++ last ∷ [])
    pub first_ends : IsEndInto M from_way enter first
    pub via_is : IsVia M P (via_order M P body) enter via leave
    pub last_begins : IsEndFrom M to_way leave last
