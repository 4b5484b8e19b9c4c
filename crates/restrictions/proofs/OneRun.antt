-- A run of ways that are driven whole is one and no other: what the definitions of a run say, and what the functions
-- answer.
use Rattle.std.proofs.Common.{◌≡◌, Bool, true, false, cond, ◌&&◌, ◌||◌, ◌⊎◌, inl, inr, List, [], ◌∷◌, ◌++◌, length}
use Rattle.std.proofs.Common.{Option, Some, None, refl, sym, ap, subst, ◌∙◌}
use Rattle.std.specs.List.{list_any, flat_map}
use Rattle.std.proofs.Math.Bool.{or-false, and-false}
use Rattle.std.proofs.lemmas.List.{append-nil}
use Rattle.std.proofs.lemmas.Bool.{false≢true, or_parts}
use Rattle.std.proofs.lemmas.Bool.Decides.{Decides-int_eq}
use Rattle.std.proofs.lemmas.Option.{none-some, same_Some}
use Rattle.road_base.specs.declared.ids.NodeId.{NodeId}
use Rattle.road_base.specs.declared.ids.WayId.{WayId}
use Rattle.road_base.specs.declared.ids.Key.{Key}
use Rattle.road_base.specs.declared.ids.Key.TheVariants.{Node as NodeKey, Way as WayKey, Relation as RelationKey}
use Rattle.road_base.specs.declared.ids.Step.{Step}
use Rattle.road_base.specs.declared.ids.Dir.{Dir}
use Rattle.road_base.specs.declared.ids.Dir.TheVariants.{Forward, Backward}
use Rattle.road_base.specs.declared.objects.Relation.{Relation}
use Rattle.road_base.specs.Objects.{Objects}
use Rattle.road_model.specs.Lines.{line_of, node_at, same_node}
use Rattle.road_model.specs.Restrictions.{IsRun, begin_position, end_position, is_ring, same_end, meet, listed}
use Rattle.road_model.specs.Restrictions.{whole_way, froms, tos, way_ends, some_ends_at, crossed, exits, connects}
use Rattle.restrictions.specs.Runs.{across, arrives, dir_between, dir_from, end_in, first_node, last_node, first_enter}
use Rattle.restrictions.specs.Runs.{last_enter, leads, leave_of, out_of, steps_in, steps_of}
use Rattle.road_model.proofs.SameNodes.{node_from_same}

same_self : (v : NodeId) → same_node v v ≡ true
same_self v = (Decides-int_eq v.0 v.0).1 refl

pub end_there : (a : Option NodeId) (v : NodeId) → a ≡ Some v → same_end a (Some v) ≡ true
end_there a v is = ap (λ (o : Option NodeId). same_end o (Some v)) is ∙ same_self v

pub there_end : (a : Option NodeId) (v : NodeId) → same_end a (Some v) ≡ true → a ≡ Some v
there_end None v same = absurd (false≢true same)
there_end (Some a) v same = ap Some (node_from_same a v same)

dir_none : (a b : Option NodeId) → dir_between a b None ≡ None
dir_none None None = refl
dir_none None (Some b) = refl
dir_none (Some a) None = refl
dir_none (Some a) (Some b) = refl

dir_first : (a b : Option NodeId) (v : NodeId) → a ≡ Some v → dir_between a b (Some v) ≡ Some Forward
dir_first a b v begins = ap (λ (t : Bool). cond t (Some Forward) (cond (same_end b (Some v)) (Some Backward) None))
    (end_there a v begins)

dir_last : (a b : Option NodeId) (v : NodeId) → same_end a b ≡ false → b ≡ Some v
    → dir_between a b (Some v) ≡ Some Backward
dir_last a b v apart begins =
    let other : same_end a (Some v) ≡ false = ap (λ (o : Option NodeId). same_end a o) (sym begins) ∙ apart in
    ap (λ (t : Bool). cond t (Some Forward) (cond (same_end b (Some v)) (Some Backward) None)) other
    ∙ ap (λ (t : Bool). cond t (Some Backward) None) (end_there b v begins)

-- in which direction a line is driven from a node, and that it begins there
dir_cases_by : (a b : Option NodeId) (v : NodeId) (s t : Bool) → same_end a (Some v) ≡ s → same_end b (Some v) ≡ t
    → (cond s (Some Forward) (cond t (Some Backward) None) ≡ None)
    ⊎ (((cond s (Some Forward) (cond t (Some Backward) None) ≡ Some Forward) × (a ≡ Some v))
    ⊎ ((cond s (Some Forward) (cond t (Some Backward) None) ≡ Some Backward) × (b ≡ Some v)))
dir_cases_by a b v true t at_a at_b = inr (inl (refl, there_end a v at_a))
dir_cases_by a b v false true at_a at_b = inr (inr (refl, there_end b v at_b))
dir_cases_by a b v false false at_a at_b = inl refl

dir_cases : (a b : Option NodeId) (v : NodeId)
    → (dir_between a b (Some v) ≡ None) ⊎ (((dir_between a b (Some v) ≡ Some Forward) × (a ≡ Some v))
    ⊎ ((dir_between a b (Some v) ≡ Some Backward) × (b ≡ Some v)))
dir_cases a b v = dir_cases_by a b v (same_end a (Some v)) (same_end b (Some v)) refl refl

module _ (M : Objects) (allowed : WayId → Dir → Bool) where
  nowhere : (w : WayId) → out_of M allowed w (dir_from M w None) ≡ None
  nowhere w = ap (λ (d : Option Dir). out_of M allowed w d) (dir_none (first_node M w) (last_node M w))

  pub from_nowhere : (ks : List Key) → leave_of M allowed ks None ≡ None
  from_nowhere [] = refl
  from_nowhere (NodeKey n ∷ ks) = from_nowhere ks
  from_nowhere (WayKey w ∷ ks) = ap (λ (v : Option NodeId). leave_of M allowed ks v) (nowhere w) ∙ from_nowhere ks
  from_nowhere (RelationKey r ∷ ks) = from_nowhere ks

  -- ---- what a run says, the functions answer

  run_dir : (w : WayId) (d : Dir) (v next : NodeId) → is_ring M (WayKey w) ≡ false
      → node_at M w (begin_position (length (line_of M w)) d) ≡ Some v
      → node_at M w (end_position (length (line_of M w)) d) ≡ Some next → dir_from M w (Some v) ≡ Some d
  run_dir w Forward v next apart begins ends = dir_first (first_node M w) (last_node M w) v begins
  run_dir w Backward v next apart begins ends = dir_last (first_node M w) (last_node M w) v apart begins

  end_position_is : (w : WayId) (d : Dir) → end_in (first_node M w) (last_node M w) d
      ≡ node_at M w (end_position (length (line_of M w)) d)
  end_position_is w Forward = refl
  end_position_is w Backward = refl

  run_out : (w : WayId) (d : Dir) (next : NodeId) → allowed w d ≡ true
      → node_at M w (end_position (length (line_of M w)) d) ≡ Some next → out_of M allowed w (Some d) ≡ Some next
  run_out w d next may ends = ap (λ (b : Bool). cond b (end_in (first_node M w) (last_node M w) d) None) may
      ∙ (end_position_is w d ∙ ends)

  pub one_run : (ks : List Key) (v : NodeId) (s : List Step) (o : NodeId) → list_any (is_ring M) ks ≡ false
      → IsRun M allowed ks v s o → (leave_of M allowed ks (Some v) ≡ Some o) × (s ≡ steps_of M allowed ks (Some v))
  one_run [] v s o lines (none, same) = (ap Some same, none)
  one_run (NodeKey n ∷ ks) v s o lines run = absurd run
  one_run (WayKey w ∷ ks) v s o lines (d, next, rest, may, begins, ends, spelled, behind) =
      let ring = or_parts (is_ring M (WayKey w)) (list_any (is_ring M) ks) lines in
      let dir : dir_from M w (Some v) ≡ Some d = run_dir w d v next ring.0 begins ends in
      let out : across M allowed (WayKey w) (Some v) ≡ Some next = ap (λ (e : Option Dir). out_of M allowed w e) dir
      ∙ run_out w d next may ends in
      let more = one_run ks next rest o ring.1 behind in (
        ap (λ (u : Option NodeId). leave_of M allowed ks u) out ∙ more.0,
        spelled
            ∙ (ap (λ (r : List Step). whole_way M w d ++ r)
            (more.1 ∙ ap (λ (u : Option NodeId). steps_of M allowed ks u) (sym out))
            ∙ ap (λ (e : Option Dir). steps_in M w e ++ steps_of M allowed ks (across M allowed (WayKey w) (Some v)))
            (sym dir)),
      )
  one_run (RelationKey r ∷ ks) v s o lines run = absurd run

  -- ---- what the functions answer is a run

  step_on : (w : WayId) (ks : List Key) (v o : NodeId) (d : Dir) → dir_from M w (Some v) ≡ Some d
      → node_at M w (begin_position (length (line_of M w)) d) ≡ Some v
      → ((u : NodeId) → leave_of M allowed ks (Some u) ≡ Some o
      → IsRun M allowed ks u (steps_of M allowed ks (Some u)) o) → (may : Bool) (end : Option NodeId)
      → allowed w d ≡ may → end_in (first_node M w) (last_node M w) d ≡ end
      → leave_of M allowed ks (cond may end None) ≡ Some o
      → IsRun M allowed (WayKey w ∷ ks) v (whole_way M w d ++ steps_of M allowed ks (cond may end None)) o
  step_on w ks v o d dir begins behind false end barred ends leaves = absurd
      (none-some o (sym (from_nowhere ks) ∙ leaves))
  step_on w ks v o d dir begins behind true None granted ends leaves = absurd
      (none-some o (sym (from_nowhere ks) ∙ leaves))
  step_on w ks v o d dir begins behind true (Some u) granted ends leaves =
      (d, u, steps_of M allowed ks (Some u), granted, begins, sym (end_position_is w d) ∙ ends, refl, behind u leaves)

  step_by : (w : WayId) (ks : List Key) (v o : NodeId) (d : Dir) → dir_from M w (Some v) ≡ Some d
      → node_at M w (begin_position (length (line_of M w)) d) ≡ Some v
      → ((u : NodeId) → leave_of M allowed ks (Some u) ≡ Some o
      → IsRun M allowed ks u (steps_of M allowed ks (Some u)) o) → leave_of M allowed (WayKey w ∷ ks) (Some v) ≡ Some o
      → IsRun M allowed (WayKey w ∷ ks) v (steps_of M allowed (WayKey w ∷ ks) (Some v)) o
  step_by w ks v o d dir begins behind leaves =
      let P : Option Dir → Type 0 = λ e. leave_of M allowed ks (out_of M allowed w e) ≡ Some o
      → IsRun M allowed (WayKey w ∷ ks) v (steps_in M w e ++ steps_of M allowed ks (out_of M allowed w e)) o in
      let known : P (Some d) = step_on w ks v o d dir begins behind (allowed w d)
      (end_in (first_node M w) (last_node M w) d) refl refl in
      subst P (sym dir) known leaves

  pub is_run : (ks : List Key) (v o : NodeId) → leave_of M allowed ks (Some v) ≡ Some o
      → IsRun M allowed ks v (steps_of M allowed ks (Some v)) o
  is_run [] v o leaves = (refl, same_Some v o leaves)
  is_run (NodeKey n ∷ ks) v o leaves = absurd (none-some o (sym (from_nowhere ks) ∙ leaves))
  is_run (WayKey w ∷ ks) v o leaves = elim (dir_cases (first_node M w) (last_node M w) v) [
    | inl none ↦ absurd (none-some o (sym (ap (λ (e : Option Dir). leave_of M allowed ks (out_of M allowed w e)) none
        ∙ from_nowhere ks) ∙ leaves))
    | inr some ↦ elim some [
      | inl on ↦ step_by w ks v o Forward on.0 on.1 (λ u. is_run ks u o) leaves
      | inr back ↦ step_by w ks v o Backward back.0 back.1 (λ u. is_run ks u o) leaves
    ]
  ]
  is_run (RelationKey r ∷ ks) v o leaves = absurd (none-some o (sym (from_nowhere ks) ∙ leaves))

  -- a run begins at an end of the first way
  begin_cases : (w : WayId) (d : Dir) (v : NodeId) → node_at M w (begin_position (length (line_of M w)) d) ≡ Some v
      → (first_node M w ≡ Some v) ⊎ (last_node M w ≡ Some v)
  begin_cases w Forward v begins = inl begins
  begin_cases w Backward v begins = inr begins

  pub run_begins : (w : WayId) (ks : List Key) (v : NodeId) (s : List Step) (o : NodeId)
      → IsRun M allowed (WayKey w ∷ ks) v s o → (first_node M w ≡ Some v) ⊎ (last_node M w ≡ Some v)
  run_begins w ks v s o (d, next, rest, may, begins, ends, spelled, more) = begin_cases w d v begins

  -- ---- whether the via ways connect

  -- where one may come out is one node at most, if no way is a ring
  crossed_by : (first last along against : Bool) (a b : Option NodeId) → (first ≡ true → last ≡ true → ⊥)
      → cond along (cond first (listed b) []) [] ++ cond against (cond last (listed a) []) []
      ≡ listed (cond first (cond along b None) (cond last (cond against a None) None))
  crossed_by true true along against a b apart = absurd (apart refl refl)
  crossed_by true false true true a b apart = append-nil (listed b)
  crossed_by true false true false a b apart = append-nil (listed b)
  crossed_by true false false true a b apart = refl
  crossed_by true false false false a b apart = refl
  crossed_by false true true true a b apart = refl
  crossed_by false true true false a b apart = refl
  crossed_by false true false true a b apart = refl
  crossed_by false true false false a b apart = refl
  crossed_by false false true true a b apart = refl
  crossed_by false false true false a b apart = refl
  crossed_by false false false true a b apart = refl
  crossed_by false false false false a b apart = refl

  out_by : (w : WayId) (first last : Bool) → out_of M allowed w (cond first (Some Forward) (cond last (Some Backward)
      None)) ≡ cond first (cond (allowed w Forward) (last_node M w) None)
      (cond last (cond (allowed w Backward) (first_node M w) None) None)
  out_by w true last = refl
  out_by w false true = refl
  out_by w false false = refl

  ends_apart : (w : WayId) (v : NodeId) → is_ring M (WayKey w) ≡ false → same_end (first_node M w) (Some v) ≡ true
      → same_end (last_node M w) (Some v) ≡ true → ⊥
  ends_apart w v line first last =
      let a = there_end (first_node M w) v first in
      let b = there_end (last_node M w) v last in
      let ring : is_ring M (WayKey w) ≡ true = (λ i. same_end (a i) (b i)) ∙ same_self v in
      false≢true (sym line ∙ ring)

  crossed_once : (w : WayId) (v : NodeId) → is_ring M (WayKey w) ≡ false
      → crossed M allowed (WayKey w) v ≡ listed (across M allowed (WayKey w) (Some v))
  crossed_once w v line = crossed_by (same_end (first_node M w) (Some v)) (same_end (last_node M w) (Some v))
      (allowed w Forward) (allowed w Backward) (first_node M w) (last_node M w) (ends_apart w v line)
      ∙ ap listed (sym (out_by w (same_end (first_node M w) (Some v)) (same_end (last_node M w) (Some v))))

  exits_behind : (ks : List Key) (o : Option NodeId)
      → ((v : NodeId) → exits M allowed ks v ≡ listed (leave_of M allowed ks (Some v)))
      → flat_map (exits M allowed ks) (listed o) ≡ listed (leave_of M allowed ks o)
  exits_behind ks None behind = ap listed (sym (from_nowhere ks))
  exits_behind ks (Some v) behind = append-nil (exits M allowed ks v) ∙ behind v

  exits_once : (ks : List Key) (v : NodeId) → list_any (is_ring M) ks ≡ false
      → exits M allowed ks v ≡ listed (leave_of M allowed ks (Some v))
  exits_once [] v lines = refl
  exits_once (NodeKey n ∷ ks) v lines = exits_behind ks None (λ u. exits_once ks u lines)
  exits_once (WayKey w ∷ ks) v lines =
      let ring = or_parts (is_ring M (WayKey w)) (list_any (is_ring M) ks) lines in
      ap (flat_map (exits M allowed ks)) (crossed_once w v ring.0)
      ∙ exits_behind ks (across M allowed (WayKey w) (Some v)) (λ u. exits_once ks u ring.1)
  exits_once (RelationKey r ∷ ks) v lines = exits_behind ks None (λ u. exits_once ks u lines)

  none_ends : (ks : List Key) → some_ends_at M ks [] ≡ false
  none_ends [] = refl
  none_ends (k ∷ ks) = (λ i. none_meets (way_ends M k) i || none_ends ks i)
    where
      none_meets : (xs : List NodeId) → meet xs [] ≡ false
      none_meets [] = refl
      none_meets (x ∷ xs) = none_meets xs

  arrives_once : (r : Relation) (o : Option NodeId) → some_ends_at M (tos r) (listed o) ≡ arrives M r o
  arrives_once r None = none_ends (tos r)
  arrives_once r (Some v) = refl

  -- one who enters at the node connects where the ways lead from there
  enters : Relation → List Key → NodeId → Bool
  enters r vs v = some_ends_at M (froms r) (v ∷ []) && some_ends_at M (tos r) (exits M allowed vs v)

  enters_leads : (r : Relation) (vs : List Key) (v : NodeId) → list_any (is_ring M) vs ≡ false
      → enters r vs v ≡ leads M allowed r vs v
  unfolding enters
  enters_leads r vs v lines = ap (λ (b : Bool). some_ends_at M (froms r) (v ∷ []) && b)
      (ap (some_ends_at M (tos r)) (exits_once vs v lines) ∙ arrives_once r (leave_of M allowed vs (Some v)))

  connects_at : (r : Relation) (vs : List Key) (a b : NodeId) → first_enter M vs ≡ Some a → last_enter M vs ≡ Some b
      → connects M allowed r vs ≡ (enters r vs a || (enters r vs b || false))
  unfolding enters
  connects_at r [] a b first last = absurd (none-some a first)
  connects_at r (NodeKey n ∷ ks) a b first last = absurd (none-some a first)
  connects_at r (WayKey w ∷ ks) a b first last =
      λ i. list_any (λ (v : NodeId). some_ends_at M (froms r) (v ∷ [])
      && some_ends_at M (tos r) (exits M allowed (WayKey w ∷ ks) v)) (listed (first i) ++ listed (last i))
  connects_at r (RelationKey q ∷ ks) a b first last = absurd (none-some a first)

  -- they connect where they lead from one of the two ends of the first way
  connect_by : (r : Relation) (vs : List Key) (a b : NodeId) → list_any (is_ring M) vs ≡ false
      → first_enter M vs ≡ Some a → last_enter M vs ≡ Some b
      → connects M allowed r vs ≡ (leads M allowed r vs a || leads M allowed r vs b)
  connect_by r vs a b lines first last =
      connects_at r vs a b first last
      ∙ (λ i. enters_leads r vs a lines i || or-false (enters_leads r vs b lines i) i)

  -- and not where the first has no ends
  nowhere_by : (r : Relation) (ks : List Key) (n : NodeId) → enters r (NodeKey n ∷ ks) n ≡ false
  unfolding enters
  nowhere_by r ks n = ap (λ (b : Bool). some_ends_at M (froms r) (n ∷ []) && b) (none_ends (tos r))
      ∙ and-false (some_ends_at M (froms r) (n ∷ []))

  pub connect_nowhere : (r : Relation) (vs : List Key) → first_enter M vs ≡ None → last_enter M vs ≡ None
      → connects M allowed r vs ≡ false
  unfolding enters
  connect_nowhere r [] first last = refl
  connect_nowhere r (NodeKey n ∷ ks) first last = ap (λ (b : Bool). b || false) (nowhere_by r ks n)
  connect_nowhere r (WayKey w ∷ ks) first last =
      λ i. list_any (λ (v : NodeId). some_ends_at M (froms r) (v ∷ [])
      && some_ends_at M (tos r) (exits M allowed (WayKey w ∷ ks) v)) (listed (first i) ++ listed (last i))
  connect_nowhere r (RelationKey q ∷ ks) first last = refl

  -- the same, where a call has answered for the first end, and one for the second
  pub connect_first : (r : Relation) (vs : List Key) (a b : NodeId) (answer : Bool) → list_any (is_ring M) vs ≡ false
      → Some a ≡ first_enter M vs → Some b ≡ last_enter M vs → answer ≡ leads M allowed r vs a → answer ≡ true
      → answer ≡ connects M allowed r vs
  connect_first r vs a b answer lines first last is holds =
      let both = connect_by r vs a b lines (sym first) (sym last) in
      holds ∙ sym (both ∙ ap (λ (t : Bool). t || leads M allowed r vs b) (sym is ∙ holds))

  pub connect_second : (r : Relation) (vs : List Key) (a b : NodeId) (answer other : Bool)
      → list_any (is_ring M) vs ≡ false → Some a ≡ first_enter M vs → Some b ≡ last_enter M vs
      → answer ≡ leads M allowed r vs a → answer ≡ false → other ≡ leads M allowed r vs b
      → other ≡ connects M allowed r vs
  connect_second r vs a b answer other lines first last is fails also =
      let both = connect_by r vs a b lines (sym first) (sym last) in
      also ∙ sym (both ∙ ap (λ (t : Bool). t || leads M allowed r vs b) (sym is ∙ fails))
