-- Whether a restriction is of use, and how its via ways are driven, is the same where its members are the same.
use Rattle.std.proofs.Common.{◌≡◌, ℕ, ◌+◌, ◌-◌, List, [], ◌∷◌, ◌++◌, length, inl, inr, refl, sym, ap, ◌∙◌}
use Rattle.std.proofs.Common.{Some, Bool, true, false, ◌&&◌, ◌||◌, not, is_some, IsTrue, sum_by, fold, nat_le}
use Rattle.std.specs.Prelude.{nat_lt, cond, reverse}
use Rattle.std.specs.List.{list_all, list_any, flat_map}
use Rattle.std.proofs.lemmas.Bool.{false≢true, or_left, or_right}
use Rattle.road_base.specs.declared.ids.NodeId.{NodeId}
use Rattle.road_base.specs.declared.ids.WayId.{WayId}
use Rattle.road_base.specs.declared.ids.RelationId.{RelationId}
use Rattle.road_base.specs.declared.ids.Key.{Key}
use Rattle.road_base.specs.declared.ids.Key.TheVariants.{Node as NodeKey, Way as WayKey, Relation as RelationKey}
use Rattle.road_base.specs.declared.ids.Step.{Step}
use Rattle.road_base.specs.declared.ids.Dir.{Dir}
use Rattle.road_base.specs.declared.ids.Dir.TheVariants.{Forward, Backward}
use Rattle.road_base.specs.declared.objects.Relation.{Relation}
use Rattle.road_base.specs.Objects.{Objects, visible, way_of}
use Rattle.road_model.specs.declared.answers.Unusable.{Unusable}
use Rattle.road_model.specs.declared.answers.Unusable.TheVariants.{NotThisVehicle, NoValue, Members, Missing, NotAnEnd}
use Rattle.road_model.specs.declared.answers.Unusable.TheVariants.{NotConnected, ClosedVia, TooLong}
use Rattle.road_model.specs.Rules.{Rules}
use Rattle.road_model.specs.Lines.{line_of, node_at}
use Rattle.road_model.specs.Driving.{is_open}
use Rattle.road_model.specs.Restrictions.{froms, vias, tos, via_order, is_way_key, is_one_node, are_ways, listed}
use Rattle.road_model.specs.Restrictions.{line_ends, way_ends, via_ends, first_of, last_of, meet, some_ends_at, IsRun}
use Rattle.road_model.specs.Restrictions.{begin_position, end_position, crossed_in, crossed, exits, connects, any_way}
use Rattle.road_model.specs.Restrictions.{wrong_members, is_tagged_highway, is_present, lacks_member, same_end, is_ring}
use Rattle.road_model.specs.Restrictions.{misses_end, misfits, is_backward, steps_on, is_too_long, Holds, IsUsable}
use Rattle.ordered_lists.proofs.ListMembers.{In}
use Rattle.road_model.proofs.LocalLinks.{node_same, way_same, relation_same}
use Rattle.road_model.proofs.LocalBodies.{line_same, at_same, open_same}
use Rattle.road_model.proofs.ViaOrder.{in_reversed, in_order}

-- ---- what is asked of all or of some members of a list

all_same : (f g : Key → Bool) (ks : List Key) → ((k : Key) → In k ks → f k ≡ g k) → list_all f ks ≡ list_all g ks
all_same f g [] h = refl
all_same f g (k ∷ ks) h = λ i. h k (inl refl) i && all_same f g ks (λ x j. h x (inr j)) i

any_same : (f g : Key → Bool) (ks : List Key) → ((k : Key) → In k ks → f k ≡ g k) → list_any f ks ≡ list_any g ks
any_same f g [] h = refl
any_same f g (k ∷ ks) h = λ i. h k (inl refl) i || any_same f g ks (λ x j. h x (inr j)) i

-- a sum is a fold from the left, so what is added up so far varies
sum_from_same : (f g : Key → ℕ) (a b : ℕ) → a ≡ b → (ks : List Key) → ((k : Key) → In k ks → f k ≡ g k)
    → fold (λ n k. n + f k) a ks ≡ fold (λ n k. n + g k) b ks
sum_from_same f g a b e [] h = e
sum_from_same f g a b e (k ∷ ks) h = sum_from_same f g (a + f k) (b + g k) (λ i. e i + h k (inl refl) i) ks
    (λ x j. h x (inr j))

sum_same : (f g : Key → ℕ) (ks : List Key) → ((k : Key) → In k ks → f k ≡ g k) → sum_by f ks ≡ sum_by g ks
sum_same f g ks h = sum_from_same f g 0 0 refl ks h

-- ---- no from, via or to member of a restriction that is of use is a relation

not_all_ways : (q : RelationId) (ks : List Key) → In (RelationKey q) ks → list_all is_way_key ks ≡ false
not_all_ways q (k ∷ ks) (inl e) = ap (λ x. is_way_key x && list_all is_way_key ks) (sym e)
not_all_ways q (NodeKey v ∷ ks) (inr j) = refl
not_all_ways q (WayKey w ∷ ks) (inr j) = not_all_ways q ks j
not_all_ways q (RelationKey r ∷ ks) (inr j) = refl
not_all_ways q [] i = absurd i

not_one_node : (q : RelationId) (ks : List Key) → In (RelationKey q) ks → is_one_node ks ≡ false
not_one_node q [] i = refl
not_one_node q (NodeKey v ∷ []) (inl e) = cc
not_one_node q (NodeKey v ∷ []) (inr j) = absurd j
not_one_node q (NodeKey v ∷ k ∷ ks) i = refl
not_one_node q (WayKey w ∷ ks) i = refl
not_one_node q (RelationKey r ∷ ks) i = refl

neither : (one some all : Bool) → one ≡ false → all ≡ false → not (one || (some && all)) ≡ true
neither false false all e f = refl
neither false true false e f = refl
neither false true true e f = absurd (false≢true (sym f))
neither true some all e f = absurd (false≢true (sym e))

module _ (only : Bool) (r : Relation) (right : IsTrue (wrong_members only r) → ⊥) where
  pub not_from : (q : RelationId) → In (RelationKey q) (froms r) → ⊥
  not_from q i = right (or_right _ _ (or_left _ _ (or_left _ _ (ap not (not_all_ways q (froms r) i)))))

  pub not_to : (q : RelationId) → In (RelationKey q) (tos r) → ⊥
  not_to q i = right (or_right _ _ (or_left _ _ (or_right _ _ (ap not (not_all_ways q (tos r) i)))))

  pub not_via : (q : RelationId) → In (RelationKey q) (vias r) → ⊥
  not_via q i = right (or_right _ _ (or_right _ _ (or_left _ _
      (neither _ _ _ (not_one_node q (vias r) i) (not_all_ways q (vias r) i)))))

-- ---- the conditions of the causes

-- each member of the list has the same visible body in both object maps
abbrev pub AreSame : Objects → Objects → List Key → Type 0
AreSame M N ks = (k : Key) → In k ks → visible M k ≡ visible N k

module _ (M N : Objects) where
  present_same : (k : Key) → visible M k ≡ visible N k → is_present M k ≡ is_present N k
  present_same (NodeKey v) e = ap is_some (node_same M N v e)
  present_same (WayKey w) e = let f = way_same M N w e in
      λ i. is_tagged_highway (f i) && nat_le 2 (length (line_same M N w f i))
  present_same (RelationKey r) e = ap is_some (relation_same M N r e)

  -- the last node of a way's line
  last_same : (w : WayId) → way_of M w ≡ way_of N w
      → node_at M w (length (line_of M w) - 1) ≡ node_at N w (length (line_of N w) - 1)
  last_same w f = at_same M N w (length (line_of M w) - 1) f
      ∙ ap (λ l. node_at N w (length l - 1)) (line_same M N w f)

  ring_same : (k : Key) → visible M k ≡ visible N k → is_ring M k ≡ is_ring N k
  ring_same (NodeKey v) e = refl
  ring_same (WayKey w) e = let f = way_same M N w e in λ i. same_end (at_same M N w 0 f i) (last_same w f i)
  ring_same (RelationKey r) e = refl

  ends_same : (w : WayId) → way_of M w ≡ way_of N w → line_ends M w ≡ line_ends N w
  ends_same w f = λ i. listed (at_same M N w 0 f i) ++ listed (last_same w f i)

  way_ends_same : (k : Key) → visible M k ≡ visible N k → way_ends M k ≡ way_ends N k
  way_ends_same (NodeKey v) e = refl
  way_ends_same (WayKey w) e = ends_same w (way_same M N w e)
  way_ends_same (RelationKey r) e = refl

  via_ends_same : (k : Key) → visible M k ≡ visible N k → via_ends M (Some k) ≡ via_ends N (Some k)
  via_ends_same (NodeKey v) e = refl
  via_ends_same (WayKey w) e = ends_same w (way_same M N w e)
  via_ends_same (RelationKey r) e = refl

  steps_same : (k : Key) → visible M k ≡ visible N k → steps_on M k ≡ steps_on N k
  steps_same (NodeKey v) e = refl
  steps_same (WayKey w) e = ap (λ l. length l - 1) (line_same M N w (way_same M N w e))
  steps_same (RelationKey r) e = refl

  first_same : (ks : List Key) → AreSame M N ks → via_ends M (first_of ks) ≡ via_ends N (first_of ks)
  first_same [] same = refl
  first_same (k ∷ ks) same = via_ends_same k (same k (inl refl))

  final_same : (ks : List Key) → AreSame M N ks → via_ends M (last_of ks) ≡ via_ends N (last_of ks)
  final_same [] same = refl
  final_same (k ∷ []) same = via_ends_same k (same k (inl refl))
  final_same (k ∷ l ∷ ks) same = final_same (l ∷ ks) (λ x i. same x (inr i))

  some_ends_same : (ks : List Key) → AreSame M N ks → (ns : List NodeId)
      → some_ends_at M ks ns ≡ some_ends_at N ks ns
  some_ends_same ks same ns = any_same (λ k. meet (way_ends M k) ns) (λ k. meet (way_ends N k) ns) ks
      (λ k i. ap (λ e. meet e ns) (way_ends_same k (same k i)))

  -- the node at a place of a way's line that depends on how many nodes it has
  place_same : (place : ℕ → ℕ) (w : WayId) → way_of M w ≡ way_of N w
      → node_at M w (place (length (line_of M w))) ≡ node_at N w (place (length (line_of N w)))
  place_same place w f = at_same M N w (place (length (line_of M w))) f
      ∙ ap (λ l. node_at N w (place (length l))) (line_same M N w f)

  crossed_in_same : (w : WayId) (d : Dir) (v : NodeId) → way_of M w ≡ way_of N w
      → crossed_in M w d v ≡ crossed_in N w d v
  crossed_in_same w d v f =
      let begin = place_same (λ n. begin_position n d) w f in
      let end = place_same (λ n. end_position n d) w f in
      λ i. cond (same_end (begin i) (Some v)) (listed (end i)) []

  crossed_same : (f g : WayId → Dir → Bool) (k : Key) → visible M k ≡ visible N k
      → ((w : WayId) (d : Dir) → WayKey w ≡ k → f w d ≡ g w d) → (v : NodeId) → crossed M f k v ≡ crossed N g k v
  crossed_same f g (NodeKey n) e allowed v = refl
  crossed_same f g (WayKey w) e allowed v =
      let on = crossed_in_same w Forward v (way_same M N w e) in
      let back = crossed_in_same w Backward v (way_same M N w e) in
      λ i. cond (allowed w Forward refl i) (on i) [] ++ cond (allowed w Backward refl i) (back i) []
  crossed_same f g (RelationKey r) e allowed v = refl

  exits_same : (f g : WayId → Dir → Bool) (ks : List Key) → AreSame M N ks
      → ((w : WayId) (d : Dir) → In (WayKey w) ks → f w d ≡ g w d) → (v : NodeId) → exits M f ks v ≡ exits N g ks v
  exits_same f g [] same allowed v = refl
  exits_same f g (k ∷ ks) same allowed v =
      let here = crossed_same f g k (same k (inl refl)) (λ w d e. allowed w d (inl e)) v in
      λ i. flat_map (λ u. exits_same f g ks (λ x j. same x (inr j)) (λ w d j. allowed w d (inr j)) u i) (here i)

  run_kept : (f g : WayId → Dir → Bool) (ks : List Key) → AreSame M N ks
      → ((w : WayId) (d : Dir) → In (WayKey w) ks → f w d ≡ g w d)
      → (v : NodeId) (steps : List Step) (out : NodeId) → IsRun M f ks v steps out → IsRun N g ks v steps out
  run_kept f g [] same allowed v steps out h = h
  run_kept f g (NodeKey n ∷ ks) same allowed v steps out h = h
  run_kept f g (WayKey w ∷ ks) same allowed v steps out h =
      let e = way_same M N w (same (WayKey w) (inl refl)) in
      let l = line_same M N w e in (
        h.0,
        h.1,
        h.2,
        sym (allowed w h.0 (inl refl)) ∙ h.3,
        rw l at (sym (at_same M N w _ e) ∙ h.4),
        rw l at (sym (at_same M N w _ e) ∙ h.5),
        rw l at h.6,
        run_kept f g ks (λ k i. same k (inr i)) (λ u d i. allowed u d (inr i)) h.1 h.2 out h.7,
      )
  run_kept f g (RelationKey r ∷ ks) same allowed v steps out h = h

  -- the ways among the members are open in the same directions
  allowed_same : (P : Rules) (ks : List Key) → AreSame M N ks → (w : WayId) (d : Dir) → In (WayKey w) ks
      → is_open M P w d ≡ is_open N P w d
  allowed_same P ks same w d i = open_same M N P w d (way_same M N w (same (WayKey w) i))

  -- the members of the three roles are the same
  pub record AreAllSame (r : Relation) : Type 0 where
    pub from : AreSame M N (froms r)
    pub via : AreSame M N (vias r)
    pub to : AreSame M N (tos r)

  module _ (r : Relation) (same : AreAllSame r) where
    lacks_same : lacks_member M r ≡ lacks_member N r
    lacks_same =
        let f = all_same (is_present M) (is_present N) (froms r) (λ k i. present_same k (same.from k i)) in
        let v = all_same (is_present M) (is_present N) (vias r) (λ k i. present_same k (same.via k i)) in
        let t = all_same (is_present M) (is_present N) (tos r) (λ k i. present_same k (same.to k i)) in
        λ i. not (f i) || (not (v i) || not (t i))

    misses_same : (vs : List Key) → AreSame M N vs → misses_end M r vs ≡ misses_end N r vs
    misses_same vs via =
        let ring = any_same (is_ring M) (is_ring N) vs (λ k i. ring_same k (via k i)) in
        let f = some_ends_same (froms r) same.from (via_ends M (first_of vs))
        ∙ ap (some_ends_at N (froms r)) (first_same vs via) in
        let t = some_ends_same (tos r) same.to (via_ends M (last_of vs))
        ∙ ap (some_ends_at N (tos r)) (final_same vs via) in
        λ i. ring i || (not (f i) || not (t i))

    long_same : is_too_long M r ≡ is_too_long N r
    long_same =
        let sum = sum_same (steps_on M) (steps_on N) (vias r) (λ k i. steps_same k (same.via k i)) in
        λ i. (nat_lt 16 (length (froms r)) || nat_lt 16 (length (vias r)))
        || (nat_lt 16 (length (tos r)) || nat_lt 1024 (sum i))

    connects_same : (vs : List Key) → AreSame M N vs → (f g : WayId → Dir → Bool)
        → ((w : WayId) (d : Dir) → In (WayKey w) vs → f w d ≡ g w d) → connects M f r vs ≡ connects N g r vs
    connects_same vs via f g allowed =
        let t : (v : NodeId) → some_ends_at M (tos r) (exits M f vs v) ≡ some_ends_at N (tos r) (exits N g vs v)
        = λ v. some_ends_same (tos r) same.to (exits M f vs v)
        ∙ ap (some_ends_at N (tos r)) (exits_same f g vs via allowed v) in
        λ i. list_any (λ v. some_ends_same (froms r) same.from (v ∷ []) i && t v i) (first_same vs via i)

    misfits_same : (vs : List Key) → AreSame M N vs → misfits M r vs ≡ misfits N r vs
    misfits_same vs via = λ i. misses_same vs via i || not (connects_same vs via any_way any_way (λ w d j. refl) i)

    backward_same : is_backward M r ≡ is_backward N r
    backward_same =
        let turned = misfits_same (reverse (vias r)) (λ k i. same.via k (in_reversed (vias r) k i)) in
        λ i. (are_ways (vias r) && nat_lt 1 (length (vias r)))
        && (misfits_same (vias r) same.via i && not (turned i))

    -- the via members are passed in the same order
    pub order_same : (P : Rules) → via_order M P r ≡ via_order N P r
    order_same P = ap (λ b. cond (P.reverses && b) (reverse (vias r)) (vias r)) backward_same

    pub same_in_order : (P : Rules) → AreSame M N (via_order M P r)
    same_in_order P k i = same.via k (in_order M P r k i)

module _ (M N : Objects) (P : Rules) (r : Relation) (same : AreAllSame M N r) where
  abbrev vs : List Key
  vs = via_order M P r

  any_back : connects M any_way r vs ≡ connects N any_way r (via_order N P r)
  any_back = connects_same M N r same vs (same_in_order M N r same P) any_way any_way (λ w d i. refl)
      ∙ ap (connects N any_way r) (order_same M N r same P)

  open_back : connects M (is_open M P) r vs ≡ connects N (is_open N P) r (via_order N P r)
  open_back = connects_same M N r same vs (same_in_order M N r same P) (is_open M P) (is_open N P)
      (allowed_same M N P vs (same_in_order M N r same P))
      ∙ ap (connects N (is_open N P) r) (order_same M N r same P)

  cause_back : (cause : Unusable) → Holds N P r cause → Holds M P r cause
  cause_back NotThisVehicle h = h
  cause_back NoValue h = h
  cause_back Members h = h
  cause_back Missing h = lacks_same M N r same ∙ h
  cause_back NotAnEnd h = misses_same M N r same vs (same_in_order M N r same P)
      ∙ ap (misses_end N r) (order_same M N r same P) ∙ h
  cause_back NotConnected h = (h.0, any_back ∙ h.1)
  cause_back ClosedVia h = (h.0, any_back ∙ h.1, open_back ∙ h.2)
  cause_back TooLong h = long_same M N r same ∙ h

  pub usable_kept : IsUsable M P r → IsUsable N P r
  usable_kept usable cause h = usable cause (cause_back cause h)

pub open_run_kept : (M N : Objects) (P : Rules) (ks : List Key) → AreSame M N ks → (v : NodeId) (steps : List Step)
    (out : NodeId) → IsRun M (is_open M P) ks v steps out → IsRun N (is_open N P) ks v steps out
open_run_kept M N P ks same v steps out h = run_kept M N (is_open M P) (is_open N P) ks same
    (allowed_same M N P ks same) v steps out h
