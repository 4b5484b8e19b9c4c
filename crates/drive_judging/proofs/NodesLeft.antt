-- What is known of the steps that leave nodes, with a step, a pair and a way more.
use Rattle.std.proofs.Common.{◌≡◌, ◌⊎◌, inl, inr, ℕ, ◌+◌, ◌<◌, ◌≤◌, ◌&&◌, ◌||◌, List, [], ◌∷◌, ◌++◌, Some, None}
use Rattle.std.proofs.Common.{length, take, get_or, Bool, true, false, IsTrue, cond}
use Rattle.std.proofs.Common.{Contains, refl, sym, ap, subst, ◌∙◌, arith}
use Rattle.std.specs.Ordering.{is_eq, int_eq}
use Rattle.std.specs.Cmp.{IsTotalOrder}
use Rattle.std.specs.FinMap.{IsAntisymmetric}
use Rattle.std.specs.BTreeMap.{BTreeMap, Updates}
use Rattle.std.proofs.Math.Nat.{eq-or-lt_of_le}
use Rattle.std.proofs.lemmas.Bool.{false≢true}
use Rattle.std.proofs.lemmas.Bool.Decides.{Decides-int_eq}
use Rattle.std.proofs.lemmas.Cmp.{tied_itself}
use Rattle.std.proofs.lemmas.List.Elements.{Contains-push_cases, Contains-append_left, Contains-append_right}
use Rattle.road_base.specs.declared.ids.NodeId.{NodeId}
use Rattle.road_base.specs.declared.ids.WayId.{WayId}
use Rattle.road_base.specs.declared.ids.Step.{Step}
use Rattle.road_base.specs.declared.ids.Dir.TheVariants.{Forward, Backward}
use Rattle.road_base.specs.Objects.{Objects}
use Rattle.road_model.specs.Rules.{Rules}
use Rattle.ordered_lists.specs.Orders.{Lists}
use Rattle.road_model.specs.Orders.{node_cmp, way_cmp}
use Rattle.road_model.specs.Lines.{node_at, tail_position}
use Rattle.road_model.specs.Driving.{Leaves, drivable, is_open, located}
use Rattle.road_model.specs.Links.{RefersTo}
use Rattle.way_lines.specs.declared.roads.Road.{Road}
use Rattle.way_lines.specs.RoadLines.{IsRoad}
use Rattle.way_lines.proofs.NamedPairs.{leaves_here, leaves_no_other}
use Rattle.drive_judging.specs.declared.dead_ends.Leaving.{Leaving}
use Rattle.drive_judging.specs.declared.dead_ends.Leaving.TheVariants.{Nothing, One, More}
use Rattle.drive_judging.specs.DeadEnds.{Fits, AreLeaving, AreNoted, StepsOf, StepsBelow}
use Rattle.drive_judging.specs.DeadEnds.{IsWith, Adds, AreUnknown, HasWaysAt, leaving_in}
use Rattle.ordered_lists.proofs.ListFronts.{among_more, among_before, among_last}
use Rattle.ordered_lists.proofs.ListMembers.{contains_none}
use Rattle.road_model.proofs.TotalOrders.{dir_cases}
use Rattle.ordered_lists.proofs.Comparisons.{eq_cases}
use Rattle.drive_judging.proofs.JudgedSteps.{node_is}

both : (b : Bool) → (b ≡ true) ⊎ (b ≡ false)
both true = inl refl
both false = inr refl

-- ---- one step more

-- where nothing is put, all stays as it was
pub none_added : (opens : Bool) (s : Step) (tail : NodeId) (known : BTreeMap NodeId Leaving)
    → ((opens ≡ true) → leaving_in known tail ≡ None) → Adds opens s tail known known
none_added opens s tail known none v e at = record {
  before = e;
  at = at;
  kept = λ h. refl;
  more = λ o same.
      let gone : Some e ≡ None = sym at ∙ (ap (leaving_in known) (sym same) ∙ none o) in
      cc;
}

pub one_added : (s : Step) (tail : NodeId) (old new : BTreeMap NodeId Leaving) (before now : Leaving)
    → IsTotalOrder node_cmp → IsAntisymmetric node_cmp → leaving_in old tail ≡ Some before → IsWith before s now
    → Updates node_cmp old new tail (Some now) → Adds true s tail old new
one_added s tail old new before now nodes ties was with put v e at = elim (eq_cases (node_cmp tail v)) [
  | inl q ↦
      let here : leaving_in new v ≡ Some now
      = put.0 v ∙ ap (λ r. cond (is_eq r) (Some now) (leaving_in old v)) q in
      let some : Some e ≡ Some now = sym at ∙ here in
      let is : e ≡ now = cc in
      let same : tail ≡ v = ties tail v q in
      record {
        before = before;
        at = ap (leaving_in old) (sym same) ∙ was;
        kept = λ h. absurd (h (refl, same));
        more = λ o t. subst (IsWith before s) (sym is) with;
      }
  | inr f ↦ record {
    before = e;
    at = sym (put.0 v ∙ ap (λ b. cond b (Some now) (leaving_in old v)) f) ∙ at;
    kept = λ h. refl;
    more = λ o same.
        let tied : is_eq (node_cmp tail v) ≡ true
        = ap (λ w. is_eq (node_cmp tail w)) (sym same) ∙ ap is_eq (tied_itself nodes tail) in
        absurd (false≢true (sym f ∙ tied));
  }
]

module _ (M : Objects) (P : Rules) where
  module _ (v : NodeId) (Among : Step → Type 0) (s : Step) where
    fits_with : (before e : Leaving) → Leaves M P v s → IsWith before s e → Fits M P v Among before
        → Fits M P v (λ u. Among u ⊎ (u ≡ s)) e
    fits_with Nothing e goes is f = subst (Fits M P v (λ u. Among u ⊎ (u ≡ s))) (sym is) (
      goes,
      λ u which k. elim which [ inl a ↦ absurd (f u a k) | inr same ↦ same ],
    )
    fits_with (One t) e goes (inl (same, is)) f = subst (Fits M P v (λ u. Among u ⊎ (u ≡ s))) (sym is) (
      f.0,
      λ u which k. elim which [ inl a ↦ f.1 u a k | inr one ↦ one ∙ sym same ],
    )
    fits_with (One t) e goes (inr (other, is)) f = subst (Fits M P v (λ u. Among u ⊎ (u ≡ s))) (sym is)
        (record { one = t; other = s; leaves = f.0; too = goes; differ = other })
    fits_with More e goes is f = subst (Fits M P v (λ u. Among u ⊎ (u ≡ s))) (sym is) f

    fits_still : (before : Leaving) → (Leaves M P v s → ⊥) → Fits M P v Among before
        → Fits M P v (λ u. Among u ⊎ (u ≡ s)) before
    fits_still Nothing stays f = λ u which k. elim which [
      | inl a ↦ f u a k
      | inr same ↦ stays (subst (Leaves M P v) same k)
    ]
    fits_still (One t) stays f = (
      f.0,
      λ u which k. elim which [
        | inl a ↦ f.1 u a k
        | inr same ↦ absurd (stays (subst (Leaves M P v) same k))
      ],
    )
    fits_still More stays f = f

  fits_fewer : (v : NodeId) (A B : Step → Type 0) (e : Leaving) → ((u : Step) → Leaves M P v u → B u → A u)
      → Fits M P v A e → Fits M P v B e
  fits_fewer v A B Nothing in_a f = λ u b k. f u (in_a u k b) k
  fits_fewer v A B (One s) in_a f = (f.0, λ u b k. f.1 u (in_a u k b) k)
  fits_fewer v A B More in_a f = f

  module _ (ways : List WayId) where
    pub fewer : (A B : Step → Type 0) (known : BTreeMap NodeId Leaving)
        → ((u : Step) → IsTrue (drivable M P u) → B u → A u) → AreNoted ways A known M P → AreNoted ways B known M P
    fewer A B known in_a noted v e at =
        let n = noted v e at in
        record { lie = n.lie; fits = fits_fewer v A B e (λ u k. in_a u k.drives) n.fits }

    pub step_more : (A : Step → Type 0) (opens : Bool) (s : Step) (tail : NodeId) (old new : BTreeMap NodeId Leaving)
        → opens ≡ drivable M P s → node_at M s.way (tail_position s.dir s.index) ≡ Some tail
        → Adds opens s tail old new → AreNoted ways A old M P → AreNoted ways (λ u. A u ⊎ (u ≡ s)) new M P
    step_more A opens s tail old new drives there adds noted v e at =
        let a = adds v e at in
        let n = noted v a.before a.at in
        let still : (Leaves M P v s → ⊥) → ((opens ≡ true) × (tail ≡ v) → ⊥) → Fits M P v (λ u. A u ⊎ (u ≡ s)) e
        = λ stays not. subst (Fits M P v (λ u. A u ⊎ (u ≡ s))) (sym (a.kept not))
        (fits_still v A s a.before stays n.fits) in
        record {
          lie = n.lie;
          fits = elim (both opens) [
            | inl free ↦ elim (both (int_eq tail.0 v.0)) [
              | inl same ↦
                  let goes = leaves_here M P s tail v there same (sym drives ∙ free) in
                  let is : tail ≡ v = node_is tail v ((Decides-int_eq tail.0 v.0).0 same) in
                  fits_with v A s a.before e goes (a.more free is) n.fits
              | inr other ↦ still (leaves_no_other M P s tail v there other)
                  (λ h. false≢true (sym other ∙ (Decides-int_eq tail.0 v.0).1 (ap (λ (n : NodeId). n.0) h.1)))
            ]
            | inr off ↦ still (λ k. false≢true (sym off ∙ (drives ∙ k.drives))) (λ h. false≢true (sym off ∙ h.0))
          ];
        }

    -- ---- one pair more

    pub pair_more : (done : List WayId) (w : WayId) (i : ℕ) (a b : NodeId) (forward backward : Bool)
        (old mid new : BTreeMap NodeId Leaving)
        → node_at M w i ≡ Some a → node_at M w (i + 1) ≡ Some b
        → forward ≡ drivable M P (record { way = w; index = i; dir = Forward })
        → backward ≡ drivable M P (record { way = w; index = i; dir = Backward })
        → Adds forward (record { way = w; index = i; dir = Forward }) a old mid
        → Adds backward (record { way = w; index = i; dir = Backward }) b mid new
        → AreNoted ways (StepsBelow done w i) old M P → AreNoted ways (StepsBelow done w (i + 1)) new M P
    pair_more done w i a b forward backward old mid new first second f g one two noted =
        let s : Step = record { way = w; index = i; dir = Forward } in
        let t : Step = record { way = w; index = i; dir = Backward } in
        let Sub : Step → Type 0 = StepsBelow done w i in
        let half = step_more Sub forward s a old mid f first one noted in
        let whole = step_more (λ u. Sub u ⊎ (u ≡ s)) backward t b mid new g second two half in
        fewer (λ u. (Sub u ⊎ (u ≡ s)) ⊎ (u ≡ t)) (StepsBelow done w (i + 1)) new
        (λ u drives which. below u which) whole
      where
        below : (u : Step) → StepsBelow done w (i + 1) u
            → (StepsBelow done w i u ⊎ (u ≡ record { way = w; index = i; dir = Forward }))
            ⊎ (u ≡ record { way = w; index = i; dir = Backward })
        below u (inl c) = inl (inl (inl c))
        below u (inr (on, less)) =
            let upto : u.index ≤ i = omega arith in
            elim (eq-or-lt_of_le upto) [
              | inl same ↦ elim (dir_cases u.dir) [
                | inl d ↦ inl (inr (λ x. record { way = on x; index = same x; dir = d x }))
                | inr d ↦ inr (λ x. record { way = on x; index = same x; dir = d x })
              ]
              | inr under ↦ inl (inl (inr (on, under)))
            ]

    -- ---- one way more

    -- all steps of the way that can be driven are among these, so they are gone over
    pub way_more : (done : List WayId) (w : WayId) (A : Step → Type 0) (known : BTreeMap NodeId Leaving)
        → ((u : Step) → Contains done u.way → A u) → ((u : Step) → u.way ≡ w → IsTrue (drivable M P u) → A u)
        → AreNoted ways A known M P → AreNoted ways (StepsOf (done ++ w ∷ [])) known M P
    way_more done w A known before here noted = fewer A (StepsOf (done ++ w ∷ [])) known
        (λ u drives c. elim (Contains-push_cases done w u.way c) [
          | inl b ↦ before u b
          | inr e ↦ here u (sym e) drives
        ]) noted

  first_true : (a b : Bool) → IsTrue (a && b) → a ≡ true
  first_true true b h = refl
  first_true false b h = h

  opens : (u : Step) → IsTrue (drivable M P u) → is_open M P u.way u.dir ≡ true
  unfolding drivable
  opens u h = first_true (is_open M P u.way u.dir)
      (located M (node_at M u.way u.index) && located M (node_at M u.way (u.index + 1))) h

  pub drives_by : (s : Step) (a b : NodeId) → node_at M s.way s.index ≡ Some a
      → node_at M s.way (s.index + 1) ≡ Some b → (o : Bool) → o ≡ is_open M P s.way s.dir
      → (o && (located M (Some a) && located M (Some b))) ≡ drivable M P s
  unfolding drivable
  drives_by s a b first second o is =
      ap (λ x. x && (located M (Some a) && located M (Some b))) is
      ∙ (ap (λ x. is_open M P s.way s.dir && (located M x && located M (Some b))) (sym first)
      ∙ ap (λ x. is_open M P s.way s.dir && (located M (node_at M s.way s.index) && located M x)) (sym second))

  none_open : (a b : Bool) → (a || b) ≡ false → (a ≡ false) × (b ≡ false)
  none_open false b h = (refl, h)
  none_open true b h = absurd (false≢true (sym h))

  closed_in : (r : Road) → IsRoad M P r → (r.forward || r.backward) ≡ false → (u : Step) → u.way ≡ r.way
      → (u.dir ≡ Forward) ⊎ (u.dir ≡ Backward) → is_open M P u.way u.dir ≡ true → ⊥
  closed_in r is shut u on (inl d) open_there =
      let none = none_open r.forward r.backward shut in
      let there : is_open M P u.way u.dir ≡ r.forward
      = ap (λ x. is_open M P u.way x) d ∙ (ap (λ x. is_open M P x Forward) on ∙ sym is.forward) in
      false≢true (sym none.0 ∙ (sym there ∙ open_there))
  closed_in r is shut u on (inr d) open_there =
      let none = none_open r.forward r.backward shut in
      let there : is_open M P u.way u.dir ≡ r.backward
      = ap (λ x. is_open M P u.way x) d ∙ (ap (λ x. is_open M P x Backward) on ∙ sym is.backward) in
      false≢true (sym none.1 ∙ (sym there ∙ open_there))

  -- a step of a way that is closed in both directions can't be driven
  pub closed : (r : Road) → IsRoad M P r → (r.forward || r.backward) ≡ false → (u : Step) → u.way ≡ r.way
      → IsTrue (drivable M P u) → ⊥
  closed r is shut u on drives = closed_in r is shut u on (dir_cases u.dir) (opens u drives)

  -- ---- from no way to all ways

  pub none_noted : (nodes : List NodeId) (ways : List WayId) (known : BTreeMap NodeId Leaving)
      → ((v : NodeId) (u : Step) → Leaves M P v u → RefersTo M u.way v) → HasWaysAt nodes ways M
      → AreUnknown nodes known → AreNoted ways (StepsOf []) known M P
  none_noted nodes ways known refer have unknown v e at =
      let k = unknown v e at in
      record {
        lie = λ u goes. have v u.way k.0 (refer v u goes);
        fits = subst (Fits M P v (StepsOf [])) (sym k.1) (λ u c goes. contains_none u.way c);
      }

  pub all_noted : (ways : List WayId) (known : BTreeMap NodeId Leaving) → AreNoted ways (StepsOf ways) known M P
      → AreLeaving M P known
  all_noted ways known noted v e at =
      let n = noted v e at in
      fits_fewer v (StepsOf ways) (Leaves M P v) e (λ u goes k. n.lie u goes) n.fits

-- ---- one node more

pub unknown_more : (nodes : List NodeId) (i : ℕ) (d : NodeId) (old new : BTreeMap NodeId Leaving) → i < length nodes
    → IsAntisymmetric node_cmp → Updates node_cmp old new (get_or nodes i d) (Some Nothing)
    → AreUnknown (take i nodes) old → AreUnknown (take (i + 1) nodes) new
unknown_more nodes i d old new l ties put are v e at =
    let k = get_or nodes i d in
    elim (eq_cases (node_cmp k v)) [
      | inl q ↦
          let here : leaving_in new v ≡ Some Nothing
          = put.0 v ∙ ap (λ r. cond (is_eq r) (Some Nothing) (leaving_in old v)) q in
          let some : Some e ≡ Some Nothing = sym at ∙ here in
          let is : e ≡ Nothing = cc in (
            subst (Contains (take (i + 1) nodes)) (ties k v q) (among_last nodes i d l),
            is,
          )
      | inr f ↦
          let was = are v e
          (sym (put.0 v ∙ ap (λ b. cond b (Some Nothing) (leaving_in old v)) f) ∙ at) in (
            among_before nodes i d l v was.0,
            was.1,
          )
    ]

pub ways_at_more : (M : Objects) (nodes : List NodeId) (i : ℕ) (d : NodeId) (its old : List WayId) → i < length nodes
    → Lists (λ w. w) way_cmp (λ w. RefersTo M w (get_or nodes i d)) its → HasWaysAt (take i nodes) old M
    → HasWaysAt (take (i + 1) nodes) (old ++ its) M
ways_at_more M nodes i d its old l are have v w c r = elim (among_more nodes i d l v c) [
  | inl o ↦ Contains-append_left old its w (have v w o r)
  | inr e ↦ Contains-append_right old its w (are.complete w (subst (λ x. RefersTo M w x) (sym e) r))
]
