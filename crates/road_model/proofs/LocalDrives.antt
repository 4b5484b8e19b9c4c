-- Whether a list of steps is legal is the same where all within three links of its ways is.
use Rattle.std.proofs.Common.{◌≡◌, ℕ, ◌+◌, List, [], ◌∷◌, ◌++◌, inl, inr, refl, sym, ◌∙◌, subst, arith, true, false}
use Rattle.std.proofs.Common.{Some, IsTrue}
use Rattle.road_base.specs.declared.ids.NodeId.{NodeId}
use Rattle.road_base.specs.declared.ids.WayId.{WayId}
use Rattle.road_base.specs.declared.ids.Step.{Step}
use Rattle.road_base.specs.declared.ids.Key.TheVariants.{Node as NodeKey, Way as WayKey}
use Rattle.road_base.specs.Objects.{Objects, node_of, way_of}
use Rattle.road_model.specs.Rules.{Rules}
use Rattle.road_model.specs.Lines.{node_at, head_of, tail_of, head_position}
use Rattle.road_model.specs.Driving.{is_road, located, Leaves, MayTurn, AtPlace, AtShut, AtDeadEnd, Passes}
use Rattle.road_model.specs.Legal.{MustBy}
use Rattle.road_model.specs.Network.{Drives, NoWord, OnlyWord, Legal}
use Rattle.road_model.specs.Links.{IsWithin}
use Rattle.ordered_lists.proofs.ListMembers.{In, in_end, in_right}
use Rattle.road_model.proofs.OnePiece.{parts, from_parts}
use Rattle.road_model.proofs.StepEnds.{end_named}
use Rattle.road_model.proofs.StraightOn.{road_of}
use Rattle.road_model.proofs.Shapes.{bound_positive}
use Rattle.road_model.proofs.ReferredNodes.{road_refers, step_refers}
use Rattle.road_model.proofs.LocalLinks.{IsAlike, node_same, way_same, within_itself, alike_turned, alike_less}
use Rattle.road_model.proofs.LocalBodies.{at_same, end_same, located_same, open_same, road_same, shut_same}
use Rattle.road_model.proofs.LocalBodies.{turning_same}
use Rattle.road_model.proofs.LocalPieces.{NeedsHighway}
use Rattle.road_model.proofs.LocalWords.{word_kept}

pub two_of_three : (M N : Objects) (w : WayId) → IsAlike M N 3 (WayKey w) → IsAlike M N 2 (WayKey w)
two_of_three M N w al = alike_less M N 2 1 (WayKey w) al

pub body_of_three : (M N : Objects) (w : WayId) → IsAlike M N 3 (WayKey w) → way_of M w ≡ way_of N w
body_of_three M N w al = way_same M N w (al (WayKey w) (inl (within_itself M 3 (WayKey w))))

module _ (M N : Objects) (P : Rules) (needs : NeedsHighway P) where
  -- a step stays drivable where its way's body and the nodes on its line are the same
  drives_kept : (s : Step) → way_of M s.way ≡ way_of N s.way
      → ((i : ℕ) (v : NodeId) → node_at M s.way i ≡ Some v → node_of M v ≡ node_of N v) → Drives M P s → Drives N P s
  drives_kept s e nodes h =
      let p = parts M P s.way s.dir s.index h in
      let kept : (i : ℕ) → IsTrue (located M (node_at M s.way i)) → IsTrue (located N (node_at N s.way i)) =
      λ i g. subst (λ o. IsTrue (located N o)) (at_same M N s.way i e)
      (sym (located_same M N (node_at M s.way i) (nodes i)) ∙ g) in
      from_parts N P s.way s.dir s.index (sym (open_same M N P s.way s.dir e) ∙ p.is_free) (kept s.index p.here)
      (kept (s.index + 1) p.next)

  nodes_near : (w : WayId) → IsAlike M N 3 (WayKey w) → IsTrue (is_road M P w) → (i : ℕ) (v : NodeId)
      → node_at M w i ≡ Some v → node_of M v ≡ node_of N v
  nodes_near w al road i v at = node_same M N v
      (al (NodeKey v) (inl (inl (inl (inr (WayKey w, refl, road_refers M P needs w i v road at))))))

  step_kept : (s : Step) → IsAlike M N 3 (WayKey s.way) → Drives M P s → Drives N P s
  step_kept s al h = drives_kept s (body_of_three M N s.way al) (nodes_near s.way al (road_of M P s h)) h

  -- what leaves a node of a road whose surroundings are the same does so in both object maps
  leaves_kept : (w : WayId) → IsAlike M N 3 (WayKey w) → IsTrue (is_road M P w) → (i : ℕ) (v : NodeId)
      → node_at M w i ≡ Some v → (u : Step) → Leaves M P v u → Leaves N P v u
  leaves_kept w al road i v at u l =
      let one : IsWithin M 1 (WayKey w) (NodeKey v) = inr (WayKey w, refl, road_refers M P needs w i v road at) in
      let two : IsWithin M 2 (WayKey w) (WayKey u.way) = inr (NodeKey v, one, step_refers M P needs v u l) in
      let e = way_same M N u.way (al (WayKey u.way) (inl (inl two))) in
      let other = road_of M P u l.drives in
      record {
        drives = drives_kept u e (λ j x there. node_same M N x (al (NodeKey x)
            (inl (inr (WayKey u.way, two, road_refers M P needs u.way j x other there))))) l.drives;
        tail = sym (end_same M N u _ e) ∙ l.tail;
      }

module _ (M N : Objects) (P : Rules) (needs : NeedsHighway P) where
  turn_kept : (s : Step) → IsAlike M N 3 (WayKey s.way) → Drives M P s → (v : NodeId) → head_of M s ≡ Some v
      → (t : Step) → MayTurn M P v t → MayTurn N P v t
  turn_kept s al d v to t (AtPlace h) = AtPlace (sym (turning_same M N P v (nodes_near M N P needs s.way al
      (road_of M P s d) (head_position s.dir s.index) v (end_named M s _ v to).1)) ∙ h)
  turn_kept s al d v to t (AtShut h) = AtShut (sym (shut_same M N P v (nodes_near M N P needs s.way al
      (road_of M P s d) (head_position s.dir s.index) v (end_named M s _ v to).1)) ∙ h)
  turn_kept s al d v to t (AtDeadEnd l h) =
      let e = body_of_three M N s.way al in
      let road = road_of M P s d in
      let at = (end_named M s (head_position s.dir s.index) v to).1 in
      let back = leaves_kept N M P needs s.way (alike_turned M N 3 (WayKey s.way) al)
      (sym (road_same M N P s.way e) ∙ road) (head_position s.dir s.index) v (sym (at_same M N s.way _ e) ∙ at) in
      AtDeadEnd (leaves_kept M N P needs s.way al road (head_position s.dir s.index) v at t l) (λ u g. h u (back u g))

  pass_kept : (s t : Step) → IsAlike M N 3 (WayKey s.way) → IsAlike M N 3 (WayKey t.way) → Drives M P s → Passes M P s t
      → Passes N P s t
  pass_kept s t al bl d p =
      let e = body_of_three M N s.way al in let f = body_of_three M N t.way bl in
      let from_head : head_of M s ≡ head_of N s = end_same M N s _ e in
      let from_tail : tail_of M s ≡ tail_of N s = end_same M N s _ e in
      let to_head : head_of M t ≡ head_of N t = end_same M N t _ f in
      let to_tail : tail_of M t ≡ tail_of N t = end_same M N t _ f in
      let n = nodes_near M N P needs s.way al (road_of M P s d) (head_position s.dir s.index) p.node
      (end_named M s _ p.node p.from).1 in
      record {
        node = p.node;
        from = sym from_head ∙ p.from;
        to = sym to_tail ∙ p.to;
        back = λ h. turn_kept s al d p.node p.from t (p.back (to_head ∙ h ∙ sym from_tail));
        on = λ h. sym (shut_same M N P p.node n) ∙ p.on (λ g. h (sym to_head ∙ g ∙ from_tail));
      }

-- all within three links of each step's way is the same
abbrev pub AllAlike : Objects → Objects → List Step → Type 0
AllAlike M N d = (s : Step) → In s d → IsAlike M N 3 (WayKey s.way)

all_turned : (M N : Objects) (d : List Step) → AllAlike M N d → AllAlike N M d
all_turned M N d near s i = alike_turned M N 3 (WayKey s.way) (near s i)

in_second : (a : List Step) (s t : Step) (b : List Step) → In t (a ++ s ∷ t ∷ b)
in_second a s t b = in_right a (s ∷ t ∷ b) t (inr (inl refl))

-- a word that stands in the list, or whose beginning does, has a step of the list
no_kept : (M N : Objects) (P : Rules) (d : List Step) → AllAlike M N d → (a u b : List Step) → d ≡ a ++ (u ++ b)
    → NoWord N P u → NoWord M P u
no_kept M N P d near a [] b e w = let f = w.word.spelled in cc (f)
no_kept M N P d near a (s ∷ u) b e w =
    let i : In s d = subst (In s) (sym e) (in_end a s (u ++ b)) in
    let al = alike_turned M N 2 (WayKey s.way) (two_of_three M N s.way (near s i)) in
    record {
      relation = w.relation;
      binding = w.binding;
      word = word_kept N M P w.relation false w.binding (s ∷ u) w.word s (inl refl) al;
    }

must_kept : (M N : Objects) (P : Rules) (d : List Step) → AllAlike M N d → (a p : List Step) (t : Step) (b : List Step)
    → d ≡ a ++ (p ++ t ∷ b) → (x : Step) → MustBy (OnlyWord M P) p x → MustBy (OnlyWord N P) p x
must_kept M N P d near a [] t b e x m =
    let o = bound_positive M P m.binding _ m.word in let q = m.bound in absurd (omega arith)
must_kept M N P d near a (s ∷ p) t b e x m =
    let i : In s d = subst (In s) (sym e) (in_end a s (p ++ t ∷ b)) in
    let al = two_of_three M N s.way (near s i) in
    record {
      binding = m.binding;
      rest = m.rest;
      bound = m.bound;
      word = record {
        relation = m.word.relation;
        word = word_kept M N P m.word.relation true m.binding _ m.word.word s (inl refl) al;
      };
    }

pub legal_kept : (M N : Objects) (P : Rules) → NeedsHighway P → (d : List Step) → AllAlike M N d → Legal M P d
    → Legal N P d
legal_kept M N P needs d near l = record {
  not_empty = l.not_empty;
  drives = λ a s b e. step_kept M N P needs s (near s (subst (In s) (sym e) (in_end a s b))) (l.drives a s b e);
  follows = λ a s t b e. pass_kept M N P needs s t (near s (subst (In s) (sym e) (in_end a s (t ∷ b))))
      (near t (subst (In t) (sym e) (in_second a s t b))) (l.drives a s (t ∷ b) e) (l.follows a s t b e);
  no = λ a u b e w. l.no a u b e (no_kept M N P d near a u b e w);
  only = λ a p t b e x m. must_kept M N P d near a p t b e t
      (l.only a p t b e x (must_kept N M P d (all_turned M N d near) a p t b e x m));
}
