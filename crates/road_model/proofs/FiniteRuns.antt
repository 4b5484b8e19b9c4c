-- What the ways of a list spell, one behind another, is one of finitely many lists.
use Rattle.std.proofs.Common.{◌≡◌, List, [], ◌∷◌, ◌++◌, length, ◌⊎◌, inl, inr, refl, sym, ap, subst, Bool, Some, IsTrue}
use Rattle.road_base.specs.declared.ids.NodeId.{NodeId}
use Rattle.road_base.specs.declared.ids.WayId.{WayId}
use Rattle.road_base.specs.declared.ids.Key.{Key}
use Rattle.road_base.specs.declared.ids.Key.TheVariants.{Node as NodeKey, Way as WayKey, Relation as RelationKey}
use Rattle.road_base.specs.declared.ids.Step.{Step}
use Rattle.road_base.specs.declared.ids.Dir.{Dir}
use Rattle.road_base.specs.declared.ids.Dir.TheVariants.{Forward, Backward}
use Rattle.road_base.specs.Objects.{Objects}
use Rattle.road_model.specs.Lines.{line_of, node_at}
use Rattle.road_model.specs.Restrictions.{IsRun, whole_way, begin_position, end_position}
use Rattle.ordered_lists.proofs.Decided.{Decided, decided_true}
use Rattle.road_model.proofs.Positions.{decided_option}
use Rattle.ordered_lists.proofs.Enumerated.{Finite, fin_none, fin_one, fin_or, fin_like, fin_by, fin_bind, fin_some}

pub pair_is : (y : List Step × NodeId) (a : List Step) (b : NodeId) → y.0 ≡ a → y.1 ≡ b → y ≡ (a, b)
pair_is y a b e f = λ i. (e i, f i)

module _ (M : Objects) (allowed : WayId → Dir → Bool) where
  -- what the ways spell from a node on, and where they are left
  Run : List Key → NodeId → (List Step × NodeId) → Type 0
  Run ks v y = IsRun M allowed ks v y.0 y.1

  Along : WayId → List Key → NodeId → Dir → (List Step × NodeId) → Type 0
  Along w ks v d y = (next : NodeId) × (rest : List Step) × IsTrue (allowed w d)
      × (node_at M w (begin_position (length (line_of M w)) d) ≡ Some v)
      × (node_at M w (end_position (length (line_of M w)) d) ≡ Some next) × (y.0 ≡ whole_way M w d ++ rest)
      × IsRun M allowed ks next rest y.1

  along_if : (w : WayId) (ks : List Key) (v : NodeId) (d : Dir) → ((n : NodeId) → Finite (Run ks n))
      → Decided (IsTrue (allowed w d)) → Decided (node_at M w (begin_position (length (line_of M w)) d) ≡ Some v)
      → Finite (Along w ks v d)
  unfolding Along Run
  along_if w ks v d go (inl a) (inl b) = fin_by
      (fin_bind (fin_some (node_at M w (end_position (length (line_of M w)) d)))
      (λ n. fin_bind (go n) (λ z. fin_one (whole_way M w d ++ z.0, z.1))))
      (λ y h. (
        h.0,
        h.2.0.0,
        a,
        b,
        h.1,
        ap (λ z. z.0) h.2.2,
        subst (IsRun M allowed ks h.0 h.2.0.0)
            (sym (ap (λ z. z.1) h.2.2)) h.2.1,
      ))
      (λ y h. (h.0, h.4, ((h.1, y.1), h.6, pair_is y (whole_way M w d ++ h.1) y.1 h.5 refl)))
  along_if w ks v d go (inl a) (inr n) = fin_none (λ y h. n h.3)
  along_if w ks v d go (inr n) b = fin_none (λ y h. n h.2)

  fin_along : (w : WayId) (ks : List Key) (v : NodeId) (d : Dir) → ((n : NodeId) → Finite (Run ks n))
      → Finite (Along w ks v d)
  fin_along w ks v d go = along_if w ks v d go (decided_true _) (decided_option _ _)

  along_way : (w : WayId) (ks : List Key) (v : NodeId) (y : List Step × NodeId)
      → Along w ks v Forward y ⊎ Along w ks v Backward y → IsRun M allowed (WayKey w ∷ ks) v y.0 y.1
  unfolding Along
  along_way w ks v y (inl h) = (Forward, h.0, h.1, h.2, h.3, h.4, h.5, h.6)
  along_way w ks v y (inr h) = (Backward, h.0, h.1, h.2, h.3, h.4, h.5, h.6)

  way_along : (w : WayId) (ks : List Key) (v : NodeId) (y : List Step × NodeId) (d : Dir) → Along w ks v d y
      → Along w ks v Forward y ⊎ Along w ks v Backward y
  way_along w ks v y Forward h = inl h
  way_along w ks v y Backward h = inr h

  along_of : (w : WayId) (ks : List Key) (v : NodeId) (y : List Step × NodeId)
      (h : IsRun M allowed (WayKey w ∷ ks) v y.0 y.1) → Along w ks v h.0 y
  unfolding Along
  along_of w ks v y h = (h.1, h.2, h.3, h.4, h.5, h.6, h.7)

  pub fin_run : (ks : List Key) (v : NodeId) → Finite (λ (y : List Step × NodeId). IsRun M allowed ks v y.0 y.1)
  unfolding Run
  fin_run [] v = fin_like (λ y e. (ap (λ z. z.0) e, sym (ap (λ z. z.1) e))) (λ y h. pair_is y [] v h.0 (sym h.1))
      (fin_one ([], v))
  fin_run (NodeKey n ∷ ks) v = fin_none (λ y h. h)
  fin_run (WayKey w ∷ ks) v = fin_like (λ y h. along_way w ks v y h)
      (λ y h. way_along w ks v y h.0 (along_of w ks v y h))
      (fin_or (fin_along w ks v Forward (fin_run ks)) (fin_along w ks v Backward (fin_run ks)))
  fin_run (RelationKey r ∷ ks) v = fin_none (λ y h. h)
