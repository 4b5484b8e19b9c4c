-- Whether a position is plain is decided, since an object map is finite.
use Rattle.std.proofs.Common.{◌≡◌, ℕ, ◌<◌, List, [], ◌∷◌, length, ◌⊎◌, inl, inr, refl, sym, ap, ◌∙◌, arith, Bool, true}
use Rattle.std.proofs.Common.{false, cond, Option, Some, None, IsTrue}
use Rattle.std.specs.Ordering.{int_eq}
use Rattle.std.specs.FinMap.{get, entries, get-entries, find}
use Rattle.std.proofs.lemmas.Bool.Decides.{Decides-int_eq}
use Rattle.std.proofs.lemmas.Bool.{false≢true, or_cases}
use Rattle.std.proofs.lemmas.Option.{slice_get_within}
use Rattle.road_base.specs.declared.ids.NodeId.{NodeId}
use Rattle.road_base.specs.declared.ids.WayId.{WayId}
use Rattle.road_base.specs.declared.ids.Key.{Key}
use Rattle.road_base.specs.declared.ids.Key.TheVariants.{Node as NodeKey, Way as WayKey, Relation as RelationKey}
use Rattle.road_base.specs.declared.ids.Dir.{Dir}
use Rattle.road_base.specs.declared.ids.Dir.TheVariants.{Forward, Backward}
use Rattle.road_base.specs.Objects.{Objects, Entry, key_cmp, way_of, visible, body_in, way_in}
use Rattle.road_model.specs.Rules.{Rules}
use Rattle.road_model.specs.Lines.{line_of, node_at}
use Rattle.road_model.specs.Driving.{is_open, open_way, is_road}
use Rattle.road_model.specs.Pieces.{IsPlain}
use Rattle.ordered_lists.proofs.ListMembers.{In}
use Rattle.ordered_lists.proofs.Decided.{Decided, decided_both, decided_not, decided_like, decided_true, decided_false}
use Rattle.ordered_lists.proofs.Decided.{decided_int, some_in, some_below}

pub same_way : (v w : WayId) → v.0 ≡ w.0 → v ≡ w
same_way v w e = λ i. record { 0 = e i }

pub same_node_id : (v w : NodeId) → v.0 ≡ w.0 → v ≡ w
same_node_id v w e = λ i. record { 0 = e i }

pub decided_way : (v w : WayId) → Decided (v ≡ w)
decided_way v w = decided_like (same_way v w) (λ e. ap (λ x. x.0) e) (decided_int v.0 w.0)

pub decided_node : (v w : NodeId) → Decided (v ≡ w)
decided_node v w = decided_like (same_node_id v w) (λ e. ap (λ x. x.0) e) (decided_int v.0 w.0)

pub decided_option : (a b : Option NodeId) → Decided (a ≡ b)
decided_option None None = inl refl
decided_option None (Some b) = inr (λ e. cc)
decided_option (Some a) None = inr (λ e. cc)
decided_option (Some a) (Some b) = decided_like (λ e. ap Some e) (λ e. cc) (decided_node a b)

pub decided_number : (a b : ℕ) → Decided (a ≡ b)
decided_number a b = grind arith

-- the numbers of the ways that have an entry
abbrev pub ways_in : List (Key × Entry) → List WayId
ways_in [] = []
ways_in (e ∷ es) = elim e.0 [ NodeKey n ↦ ways_in es | WayKey w ↦ w ∷ ways_in es | RelationKey r ↦ ways_in es ]

found_way : (v u : WayId) (x e : Entry) (o : Option Entry) (ws : List WayId) (b : Bool) → int_eq v.0 u.0 ≡ b
    → cond b (Some x) o ≡ Some e → (o ≡ Some e → In v ws) → In v (u ∷ ws)
found_way v u x e o ws true t h go = inl (same_way v u ((Decides-int_eq v.0 u.0).0 t))
found_way v u x e o ws false t h go = inr (go h)

in_entries : (v : WayId) (e : Entry) (es : List (Key × Entry)) → find key_cmp (WayKey v) es ≡ Some e → In v (ways_in es)
in_entries v e [] h = cc
in_entries v e ((NodeKey n, x) ∷ es) h = in_entries v e es h
in_entries v e ((WayKey u, x) ∷ es) h = found_way v u x e (find key_cmp (WayKey v) es) (ways_in es) _ refl h
    (in_entries v e es)
in_entries v e ((RelationKey r, x) ∷ es) h = in_entries v e es h

open_entry : (P : Rules) (d : Dir) (o : Option Entry) → open_way P (way_in (body_in o)) d ≡ true
    → (e : Entry) × (o ≡ Some e)
open_entry P d None h = absurd (false≢true h)
open_entry P d (Some e) h = (e, refl)

pub open_in : (M : Objects) (P : Rules) (v : WayId) (d : Dir) → is_open M P v d ≡ true → In v (ways_in (entries M))
unfolding is_open way_of visible
open_in M P v d h = let r = open_entry P d (get M (WayKey v)) h in in_entries v r.0 (entries M)
    (sym (get-entries M (WayKey v)) ∙ r.1)

pub road_in : (M : Objects) (P : Rules) (v : WayId) → IsTrue (is_road M P v) → In v (ways_in (entries M))
road_in M P v h = elim (or_cases _ _ h) [ inl a ↦ open_in M P v Forward a | inr b ↦ open_in M P v Backward b ]

pub at_within : (M : Objects) (v : WayId) (j : ℕ) (n : NodeId) → node_at M v j ≡ Some n → j < length (line_of M v)
unfolding node_at
at_within M v j n h = slice_get_within (line_of M v) j n h

module _ (M : Objects) (P : Rules) (w : WayId) (i : ℕ) (n : NodeId) where
  Elsewhere : WayId → ℕ → Type 0
  Elsewhere v j = IsTrue (is_road M P v) × (node_at M v j ≡ Some n) × ((v ≡ w) × (j ≡ i) → ⊥)

  elsewhere_decided : (v : WayId) (j : ℕ) → Decided (Elsewhere v j)
  unfolding Elsewhere
  elsewhere_decided v j = decided_like (λ h. (h.0, h.1.0, h.1.1)) (λ h. (h.0, (h.1, h.2)))
      (decided_both (decided_true _) (decided_both (decided_option _ _)
      (decided_not (decided_both (decided_way v w) (decided_number j i)))))

  SomeElsewhere : WayId → Type 0
  SomeElsewhere v = (j : ℕ) × (j < length (line_of M v)) × Elsewhere v j

  some_elsewhere : (v : WayId) → Decided (SomeElsewhere v)
  unfolding SomeElsewhere
  some_elsewhere v = elim (some_below (Elsewhere v) (elsewhere_decided v) (length (line_of M v)))
      [ inl r ↦ inl r | inr r ↦ inr (λ s. r s.0 s.1 s.2) ]

  alone_decided : Decided ((v : WayId) (j : ℕ) → IsTrue (is_road M P v) → node_at M v j ≡ Some n → (v ≡ w) × (j ≡ i))
  unfolding Elsewhere SomeElsewhere
  alone_decided = elim (some_in SomeElsewhere some_elsewhere (ways_in (entries M))) [
    | inl r ↦ inr (λ all. let s = r.2.2 in s.2 (all r.0 r.2.0 s.0 s.1))
    | inr r ↦ inl (λ v j road here. elim (decided_both (decided_way v w) (decided_number j i)) [
      | inl e ↦ e
      | inr other ↦ absurd (r v (road_in M P v road) (j, at_within M v j n here, (road, here, other)))
    ])
  ]

at_some : (o : Option NodeId) → ((n : NodeId) × (o ≡ Some n)) ⊎ (o ≡ None)
at_some None = inr refl
at_some (Some n) = inl (n, refl)

pub decided_less : (a b : ℕ) → Decided (a < b)
decided_less a b = grind arith

pub plain_at : (M : Objects) (P : Rules) (w : WayId) (i : ℕ) (n : NodeId) → node_at M w i ≡ Some n
    → Decided (IsPlain M P w i)
plain_at M P w i n is =
    let same : (m : NodeId) → node_at M w i ≡ Some m → n ≡ m = λ m e. cc (is, e) in
    decided_like
    (λ g. let h = g.1 in record {
      road = g.0;
      not_first = h.0;
      not_last = h.1.0;
      node = n;
      is = is;
      before = h.1.1.0;
      here = h.1.1.1.0;
      behind = h.1.1.1.1.0;
      apart = h.1.1.1.1.1.0;
      alone = h.1.1.1.1.1.1.0;
      not_shut = h.1.1.1.1.1.1.1.0;
      no_turning = h.1.1.1.1.1.1.1.1;
    })
    (λ h. let e = same h.node h.is in (
      h.road,
      (
        h.not_first,
        (
          h.not_last,
          (
            h.before,
            (rw e h.here, (h.behind, (h.apart, (rw e h.alone, (rw e h.not_shut, rw e h.no_turning))))),
          ),
        ),
      ),
    ))
    (decided_both (decided_true _)
    (decided_both (decided_less _ _)
    (decided_both (decided_less _ _)
    (decided_both (decided_true _)
    (decided_both (decided_true _)
    (decided_both (decided_true _)
    (decided_both (decided_not (decided_option _ _))
    (decided_both (alone_decided M P w i n) (decided_both (decided_false _) (decided_false _))))))))))

-- whether a position is plain is decided
pub plain_decided : (M : Objects) (P : Rules) (w : WayId) (i : ℕ) → Decided (IsPlain M P w i)
plain_decided M P w i = elim (at_some (node_at M w i)) [
  | inl r ↦ plain_at M P w i r.0 r.1
  | inr none ↦ inr (λ h. let e = h.is in cc (none, e))
]
