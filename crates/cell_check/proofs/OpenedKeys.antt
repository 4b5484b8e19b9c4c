-- Keys that aren't closed are added, one behind another.
use Rattle.std.proofs.Common.{◌≡◌, ◌↔◌, inl, inr, ℕ, ◌+◌, ◌<◌, ◌≤◌, Bool, true, false, not, cond, IsTrue, List, []}
use Rattle.std.proofs.Common.{◌∷◌, ◌++◌, Contains, map, length, take, get_or, refl, ap, sym, subst, ◌∙◌, append_assoc}
use Rattle.std.proofs.lemmas.Bool.{false≢true}
use Rattle.std.proofs.lemmas.List.{append-nil, take_more, take_all, map-append}
use Rattle.std.proofs.lemmas.List.Elements.{Contains-append_left}
use Rattle.road_base.specs.declared.ids.NodeId.{NodeId}
use Rattle.road_base.specs.declared.ids.Key.{Key}
use Rattle.road_base.specs.Objects.{Objects}
use Rattle.ordered_lists.proofs.ListMembers.{contains_from_in, in_end, contains_none}
use Rattle.ordered_lists.proofs.JoinedLists.{one_more}
use Rattle.map_cells.specs.declared.area.Area.{Area}
use Rattle.map_cells.specs.Cells.{IsLocatedIn, IsClosed}
use Rattle.cell_check.specs.Closing.{AddsOpen, AreOpenAmong, HasNodeIn}
use Rattle.cell_check.proofs.ClosedKeys.{one_open, one_closed}

pub same_keys : (ks : List Key) → map (λ k. k) ks ≡ ks
same_keys [] = refl
same_keys (k ∷ ks) = ap (λ l. k ∷ l) (same_keys ks)

module _ (M : Objects) (area : Area) where
  -- nothing
  pub adds_none : (starts : List Key) → AddsOpen M area [] starts starts
  adds_none starts = λ judged before.
      subst (λ (l : List Key). AreOpenAmong M area l starts) (sym (append-nil judged)) before

  -- some keys, and others
  pub adds_both : (ks ls both : List Key) (s t u : List Key) → both ≡ ks ++ ls → AddsOpen M area ks s t
      → AddsOpen M area ls t u → AddsOpen M area both s u
  adds_both ks ls both s t u is first second = λ judged before.
      subst (λ (l : List Key). AreOpenAmong M area l u)
      (append_assoc judged ks ls ∙ ap (λ (l : List Key). judged ++ l) (sym is))
      (second (judged ++ ks) (first judged before))

  -- a key, where it isn't closed
  pub adds_if : (b : Bool) (k : Key) (s t : List Key) → IsTrue b ↔ IsClosed M area k
      → t ≡ s ++ cond (not b) (k ∷ []) [] → AddsOpen M area (k ∷ []) s t
  adds_if true k s t is more = λ judged before.
      subst (AreOpenAmong M area (judged ++ k ∷ [])) (sym (more ∙ append-nil s))
      (one_closed M area judged s s k before (is.0 refl))
  adds_if false k s t is more = λ judged before.
      one_open M area judged s t k before (λ closed. false≢true (is.1 closed)) more

  -- one of a list more, and all
  pub adds_next : {A : Type 0} (f : A → Key) (s t u : List Key) (xs : List A) (i : ℕ) (d : A) → i < length xs
      → AddsOpen M area (map f (take i xs)) s t → AddsOpen M area (f (get_or xs i d) ∷ []) t u
      → AddsOpen M area (map f (take (i + 1) xs)) s u
  adds_next f s t u xs i d within first second =
      adds_both (map f (take i xs)) (f (get_or xs i d) ∷ []) (map f (take (i + 1) xs)) s t u
      (ap (map f) (take_more xs i d within) ∙ map-append f (take i xs) (get_or xs i d ∷ [])) first second

  pub adds_all : {A : Type 0} (f : A → Key) (s t : List Key) (xs : List A) (i : ℕ) → length xs ≤ i
      → AddsOpen M area (map f (take i xs)) s t → AddsOpen M area (map f xs) s t
  adds_all f s t xs i past adds =
      subst (λ (l : List _). AddsOpen M area (map f l) s t) (take_all i xs past) adds

  -- ---- whether one of the nodes so far is closed

  pub none_yet : (nodes : List NodeId) → IsTrue false ↔ HasNodeIn M area (take 0 nodes)
  none_yet nodes = (λ t. absurd (false≢true t), λ (n, has, l). absurd (contains_none n has))

  pub yes_now : (nodes : List NodeId) (i : ℕ) (d : NodeId) → i < length nodes
      → IsLocatedIn M area (get_or nodes i d) → IsTrue true ↔ HasNodeIn M area (take (i + 1) nodes)
  yes_now nodes i d within l = (
    λ t. (
      get_or nodes i d,
      subst (λ (m : List NodeId). Contains m (get_or nodes i d)) (sym (take_more nodes i d within))
          (contains_from_in (take i nodes ++ get_or nodes i d ∷ []) _ (in_end (take i nodes) (get_or nodes i d) [])),
      l,
    ),
    λ h. refl,
  )

  pub still : (b : Bool) (nodes : List NodeId) (i : ℕ) (d : NodeId) → i < length nodes
      → IsTrue b ↔ HasNodeIn M area (take i nodes) → (IsLocatedIn M area (get_or nodes i d) → ⊥)
      → IsTrue b ↔ HasNodeIn M area (take (i + 1) nodes)
  still b nodes i d within before not_here = (
    λ t.
        let h = before.0 t in (
          h.0,
          subst (λ (m : List NodeId). Contains m h.0) (sym (take_more nodes i d within))
              (Contains-append_left (take i nodes) (get_or nodes i d ∷ []) h.0 h.1),
          h.2,
        ),
    λ (n, has, l). elim (one_more nodes i d n within has) [
      | inl last ↦ absurd (not_here (subst (IsLocatedIn M area) last l))
      | inr earlier ↦ before.1 (n, earlier, l)
    ],
  )

  pub of_all : (b : Bool) (nodes : List NodeId) (i : ℕ) → length nodes ≤ i
      → IsTrue b ↔ HasNodeIn M area (take i nodes) → IsTrue b ↔ HasNodeIn M area nodes
  of_all b nodes i past = subst (λ (m : List NodeId). IsTrue b ↔ HasNodeIn M area m) (take_all i nodes past)
