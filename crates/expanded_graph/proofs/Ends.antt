-- The first and the last step of a piece, and the nodes of a drivable step.
use Rattle.std.proofs.Common.{◌≡◌, ℕ, zero, suc, ◌+◌, ◌-◌, ◌<◌, ◌≤◌, List, [], ◌∷◌, ◌++◌, length, inl, inr, refl, sym}
use Rattle.std.proofs.Common.{ap, ◌∙◌, subst, arith, Option, Some, None, IsTrue, slice_get}
use Rattle.std.proofs.lemmas.Bool.{and_parts, false≢true}
use Rattle.std.proofs.lemmas.Option.{slice_get_within}
use Rattle.road_base.specs.declared.ids.NodeId.{NodeId}
use Rattle.road_base.specs.declared.ids.WayId.{WayId}
use Rattle.road_base.specs.declared.ids.Step.{Step}
use Rattle.road_base.specs.declared.ids.Dir.{Dir}
use Rattle.road_base.specs.declared.ids.Dir.TheVariants.{Forward, Backward}
use Rattle.road_base.specs.Objects.{Objects}
use Rattle.road_model.specs.Rules.{Rules}
use Rattle.road_model.specs.Lines.{line_of, node_at, head_of, head_position, tail_of, tail_position, forward_steps}
use Rattle.road_model.specs.Lines.{backward_steps, steps_from}
use Rattle.road_model.specs.Driving.{located, drivable}
use Rattle.road_model.specs.Pieces.{IsPlain, Span, IsPiece, spell}
use Rattle.road_model.specs.Blocks.{name_of}
use Rattle.ordered_lists.proofs.Decided.{order}
use Rattle.road_model.proofs.FinitePieces.{piece_located}
use Rattle.way_pieces.proofs.DrivenSteps.{named_end}

abbrev pub step : WayId → ℕ → Dir → Step
step w i d = record { way = w; index = i; dir = d }

-- where the first and the last step between two positions lie
abbrev pub first_index : Dir → ℕ → ℕ → ℕ
first_index Forward i j = i
first_index Backward i j = j - 1

abbrev pub last_index : Dir → ℕ → ℕ → ℕ
last_index Forward i j = j - 1
last_index Backward i j = i

abbrev pub first_step : Span → Step
first_step p = step p.way (first_index p.dir p.index p.end) p.dir

abbrev pub last_step : Span → Step
last_step p = step p.way (last_index p.dir p.index p.end) p.dir

pub record BeginsWith (s : Step) (l : List Step) : Type 0 where
  pub rest : List Step
  pub is : l ≡ s ∷ rest

pub record EndsWith (s : Step) (l : List Step) : Type 0 where
  pub front : List Step
  pub is : l ≡ front ++ s ∷ []

at_index : (w : WayId) (d : Dir) (i j : ℕ) → i ≡ j → step w i d ≡ step w j d
at_index w d i j e = ap (λ k. step w k d) e

begins_by : (w : WayId) (i n j : ℕ) (d : Dir) → j ≡ i + suc n
    → BeginsWith (step w (first_index d i j) d) (steps_from w i (suc n) d)
begins_by w i n j Forward e = record { rest = forward_steps w (i + 1) n; is = refl }
begins_by w i n j Backward e =
    record {
      rest = backward_steps w i n;
      is = ap (λ s. s ∷ backward_steps w i n) (at_index w Backward (i + n) (j - 1) (omega arith));
    }

ends_forward : (w : WayId) (i n j : ℕ) → j ≡ i + n → EndsWith (step w j Forward) (forward_steps w i (suc n))
ends_forward w i zero j e = record { front = []; is = ap (λ s. s ∷ []) (at_index w Forward i j (omega arith)) }
ends_forward w i (suc n) j e = let r =
    ends_forward w (i + 1) n j (omega arith) in record {
      front = step w i Forward ∷ r.front;
      is = ap (λ l. step w i Forward ∷ l) r.is;
    }

ends_backward : (w : WayId) (i n : ℕ) → EndsWith (step w i Backward) (backward_steps w i (suc n))
ends_backward w i zero = record { front = []; is = ap (λ s. s ∷ []) (at_index w Backward (i + 0) i (omega arith)) }
ends_backward w i (suc n) = let r =
    ends_backward w i n in record {
      front = step w (i + suc n) Backward ∷ r.front;
      is = ap (λ l. step w (i + suc n) Backward ∷ l) r.is;
    }

ends_by : (w : WayId) (i n j : ℕ) (d : Dir) → j ≡ i + suc n
    → EndsWith (step w (last_index d i j) d) (steps_from w i (suc n) d)
ends_by w i n j Forward e = ends_forward w i n (j - 1) (omega arith)
ends_by w i n j Backward e = ends_backward w i n

pub spell_begins : (p : Span) → p.index < p.end → BeginsWith (first_step p) (spell p)
spell_begins p h =
    let e : suc (p.end - p.index - 1) ≡ p.end - p.index = omega arith in
    subst (λ n. BeginsWith (first_step p) (steps_from p.way p.index n p.dir)) e
    (begins_by p.way p.index (p.end - p.index - 1) p.end p.dir (omega arith))

pub spell_ends : (p : Span) → p.index < p.end → EndsWith (last_step p) (spell p)
spell_ends p h =
    let e : suc (p.end - p.index - 1) ≡ p.end - p.index = omega arith in
    subst (λ n. EndsWith (last_step p) (steps_from p.way p.index n p.dir)) e
    (ends_by p.way p.index (p.end - p.index - 1) p.end p.dir (omega arith))

-- ---- the first step names the piece

module _ (M : Objects) (P : Rules) where
  same_index : (p q : Span) → IsPiece M P p → IsPiece M P q → p.way ≡ q.way → p.end ≡ q.end → p.index ≡ q.index
  same_index p q a b w e =
      let up = a.ascends in
      let up' = b.ascends in
      elim (order p.index q.index) [
        | inl l ↦ absurd (b.first (subst (λ v. IsPlain M P v q.index) w (a.inner q.index l (omega arith))))
        | inr o ↦ elim o [
          | inl same ↦ same
          | inr l ↦ absurd (a.first (subst (λ v. IsPlain M P v p.index) (sym w) (b.inner p.index l (omega arith))))
        ]
      ]

  same_start : (d : Dir) (p q : Span) → IsPiece M P p → IsPiece M P q → p.way ≡ q.way
      → first_index d p.index p.end ≡ first_index d q.index q.end → p.index ≡ q.index
  same_start Forward p q a b w e = e
  same_start Backward p q a b w e = let up = a.ascends in let up' = b.ascends in same_index p q a b w (omega arith)

  -- pieces that begin with one step have one name
  pub one_first : (p q : Span) (s : Step) (more rest : List Step) → IsPiece M P p → IsPiece M P q
      → spell p ≡ s ∷ more → spell q ≡ s ∷ rest → name_of p ≡ name_of q
  one_first p q s more rest a b e f =
      let g = spell_begins p a.ascends in
      let h = spell_begins q b.ascends in
      let first : first_step p ≡ s = let k = g.is in cc in
      let again : first_step q ≡ s = let k = h.is in cc in
      let same : first_step p ≡ first_step q = first ∙ sym again in
      let w : p.way ≡ q.way = ap (λ t. t.way) same in
      let d : p.dir ≡ q.dir = ap (λ t. t.dir) same in
      let i : first_index p.dir p.index p.end ≡ first_index q.dir q.index q.end = ap (λ t. t.index) same in
      let j : p.index ≡ q.index = same_start p.dir p q a b w (i ∙ ap (λ x. first_index x q.index q.end) (sym d)) in
      λ x. record { way = w x; index = j x; dir = d x }

  -- ---- the nodes of a drivable step

  pub located_some : (o : Option NodeId) → IsTrue (located M o) → (v : NodeId) × (o ≡ Some v)
  located_some None h = absurd (false≢true h)
  located_some (Some v) h = (v, refl)

  pub both_located : (s : Step) → IsTrue (drivable M P s) → IsTrue (located M (node_at M s.way s.index))
      × IsTrue (located M (node_at M s.way (s.index + 1)))
  unfolding drivable
  both_located s h = let a = and_parts _ _ h in and_parts _ _ a.1

  on_line : (w : WayId) (k : ℕ) → IsTrue (located M (node_at M w k)) → k < length (line_of M w)
  unfolding node_at
  on_line w k h = let n = located_some (slice_get (line_of M w) k) h in slice_get_within (line_of M w) k n.0 n.1

  head_at : (w : WayId) (i : ℕ) (d : Dir) → IsTrue (located M (node_at M w i))
      → IsTrue (located M (node_at M w (i + 1)))
      → (v : NodeId) × (node_at M w (head_position d i) ≡ Some v)
  head_at w i Forward a b = located_some (node_at M w (i + 1)) b
  head_at w i Backward a b = located_some (node_at M w i) a

  -- a drivable step ends somewhere
  pub has_head : (s : Step) → IsTrue (drivable M P s) → (v : NodeId) × (head_of M s ≡ Some v)
  has_head s h =
      let b = both_located s h in
      let at = head_at s.way s.index s.dir b.0 b.1 in
      (at.0, named_end M s (head_position s.dir s.index) (on_line s.way (s.index + 1) b.1) ∙ at.1)

  tail_at : (w : WayId) (i : ℕ) (d : Dir) → IsTrue (located M (node_at M w i))
      → IsTrue (located M (node_at M w (i + 1)))
      → (v : NodeId) × (node_at M w (tail_position d i) ≡ Some v)
  tail_at w i Forward a b = located_some (node_at M w i) a
  tail_at w i Backward a b = located_some (node_at M w (i + 1)) b

  -- a drivable step begins somewhere
  pub has_tail : (s : Step) → IsTrue (drivable M P s) → (v : NodeId) × (tail_of M s ≡ Some v)
  has_tail s h =
      let b = both_located s h in
      let at = tail_at s.way s.index s.dir b.0 b.1 in
      (at.0, named_end M s (tail_position s.dir s.index) (on_line s.way (s.index + 1) b.1) ∙ at.1)

  first_within : (d : Dir) (i j : ℕ) → i < j → (i ≤ first_index d i j) × (first_index d i j < j)
  first_within Forward i j h = (omega arith, h)
  first_within Backward i j h = (omega arith, omega arith)

  pub first_drives : (p : Span) (s : Step) (more : List Step) → IsPiece M P p → spell p ≡ s ∷ more
      → IsTrue (drivable M P s)
  first_drives p s more a e =
      let g = spell_begins p a.ascends in
      let first : first_step p ≡ s = let k = g.is in cc in
      let within = first_within p.dir p.index p.end a.ascends in
      subst (λ t. IsTrue (drivable M P t)) first (a.drives (first_index p.dir p.index p.end) within.0 within.1)

  pub piece_on_line : (p : Span) → IsPiece M P p → p.end < length (line_of M p.way)
  piece_on_line p a = let up = a.ascends in
      on_line p.way p.end (piece_located M P p a p.end (omega arith) (omega arith))
