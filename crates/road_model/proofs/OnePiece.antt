-- Each drivable step stands in the spelling of exactly one piece.
use Rattle.std.proofs.Common.{◌≡◌, ℕ, zero, suc, ◌+◌, ◌-◌, ◌<◌, ◌≤◌, length, ◌⊎◌, inl, inr, refl, sym, ap, ◌∙◌, subst}
use Rattle.std.proofs.Common.{arith, IsTrue}
use Rattle.std.proofs.lemmas.Bool.{and_parts, and_from}
use Rattle.road_base.specs.declared.ids.WayId.{WayId}
use Rattle.road_base.specs.declared.ids.Step.{Step}
use Rattle.road_base.specs.declared.ids.Dir.{Dir}
use Rattle.road_base.specs.Objects.{Objects}
use Rattle.road_model.specs.Rules.{Rules}
use Rattle.road_model.specs.Lines.{line_of, node_at}
use Rattle.road_model.specs.Driving.{is_open, located, drivable}
use Rattle.road_model.specs.Pieces.{IsPlain, Span, IsPiece, IsInOnePiece}
use Rattle.ordered_lists.proofs.Decided.{order}
use Rattle.road_model.proofs.Positions.{plain_decided}
use Rattle.road_model.proofs.StepPlaces.{Inside, step, place, stands, stands_inside}

-- the nearest junction at or before k
record Left (M : Objects) (P : Rules) (w : WayId) (k : ℕ) : Type 0 where
  at : ℕ
  low : at ≤ k
  junction : IsPlain M P w at → ⊥
  plain : (m : ℕ) → at < m → m ≤ k → IsPlain M P w m

left_here : (M : Objects) (P : Rules) (w : WayId) (k : ℕ) → (IsPlain M P w k → ⊥) → Left M P w k
left_here M P w k n = record { at = k; low = omega arith; junction = n; plain = λ m a b. absurd (omega arith) }

upto_cases : (m k : ℕ) → m ≤ suc k → (m ≡ suc k) ⊎ (m ≤ k)
upto_cases m k h = grind arith

left_more : (M : Objects) (P : Rules) (w : WayId) (k : ℕ) → IsPlain M P w (suc k) → Left M P w k → Left M P w (suc k)
left_more M P w k p l = let low = l.low in record {
  at = l.at;
  low = omega arith;
  junction = l.junction;
  plain = λ m a b. elim (upto_cases m k b) [ inl e ↦ subst (IsPlain M P w) (sym e) p | inr c ↦ l.plain m a c ];
}

left : (M : Objects) (P : Rules) (w : WayId) (k : ℕ) → Left M P w k
left M P w zero = left_here M P w zero (λ p. let h = p.not_first in omega arith)
left M P w (suc k) = elim (plain_decided M P w (suc k))
    [ inl p ↦ left_more M P w k p (left M P w k) | inr n ↦ left_here M P w (suc k) n ]

-- the nearest junction at or behind k
record Right (M : Objects) (P : Rules) (w : WayId) (k : ℕ) : Type 0 where
  at : ℕ
  high : k ≤ at
  junction : IsPlain M P w at → ⊥
  plain : (m : ℕ) → k ≤ m → m < at → IsPlain M P w m

right_here : (M : Objects) (P : Rules) (w : WayId) (k : ℕ) → (IsPlain M P w k → ⊥) → Right M P w k
right_here M P w k n = record { at = k; high = omega arith; junction = n; plain = λ m a b. absurd (omega arith) }

from_cases : (m k : ℕ) → k ≤ m → (m ≡ k) ⊎ (k + 1 ≤ m)
from_cases m k h = grind arith

right_more : (M : Objects) (P : Rules) (w : WayId) (k : ℕ) → IsPlain M P w k → Right M P w (k + 1) → Right M P w k
right_more M P w k p r = let high = r.high in record {
  at = r.at;
  high = omega arith;
  junction = r.junction;
  plain = λ m a b. elim (from_cases m k a) [ inl e ↦ subst (IsPlain M P w) (sym e) p | inr c ↦ r.plain m c b ];
}

right : (M : Objects) (P : Rules) (w : WayId) (fuel k : ℕ) → length (line_of M w) ≤ k + fuel → Right M P w k
right M P w zero k h = right_here M P w k (λ p. let l = p.not_last in omega arith)
right M P w (suc n) k h = elim (plain_decided M P w k)
    [ inl p ↦ right_more M P w k p (right M P w n (k + 1) (omega arith)) | inr n ↦ right_here M P w k n ]

pub record Parts (M : Objects) (P : Rules) (w : WayId) (d : Dir) (k : ℕ) : Type 0 where
  pub is_free : IsTrue (is_open M P w d)
  pub here : IsTrue (located M (node_at M w k))
  pub next : IsTrue (located M (node_at M w (k + 1)))

pub parts : (M : Objects) (P : Rules) (w : WayId) (d : Dir) (k : ℕ)
    → IsTrue (drivable M P (record { way = w; index = k; dir = d })) → Parts M P w d k
unfolding drivable
parts M P w d k h = let a = and_parts _ _ h in let b = and_parts _ _ a.1 in record
    { is_free = a.0; here = b.0; next = b.1 }

pub from_parts : (M : Objects) (P : Rules) (w : WayId) (d : Dir) (k : ℕ) → IsTrue (is_open M P w d)
    → IsTrue (located M (node_at M w k)) → IsTrue (located M (node_at M w (k + 1)))
    → IsTrue (drivable M P (record { way = w; index = k; dir = d }))
unfolding drivable
from_parts M P w d k f a b = and_from _ _ f (and_from _ _ a b)

pub plain_here : (M : Objects) (P : Rules) (w : WayId) (k : ℕ) → IsPlain M P w k → IsTrue (located M (node_at M w k))
plain_here M P w k p = rw p.is p.here

plain_before : (M : Objects) (P : Rules) (w : WayId) (k : ℕ) → IsPlain M P w (k + 1)
    → IsTrue (located M (node_at M w k))
plain_before M P w k p = let e : k + 1 - 1
    ≡ k = omega arith in subst (λ x. IsTrue (located M (node_at M w x))) e p.before

module _ (M : Objects) (P : Rules) (w : WayId) (d : Dir) (k : ℕ)
    (h : IsTrue (drivable M P (record { way = w; index = k; dir = d }))) (l : Left M P w k) (r : Right M P w (k + 1))
  where
    the_piece : Span
    the_piece = record { way = w; index = l.at; end = r.at; dir = d }

    drives_at : (m : ℕ) → l.at ≤ m → m < r.at → IsTrue (drivable M P (record { way = w; index = m; dir = d }))
    drives_at m a b =
        let free = (parts M P w d k h).is_free in
        elim (order m k) [
          | inl c ↦ from_parts M P w d m free (plain_before M P w m (l.plain (m + 1) (omega arith) (omega arith)))
              (plain_here M P w (m + 1) (l.plain (m + 1) (omega arith) (omega arith)))
          | inr o ↦ elim o [
            | inl e ↦ subst (λ x. IsTrue (drivable M P (step w d x))) (sym e) h
            | inr c ↦ let p = r.plain m (omega arith) b in from_parts M P w d m free (plain_here M P w m p) p.behind
          ]
        ]

    is_piece : IsPiece M P the_piece
    unfolding the_piece
    is_piece = let low = l.low in let high = r.high in record {
      ascends = omega arith;
      first = l.junction;
      last = r.junction;
      inner = λ m a b. elim (order m (k + 1)) [
        | inl c ↦ l.plain m a (omega arith)
        | inr o ↦ r.plain m (elim o [ inl e ↦ omega arith | inr c ↦ omega arith ]) b
      ];
      drives = drives_at;
    }

    -- a piece that has the step is this one
    same_ends : (i j : ℕ) → i ≤ k → k < j → (IsPlain M P w i → ⊥) → (IsPlain M P w j → ⊥)
        → ((m : ℕ) → i < m → m < j → IsPlain M P w m) → (i ≡ l.at) × (j ≡ r.at)
    same_ends i j a b first last inner =
        let low = l.low in let high = r.high in (
          elim (order i l.at) [
            | inl c ↦ absurd (l.junction (inner l.at c (omega arith)))
            | inr o
                ↦ elim o [ inl e ↦ e | inr c ↦ absurd (first (l.plain i c a)) ]
          ],
          elim (order j r.at) [
            | inl c ↦ absurd (last (r.plain j (omega arith) c))
            | inr o
                ↦ elim o [ inl e ↦ e | inr c ↦ absurd (r.junction (inner r.at (omega arith) c)) ]
          ],
        )

    same_piece : (q : Span) → IsPiece M P q → Inside q (record { way = w; index = k; dir = d }) → q ≡ the_piece
    unfolding the_piece
    same_piece q i h' =
        let e = same_ends q.index q.end h'.low h'.high (rw h'.way i.first) (rw h'.way i.last) (rw h'.way i.inner) in
        λ x. record { way = (sym h'.way) x; index = e.0 x; end = e.1 x; dir = (sym h'.dir) x }

    in_one : IsInOnePiece M P (record { way = w; index = k; dir = d })
    unfolding the_piece
    in_one =
        let low = l.low in let high = r.high in
        let s : Step = record { way = w; index = k; dir = d } in
        let i : Inside the_piece s = record { way = refl; dir = refl; low = low; high = omega arith } in
        record {
          piece = the_piece;
          place = place the_piece s;
          stands = record { piece = is_piece; at = stands the_piece s i };
          only = λ q m at. let f = stands_inside q m s at.piece.ascends at.at in let e = same_piece q at.piece f.inside
              in (e, f.at ∙ ap (λ x. place x s) e);
        }

pub one_piece : (M : Objects) (P : Rules) (s : Step) → IsTrue (drivable M P s) → IsInOnePiece M P s
one_piece M P s h = in_one M P s.way s.dir s.index h (left M P s.way s.index)
    (right M P s.way (length (line_of M s.way)) (s.index + 1) (omega arith))
