-- The pieces of a way, and those of an object map, are finitely many.
use Rattle.std.proofs.Common.{◌≡◌, ℕ, suc, ◌+◌, ◌-◌, ◌<◌, ◌≤◌, [], ◌∷◌, length, inl, inr, refl, sym, ap, subst, arith}
use Rattle.std.proofs.Common.{IsTrue}
use Rattle.std.specs.FinMap.{entries}
use Rattle.road_base.specs.declared.ids.WayId.{WayId}
use Rattle.road_base.specs.declared.ids.Dir.{Dir}
use Rattle.road_base.specs.declared.ids.Dir.TheVariants.{Forward, Backward}
use Rattle.road_base.specs.Objects.{Objects}
use Rattle.road_model.specs.Rules.{Rules}
use Rattle.road_model.specs.Lines.{line_of, node_at}
use Rattle.road_model.specs.Driving.{located, drivable}
use Rattle.road_model.specs.Pieces.{IsPlain, Span, IsPiece}
use Rattle.ordered_lists.proofs.Decided.{Decided, decided_both, decided_not, decided_like, decided_true, some_below}
use Rattle.road_model.proofs.Positions.{plain_decided, decided_less, open_in, at_within, ways_in}
use Rattle.road_model.proofs.StepPlaces.{step}
use Rattle.road_model.proofs.OnePiece.{parts}
use Rattle.ordered_lists.proofs.Enumerated.{Finite, fin_one, fin_by, fin_bind, fin_if, fin_list}
use Rattle.road_model.proofs.StepEnds.{some_located}
use Rattle.road_model.proofs.RulesDecided.{decided_upto, fin_below, in_dirs}

-- whether all numbers from i on and below j have the property
module _ (Q : ℕ → Type 0) (each : (k : ℕ) → Decided (Q k)) where
  fails_from : (i k : ℕ) → Decided ((i ≤ k) × (Q k → ⊥))
  fails_from i k = decided_both (decided_upto i k) (decided_not (each k))

  all_between : (i j : ℕ) → Decided ((k : ℕ) → i ≤ k → k < j → Q k)
  all_between i j = elim (some_below (λ k. (i ≤ k) × (Q k → ⊥)) (fails_from i) j) [
    | inl r ↦ inr (λ all. r.2.1 (all r.0 r.2.0 r.1))
    | inr n ↦ inl (λ k a b. elim (each k) [ inl q ↦ q | inr m ↦ absurd (n k b (a, m)) ])
  ]

module _ (M : Objects) (P : Rules) where
  pub piece_decided : (p : Span) → Decided (IsPiece M P p)
  piece_decided p = decided_like
      (λ h. record { ascends = h.0; first = h.1.0; last = h.1.1.0; inner = h.1.1.1.0; drives = h.1.1.1.1 })
      (λ h. (h.ascends, (h.first, (h.last, (h.inner, h.drives)))))
      (decided_both (decided_less p.index p.end)
      (decided_both (decided_not (plain_decided M P p.way p.index))
      (decided_both (decided_not (plain_decided M P p.way p.end))
      (decided_both (all_between (IsPlain M P p.way) (plain_decided M P p.way) (suc p.index) p.end)
      (all_between (λ k. IsTrue (drivable M P (step p.way p.dir k))) (λ k. decided_true _) p.index p.end)))))

  -- the nodes of a piece have locations
  pub piece_located : (p : Span) → IsPiece M P p → (k : ℕ) → p.index ≤ k → k ≤ p.end →
      IsTrue (located M (node_at M p.way k))
  piece_located p i k a b = elim (decided_less k p.end) [
    | inl l ↦ (parts M P p.way p.dir k (i.drives k a l)).here
    | inr n ↦
        let l = i.ascends in
        let e : p.end - 1 + 1 ≡ k = omega (arith, n) in
        subst (λ x. IsTrue (located M (node_at M p.way x))) e
        (parts M P p.way p.dir (p.end - 1) (i.drives (p.end - 1) (omega arith) (omega arith))).next
  ]

  piece_within : (p : Span) → IsPiece M P p → p.end < length (line_of M p.way)
  piece_within p i =
      let l = i.ascends in
      let n = some_located M _ (piece_located p i p.end (omega arith) (omega arith)) in
      at_within M p.way p.end n.0 n.1

  piece_from : WayId → ℕ → ℕ → Dir → Span
  piece_from w i j d = record { way = w; index = i; end = j; dir = d }

  piece_is : (w : WayId) (p : Span) → p.way ≡ w → p ≡ piece_from w p.index p.end p.dir
  unfolding piece_from
  piece_is w p e = λ x. record { way = e x; index = p.index; end = p.end; dir = p.dir }

  -- a piece of the way
  pub record IsOf (w : WayId) (p : Span) : Type 0 where
    pub is : IsPiece M P p
    pub way : p.way ≡ w

  of_from : (w : WayId) (p : Span) (i j : ℕ) (d : Dir) → IsPiece M P (piece_from w i j d) → p ≡ piece_from w i j d →
      IsOf w p
  unfolding piece_from
  of_from w p i j d h e = record { is = subst (IsPiece M P) (sym e) h; way = ap (λ q. q.way) e }

  within_of : (w : WayId) (p : Span) → IsOf w p → p.end < length (line_of M w)
  within_of w p h = subst (λ v. p.end < length (line_of M v)) h.way (piece_within p h.is)

  pub fin_pieces_of : (w : WayId) → Finite (IsOf w)
  fin_pieces_of w = fin_by
      (fin_bind (fin_below (length (line_of M w)))
      (λ i. fin_bind (fin_below (length (line_of M w)))
      (λ j. fin_bind (fin_list (Forward ∷ Backward ∷ []))
      (λ d. fin_if (piece_decided (piece_from w i j d)) (λ h. fin_one (piece_from w i j d))))))
      (λ p h. of_from w p h.0 h.2.0 h.2.2.0 h.2.2.2.0 h.2.2.2.1)
      (λ p h. let l = h.is.ascends in let k = within_of w p h in let e = piece_is w p h.way in
      (p.index, omega arith, (p.end, k, (p.dir, in_dirs p.dir, (subst (IsPiece M P) e h.is, e)))))

  piece_in : (p : Span) → IsPiece M P p → IsOf p.way p
  piece_in p i = record { is = i; way = refl }

  pub fin_pieces : Finite (IsPiece M P)
  fin_pieces = fin_by
      (fin_bind (fin_list (ways_in (entries M))) fin_pieces_of)
      (λ p h. h.2.is)
      (λ p i. let l = i.ascends in (
        p.way,
        open_in M P p.way p.dir (parts M P p.way p.dir p.index (i.drives p.index (omega arith) l)).is_free,
        piece_in p i,
      ))
