-- The sources of a context are finitely many.
use Rattle.std.proofs.Common.{◌≡◌, List, [], ◌∷◌, ◌++◌, map, inl, inr, refl, ap, subst}
use Rattle.road_base.specs.Objects.{Objects}
use Rattle.road_model.specs.declared.lists.PieceName.{PieceName}
use Rattle.road_model.specs.Rules.{Rules}
use Rattle.road_model.specs.Pieces.{Span, IsPiece}
use Rattle.road_model.specs.Network.{IsContextOf, IsArc}
use Rattle.ordered_lists.specs.Orders.{Lists}
use Rattle.road_model.specs.Orders.{names_cmp}
use Rattle.road_model.specs.Blocks.{IsSourceEntry, name_of}
use Rattle.ordered_lists.proofs.Decided.{Decided, decided_both, decided_like}
use Rattle.road_model.proofs.Positions.{decided_way, decided_number}
use Rattle.road_model.proofs.WalkLists.{context_pieces, one_longest}
use Rattle.road_model.proofs.ShortWords.{short_context}
use Rattle.road_model.proofs.TotalOrders.{names_cmp_total, names_cmp_exact}
use Rattle.ordered_lists.proofs.Enumerated.{Finite, fin_one, fin_by, fin_bind}
use Rattle.road_model.proofs.FiniteWords.{fin_pass, decided_dir}
use Rattle.road_model.proofs.FinitePieces.{fin_pieces}
use Rattle.road_model.proofs.FiniteContexts.{NoMore, fin_lists, GoesBy, by_decided, target}
use Rattle.ordered_lists.proofs.SortedLists.{listed}

-- ---- lists of pieces are compared

span_is : (p q : Span) → p.way ≡ q.way → p.index ≡ q.index → p.end ≡ q.end → p.dir ≡ q.dir → p ≡ q
span_is p q w i j d = λ x. record { way = w x; index = i x; end = j x; dir = d x }

decided_span : (p q : Span) → Decided (p ≡ q)
decided_span p q = decided_like
    (λ h. span_is p q h.0 h.1.0 h.1.1.0 h.1.1.1)
    (λ e. (
      ap (λ (s : Span). s.way) e,
      (
        ap (λ (s : Span). s.index) e,
        (ap (λ (s : Span). s.end) e, ap (λ (s : Span). s.dir) e),
      ),
    ))
    (decided_both (decided_way p.way q.way)
    (decided_both (decided_number p.index q.index)
    (decided_both (decided_number p.end q.end) (decided_dir p.dir q.dir))))

spans_more : (p : Span) (a : List Span) (q : Span) (b : List Span) → Decided (p ≡ q) → Decided (a ≡ b)
    → Decided (p ∷ a ≡ q ∷ b)
spans_more p a q b (inl e) (inl f) = inl (cc)
spans_more p a q b (inl e) (inr n) = inr (λ f. n (cc))
spans_more p a q b (inr n) d = inr (λ f. n (cc))

decided_spans : (a b : List Span) → Decided (a ≡ b)
decided_spans [] [] = inl refl
decided_spans [] (q ∷ b) = inr (λ e. cc)
decided_spans (p ∷ a) [] = inr (λ e. cc)
decided_spans (p ∷ a) (q ∷ b) = spans_more p a q b (decided_span p q) (decided_spans a b)

module _ (M : Objects) (P : Rules) (p : Span) (c : List Span) where
  -- ---- whether an arc leads to the context

  leads_to : (d : List Span) (g : GoesBy M P d p) (e : List Span) → IsContextOf M P (d ++ p ∷ []) e → Decided (e ≡ c)
      → Decided (IsArc M P d p c)
  leads_to d g e l (inl f) = inl (record
      { from = g.from; by = g.by; legal = g.legal; to = subst (IsContextOf M P (d ++ p ∷ [])) f l })
  leads_to d g e l (inr n) = inr (λ a. n (one_longest M P (d ++ p ∷ []) e c l a.to))

  leads_by : (d : List Span) → Decided (GoesBy M P d p) → Decided (IsArc M P d p c)
  leads_by d (inl g) = let e = target M P d p g in leads_to d g e.0 e.1 (decided_spans e.0 c)
  leads_by d (inr n) = inr (λ a. n (record { from = a.from; by = a.by; legal = a.legal }))

  arc_decided : (d : List Span) → Decided (IsArc M P d p c)
  arc_decided d = leads_by d (by_decided M P d p)

  -- ---- sources

  few_pieces : (d : List Span) → IsArc M P d p c → NoMore (IsPiece M P) 1026 d
  unfolding NoMore
  few_pieces d a = (context_pieces M P d a.from, short_context M P d a.from)

  fin_origins : Finite (λ d. IsArc M P d p c)
  fin_origins = fin_by
      (fin_pass (λ d. IsArc M P d p c) arc_decided (fin_lists (fin_pieces M P) 1026))
      (λ d h. h.0)
      (λ d a. (a, few_pieces d a))

  fin_sources : Finite (IsSourceEntry M P p c)
  fin_sources = fin_by
      (fin_bind fin_origins (λ d. fin_one (map name_of d)))
      (λ s h. record { from = h.0; arc = h.1; named = h.2 })
      (λ s k. (k.from, k.arc, k.named))

  pub sources_of : (xs : List (List PieceName)) × Lists (λ s. s) names_cmp (IsSourceEntry M P p c) xs
  sources_of = listed (λ (s : List PieceName). s) names_cmp names_cmp_total names_cmp_exact fin_sources (λ s t k l e. e)
