-- The contexts of a piece are finitely many, and so are the arcs of a context.
use Rattle.std.proofs.Common.{◌≡◌, ℕ, zero, suc, ◌≤◌, List, [], ◌∷◌, ◌++◌, length, ◌⊎◌, inl, inr, refl, sym, ap, ◌∙◌}
use Rattle.std.proofs.Common.{subst, arith, append-nil, length-append}
use Rattle.road_base.specs.Objects.{Objects}
use Rattle.road_model.specs.declared.lists.TurnArc.{TurnArc}
use Rattle.road_model.specs.Rules.{Rules}
use Rattle.road_model.specs.Pieces.{Span, IsPiece, spell}
use Rattle.road_model.specs.Contexts.{Every, One, Many}
use Rattle.road_model.specs.Network.{Legal, IsContext, IsContextOf, spell_pieces}
use Rattle.ordered_lists.specs.Orders.{Lists}
use Rattle.road_model.specs.Orders.{name_cmp}
use Rattle.road_model.specs.Blocks.{IsArcEntry, name_of}
use Rattle.ordered_lists.proofs.Decided.{Decided, decided_both, decided_like}
use Rattle.ordered_lists.proofs.Splits.{cons_not_nil, ends}
use Rattle.road_model.proofs.LongestContext.{Every-append, Every-front}
use Rattle.road_model.proofs.WalkLists.{piece_legal, spell_pieces-push, context_pieces, some_context, one_longest}
use Rattle.road_model.proofs.WalkLists.{context_decided, longest_of_any}
use Rattle.road_model.proofs.ShortWords.{short_context}
use Rattle.road_model.proofs.TotalOrders.{name_cmp_total, name_cmp_exact}
use Rattle.road_model.proofs.UniqueEntries.{one_piece}
use Rattle.ordered_lists.proofs.Enumerated.{Finite, fin_one, fin_or, fin_by, fin_bind, fin_made}
use Rattle.road_model.proofs.FiniteWords.{fin_pass, continues}
use Rattle.road_model.proofs.FirstBroken.{legal_decided}
use Rattle.road_model.proofs.FinitePieces.{piece_decided, fin_pieces}
use Rattle.ordered_lists.proofs.SortedLists.{listed}

-- ---- lists of at most n members

unfoldable pub NoMore : {X : Type 0} (Q : X → Type 0) → ℕ → List X → Type 0
NoMore Q n l = Every Q l × (length l ≤ n)

none_more : {X : Type 0} (Q : X → Type 0) (l : List X) → NoMore Q 0 l → l ≡ []
unfolding NoMore
none_more Q [] h = refl
none_more Q (x ∷ l) h = let k = h.1 in absurd (omega arith)

first_and_rest : {X : Type 0} (Q : X → Type 0) (n : ℕ) (l : List X) → NoMore Q (suc n) l →
    (l ≡ []) ⊎ ((x : X) × Q x × ((m : List X) × NoMore Q n m × (l ≡ x ∷ m)))
unfolding NoMore
first_and_rest Q n [] h = inl refl
first_and_rest Q n (x ∷ l) h = let k = h.1 in inr (x, h.0.0, (l, (h.0.1, omega arith), refl))

from_first : {X : Type 0} (Q : X → Type 0) (n : ℕ) (l : List X) →
    (l ≡ []) ⊎ ((x : X) × Q x × ((m : List X) × NoMore Q n m × (l ≡ x ∷ m))) → NoMore Q (suc n) l
unfolding NoMore
from_first Q n l (inl e) = rw e (tt, omega arith)
from_first Q n l (inr h) = let k = h.2.1.1 in rw h.2.2 ((h.1, h.2.1.0), omega arith)

from_none : {X : Type 0} (Q : X → Type 0) (l : List X) → l ≡ [] → NoMore Q 0 l
unfolding NoMore
from_none Q l e = rw e (tt, omega arith)

pub fin_lists : {X : Type 0} {Q : X → Type 0} → Finite Q → (n : ℕ) → Finite (NoMore Q n)
fin_lists {Q = Q} f zero = fin_by (fin_one []) (λ l e. from_none Q l e) (none_more Q)
fin_lists {Q = Q} f (suc n) = fin_by
    (fin_or (fin_one []) (fin_bind f (λ x. fin_bind (fin_lists f n) (λ m. fin_one (x ∷ m))))) (from_first Q n)
    (first_and_rest Q n)

every_decided : {X : Type 0} (Q : X → Type 0) → ((x : X) → Decided (Q x)) → (l : List X) → Decided (Every Q l)
every_decided Q each [] = inl tt
every_decided Q each (x ∷ l) = decided_like (λ h. (h.0, h.1)) (λ h. (h.0, h.1))
    (decided_both (each x) (every_decided Q each l))

module _ (M : Objects) (P : Rules) where
  -- ---- contexts

  pub context_legal : (c : List Span) → IsContext M P c → Legal M P (spell_pieces c)
  context_legal c (One p e i) = rw e (rw (append-nil) (piece_legal M P p i))
  context_legal c (Many m) = m.legal

  context_of_pieces : (p : Span) (o : List Span) → Decided (Every (IsPiece M P) (p ∷ o)) →
      Decided (Legal M P (spell_pieces (p ∷ o))) → Decided (IsContext M P (p ∷ o))
  context_of_pieces p o (inl i) (inl l) = context_decided M P (continues M P) p o i l (ends (spell p))
  context_of_pieces p o (inl i) (inr n) = inr (λ c. n (context_legal (p ∷ o) c))
  context_of_pieces p o (inr n) l = inr (λ c. n (context_pieces M P (p ∷ o) c))

  -- whether a list of pieces is a context
  pub is_context_decided : (c : List Span) → Decided (IsContext M P c)
  is_context_decided [] = inr (λ c. let l = some_context M P [] c in omega arith)
  is_context_decided (p ∷ o) = context_of_pieces p o (every_decided (IsPiece M P) (piece_decided M P) (p ∷ o))
      (legal_decided M P (spell_pieces (p ∷ o)))

  -- the pieces before p make it a context
  abbrev pub Before : Span → List Span → Type 0
  Before p b = IsContext M P (b ++ p ∷ [])

  few_before : (p : Span) (b : List Span) → IsContext M P (b ++ p ∷ []) → Every (IsPiece M P) b × (length b ≤ 1026)
  few_before p b c =
      let l = short_context M P (b ++ p ∷ []) c in
      let k = length-append b (p ∷ []) in
      (Every-front (IsPiece M P) b (p ∷ []) (context_pieces M P (b ++ p ∷ []) c), omega arith)

  pub fin_before : (p : Span) → Finite (Before p)
  unfolding NoMore
  fin_before p = fin_by
      (fin_pass (λ b. IsContext M P (b ++ p ∷ [])) (λ b. is_context_decided (b ++ p ∷ []))
      (fin_lists (fin_pieces M P) 1026))
      (λ b h. h.0)
      (λ b c. (c, few_before p b c))

  -- ---- arcs

  module _ (c : List Span) where
    -- the context goes on with the piece
    pub record GoesBy (t : Span) : Type 0 where
      pub from : IsContext M P c
      pub by : IsPiece M P t
      pub legal : Legal M P (spell_pieces c ++ spell t)

    pub by_decided : (t : Span) → Decided (GoesBy t)
    by_decided t = decided_like (λ h. record { from = h.0; by = h.1.0; legal = h.1.1 }) (λ h. (h.from, (h.by, h.legal)))
        (decided_both (is_context_decided c)
        (decided_both (piece_decided M P t) (legal_decided M P (spell_pieces c ++ spell t))))

    fin_goes : Finite GoesBy
    fin_goes = fin_by (fin_pass GoesBy by_decided (fin_pieces M P)) (λ t h. h.0) (λ t h. (h, h.by))

    pub target : (t : Span) → GoesBy t → (e : List Span) × IsContextOf M P (c ++ t ∷ []) e
    target t g =
        longest_of_any M P (continues M P) (c ++ t ∷ []) (cons_not_nil c t [])
        (Every-append (IsPiece M P) c (t ∷ []) (context_pieces M P c g.from) (g.by, tt))
        (subst (Legal M P) (sym (spell_pieces-push c t)) g.legal)

    arc_entry : Span → List Span → TurnArc
    arc_entry t e = record { piece = name_of t; length = length e }

    arc_of : (t : Span) → GoesBy t → (a : TurnArc) × IsArcEntry M P c a
    unfolding arc_entry
    arc_of t g = let e = target t g in (
      arc_entry t e.0,
      record {
        piece = t;
        target = e.0;
        arc = record { from = g.from; by = g.by; legal = g.legal; to = e.1 };
        named = refl;
        length_is = refl;
      },
    )

    arc_is : (a : TurnArc) (k : IsArcEntry M P c a) (g : GoesBy k.piece) → a ≡ (arc_of k.piece g).0
    unfolding arc_entry arc_of
    arc_is a k g =
        let e = target k.piece g in
        let f : k.target ≡ e.0 = one_longest M P (c ++ k.piece ∷ []) k.target e.0 k.arc.to e.1 in
        let n = k.named in
        let l : a.length ≡ length e.0 = k.length_is ∙ ap length f in
        λ i. record { piece = n i; length = l i }

    fin_arcs : Finite (IsArcEntry M P c)
    fin_arcs = fin_made fin_goes arc_of
        (λ a k. (k.piece, record { from = k.arc.from; by = k.arc.by; legal = k.arc.legal }, λ g. arc_is a k g))

    one_arc : (a b : TurnArc) → IsArcEntry M P c a → IsArcEntry M P c b → a.piece ≡ b.piece → a ≡ b
    one_arc a b k l e =
        let t : k.piece ≡ l.piece = one_piece M P k.piece l.piece k.arc.by l.arc.by (sym k.named ∙ e ∙ l.named) in
        let f : k.target ≡ l.target = one_longest M P (c ++ l.piece ∷ []) k.target l.target
        (subst (λ v. IsContextOf M P (c ++ v ∷ []) k.target) t k.arc.to) l.arc.to in
        let n : a.length ≡ b.length = k.length_is ∙ ap length f ∙ sym l.length_is in
        λ i. record { piece = e i; length = n i }

    -- the arcs of a list of pieces, which has none where it isn't a context
    pub arcs_of : (xs : List TurnArc) × Lists (λ a. a.piece) name_cmp (IsArcEntry M P c) xs
    arcs_of = listed (λ (a : TurnArc). a.piece) name_cmp name_cmp_total name_cmp_exact fin_arcs one_arc
