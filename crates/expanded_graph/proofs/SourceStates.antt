-- The arcs from the contexts that end with a piece: from the piece alone, and from those that end in some states.
use Rattle.std.proofs.Common.{◌≡◌, ℕ, List, [], ◌∷◌, ◌++◌, ◌⊎◌, inl, inr, refl}
use Rattle.std.proofs.Common.{subst, Some, slice_get, Contains}
use Rattle.road_base.specs.declared.ids.Step.{Step}
use Rattle.road_base.specs.Objects.{Objects}
use Rattle.road_model.specs.Rules.{Rules}
use Rattle.road_model.specs.Pieces.{Span, IsPiece}
use Rattle.road_model.specs.Contexts.{Every}
use Rattle.road_model.specs.Network.{IsContext}
use Rattle.road_model.specs.Turning.{HasTurnSteps}
use Rattle.expanded_graph.specs.declared.sources.Leading.{Leading}
use Rattle.expanded_graph.specs.Sources.{EndsIn, IsLeadingOf, IsLeadingBehind, Gains}
use Rattle.ordered_lists.proofs.ListMembers.{In, push_cases, in_left, in_end}
use Rattle.ordered_lists.proofs.ListPlaces.{one_stands}
use Rattle.road_model.proofs.WalkLists.{context_pieces}
use Rattle.expanded_graph.proofs.TurnStepLists.{nil_or_cons}

module _ (M : Objects) (P : Rules) (states : List (List Step)) (q p : Span) where
  -- a context of two pieces or more that ends in one of the states
  pub record EndsAmong (ns : List ℕ) (before : List Span) : Type 0 where
    pub number : ℕ
    pub among : In number ns
    pub here : EndsIn M P states q number before

  -- an arc by p from q alone, or from a context that ends with q in one of the states
  pub record LeadsIn (ns : List ℕ) (l : Leading) : Type 0 where
    pub before : List Span
    pub leads : IsLeadingOf M P (before ++ q ∷ []) p l
    pub ends : (before ≡ []) ⊎ EndsAmong ns before

  pub gains_alone : (old new : List Leading) → Gains (IsLeadingOf M P (q ∷ []) p) old new → Gains (LeadsIn []) old new
  gains_alone old new h = λ l. (
    λ has. elim ((h l).0 has)
        [ inl i ↦ inl i | inr is ↦ inr (record { before = []; leads = is; ends = inl refl }) ],
    λ k. (h l).1 (elim k [
      | inl i ↦ inl i
      | inr is ↦ inr (elim is.ends [
        | inl none ↦ subst (λ b. IsLeadingOf M P (b ++ q ∷ []) p l) none is.leads
        | inr e ↦ absurd e.among
      ])
    ]),
  )

  module _ (one_steps : (c d : List Span) (s : List Step) → Every (IsPiece M P) c → Every (IsPiece M P) d
      → HasTurnSteps c s → HasTurnSteps d s → c ≡ d) (ns : List ℕ) (n : ℕ) (before : List Span)
      (it : EndsIn M P states q n before) (first old new : List Leading) (so_far : Gains (LeadsIn ns) first old)
      (h : Gains (IsLeadingOf M P (before ++ q ∷ []) p) old new) where
    wider : (l : Leading) → LeadsIn ns l → LeadsIn (ns ++ n ∷ []) l
    wider l k = record {
      before = k.before;
      leads = k.leads;
      ends = elim k.ends [
        | inl none ↦ inl none
        | inr e ↦ inr (record {
          number = e.number;
          among = in_left ns (n ∷ []) e.number e.among;
          here = e.here;
        })
      ];
    }

    to : (l : Leading) → Contains new l → Contains first l ⊎ LeadsIn (ns ++ n ∷ []) l
    to l has = elim ((h l).0 has) [
      | inl i ↦ elim ((so_far l).0 i) [ inl j ↦ inl j | inr k ↦ inr (wider l k) ]
      | inr is ↦ inr (record {
        before = before;
        leads = is;
        ends = inr (record { number = n; among = in_end ns n []; here = it });
      })
    ]

    before_it : (l : Leading) → Contains first l ⊎ LeadsIn ns l → Contains new l
    before_it l k = (h l).1 (inl ((so_far l).1 k))

    from : (l : Leading) → Contains first l ⊎ LeadsIn (ns ++ n ∷ []) l → Contains new l
    from l (inl j) = before_it l (inl j)
    from l (inr k) = elim k.ends [
      | inl none ↦ before_it l (inr (record { before = k.before; leads = k.leads; ends = inl none }))
      | inr e ↦ elim (push_cases ns n e.number e.among) [
        | inl i ↦ before_it l (inr (record {
          before = k.before;
          leads = k.leads;
          ends = inr (record { number = e.number; among = i; here = e.here });
        }))
        | inr same ↦
            let steps : e.here.steps ≡ it.steps = one_stands states n e.here.steps it.steps
            (subst (λ j. slice_get states j ≡ Some e.here.steps) same e.here.at) it.at in
            let there : k.before ++ q ∷ [] ≡ before ++ q ∷ [] =
            one_steps (k.before ++ q ∷ []) (before ++ q ∷ []) it.steps
            (context_pieces M P (k.before ++ q ∷ []) e.here.context)
            (context_pieces M P (before ++ q ∷ []) it.context)
            (subst (HasTurnSteps (k.before ++ q ∷ [])) steps e.here.turn) it.turn in
            (h l).1 (inr (subst (λ c. IsLeadingOf M P c p l) there k.leads))
      ]
    ]

    pub gains_more : Gains (LeadsIn (ns ++ n ∷ [])) first new
    gains_more = λ l. (to l, from l)

  pub gains_all : (ns : List ℕ)
      → ((before : List Span) → (before ≡ [] → ⊥) → IsContext M P (before ++ q ∷ []) → EndsAmong ns before)
      → (first last : List Leading) → Gains (LeadsIn ns) first last → Gains (IsLeadingBehind M P q p) first last
  gains_all ns ends first last h = λ l. (
    λ has. elim ((h l).0 has) [ inl j ↦ inl j | inr k ↦ inr (record { front = k.before; leads = k.leads }) ],
    λ k. (h l).1 (elim k [
      | inl j ↦ inl j
      | inr b ↦ inr (record {
        before = b.front;
        leads = b.leads;
        ends = elim (nil_or_cons b.front) [
          | inl none ↦ inl none
          | inr r ↦ inr (ends b.front (λ z. (let e = r.2 in cc)) b.leads.arc.from)
        ];
      })
    ]),
  )
