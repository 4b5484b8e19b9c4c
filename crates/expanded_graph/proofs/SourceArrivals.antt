-- The arcs by a piece: those from the contexts that end with one of the pieces that come to where it starts.
use Rattle.std.proofs.Common.{◌≡◌, List, [], ◌∷◌, ◌++◌, length, ◌↔◌, inl, inr, sym, ap, ◌∙◌, subst}
use Rattle.std.proofs.Common.{arith, Contains}
use Rattle.road_base.specs.Objects.{Objects}
use Rattle.road_model.specs.Rules.{Rules}
use Rattle.road_model.specs.Pieces.{Span, IsPiece, spell}
use Rattle.road_model.specs.Contexts.{Every}
use Rattle.road_model.specs.Network.{Legal, spell_pieces}
use Rattle.expanded_graph.specs.declared.sources.Leading.{Leading}
use Rattle.expanded_graph.specs.Sources.{IsLeadingOf, IsLeadingBehind, AreLeadingBy, Gains}
use Rattle.ordered_lists.proofs.ListMembers.{In, push_cases, in_left, in_end, contains_none}
use Rattle.road_model.proofs.LongestContext.{Every-tail}
use Rattle.road_model.proofs.WalkLists.{context_pieces, some_context}
use Rattle.expanded_graph.proofs.TurnStepLists.{nil_or_last}

module _ (M : Objects) (P : Rules) (p : Span) {A : Type 0} (span : A → Span) where
  -- an arc by p from a context that ends with the piece of one of the arrivals
  pub record FromSome (cs : List A) (l : Leading) : Type 0 where
    pub arrival : A
    pub among : In arrival cs
    pub leads : IsLeadingBehind M P (span arrival) p l

  abbrev pub AreFrom : List A → List Leading → Type 0
  AreFrom cs ls = (l : Leading) → Contains ls l ↔ FromSome cs l

  pub from_none : AreFrom [] []
  from_none l = (λ has. absurd (contains_none l has), λ h. absurd h.among)

  pub from_more : (cs : List A) (a : A) (old new : List Leading) → AreFrom cs old
      → Gains (IsLeadingBehind M P (span a) p) old new → AreFrom (cs ++ a ∷ []) new
  from_more cs a old new so_far h = λ l. (
    λ has. elim ((h l).0 has) [
      | inl i ↦
          let k = (so_far l).0 i in
          record { arrival = k.arrival; among = in_left cs (a ∷ []) k.arrival k.among; leads = k.leads }
      | inr is ↦ record { arrival = a; among = in_end cs a []; leads = is }
    ],
    λ k. (h l).1 (elim (push_cases cs a k.arrival k.among) [
      | inl i ↦ inl ((so_far l).1 (record { arrival = k.arrival; among = i; leads = k.leads }))
      | inr same ↦ inr (subst (λ x. IsLeadingBehind M P (span x) p l) same k.leads)
    ]),
  )

  -- where each piece from which one drives on to p arrives
  pub from_all : (cs : List A) (ls : List Leading)
      → ((front : List Span) (q : Span) → IsPiece M P q
      → Legal M P (spell_pieces (front ++ q ∷ []) ++ spell p)
      → (a : A) × In a cs × (span a ≡ q)) → AreFrom cs ls → AreLeadingBy M P p ls
  from_all cs ls each h = λ l. (
    λ has. let k = (h l).0 has in record { from = k.leads.front ++ span k.arrival ∷ []; leads = k.leads.leads },
    λ k. (h l).1 (elim (nil_or_last k.from) [
      | inl none ↦
          let some = some_context M P k.from k.leads.arc.from in
          let length_none : length k.from ≡ 0 = ap length none in
          absurd (omega arith)
      | inr r ↦
          let arc = k.leads.arc in
          let pieces = subst (Every (IsPiece M P)) r.2 (context_pieces M P k.from arc.from) in
          let piece : IsPiece M P r.1 = (Every-tail (IsPiece M P) r.0 (r.1 ∷ []) pieces).0 in
          let a = each r.0 r.1 piece (subst (λ c. Legal M P (spell_pieces c ++ spell p)) r.2 arc.legal) in
          record {
            arrival = a.0;
            among = a.1;
            leads = record {
              front = r.0;
              leads = subst (λ c. IsLeadingOf M P c p l) (r.2 ∙ ap (λ x. r.0 ++ x ∷ []) (sym a.2)) k.leads;
            };
          }
    ]),
  )
