-- Arcs from a piece that is its only context, and none from one that may not go on.
use Rattle.std.proofs.Common.{◌≡◌, Option, Some, None, List, [], ◌∷◌, ◌++◌, IfSome, IfNone, inl, inr, refl, sym}
use Rattle.std.proofs.Common.{ap, ◌∙◌, subst, false, append_assoc}
use Rattle.std.proofs.lemmas.Bool.{false≢true}
use Rattle.road_base.specs.declared.ids.NodeId.{NodeId}
use Rattle.road_base.specs.Objects.{Objects}
use Rattle.road_model.specs.Rules.{Rules}
use Rattle.road_model.specs.Pieces.{Span, IsPiece, spell}
use Rattle.road_model.specs.Network.{IsContext, spell_pieces}
use Rattle.road_model.specs.Blocks.{name_of}
use Rattle.way_pieces.specs.declared.departures.Departure.{Departure}
use Rattle.way_pieces.specs.Names.{Arrives}
use Rattle.expanded_graph.specs.declared.intersections.Intersection.{Intersection}
use Rattle.expanded_graph.specs.declared.sources.Leading.{Leading}
use Rattle.expanded_graph.specs.Intersections.{IsIntersection, may_follow}
use Rattle.expanded_graph.specs.Sources.{IsLeadingOf, IsLeadingBehind, Gains}
use Rattle.ordered_lists.proofs.ListMembers.{In}
use Rattle.road_model.proofs.WalkLists.{spell_pieces-push}
use Rattle.expanded_graph.proofs.NextDepartures.{Laws, is_departure, follows_by}

pub some_holds : {X : Type 0} (o : Option X) (Holds : X → Type 0) (x : X) → o ≡ Some x → IfSome o Holds → Holds x
some_holds o Holds x e h = subst (λ r. IfSome r Holds) e h

is_none : {X : Type 0} (o : Option X) → ((x : X) → o ≡ Some x → ⊥) → o ≡ None
is_none None never = refl
is_none (Some x) never = absurd (never x refl)

pub none_holds : {X : Type 0} (o : Option X) (Holds : Type 0) → ((x : X) → o ≡ Some x → ⊥) → IfNone o Holds → Holds
none_holds o Holds never h = subst (λ r. IfNone r Holds) (is_none o never) h

module _ (M : Objects) (P : Rules) (q p : Span)
    (alone : (front : List Span) → IsContext M P (front ++ q ∷ []) → front ≡ []) where
  pub behind_alone : (old new : List Leading) → Gains (IsLeadingOf M P (q ∷ []) p) old new
      → Gains (IsLeadingBehind M P q p) old new
  behind_alone old new h = λ l. (
    λ has. elim ((h l).0 has) [ inl i ↦ inl i | inr is ↦ inr (record { front = []; leads = is }) ],
    λ k. (h l).1 (elim k [
      | inl i ↦ inl i
      | inr b ↦ inr (subst (λ f. IsLeadingOf M P (f ++ q ∷ []) p l) (alone b.front b.leads.arc.from) b.leads)
    ]),
  )

-- where who comes with q may not go on by the departure of p, no arc leads so from any context that ends with q
module _ (M : Objects) (P : Rules) (laws : Laws M P) (q : Span) (is : IsPiece M P q) (i : Intersection)
    (known : IsIntersection M P i) (u : NodeId) (arrives : Arrives M q u i.rules.node) (d : Departure)
    (j : In d i.departures.now) (p : Span) (piece : IsPiece M P p) (named : d.piece ≡ name_of p)
    (shut : may_follow i u d ≡ false) where
  none_behind : (l : Leading) → IsLeadingBehind M P q p l → ⊥
  none_behind l h =
      let by = is_departure M P laws q is i known u arrives d j in
      let same : p ≡ by.piece = laws.one p by.piece piece by.is (sym named ∙ by.named) in
      let begins : spell p ≡ d.first ∷ by.more = ap spell same ∙ by.begins in
      let before = spell_pieces h.front in
      let front = before ++ arrives.front in
      let last = arrives.last in
      let split : spell_pieces (h.front ++ q ∷ []) ++ spell p ≡ front ++ last ∷ d.first ∷ by.more =
      ap (λ l. l ++ spell p) (spell_pieces-push h.front q ∙ (ap (λ l. before ++ l) arrives.ends
      ∙ sym (append_assoc before arrives.front (last ∷ []))))
      ∙ (append_assoc front (last ∷ []) (spell p) ∙ ap (λ l. front ++ last ∷ l) begins) in
      let pass = h.leads.arc.legal.follows front last d.first by.more split in
      false≢true (sym shut ∙ follows_by M P laws q is i known u arrives d j pass)

  pub gains_shut : (old : List Leading) → Gains (IsLeadingBehind M P q p) old old
  gains_shut old = λ l. (
    λ has. inl has,
    λ h. elim h [ inl has ↦ has | inr is ↦ absurd (none_behind l is) ],
  )
