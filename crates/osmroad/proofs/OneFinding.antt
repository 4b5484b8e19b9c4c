-- A restriction has one finding.
use Rattle.std.proofs.Common.{◌≡◌, ℕ, zero, suc, ◌≤◌, ◌<◌, Bool, true, false, List, length, Some, refl, sym, ap}
use Rattle.std.proofs.Common.{subst, ◌∙◌, arith}
use Rattle.std.proofs.lemmas.Bool.Decides.{Decides-ltb}
use Rattle.road_base.specs.declared.ids.RelationId.{RelationId}
use Rattle.road_base.specs.declared.objects.Relation.{Relation}
use Rattle.road_base.specs.Objects.{Objects, relation_of}
use Rattle.road_model.specs.declared.answers.Unusable.{Unusable}
use Rattle.road_model.specs.declared.answers.Unusable.TheVariants.{NotThisVehicle, NoValue, Members, Missing, NotAnEnd}
use Rattle.road_model.specs.declared.answers.Unusable.TheVariants.{NotConnected, ClosedVia, TooLong}
use Rattle.road_model.specs.Rules.{Rules}
use Rattle.road_model.specs.Restrictions.{IsFirstCause, cause_number}
use Rattle.road_model.specs.Words.{kind_of}
use Rattle.restrictions.specs.declared.word_list.Word.{Word}
use Rattle.restrictions.specs.Words.{AreWords}
use Rattle.osmroad.specs.declared.findings.Finding.{Finding}
use Rattle.osmroad.specs.declared.findings.Finding.TheVariants.{Words, Unused}
use Rattle.osmroad.specs.Audit.{IsFinding, HasWords, IsUnused}
use Rattle.ordered_lists.proofs.ListMembers.{in_from_contains, contains_from_in}
use Rattle.osmroad.proofs.DistinctLists.{no_longer}

-- ---- kinds and causes

one_kind : (a b : Bool) → kind_of a ≡ kind_of b → a ≡ b
one_kind true true e = refl
one_kind true false e = cc
one_kind false true e = cc
one_kind false false e = refl

-- the cause of a number
abbrev cause_of : ℕ → Unusable
cause_of zero = TooLong
cause_of (suc zero) = NotThisVehicle
cause_of (suc (suc zero)) = NoValue
cause_of (suc (suc (suc zero))) = Members
cause_of (suc (suc (suc (suc zero)))) = Missing
cause_of (suc (suc (suc (suc (suc zero))))) = NotAnEnd
cause_of (suc (suc (suc (suc (suc (suc zero)))))) = NotConnected
cause_of (suc (suc (suc (suc (suc (suc (suc zero))))))) = ClosedVia
cause_of (suc (suc (suc (suc (suc (suc (suc (suc n)))))))) = TooLong

numbered : (c : Unusable) → cause_of (cause_number c) ≡ c
numbered NotThisVehicle = refl
numbered NoValue = refl
numbered Members = refl
numbered Missing = refl
numbered NotAnEnd = refl
numbered NotConnected = refl
numbered ClosedVia = refl
numbered TooLong = refl

by_number : (a b : Unusable) → cause_number a ≡ cause_number b → a ≡ b
by_number a b e = sym (numbered a) ∙ ap cause_of e ∙ numbered b

module _ (M : Objects) (P : Rules) where
  not_before : (r : Relation) (a b : Unusable) → IsFirstCause M P r a → IsFirstCause M P r b
      → cause_number a < cause_number b → ⊥
  not_before r a b f g lower = g.first a ((Decides-ltb (cause_number a) (cause_number b)).1 lower) f.holds

  same_number : (m n : ℕ) → (m < n → ⊥) → (n < m → ⊥) → m ≡ n
  same_number m n low high = omega arith

  one_cause : (r : Relation) (a b : Unusable) → IsFirstCause M P r a → IsFirstCause M P r b → a ≡ b
  one_cause r a b f g =
      by_number a b
      (same_number (cause_number a) (cause_number b) (not_before r a b f g) (not_before r b a g f))

  -- ---- words

  module _ (r : RelationId) where
    no_more : (ws vs : List Word) → AreWords M P r ws → AreWords M P r vs → length ws ≤ length vs
    no_more ws vs a b =
        no_longer ws vs a.once (λ w i. in_from_contains vs w (b.all w (a.each w (contains_from_in ws w i))))

    one_count : (ws vs : List Word) → AreWords M P r ws → AreWords M P r vs → length ws ≡ length vs
    one_count ws vs a b =
        let to = no_more ws vs a b in
        let from = no_more vs ws b a in
        omega arith

    -- ---- findings

    one_body : (a b : Relation) → relation_of M r ≡ Some a → relation_of M r ≡ Some b → a ≡ b
    one_body a b e f = let same : Some a ≡ Some b = sym e ∙ f in cc

    of_use : (only : Bool) (count : ℕ) (cause : Unusable) → HasWords M P r only count
        → IsUnused M P r cause → ⊥
    of_use only count cause h u =
        let same = one_body u.body h.body u.visible h.visible in
        h.usable cause (subst (λ b. IsFirstCause M P b cause) same u.first).holds

    pub one_finding : (f g : Finding) → IsFinding M P r f → IsFinding M P r g → f ≡ g
    one_finding (Words only count) (Words other number) h k =
        let same = one_body h.body k.body h.visible k.visible in
        let kind : kind_of only ≡ kind_of other = sym h.kind ∙ ap (λ (b : Relation). P.rule b.tags) same ∙ k.kind in
        let counts : count ≡ number = h.counted ∙ one_count h.words k.words h.are k.are ∙ sym k.counted in
        ap (λ b. Words b count) (one_kind only other kind) ∙ ap (λ n. Words other n) counts
    one_finding (Words only count) (Unused cause) h u = absurd (of_use only count cause h u)
    one_finding (Unused cause) (Words only count) u h = absurd (of_use only count cause h u)
    one_finding (Unused cause) (Unused other) u v =
        let same = one_body u.body v.body u.visible v.visible in
        let first = subst (λ b. IsFirstCause M P b cause) same u.first in
        ap (λ c. Unused c) (one_cause v.body cause other first v.first)
