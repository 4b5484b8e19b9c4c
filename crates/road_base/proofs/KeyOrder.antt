-- The order of keys is total, and only equal keys tie in it.
use Rattle.std.proofs.Common.{◌≡◌, ℕ, ℤ, refl, ap, subst}
use Rattle.std.specs.Ordering.{nat_cmp, int_cmp, on, then_cmp}
use Rattle.std.specs.declared.cmp.Ordering.{Ordering}
use Rattle.std.specs.Cmp.{IsTotalOrder, then_total, on_total, nat_cmp_total, int_cmp_total}
use Rattle.std.specs.FinMap.{IsAntisymmetric, int_cmp-IsAntisymmetric}
use Rattle.road_base.specs.declared.ids.Key.{Key}
use Rattle.road_base.specs.declared.ids.Key.TheVariants.{Node, Way, Relation}
use Rattle.road_base.specs.Objects.{key_cmp}

-- nodes stand before ways, and ways before relations
abbrev kind_of : Key → ℕ
kind_of (Node n) = 0
kind_of (Way w) = 1
kind_of (Relation r) = 2

abbrev number_of : Key → ℤ
number_of (Node n) = n.0
number_of (Way w) = w.0
number_of (Relation r) = r.0

abbrev by_kind_and_number : Key → Key → Ordering
by_kind_and_number = then_cmp (on kind_of nat_cmp) (on number_of int_cmp)

by_kind_and_number-key_cmp : (a b : Key) → by_kind_and_number a b ≡ key_cmp a b
by_kind_and_number-key_cmp (Node a) (Node b) = refl
by_kind_and_number-key_cmp (Node a) (Way b) = refl
by_kind_and_number-key_cmp (Node a) (Relation b) = refl
by_kind_and_number-key_cmp (Way a) (Node b) = refl
by_kind_and_number-key_cmp (Way a) (Way b) = refl
by_kind_and_number-key_cmp (Way a) (Relation b) = refl
by_kind_and_number-key_cmp (Relation a) (Node b) = refl
by_kind_and_number-key_cmp (Relation a) (Way b) = refl
by_kind_and_number-key_cmp (Relation a) (Relation b) = refl

pub key_cmp_total : IsTotalOrder key_cmp
key_cmp_total =
    subst IsTotalOrder (λ i a b. by_kind_and_number-key_cmp a b i)
    (then_total (on_total kind_of nat_cmp_total) (on_total number_of int_cmp_total))

pub key_cmp-IsAntisymmetric : IsAntisymmetric key_cmp
key_cmp-IsAntisymmetric (Node a) (Node b) tied = ap (λ (n : ℤ). Node (record { 0 = n }))
    (int_cmp-IsAntisymmetric a.0 b.0 tied)
key_cmp-IsAntisymmetric (Node a) (Way b) tied = cc
key_cmp-IsAntisymmetric (Node a) (Relation b) tied = cc
key_cmp-IsAntisymmetric (Way a) (Node b) tied = cc
key_cmp-IsAntisymmetric (Way a) (Way b) tied = ap (λ (n : ℤ). Way (record { 0 = n }))
    (int_cmp-IsAntisymmetric a.0 b.0 tied)
key_cmp-IsAntisymmetric (Way a) (Relation b) tied = cc
key_cmp-IsAntisymmetric (Relation a) (Node b) tied = cc
key_cmp-IsAntisymmetric (Relation a) (Way b) tied = cc
key_cmp-IsAntisymmetric (Relation a) (Relation b) tied = ap (λ (n : ℤ). Relation (record { 0 = n }))
    (int_cmp-IsAntisymmetric a.0 b.0 tied)
