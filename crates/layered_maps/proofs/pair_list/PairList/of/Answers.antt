use Rattle.std.proofs.Common.{◌≡◌, IsTrue, List, length, map, sym, subst, Contains}
use Rattle.std.specs.List.{zip}
use Rattle.ordered_lists.specs.Orders.{rises}
use Rattle.layered_maps.specs.Lists.{pair_cmp}
use Rattle.layered_maps.proofs.SortedPairs.{zip_parts, even_parts}
use Rattle.layered_maps.proofs.pair_list.PairList.of.Goals as goal

zipped : {A B : Type 0} (keys : List A) (values : List B) (ps qs zs : List (A × B)) → keys ≡ map (λ p. p.0) ps
    → values ≡ map (λ p. p.1) qs → ps ≡ zs → qs ≡ zs → zip keys values ≡ zs
zipped keys values ps qs zs k v p q = cc (zip_parts zs)

even : {A B : Type 0} (keys : List A) (values : List B) (ps qs zs : List (A × B)) → keys ≡ map (λ p. p.0) ps
    → values ≡ map (λ p. p.1) qs → ps ≡ zs → qs ≡ zs → length values ≡ length keys
even keys values ps qs zs k v p q = cc (even_parts zs)

pub invariant_of-result : goal.invariant_of-result
invariant_of-result g c =
    let zs = c.put_in_order.new.pairs.items in
    let e = zipped c.in_ok-keys.keys.items c.in_ok-values.values.items _ _ zs c.in_ok-keys.ensures
    c.in_ok-values.ensures c.as_slice.ensures.value c.as_slice-2.ensures.value in (
      even c.in_ok-keys.keys.items c.in_ok-values.values.items _ _ zs c.in_ok-keys.ensures c.in_ok-values.ensures
          c.as_slice.ensures.value c.as_slice-2.ensures.value,
      subst
          (λ ps. IsTrue (rises (pair_cmp g.K.Ord.cmp g.V.Ord.cmp) ps)) (sym e) c.put_in_order.ensures.ascending,
    )

pub returns : goal.returns
returns g c =
    let zs = c.put_in_order.new.pairs.items in
    let e = zipped c.in_ok-keys.keys.items c.in_ok-values.values.items _ _ zs c.in_ok-keys.ensures
    c.in_ok-values.ensures c.as_slice.ensures.value c.as_slice-2.ensures.value in
    λ p. (
      λ h. (c.put_in_order.ensures.exactly p).0 (subst (λ ps. Contains ps p) e h),
      λ h. subst (λ ps. Contains ps p)
          (sym e) ((c.put_in_order.ensures.exactly p).1 h),
    )
