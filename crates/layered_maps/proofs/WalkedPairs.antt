-- Runs that are gone over side by side from their lowest keys on, and over a floor.
use Rattle.std.proofs.Common.{◌≡◌, ◌≢◌, ◌≤◌, Bool, true, false, cond, IsTrue, List, [], ◌∷◌, map, Option, Some, None}
use Rattle.std.proofs.Common.{inl, inr, refl, sym, ap, ◌∙◌, subst, arith, length, Ordering}
use Rattle.std.specs.declared.cmp.Ordering.TheVariants.{Less, Equal, Greater}
use Rattle.std.specs.Ordering.{is_lt, is_eq, eq_by_cmp}
use Rattle.std.specs.Option.{option_or}
use Rattle.std.specs.Cmp.{IsTotalOrder, Equal-is}
use Rattle.std.specs.FinMap.{IsAntisymmetric, find}
use Rattle.std.specs.FinMap.Entries.{below_all}
use Rattle.std.proofs.lemmas.Bool.{and_parts, and_from}
use Rattle.std.proofs.lemmas.Cmp.{tied_itself}
use Rattle.ordered_lists.proofs.ListMembers.{In}
use Rattle.ordered_lists.proofs.Comparisons.{turned}
use Rattle.layered_maps.specs.Layers.{Rise, laid, put_all}
use Rattle.layered_maps.specs.Maps.{over}
use Rattle.layered_maps.specs.Walks.{AllRise, behind_key, first_at, first_key, head_at, lower_of, run_at}
use Rattle.layered_maps.proofs.SplitPairs.{above_first, find_none}
use Rattle.layered_maps.proofs.MergedPairs.{heads_tied, lowest_first, lowest_second, put_all_nil}
use Rattle.layered_maps.proofs.LayerPairs.{find_put_all, laid_rises}
use Rattle.layered_maps.proofs.FoundPairs.{member_found, found_member, same_found}
use Rattle.layered_maps.proofs.OverPairs.{settled, find_over, over_rises}

-- eight runs, some of them without pairs, are those that there are
pub eight_runs : {K V : Type 0} (R : K → K → Ordering) (runs : List (List (K × V))) → length runs ≤ 8
    → laid R (run_at 0 runs ∷ run_at 1 runs ∷ run_at 2 runs ∷ run_at 3 runs ∷ run_at 4 runs ∷ run_at 5 runs
    ∷ run_at 6 runs ∷ run_at 7 runs ∷ []) ≡ laid R runs
eight_runs R [] few = refl
eight_runs R (a ∷ []) few = refl
eight_runs R (a ∷ b ∷ []) few = refl
eight_runs R (a ∷ b ∷ c ∷ []) few = refl
eight_runs R (a ∷ b ∷ c ∷ d ∷ []) few = refl
eight_runs R (a ∷ b ∷ c ∷ d ∷ e ∷ []) few = refl
eight_runs R (a ∷ b ∷ c ∷ d ∷ e ∷ f ∷ []) few = refl
eight_runs R (a ∷ b ∷ c ∷ d ∷ e ∷ f ∷ g ∷ []) few = refl
eight_runs R (a ∷ b ∷ c ∷ d ∷ e ∷ f ∷ g ∷ h ∷ []) few = refl
eight_runs R (a ∷ b ∷ c ∷ d ∷ e ∷ f ∷ g ∷ h ∷ x ∷ runs) few = absurd (omega (arith, few))

not_tied : (r : Ordering) → is_eq r ≡ false → r ≢ Less → r ≡ Greater
not_tied Less e h = absurd (h refl)
not_tied Equal e h = cc
not_tied Greater e h = refl

module _ {K : Type 0} (R : K → K → Ordering) (total : IsTotalOrder R) where
  -- the key, if there is one, isn't below this one
  abbrev pub From : K → Option K → Type 0
  From k None = Unit {0}
  From k (Some q) = R q k ≢ Less

  lower_from : (k : K) (a b : Option K) → From k (lower_of R a b) → From k a × From k b
  lower_from k None b h = (tt, h)
  lower_from k (Some own) None h = (h, tt)
  lower_from k (Some own) (Some other) h =
      elim (R own other) as (λ r. R own other ≡ r → From k (Some (cond (is_lt r) own other))
      → (R own k ≢ Less) × (R other k ≢ Less)) [
        | Less ↦ λ e g. (g, λ l. g (total.trans own other k e l))
        | Equal ↦ λ e g. (λ l. g (sym (total.congr own other k e) ∙ l), g)
        | Greater ↦ λ e g.
            (λ l. g (total.trans other own k (turned R total own other Greater e) l), g)
      ] refl h

  module _ {V : Type 0} where
    -- the first key of what is put together
    pub first_of_both : (l m : List (K × V)) → Rise R l → Rise R m
        → first_key (put_all R l m) ≡ lower_of R (first_key l) (first_key m)
    first_of_both [] m up over = refl
    first_of_both (x ∷ l) [] up over = ap first_key (put_all_nil R (x ∷ l) up)
    first_of_both (x ∷ l) (y ∷ m) up over =
        elim (R x.0 y.0) as (λ r. R x.0 y.0 ≡ r → first_key (put_all R (x ∷ l) (y ∷ m))
        ≡ Some (cond (is_lt r) x.0 y.0)) [
          | Less ↦ λ e. ap first_key (lowest_first R total (x ∷ l) (y ∷ m) x l y m up over refl refl e)
          | Equal ↦ λ e. ap first_key (heads_tied R total (x ∷ l) (y ∷ m) x l y m up refl refl e)
          | Greater ↦ λ e. ap first_key (lowest_second R total (x ∷ l) (y ∷ m) x l y m up refl refl e)
        ] refl

    -- no run begins below the key
    abbrev pub AllFrom : K → List (List (K × V)) → Type 0
    AllFrom k [] = Unit {0}
    AllFrom k (run ∷ runs) = From k (first_key run) × AllFrom k runs

    pub all_from : (k : K) (runs : List (List (K × V))) → AllRise R runs → From k (first_key (laid R runs))
        → AllFrom k runs
    all_from k [] up from = tt
    all_from k (run ∷ runs) up from =
        let both = lower_from k (first_key run) (first_key (laid R runs))
        (subst (From k) (first_of_both run (laid R runs) up.0 (laid_rises R total runs)) from) in
        (both.0, all_from k runs up.1 both.1)

    -- a key below all members, as a test
    pub below_from : (k : K) (l : List (K × V)) → ((p : K × V) → In p l → R k p.0 ≡ Less) → IsTrue (below_all R k l)
    below_from k [] h = refl
    below_from k (x ∷ l) h = and_from _ _ (ap is_lt (h x (inl refl))) (below_from k l (λ p i. h p (inr i)))

  apart : IsAntisymmetric R → (q k j : K) → eq_by_cmp R q k ≡ false → R j k ≡ Equal → eq_by_cmp R q j ≡ false
  apart exact q k j other tie = ap (eq_by_cmp R q) (exact j k tie) ∙ other

  module _ (exact : IsAntisymmetric R) {V : Type 0} where
    -- other keys have the same behind the key
    pub behind_found : (q k : K) (l : List (K × V)) → eq_by_cmp R q k ≡ false
        → find R q (behind_key R k l) ≡ find R q l
    behind_found q k [] other = refl
    behind_found q k (p ∷ l) other =
        elim (eq_by_cmp R p.0 k) as (λ b. eq_by_cmp R p.0 k ≡ b
        → find R q (cond b l (p ∷ l)) ≡ cond (eq_by_cmp R q p.0) (Some p.1) (find R q l)) [
          | true ↦ λ t. sym (ap (λ b. cond b (Some p.1) (find R q l)) (apart exact q k p.0 other ((Equal-is _).0 t)))
          | false ↦ λ t. refl
        ] refl

    pub behind_rises : (k : K) (l : List (K × V)) → Rise R l → Rise R (behind_key R k l)
    behind_rises k [] up = up
    behind_rises k (p ∷ l) up =
        elim (eq_by_cmp R p.0 k) as (λ b. Rise R (cond b l (p ∷ l))) [
          | true ↦ (and_parts _ _ up).1
          | false ↦ up
        ]

    -- all that is left behind the key is above it
    pub behind_above : (k : K) (l : List (K × V)) → Rise R l → From k (first_key l) → (p : K × V)
        → In p (behind_key R k l) → R k p.0 ≡ Less
    behind_above k [] up from p i = absurd i
    behind_above k (x ∷ l) up from p i =
        elim (eq_by_cmp R x.0 k) as (λ b. eq_by_cmp R x.0 k ≡ b → In p (cond b l (x ∷ l)) → R k p.0 ≡ Less) [
          | true ↦ λ t i. subst (λ j. R j p.0 ≡ Less) (exact x.0 k ((Equal-is _).0 t)) (above_first R x l up p i)
          | false ↦ λ t i.
              let low : R k x.0 ≡ Less = turned R total x.0 k Greater (not_tied _ t from) in
              elim i [
                | inl e ↦ subst (λ (y : K × V). R k y.0 ≡ Less) (sym e) low
                | inr m ↦ total.trans k x.0 p.0 low (above_first R x l up p m)
              ]
        ] refl i

    pub behind_none : (q k : K) (l : List (K × V)) → Rise R l → From k (first_key l) → R q k ≡ Equal
        → find R q (behind_key R k l) ≡ None
    behind_none q k l up from tie =
        find_none R q (behind_key R k l) (λ p i. ap is_eq (total.congr q k p.0 tie ∙ behind_above k l up from p i))

    none_first : (q k : K) (l : List (K × V)) (o : Option V) → Rise R l → From k (first_key l)
        → option_or (find R q (behind_key R k l)) (cond (eq_by_cmp R q k) None o)
        ≡ cond (eq_by_cmp R q k) None (option_or (find R q l) o)
    none_first q k l o up from =
        elim (eq_by_cmp R q k) as (λ b. eq_by_cmp R q k ≡ b
        → option_or (find R q (behind_key R k l)) (cond b None o) ≡ cond b None (option_or (find R q l) o)) [
          | true ↦ λ t. ap (λ (r : Option V). option_or r None) (behind_none q k l up from ((Equal-is _).0 t))
          | false ↦ λ t. ap (λ r. option_or r o) (behind_found q k l t)
        ] refl

    none_either : (b : Bool) → ◌≡◌ {A = Option V} None (cond b None None)
    none_either true = refl
    none_either false = refl

    -- what is found behind the key in all runs
    pub laid_behind : (q k : K) (runs : List (List (K × V))) → AllRise R runs → AllFrom k runs
        → find R q (laid R (map (behind_key R k) runs)) ≡ cond (eq_by_cmp R q k) None (find R q (laid R runs))
    laid_behind q k [] up from = none_either (eq_by_cmp R q k)
    laid_behind q k (run ∷ runs) up from =
        find_put_all R total q (behind_key R k run) (laid R (map (behind_key R k) runs))
        ∙ ap (option_or (find R q (behind_key R k run))) (laid_behind q k runs up.1 from.1)
        ∙ none_first q k run (find R q (laid R runs)) up.0 from.0
        ∙ ap (cond (eq_by_cmp R q k) None) (sym (find_put_all R total q run (laid R runs)))

    pub all_behind_rise : (k : K) (runs : List (List (K × V))) → AllRise R runs
        → AllRise R (map (behind_key R k) runs)
    all_behind_rise k [] up = tt
    all_behind_rise k (run ∷ runs) up = (behind_rises k run up.0, all_behind_rise k runs up.1)

    -- the value of a run that begins with the key
    head_found : (k : K) (l : List (K × V)) → Rise R l → From k (first_key l) → head_at R k l ≡ find R k l
    head_found k [] up from = refl
    head_found k (p ∷ l) up from =
        elim (R p.0 k) as (λ r. R p.0 k ≡ r → cond (is_eq r) (Some p.1) None ≡ find R k (p ∷ l)) [
          | Less ↦ λ e. absurd (from e)
          | Equal ↦ λ e. ap (λ s. cond (is_eq s) (Some p.1) (find R k l)) (sym (turned R total p.0 k Equal e))
          | Greater ↦ λ e.
              let low : R k p.0 ≡ Less = turned R total p.0 k Greater e in
              sym (ap (λ s. cond (is_eq s) (Some p.1) (find R k l)) low
              ∙ find_none R k l (λ y i. ap is_eq (total.trans k p.0 y.0 low (above_first R p l up y i))))
        ] refl

    either : (o r : Option V) → elim o [ None ↦ r | Some v ↦ Some v ] ≡ option_or o r
    either None r = refl
    either (Some v) r = refl

    pub first_found : (k : K) (runs : List (List (K × V))) → AllRise R runs → AllFrom k runs
        → first_at R k runs ≡ find R k (laid R runs)
    first_found k [] up from = refl
    first_found k (run ∷ runs) up from =
        either (head_at R k run) (first_at R k runs)
        ∙ ap (λ o. option_or o (first_at R k runs)) (head_found k run up.0 from.0)
        ∙ ap (option_or (find R k run)) (first_found k runs up.1 from.1)
        ∙ sym (find_put_all R total k run (laid R runs))

    -- the first pair taken off all runs
    pub taken : (k : K) (v : V) (runs : List (List (K × V))) → AllRise R runs → first_key (laid R runs) ≡ Some k
        → find R k (laid R runs) ≡ Some v → laid R runs ≡ (k, v) ∷ laid R (map (behind_key R k) runs)
    taken k v runs up first is =
        same_found R total exact (laid R runs) ((k, v) ∷ rest) (laid_rises R total runs) rises (λ q.
        elim (eq_by_cmp R q k) as (λ b. eq_by_cmp R q k ≡ b
        → find R q (laid R runs) ≡ cond b (Some v) (find R q rest)) [
          | true ↦ λ t. ap (λ j. find R j (laid R runs)) (exact q k ((Equal-is _).0 t)) ∙ is
          | false ↦ λ t. sym (laid_behind q k runs up from ∙ ap (λ b. cond b None (find R q (laid R runs))) t)
        ] refl)
      where
        rest : List (K × V)
        rest = laid R (map (behind_key R k) runs)

        from : AllFrom k runs
        from = all_from k runs up (subst (From k) (sym first) (λ e. not_less (sym (tied_itself total k) ∙ e)))
          where
            not_less : Equal ≢ Less
            not_less e = cc

        above_head : (l : List (K × V)) → Rise R l → first_key l ≡ Some k → (p : K × V) → In p l
            → R p.0 k ≢ Equal → R k p.0 ≡ Less
        above_head [] rise e p i other = absurd i
        above_head (x ∷ l) rise e p i other =
            let same : x.0 ≡ k = cc in
            elim i [
              | inl is ↦ absurd (other (subst (λ (y : K × V). R y.0 k ≡ Equal) (sym is)
                  (subst (λ j. R j k ≡ Equal) (sym same) (tied_itself total k))))
              | inr m ↦ subst (λ j. R j p.0 ≡ Less) same (above_first R x l rise p m)
            ]

        above : (p : K × V) → In p rest → R k p.0 ≡ Less
        above p i =
            let got : cond (eq_by_cmp R p.0 k) None (find R p.0 (laid R runs)) ≡ Some p.1
            = sym (laid_behind p.0 k runs up from)
            ∙ found_member R total rest (laid_rises R total (map (behind_key R k) runs)) p i in
            elim (eq_by_cmp R p.0 k) as (λ b. eq_by_cmp R p.0 k ≡ b
            → cond b None (find R p.0 (laid R runs)) ≡ Some p.1 → R k p.0 ≡ Less) [
              | true ↦ λ t e. cc
              | false ↦ λ t e.
                  let m = member_found R p.0 (laid R runs) p.1 e in
                  let same : p.0 ≡ m.0 = exact p.0 m.0 m.2 in
                  subst (λ j. R k j ≡ Less) (sym same)
                  (above_head (laid R runs) (laid_rises R total runs) first (m.0, p.1) m.1
                  (λ tie. tie_not t (subst (λ j. R j k ≡ Equal) (sym same) tie)))
            ] refl got
          where
            tie_not : eq_by_cmp R p.0 k ≡ false → R p.0 k ≢ Equal
            tie_not t tie = let b : false ≡ true = sym t ∙ ap is_eq tie in cc

        rises : Rise R ((k, v) ∷ rest)
        rises = and_from _ _ (below_from k rest above) (laid_rises R total (map (behind_key R k) runs))

-- ---- over a floor

module _ {K V : Type 0} (R : K → K → Ordering) (total : IsTotalOrder R) (exact : IsAntisymmetric R) where
  -- what stands above a key in both parts does so in all
  above_over : (k : K) (more : List (K × Option V)) (pairs : List (K × V)) → Rise R pairs
      → ((p : K × Option V) → In p more → R k p.0 ≡ Less) → ((p : K × V) → In p pairs → R k p.0 ≡ Less)
      → (p : K × V) → In p (over R more pairs) → R k p.0 ≡ Less
  above_over k more pairs up high low p i =
      let got : settled (find R p.0 more) (find R p.0 pairs) ≡ Some p.1
      = sym (find_over R total p.0 more pairs)
      ∙ found_member R total (over R more pairs) (over_rises R total more pairs up) p i in
      elim (find R p.0 more) as (λ o. find R p.0 more ≡ o → settled o (find R p.0 pairs) ≡ Some p.1
      → R k p.0 ≡ Less) [
        | Some x ↦ λ is e.
            let m = member_found R p.0 more x is in
            subst (λ j. R k j ≡ Less) (sym (exact p.0 m.0 m.2)) (high (m.0, x) m.1)
        | None ↦ λ is e.
            let m = member_found R p.0 pairs p.1 e in
            subst (λ j. R k j ≡ Less) (sym (exact p.0 m.0 m.2)) (low (m.0, p.1) m.1)
      ] refl got

  module _ (k : K) (more : List (K × Option V)) (pairs : List (K × V)) (up : Rise R pairs)
      (from : From R total k (first_key pairs)) where
    abbrev rest : List (K × V)
    rest = behind_key R k pairs

    -- a value that is put is the next one
    pub walked_put : (v : V) → Rise R ((k, Some v) ∷ more)
        → over R ((k, Some v) ∷ more) pairs ≡ (k, v) ∷ over R more rest
    walked_put v rise =
        same_found R total exact (over R ((k, Some v) ∷ more) pairs) ((k, v) ∷ over R more rest)
        (over_rises R total ((k, Some v) ∷ more) pairs up)
        (and_from _ _ (below_from R total k (over R more rest)
        (above_over k more rest (behind_rises R total exact k pairs up)
        (λ p i. above_first R (k, Some v) more rise p i) (λ p i. behind_above R total exact k pairs up from p i)))
        (over_rises R total more rest (behind_rises R total exact k pairs up)))
        (λ q. find_over R total q ((k, Some v) ∷ more) pairs
        ∙ elim (eq_by_cmp R q k) as (λ b. eq_by_cmp R q k ≡ b
        → settled (cond b (Some (Some v)) (find R q more)) (find R q pairs)
        ≡ cond b (Some v) (find R q (over R more rest))) [
          | true ↦ λ t. refl
          | false ↦ λ t. ap (settled (find R q more)) (sym (behind_found R total exact q k pairs t))
              ∙ sym (find_over R total q more rest)
        ] refl)

    -- a key that is gone is passed over
    pub walked_gone : Rise R ((k, None) ∷ more) → over R ((k, None) ∷ more) pairs ≡ over R more rest
    walked_gone rise =
        same_found R total exact (over R ((k, None) ∷ more) pairs) (over R more rest)
        (over_rises R total ((k, None) ∷ more) pairs up)
        (over_rises R total more rest (behind_rises R total exact k pairs up))
        (λ q. find_over R total q ((k, None) ∷ more) pairs
        ∙ elim (eq_by_cmp R q k) as (λ b. eq_by_cmp R q k ≡ b
        → settled (cond b (Some None) (find R q more)) (find R q pairs) ≡ find R q (over R more rest)) [
          | true ↦ λ t.
              let tie : R q k ≡ Equal = (Equal-is _).0 t in
              let bare : find R q more ≡ None = find_none R q more
              (λ p i. ap is_eq (total.congr q k p.0 tie ∙ above_first R (k, None) more rise p i)) in
              sym (find_over R total q more rest ∙ ap (λ o. settled o (find R q rest)) bare
              ∙ behind_none R total exact q k pairs up from tie)
          | false ↦ λ t. ap (settled (find R q more)) (sym (behind_found R total exact q k pairs t))
              ∙ sym (find_over R total q more rest)
        ] refl)

  -- where nothing has changed before the next pair of the floor, that is the next one
  pub walked_floor : (more : List (K × Option V)) (x : K × V) (pairs : List (K × V)) → Rise R (x ∷ pairs)
      → ((p : K × Option V) → In p more → R x.0 p.0 ≡ Less)
      → over R more (x ∷ pairs) ≡ x ∷ over R more pairs
  walked_floor more x pairs up above =
      same_found R total exact (over R more (x ∷ pairs)) (x ∷ over R more pairs)
      (over_rises R total more (x ∷ pairs) up)
      (and_from _ _ (below_from R total x.0 (over R more pairs)
      (above_over x.0 more pairs (and_parts _ _ up).1 above (λ p i. above_first R x pairs up p i)))
      (over_rises R total more pairs (and_parts _ _ up).1))
      (λ q. find_over R total q more (x ∷ pairs)
      ∙ elim (eq_by_cmp R q x.0) as (λ b. eq_by_cmp R q x.0 ≡ b
      → settled (find R q more) (cond b (Some x.1) (find R q pairs))
      ≡ cond b (Some x.1) (find R q (over R more pairs))) [
        | true ↦ λ t. ap (λ o. settled o (Some x.1)) (find_none R q more
            (λ p i. ap is_eq (total.congr q x.0 p.0 ((Equal-is _).0 t) ∙ above p i)))
        | false ↦ λ t. sym (find_over R total q more pairs)
      ] refl)
