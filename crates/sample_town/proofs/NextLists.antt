-- The list that a call gives, and what it leaves, from the state that the town has come to.
use Rattle.std.proofs.Common.{◌≡◌, refl, ap, sym, ◌∙◌, subst, ℕ, ◌+◌, ◌-◌, ◌*◌, ◌<◌, ◌≤◌}
use Rattle.std.proofs.Common.{Bool, true, false, cond, List, [], nat_eq, nat_lt, eqb-true, lt-ltb, arith, ne_eqb}
use Rattle.std.proofs.lemmas.Bool.{eqb-false}
use Rattle.road_base.specs.declared.event.Event.{Event}
use Rattle.sample_town.proofs.Listed.{iterate_none, iterate_sum}
use Rattle.sample_town.specs.Draws.{iterate, after_draws}
use Rattle.sample_town.specs.Lists.{Progress, base, change, change_from, before_change, before_list, after_event}
use Rattle.sample_town.specs.Lists.{next_list, after_list}

-- ---- behind the last list

pub none_next : (t : Progress) → t.given ≡ 11 → [] ≡ next_list t
unfolding next_list
none_next t is =
    let list : ℕ → List Event = λ g. cond (nat_eq g 0) (base t.number) (cond (nat_lt g 11) (change t.number g) []) in
    ap list (sym is)

pub none_after : (t : Progress) → t.given ≡ 11 → t ≡ after_list t
unfolding after_list
none_after t is =
    let P : ℕ → Type 0 = λ g. g ≡ cond (nat_lt g 11) (g + 1) g in
    let same : t.given ≡ cond (nat_lt t.given 11) (t.given + 1) t.given = subst P (sym is) refl in
    λ i. record { number = t.number; given = same i }

-- ---- before it

by_state : (first : Bool) (n m g s : ℕ) (list : List Event) → s ≡ cond first n m
    → list ≡ cond first (base s) (change_from g s) → list ≡ cond first (base n) (change_from g m)
by_state true n m g s list there is = is ∙ ap base there
by_state false n m g s list there is = is ∙ ap (change_from g) there

pub next_is : (t : Progress) (s : ℕ) (list : List Event) → t.given < 11 → s ≡ before_list t.number t.given
    → list ≡ cond (nat_eq t.given 0) (base s) (change_from t.given s) → list ≡ next_list t
unfolding next_list before_list
next_is t s list few there is =
    let more : nat_lt t.given 11 ≡ true = lt-ltb t.given 11 few in
    by_state (nat_eq t.given 0) t.number (before_change t.number t.given) t.given s list there is
    ∙ ap (λ b. cond (nat_eq t.given 0) (base t.number) (cond b (change t.number t.given) [])) (sym more)

pub after_is : (n given : ℕ) → given < 11
    → ◌≡◌ {A = Progress} (record { number = n; given = given + 1 }) (after_list (record { number = n; given = given }))
unfolding after_list
after_is n given few =
    let more : nat_lt given 11 ≡ true = lt-ltb given 11 few in
    ap (λ (b : Bool). record { number = n; given = cond b (given + 1) given }) (sym more)

-- ---- the state

behind_base : (n given : ℕ) → given ≡ 0 → after_draws 8880 n ≡ before_change n (given + 1)
unfolding before_change
behind_base n given none =
    let times : 0 ≡ 20 * (given + 1 - 1) = omega arith in
    iterate_none after_event (after_draws 8880 n) ∙ ap (λ k. iterate after_event k (after_draws 8880 n)) times

behind_change : (n given : ℕ) → 1 ≤ given → iterate after_event 20 (before_change n given) ≡ before_change n (given + 1)
unfolding before_change
behind_change n given some =
    let times : 20 * (given - 1) + 20 ≡ 20 * (given + 1 - 1) = omega arith in
    sym (iterate_sum after_event (20 * (given - 1)) 20 (after_draws 8880 n))
    ∙ ap (λ k. iterate after_event k (after_draws 8880 n)) times

behind_either : (first : Bool) (n given s u : ℕ) → nat_eq given 0 ≡ first → s ≡ cond first n (before_change n given)
    → u ≡ cond first (after_draws 8880 s) (iterate after_event 20 s) → u ≡ before_change n (given + 1)
behind_either true n given s u test there is =
    is ∙ ap (after_draws 8880) there ∙ behind_base n given (eqb-true given 0 test)
behind_either false n given s u test there is =
    let other : given ≡ 0 → ⊥ = eqb-false given 0 test in
    is ∙ ap (iterate after_event 20) there ∙ behind_change n given (omega (arith, other))

pub before_next : (n given s u : ℕ) → s ≡ before_list n given
    → u ≡ cond (nat_eq given 0) (after_draws 8880 s) (iterate after_event 20 s) → u ≡ before_list n (given + 1)
unfolding before_list
before_next n given s u there is =
    let later : nat_eq (given + 1) 0 ≡ false = ne_eqb (given + 1) 0 (λ e. omega (arith, e)) in
    behind_either (nat_eq given 0) n given s u refl there is
    ∙ ap (λ b. cond b n (before_change n (given + 1))) (sym later)
