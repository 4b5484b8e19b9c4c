-- The base is its four lists, each made from the state that the one before it left.
use Rattle.std.proofs.Common.{◌≡◌, ap, sym, ◌∙◌, ℕ, ◌+◌, ◌*◌, ◌/◌, ◌%◌, List, [], ◌++◌}
use Rattle.road_base.specs.declared.event.Event.{Event}
use Rattle.sample_town.proofs.Listed.{listed_same, iterate_sum}
use Rattle.sample_town.specs.Draws.{listed, after_draw, after_draws}
use Rattle.sample_town.specs.Streets.{north_way}
use Rattle.sample_town.specs.Lists.{base, base_node, base_east_way, base_north_way, base_restriction}
use Rattle.sample_town.specs.Lists.{drawn_oneway, drawn_restriction}

-- the state behind the ways
pub after_ways : (s t u : ℕ) → t ≡ after_draws 3540 s → u ≡ after_draws 3540 t → u ≡ after_draws 7080 s
after_ways s t u first second =
    second ∙ ap (after_draws 3540) first ∙ sym (iterate_sum after_draw 3540 3540 s)

pub after_base : (s u v : ℕ) → u ≡ after_draws 7080 s → v ≡ after_draws 1800 u → v ≡ after_draws 8880 s
after_base s u v first second = second ∙ ap (after_draws 1800) first ∙ sym (iterate_sum after_draw 7080 1800 s)

abbrev pub norths : ℕ → List Event
norths t = listed (λ i. north_way 0 (i / 60) (i % 60) (drawn_oneway (after_draws i t))) 3540

abbrev pub restrictions : ℕ → List Event
restrictions u = listed (λ i. drawn_restriction (1 + i) (after_draws (3 * i) u)) 600

norths_are : (s t : ℕ) → t ≡ after_draws 3540 s → norths t ≡ listed (base_north_way s) 3540
norths_are s t before = listed_same (λ i. north_way 0 (i / 60) (i % 60) (drawn_oneway (after_draws i t)))
    (base_north_way s) 3540
    (λ i. ap (λ n. north_way 0 (i / 60) (i % 60) (drawn_oneway n))
    (ap (after_draws i) before ∙ sym (iterate_sum after_draw 3540 i s)))

restrictions_are : (s u : ℕ) → u ≡ after_draws 7080 s → restrictions u ≡ listed (base_restriction s) 600
restrictions_are s u before = listed_same (λ i. drawn_restriction (1 + i) (after_draws (3 * i) u))
    (base_restriction s) 600
    (λ i. ap (drawn_restriction (1 + i))
    (ap (after_draws (3 * i)) before ∙ sym (iterate_sum after_draw 7080 (3 * i) s)))

pub base_is : (s t u : ℕ) (none nodes easts all whole : List Event) → t ≡ after_draws 3540 s → u ≡ after_draws 7080 s
    → none ≡ [] → nodes ≡ none ++ listed base_node 3600 → easts ≡ nodes ++ listed (base_east_way s) 3540
    → all ≡ easts ++ norths t → whole ≡ all ++ restrictions u → whole ≡ base s
unfolding base
base_is s t u none nodes easts all whole at_t at_u empty a b c d =
    let first : nodes ≡ listed base_node 3600 = a ∙ ap (λ xs. xs ++ listed base_node 3600) empty in
    let second : easts ≡ listed base_node 3600 ++ listed (base_east_way s) 3540 =
    b ∙ ap (λ xs. xs ++ listed (base_east_way s) 3540) first in
    let third : all ≡ (listed base_node 3600 ++ listed (base_east_way s) 3540) ++ listed (base_north_way s) 3540 =
    c ∙ ap (λ xs. xs ++ norths t) second
    ∙ ap (λ ys. (listed base_node 3600 ++ listed (base_east_way s) 3540) ++ ys) (norths_are s t at_t) in
    d ∙ ap (λ xs. xs ++ restrictions u) third
    ∙ ap (λ ys. ((listed base_node 3600 ++ listed (base_east_way s) 3540) ++ listed (base_north_way s) 3540) ++ ys)
    (restrictions_are s u at_u)
