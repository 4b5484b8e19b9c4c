-- Each position is a junction or plain.
use Rattle.std.proofs.Common.{◌≡◌, ℕ, ◌+◌, ◌<◌, ◌⊎◌, inl, inr, List, [], ◌∷◌, ◌++◌, Contains, nat_lt, true, IsTrue}
use Rattle.std.proofs.Common.{refl, sym, subst, arith}
use Rattle.std.specs.Ordering.{nat_cmp, is_lt}
use Rattle.std.proofs.lemmas.Bool.{lt-ltb, false≢true}
use Rattle.std.proofs.lemmas.List.Elements.{Contains-push, Contains-append_left}
use Rattle.road_base.specs.declared.ids.WayId.{WayId}
use Rattle.road_base.specs.Objects.{Objects}
use Rattle.road_model.specs.Rules.{Rules}
use Rattle.ordered_lists.specs.Orders.{Lists}
use Rattle.road_model.specs.Pieces.{IsPlain}
use Rattle.junctions.specs.Junctions.{IsJunction}
use Rattle.ordered_lists.proofs.JoinedLists.{lists_none, lists_pushed, lists_same}
use Rattle.junctions.proofs.Positions.{some_road, as_long}
use Rattle.junctions.proofs.junction_list.junctions_along.Goals as goal

abbrev Below : Objects → Rules → WayId → ℕ → ℕ → Type 0
Below M P w n i = (i < n) × IsJunction M P w i

below_is_less : (i n : ℕ) → i < n → IsTrue (is_lt (nat_cmp i n))
below_is_less i n h = let e : nat_lt i n ≡ true = lt-ltb i n h in rw e refl

upto : (i n : ℕ) → i < n + 1 → (i ≡ n) ⊎ (i < n)
upto i n h = grind arith

-- the positions below the next one, after a position that is plain
plain_more : (M : Objects) (P : Rules) (w : WayId) (n : ℕ) (xs : List ℕ)
    → ((i : ℕ) → i < n → Contains xs i ⊎ IsPlain M P w i) → IsPlain M P w n → (i : ℕ) → i < n + 1
    → Contains xs i ⊎ IsPlain M P w i
plain_more M P w n xs others plain i h = elim (upto i n h) [
  | inl same ↦ inr (subst (IsPlain M P w) (sym same) plain)
  | inr less ↦ others i less
]

-- and after one that was listed
listed_more : (M : Objects) (P : Rules) (w : WayId) (n : ℕ) (xs ys : List ℕ) → ys ≡ xs ++ n ∷ []
    → ((i : ℕ) → i < n → Contains xs i ⊎ IsPlain M P w i) → (i : ℕ) → i < n + 1 → Contains ys i ⊎ IsPlain M P w i
listed_more M P w n xs ys is others i h = elim (upto i n h) [
  | inl same ↦
      let there = subst (λ k. Contains (xs ++ n ∷ []) k) (sym same) (Contains-push xs n) in
      inl (subst (λ (l : List ℕ). Contains l i) (sym is) there)
  | inr less ↦ elim (others i less) [
    | inl has ↦ inl (subst (λ (l : List ℕ). Contains l i) (sym is) (Contains-append_left xs (n ∷ []) i has))
    | inr plain ↦ inr plain
  ]
]

-- the positions below the next one, after one that is plain
below_plain : (M : Objects) (P : Rules) (w : WayId) (n : ℕ) (xs : List ℕ) → IsPlain M P w n
    → Lists (λ i. i) nat_cmp (Below M P w n) xs → Lists (λ i. i) nat_cmp (Below M P w (n + 1)) xs
below_plain M P w n xs plain listed =
    lists_same (λ i. i) nat_cmp (Below M P w n) (Below M P w (n + 1)) xs listed
    (λ i h. let below = h.0 in (omega arith, h.1))
    (λ i h. elim (upto i n h.0) [
      | inl here ↦ absurd ((h.1).not_plain (subst (λ k. IsPlain M P w k) (sym here) plain))
      | inr less ↦ (less, h.1)
    ])

-- and after one that was listed
below_listed : (M : Objects) (P : Rules) (w : WayId) (n : ℕ) (xs ys : List ℕ) → ys ≡ xs ++ n ∷ [] → IsJunction M P w n
    → Lists (λ i. i) nat_cmp (Below M P w n) xs → Lists (λ i. i) nat_cmp (Below M P w (n + 1)) ys
below_listed M P w n xs ys is junction listed =
    lists_pushed (λ i. i) nat_cmp (Below M P w n) (Below M P w (n + 1)) xs ys n is listed
    (λ i h. below_is_less i n h.0)
    (λ i h. let below = h.0 in (omega arith, h.1))
    (omega arith, junction)
    (λ i h. elim (upto i n h.0) [ inl same ↦ inl same | inr less ↦ inr (less, h.1) ])

pub loop-at-init : goal.loop-at-init
loop-at-init g c =
    let M = g.M.World.objects c.args.network.now.world.now in
    let P = g.P.Profile.rules c.args.network.now.profile in
    let w = c.args.line.now.road.way in
    let none = lists_none (λ i. i) nat_cmp (Below M P w 0) (λ i h. let below = h.0 in omega arith) in
    record {
      listed = subst (Lists (λ i. i) nat_cmp (Below M P w 0)) (sym c.new-junctions.ensures.items) none;
      others = λ i below. absurd (omega arith);
    }

pub loop-at-preserved-then-is_plain_at : goal.loop-at-preserved-then-is_plain_at
loop-at-preserved-then-is_plain_at g c =
    let M = g.M.World.objects c.args.network.now.world.now in
    let P = g.P.Profile.rules c.args.network.now.profile in
    let w = c.args.line.now.road.way in
    let n = c.loop-at.at in
    let plain = c.if-is_plain_at.ensures.0 refl in
    record {
      listed = below_plain M P w n c.loop-at.junctions.items plain c.loop-at.invariant.listed;
      others = plain_more M P w n c.loop-at.junctions.items c.loop-at.invariant.others plain;
    }

pub loop-at-preserved : goal.loop-at-preserved
loop-at-preserved g c =
    let M = g.M.World.objects c.args.network.now.world.now in
    let P = g.P.Profile.rules c.args.network.now.profile in
    let l = c.args.line.now in
    let n = c.loop-at.at in
    let within = c.loop-at-test.true in
    let road = some_road M P l c.requires.line n (omega arith) in
    let count = as_long M P l c.requires.line road in
    let junction : IsJunction M P l.road.way n = record {
      road = road;
      on_line = omega arith;
      not_plain = λ plain. false≢true (c.if-is_plain_at.ensures.1 plain);
    } in
    let old = c.loop-at.junctions.items in
    let new = c.push.new.self.items in
    let is = c.in_ok-push.ensures.items in
    record {
      listed = below_listed M P l.road.way n old new is junction c.loop-at.invariant.listed;
      others = listed_more M P l.road.way n old new is c.loop-at.invariant.others;
    }

pub returns : goal.returns
returns g c =
    let M = g.M.World.objects c.args.network.now.world.now in
    let P = g.P.Profile.rules c.args.network.now.profile in
    let l = c.args.line.now in
    let n = c.loop-at.at in
    let past = c.loop-at-test.false in
    let old = c.loop-at.junctions.items in
    record {
      listed = lists_same (λ i. i) nat_cmp (Below M P l.road.way n) (IsJunction M P l.road.way) old
          c.loop-at.invariant.listed (λ i h. h.1)
          (λ i h. let on = h.on_line in let count = as_long M P l c.requires.line h.road in (omega arith, h));
      others = λ i road on.
          let count = as_long M P l c.requires.line road in
          c.loop-at.invariant.others i (omega arith);
    }
