-- To which phase a list of marked things leads, and that there is none exactly where it passes what is marked.
use Rattle.std.proofs.Common.{◌≡◌, ℕ, ◌≤◌, List, [], ◌∷◌, ◌++◌, Bool, true, false, Option, Some, None, IsTrue, IsFalse}
use Rattle.std.proofs.Common.{refl, sym, ap, ◌∙◌, subst, arith}
use Rattle.destination_drives.specs.declared.phases.Phase.{Phase}
use Rattle.destination_drives.specs.declared.phases.Phase.TheVariants.{Before, Open, After}
use Rattle.destination_drives.specs.Zones.{PassesBy}
use Rattle.destination_drives.specs.Phases.{started, gone}

-- the phase on the next thing, where there was one
abbrev pub next : Option Phase → Bool → Option Phase
next None z = None
next (Some f) z = gone f z

-- to begin is to go on in the zone where a drive begins
pub starts_before : (z : Bool) → gone Before z ≡ Some (started z)
starts_before true = refl
starts_before false = refl

pub next_again : (o : Option Phase) (z : Bool) → next (next o z) z ≡ next o z
next_again None z = refl
next_again (Some Before) true = refl
next_again (Some Before) false = refl
next_again (Some Open) true = refl
next_again (Some Open) false = refl
next_again (Some After) true = refl
next_again (Some After) false = refl

-- phases in their order, and none behind them
abbrev pub place : Option Phase → ℕ
place None = 3
place (Some Before) = 0
place (Some Open) = 1
place (Some After) = 2

next_rises : (o : Option Phase) (z : Bool) → place o ≤ place (next o z)
next_rises None z = omega arith
next_rises (Some Before) true = omega arith
next_rises (Some Before) false = omega arith
next_rises (Some Open) true = omega arith
next_rises (Some Open) false = omega arith
next_rises (Some After) true = omega arith
next_rises (Some After) false = omega arith

outside : (o : Option Phase) → 1 ≤ place (next o false)
outside None = omega arith
outside (Some Before) = omega arith
outside (Some Open) = omega arith
outside (Some After) = omega arith

driven_in : (o : Option Phase) → 1 ≤ place o → 2 ≤ place (next o true)
driven_in None h = omega arith
driven_in (Some Before) h = absurd (omega arith)
driven_in (Some Open) h = omega arith
driven_in (Some After) h = omega arith

driven_out : (o : Option Phase) → 2 ≤ place o → next o false ≡ None
driven_out None h = refl
driven_out (Some Before) h = absurd (omega arith)
driven_out (Some Open) h = absurd (omega arith)
driven_out (Some After) h = refl

module _ {S : Type 0} (mark : S → Bool) where
  -- the phase behind the list
  abbrev pub runs : Option Phase → List S → Option Phase
  runs o [] = o
  runs o (x ∷ xs) = runs (next o (mark x)) xs

  pub runs_none : (xs : List S) → runs None xs ≡ None
  runs_none [] = refl
  runs_none (x ∷ xs) = runs_none xs

  pub runs-append : (o : Option Phase) (xs ys : List S) → runs o (xs ++ ys) ≡ runs (runs o xs) ys
  runs-append o [] ys = refl
  runs-append o (x ∷ xs) ys = runs-append (next o (mark x)) xs ys

  -- all are marked, or none is
  abbrev pub AllAre : Bool → List S → Type 0
  AllAre z [] = Unit {0}
  AllAre z (x ∷ xs) = (mark x ≡ z) × AllAre z xs

  stays : (z : Bool) (xs : List S) → AllAre z xs → (o : Option Phase) → runs (next o z) xs ≡ next o z
  stays z [] a o = refl
  stays z (x ∷ xs) a o = ap (λ m. runs (next (next o z) m) xs) a.0 ∙ ap (λ p. runs p xs) (next_again o z)
      ∙ stays z xs a.1 o

  -- things that are marked alike count as one
  pub runs_alike : (z : Bool) (x : S) (xs : List S) → AllAre z (x ∷ xs) → (o : Option Phase)
      → runs o (x ∷ xs) ≡ next o z
  runs_alike z x xs a o = ap (λ m. runs (next o m) xs) a.0 ∙ stays z xs a.1 o

  runs_rise : (xs : List S) (o : Option Phase) → place o ≤ place (runs o xs)
  runs_rise [] o = omega arith
  runs_rise (x ∷ xs) o =
      let a = next_rises o (mark x) in
      let b = runs_rise xs (next o (mark x)) in
      omega arith

  -- from outside into what is marked and out again leads nowhere
  leads_out : (o : Option Phase) (from : S) (inward : List S) (marked : S) (outward : List S) (to : S) (behind : List S)
      → mark from ≡ false → mark marked ≡ true → mark to ≡ false
      → runs o (from ∷ (inward ++ marked ∷ (outward ++ to ∷ behind))) ≡ None
  leads_out o from inward marked outward to behind f m t =
      let p = next o (mark from) in
      let q = runs p inward in
      let r = runs (next q (mark marked)) outward in
      let low : 1 ≤ place p = subst (λ z. 1 ≤ place (next o z)) (sym f) (outside o) in
      let on = runs_rise inward p in
      let high : 2 ≤ place (next q (mark marked)) =
      subst (λ z. 2 ≤ place (next q z)) (sym m) (driven_in q (omega arith)) in
      let off = runs_rise outward (next q (mark marked)) in
      let none : next r (mark to) ≡ None = ap (next r) t ∙ driven_out r (omega arith) in
      runs-append p inward (marked ∷ (outward ++ to ∷ behind))
      ∙ runs-append (next q (mark marked)) outward (to ∷ behind)
      ∙ ap (λ v. runs v behind) none ∙ runs_none behind

  -- what passes through leads nowhere
  pub passing_ends : (o : Option Phase) (d : List S) → PassesBy mark d → runs o d ≡ None
  passing_ends o d w = ap (runs o) w.is
      ∙ runs-append o w.before (w.from ∷ (w.inward ++ w.marked ∷ (w.outward ++ w.to ∷ w.behind)))
      ∙ leads_out (runs o w.before) w.from w.inward w.marked w.outward w.to w.behind
      w.from_outside w.inside w.to_outside

  -- ---- and what leads nowhere passes through

  record LeavesBy (d : List S) : Type 0 where
    outward : List S
    to : S
    behind : List S
    is : d ≡ outward ++ to ∷ behind
    to_outside : IsFalse (mark to)

  record EntersBy (d : List S) : Type 0 where
    inward : List S
    marked : S
    rest : List S
    is : d ≡ inward ++ marked ∷ rest
    inside : IsTrue (mark marked)
    leaves : LeavesBy rest

  leaves_more : (x : S) (xs : List S) → LeavesBy xs → LeavesBy (x ∷ xs)
  leaves_more x xs l = record {
    outward = x ∷ l.outward;
    to = l.to;
    behind = l.behind;
    is = ap (λ v. x ∷ v) l.is;
    to_outside = l.to_outside;
  }

  leaves_at : (x : S) (xs : List S) (z : Bool) → mark x ≡ z → (runs (Some After) xs ≡ None → LeavesBy xs)
      → runs (gone After z) xs ≡ None → LeavesBy (x ∷ xs)
  leaves_at x xs true e more h = leaves_more x xs (more h)
  leaves_at x xs false e more h = record { outward = []; to = x; behind = xs; is = refl; to_outside = e }

  leaves : (xs : List S) → runs (Some After) xs ≡ None → LeavesBy xs
  leaves [] h = absurd (cc)
  leaves (x ∷ xs) h = leaves_at x xs (mark x) refl (leaves xs) h

  enters_more : (x : S) (xs : List S) → EntersBy xs → EntersBy (x ∷ xs)
  enters_more x xs l = record {
    inward = x ∷ l.inward;
    marked = l.marked;
    rest = l.rest;
    is = ap (λ v. x ∷ v) l.is;
    inside = l.inside;
    leaves = l.leaves;
  }

  enters_at : (x : S) (xs : List S) (z : Bool) → mark x ≡ z → (runs (Some Open) xs ≡ None → EntersBy xs)
      → runs (gone Open z) xs ≡ None → EntersBy (x ∷ xs)
  enters_at x xs true e more h = record
      { inward = []; marked = x; rest = xs; is = refl; inside = e; leaves = leaves xs h }
  enters_at x xs false e more h = enters_more x xs (more h)

  enters : (xs : List S) → runs (Some Open) xs ≡ None → EntersBy xs
  enters [] h = absurd (cc)
  enters (x ∷ xs) h = enters_at x xs (mark x) refl (enters xs) h

  passes_more : (x : S) (xs : List S) → PassesBy mark xs → PassesBy mark (x ∷ xs)
  passes_more x xs w = record {
    before = x ∷ w.before;
    from = w.from;
    inward = w.inward;
    marked = w.marked;
    outward = w.outward;
    to = w.to;
    behind = w.behind;
    is = ap (λ v. x ∷ v) w.is;
    from_outside = w.from_outside;
    inside = w.inside;
    to_outside = w.to_outside;
  }

  passes_from : (x : S) (xs : List S) → mark x ≡ false → EntersBy xs → PassesBy mark (x ∷ xs)
  passes_from x xs e l = record {
    before = [];
    from = x;
    inward = l.inward;
    marked = l.marked;
    outward = l.leaves.outward;
    to = l.leaves.to;
    behind = l.leaves.behind;
    is = ap (λ v. x ∷ v) (l.is ∙ ap (λ v. l.inward ++ l.marked ∷ v) l.leaves.is);
    from_outside = e;
    inside = l.inside;
    to_outside = l.leaves.to_outside;
  }

  passes_at : (x : S) (xs : List S) (z : Bool) → mark x ≡ z → (runs (Some Before) xs ≡ None → PassesBy mark xs)
      → runs (gone Before z) xs ≡ None → PassesBy mark (x ∷ xs)
  passes_at x xs true e more h = passes_more x xs (more h)
  passes_at x xs false e more h = passes_from x xs e (enters xs h)

  pub ending_passes : (xs : List S) → runs (Some Before) xs ≡ None → PassesBy mark xs
  ending_passes [] h = absurd (cc)
  ending_passes (x ∷ xs) h = passes_at x xs (mark x) refl (ending_passes xs) h
