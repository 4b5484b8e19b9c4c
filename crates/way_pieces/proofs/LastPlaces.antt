-- The last two places of a piece.
use Rattle.std.proofs.Common.{◌≡◌, ℕ, zero, suc, ◌+◌, ◌-◌, ◌<◌, ◌≤◌, List, [], ◌∷◌, length, get_or, slice_get, None}
use Rattle.std.proofs.Common.{Some, refl, sym, ap, ◌∙◌, arith}
use Rattle.std.proofs.lemmas.Option.{same_Some, slice_get-get_or}
use Rattle.road_model.specs.declared.lists.Place.{Place}
use Rattle.way_pieces.specs.declared.spans.PieceSpan.{PieceSpan}
use Rattle.way_pieces.specs.Listed.{stop_along}

-- the places end with these two, the first of them behind n others
pub record EndWith (s : PieceSpan) (places : List Place) (n : ℕ) : Type 0 where
  pub from : Place
  pub to : Place
  pub before : slice_get places n ≡ Some from
  pub last : slice_get places (suc n) ≡ Some to
  pub read : stop_along s places ≡ Some (record { node = to.node; item = record { span = s; from = from.node } })

pub last_two : (s : PieceSpan) (places : List Place) (n : ℕ) → length places ≡ n + 2 → EndWith s places n
last_two s [] n count = absurd (omega arith)
last_two s (x ∷ []) n count = absurd (omega arith)
last_two s (x ∷ y ∷ []) zero count = record { from = x; to = y; before = refl; last = refl; read = refl }
last_two s (x ∷ y ∷ []) (suc n) count = absurd (omega arith)
last_two s (x ∷ y ∷ z ∷ more) zero count = absurd (omega arith)
last_two s (x ∷ y ∷ z ∷ more) (suc n) count =
    let r = last_two s (y ∷ z ∷ more) n (omega arith) in
    record { from = r.from; to = r.to; before = r.before; last = r.last; read = r.read }

-- fewer than two places tell no end
pub none_read : (s : PieceSpan) (places : List Place) → length places < 2 → None ≡ stop_along s places
none_read s [] few = refl
none_read s (x ∷ []) few = refl
none_read s (x ∷ y ∷ more) few = absurd (omega arith)

-- the last two of more
pub some_read : (s : PieceSpan) (places : List Place) (x y : Place) → 2 ≤ length places
    → x ≡ get_or places (length places - 2) x → y ≡ get_or places (length places - 1) y
    → Some (record { node = y.node; item = record { span = s; from = x.node } }) ≡ stop_along s places
some_read s places x y some from to =
    let n : suc (length places - 2) ≡ length places - 1 = omega arith in
    let r = last_two s places (length places - 2) (omega arith) in
    let a : r.from ≡ x = same_Some r.from x
    (sym r.before ∙ (slice_get-get_or places (length places - 2) x (omega arith) ∙ ap Some (sym from))) in
    let b : r.to ≡ y = same_Some r.to y
    (sym r.last ∙ (ap (slice_get places) n
    ∙ (slice_get-get_or places (length places - 1) y (omega arith) ∙ ap Some (sym to)))) in
    (λ z. Some (record { node = (sym b z).node; item = record { span = s; from = (sym a z).node } })) ∙ sym r.read
