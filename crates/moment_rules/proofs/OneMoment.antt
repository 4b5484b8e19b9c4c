-- A text is one moment's.
use Rattle.std.proofs.Common.{◌≡◌, ◌↔◌, ◌<◌, ◌≤◌, ◌+◌, ℕ, List, Bool, true, false, Option, Some, None, IsSome, IfSome}
use Rattle.std.proofs.Common.{refl, sym, subst, ap, ◌∙◌, arith}
use Rattle.std.proofs.lemmas.Bool.{false≢true}
use Rattle.std.proofs.Props.{props}
use Rattle.std.specs.Prelude.{◌&&◌, nat_lt, pos, ℤ, unsigned_abs}
use Rattle.std.proofs.lemmas.Bool.Decides.{nat_tests}
use Rattle.jiff_core.specs.Calendar.{IsDate, days_in_month}
use Rattle.jiff_core.proofs.SignedLemmas.{signed_arith}
use Rattle.moment_rules.specs.declared.moment.Moment.{Moment}
use Rattle.moment_rules.specs.Shapes.{has_shape}
use Rattle.moment_rules.specs.Moments.{IsMoment, year_of, month_of, date_of, hour_of, minute_of, weekday_of}
use Rattle.moment_rules.specs.Moments.{minute_of_day}
use Rattle.moment_rules.specs.MomentTexts.{is_moment, is_date, moment_if, moment_of}

both : (a b : Bool) → (a && b) ≡ true → (a ≡ true) × (b ≡ true)
both true b e = (refl, e)
both false b e = absurd (false≢true e)

join : (a b : Bool) → a ≡ true → b ≡ true → (a && b) ≡ true
join true b p q = q
join false b p q = absurd (false≢true p)

below : (a b : ℕ) → nat_lt a b ≡ true → a < b
below a b e = grind (arith, nat_tests)

tests : (a b : ℕ) → a < b → nat_lt a b ≡ true
tests a b h = grind (arith, nat_tests)

dated : (y m d : ℕ) → is_date y m d ≡ true → IsDate (pos y) (pos m) (pos d)
dated y m d is =
    let year = both (nat_lt y 10000) _ is in
    let some_month = both (nat_lt 0 m) _ year.1 in
    let month = both (nat_lt m 13) _ some_month.1 in
    let day = both (nat_lt 0 d) _ month.1 in
    let a = below y 10000 year.0 in
    let b = below 0 m some_month.0 in
    let e = below m 13 month.0 in
    let f = below 0 d day.0 in
    let g = below d (days_in_month (pos y) m + 1) day.1 in (
      (omega (arith, signed_arith), omega (arith, signed_arith)),
      (omega (arith, signed_arith), omega (arith, signed_arith)),
      (omega (arith, signed_arith), omega (arith, signed_arith)),
    )

has_date : (y m d : ℕ) → IsDate (pos y) (pos m) (pos d) → is_date y m d ≡ true
has_date y m d is =
    let year : y < 10000 = omega (arith, signed_arith, is.0.0, is.0.1) in
    let some_month : 0 < m = omega (arith, signed_arith, is.1.0, is.1.1) in
    let month : m < 13 = omega (arith, signed_arith, is.1.0, is.1.1) in
    let some_day : 0 < d = omega (arith, signed_arith, is.2.0, is.2.1) in
    let day : d < days_in_month (pos y) m + 1 = omega (arith, signed_arith, is.2.0, is.2.1) in
    join _ _ (tests y 10000 year) (join _ _ (tests 0 m some_month) (join _ _ (tests m 13 month)
    (join _ _ (tests 0 d some_day) (tests d (days_in_month (pos y) m + 1) day))))

told : (text : List ℕ) → is_moment text ≡ true → IsMoment text
told text is =
    let shape = both _ _ is in
    let date = both _ _ shape.1 in
    let time = both (nat_lt (hour_of text) 24) _ date.1 in
    let hour = below (hour_of text) 24 time.0 in
    let minute = below (minute_of text) 60 time.1 in
    record {
      shape = shape.0;
      date = dated (year_of text) (month_of text) (date_of text) date.0;
      hour = omega (arith, hour);
      minute = omega (arith, minute);
    }

tells : (text : List ℕ) → IsMoment text → is_moment text ≡ true
tells text is =
    join _ _ is.shape (join _ _ (has_date (year_of text) (month_of text) (date_of text) is.date)
    (join _ _ (tests (hour_of text) 24 (omega (arith, is.hour)))
    (tests (minute_of text) 60 (omega (arith, is.minute)))))

abbrev time : (d m : ℕ) → d ≤ 6 → m ≤ 1439 → Moment
time d m p q = record { day = d; minute = m; day_in = p; minute_in = q }

one_bound : (a b : ℕ) (p q : a ≤ b) → p ≡ q
one_bound a b = hlevel props

one_time : (d m : ℕ) (p k : d ≤ 6) (q l : m ≤ 1439) → time d m p q ≡ time d m k l
one_time d m p k q l =
    ap (λ (x : d ≤ 6). time d m x q) (one_bound d 6 p k) ∙ ap (λ (x : m ≤ 1439). time d m k x) (one_bound m 1439 q l)

minutes_tie : (d m n : ℕ) → m ≡ n → (p k : d ≤ 6) (q : m ≤ 1439) (l : n ≤ 1439) → time d m p q ≡ time d n k l
minutes_tie d m n same = subst (λ (v : ℕ). (p k : d ≤ 6) (q : m ≤ 1439) (l : v ≤ 1439) → time d m p q ≡ time d v k l)
    same (one_time d m)

times_tie : (d m e n : ℕ) → d ≡ e → m ≡ n → (p : d ≤ 6) (k : e ≤ 6) (q : m ≤ 1439) (l : n ≤ 1439)
    → time d m p q ≡ time e n k l
times_tie d m e n days minutes = subst
    (λ (v : ℕ). (p : d ≤ 6) (k : v ≤ 6) (q : m ≤ 1439) (l : n ≤ 1439) → time d m p q ≡ time v n k l) days
    (minutes_tie d m n minutes)

equal_moments : (a b : Moment) → a.day ≡ b.day → a.minute ≡ b.minute → a ≡ b
equal_moments a b day minute =
    times_tie a.day a.minute b.day b.minute day minute a.day_in b.day_in a.minute_in b.minute_in

moment_is : (text : List ℕ) (b : Bool) (is : is_moment text ≡ b) (found : Option Moment)
    → (IsSome found ↔ IsMoment text) → IfSome found (λ at. at.day ≡ weekday_of text)
    → IfSome found (λ at. at.minute ≡ minute_of_day text) → found ≡ moment_if text b is
moment_is text true is (Some at) exact day minute = ap (λ (m : Moment). Some m) (equal_moments at _ day minute)
moment_is text true is None exact day minute = absurd (false≢true (exact.1 (told text is)))
moment_is text false is (Some at) exact day minute = absurd (false≢true (sym is ∙ tells text (exact.0 refl)))
moment_is text false is None exact day minute = refl

pub one_moment : (text : List ℕ) (found : Option Moment) → (IsSome found ↔ IsMoment text)
    → IfSome found (λ at. at.day ≡ weekday_of text) → IfSome found (λ at. at.minute ≡ minute_of_day text)
    → found ≡ moment_of text
unfolding moment_of
one_moment text found exact day minute = moment_is text (is_moment text) refl found exact day minute
