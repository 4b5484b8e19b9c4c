-- Chunks put, one behind another.
use Rattle.std.proofs.Common.{◌≡◌, inl, inr, ℕ, List, [], ◌++◌, take, Result, Ok, Err, OnOk, refl, sym, ◌∙◌, ap, subst}
use Rattle.std.proofs.lemmas.Bool.Decides.{nat_tests}
use Rattle.std.proofs.Common.{arith, append_assoc, ◌∷◌, ◌==◌, true, length}
use Rattle.std.proofs.Transfers.{starts_with_trans}
use Rattle.std.proofs.lemmas.List.{append-nil}
use Rattle.std.specs.Io.{StartsWith}
use Rattle.road_io.specs.declared.outside.Failed.{Failed}
use Rattle.road_io.specs.Disk.{Disk, IsImage}
use Rattle.road_io.specs.Outside.{Outside, Left, IsLeft, extended, present}
use Rattle.road_io.specs.Calls.{Puts}
use Rattle.road_io.proofs.CallRuns.{started, goes_on, then_runs, only_weaker}
use Rattle.session.specs.Putting.{LeavesPut, PutsOn}
use Rattle.session.proofs.OutputFronts.{starts_whole, starts_front, starts_behind, starts_taken, starts_longer}

-- ---- one chunk

-- nothing was put, and nothing is left that couldn't be
here : (chunk : List ℕ) (w : Outside) (left : Left) → IsLeft (present w) left → LeavesPut chunk w left
here chunk w left l = record {
  a = l.a;
  b = l.b;
  begins = l.no_less;
  within = starts_with_trans (w.output ++ chunk) w.output left.out (starts_front w.output chunk) l.no_more;
}

pub no_byte : (chunk : List ℕ) → true ≡ (length chunk == 0) → [] ≡ chunk
no_byte [] e = refl
no_byte (x ∷ chunk) e = absurd (grind (arith, nat_tests, e))

pub puts_nothing : {E : Type 0} (chunk : List ℕ) (result : Result (Unit {0}) E) (w : Outside)
    → OnOk result (let n : List ℕ = [] in n ≡ chunk)
    → PutsOn chunk result w w
puts_nothing chunk result w whole = record {
  same_a = refl;
  same_b = refl;
  put = [];
  front = refl;
  whole = whole;
  grows = sym (append-nil w.output);
  only = started w (LeavesPut chunk w) (here chunk w);
}

-- a front of the chunk was put
puts_front : {E : Type 0} (chunk put : List ℕ) (result : Result (Unit {0}) E) (w : Outside) → StartsWith chunk put
    → OnOk result (put ≡ chunk) → PutsOn chunk result w (extended put w)
puts_front chunk put result w front whole = record {
  same_a = refl;
  same_b = refl;
  put = put;
  front = front;
  whole = whole;
  grows = refl;
  only = goes_on w w (extended put w) (LeavesPut chunk w)
      (record { a = w.a; b = w.b; from = w.output; to = w.output ++ put })
      (started w (LeavesPut chunk w) (here chunk w)) refl during after;
}
  where
    within : (left : List ℕ) → StartsWith (w.output ++ put) left → StartsWith (w.output ++ chunk) left
    within left s = starts_with_trans (w.output ++ chunk) (w.output ++ put) left
        (starts_behind w.output chunk put front) s

    during : (left : Left) → IsLeft (record { a = w.a; b = w.b; from = w.output; to = w.output ++ put }) left
        → LeavesPut chunk w left
    during left l = record { a = l.a; b = l.b; begins = l.no_less; within = within left.out l.no_more }

    after : (left : Left) → IsLeft (present (extended put w)) left → LeavesPut chunk w left
    after left l = record {
      a = l.a;
      b = l.b;
      begins = starts_with_trans left.out (w.output ++ put) w.output l.no_less (starts_front w.output put);
      within = within left.out l.no_more;
    }

pub puts_chunk : {E : Type 0} (chunk : List ℕ) (x : Unit {0}) (w v : Outside) → Puts chunk (Ok x) w v
    → PutsOn {E = E} chunk (Ok x) w v
puts_chunk {E} chunk x w v is =
    subst (λ (o : Outside). PutsOn {E = E} chunk (Ok x) w o) (sym is)
    (puts_front chunk chunk (Ok x) w (starts_whole chunk) refl)

-- a put that failed
pub puts_part : {E : Type 0} (chunk : List ℕ) (f : Failed) (e : E) (w v : Outside) → Puts chunk (Err f) w v
    → PutsOn chunk (Err e) w v
puts_part chunk f e w v (inl same) =
    subst (λ (o : Outside). PutsOn chunk (Err e) w o) (sym same) (puts_nothing chunk (Err e) w tt)
puts_part chunk f e w v (inr part) =
    subst (λ (o : Outside). PutsOn chunk (Err e) w o) (sym part.1)
    (puts_front chunk (take part.0 chunk) (Err e) w (starts_taken part.0 chunk) tt)

-- ---- two chunks

-- the second of them isn't put
pub puts_first : {E : Type 0} (first second : List ℕ) (e : E) (w v : Outside) → PutsOn first (Err e) w v
    → PutsOn (first ++ second) (Err e) w v
puts_first first second e w v p = record {
  same_a = p.same_a;
  same_b = p.same_b;
  put = p.put;
  front = starts_with_trans (first ++ second) first p.put (starts_front first second) p.front;
  whole = tt;
  grows = p.grows;
  only = only_weaker w v (LeavesPut first w) (LeavesPut (first ++ second) w) p.only (λ left l. record {
    a = l.a;
    b = l.b;
    begins = l.begins;
    within = starts_longer w.output first second left.out l.within;
  });
}

pub puts_second : {E : Type 0} (first second : List ℕ) (x : Unit {0}) (result : Result (Unit {0}) E) (w u v : Outside)
    → PutsOn {E = E} first (Ok x) w u → PutsOn second result u v → PutsOn (first ++ second) result w v
puts_second {E} first second x result w u v p q = record {
  same_a = q.same_a ∙ p.same_a;
  same_b = q.same_b ∙ p.same_b;
  put = first ++ q.put;
  front = starts_behind first second q.put q.front;
  whole = whole result q.whole;
  grows = q.grows ∙ ap (λ (l : List ℕ). l ++ q.put) out ∙ append_assoc w.output first q.put;
  only = then_runs w u v (LeavesPut (first ++ second) w) (LeavesPut second u)
      (only_weaker w u (LeavesPut first w) (LeavesPut (first ++ second) w) p.only (λ left l. record {
        a = l.a;
        b = l.b;
        begins = l.begins;
        within = starts_longer w.output first second left.out l.within;
      }))
      q.only
      (λ left l. record {
        a = subst (λ (d : Disk). IsImage d left.a) p.same_a l.a;
        b = subst (λ (d : Disk). IsImage d left.b) p.same_b l.b;
        begins = starts_with_trans left.out u.output w.output l.begins
            (subst (λ (o : List ℕ). StartsWith o w.output) (sym out) (starts_front w.output first));
        within = subst (λ (o : List ℕ). StartsWith o left.out)
            (ap (λ (o : List ℕ). o ++ second) out ∙ append_assoc w.output first second) l.within;
      });
}
  where
    out : u.output ≡ w.output ++ first
    out = p.grows ∙ ap (λ (l : List ℕ). w.output ++ l) p.whole

    whole : (r : Result (Unit {0}) E) → OnOk r (q.put ≡ second) → OnOk r (first ++ q.put ≡ first ++ second)
    whole (Ok y) e = ap (λ (l : List ℕ). first ++ l) e
    whole (Err f) e = tt
