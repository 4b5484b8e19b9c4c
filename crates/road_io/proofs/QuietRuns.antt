-- Calls that changed nothing.
use Rattle.std.proofs.Common.{◌≡◌, inl, inr, List, ℕ, refl, sym, ◌∙◌, ap, subst}
use Rattle.road_io.specs.declared.outside.Which.{Which}
use Rattle.road_io.specs.declared.outside.Which.TheVariants.{A, B}
use Rattle.road_io.specs.Outside.{Outside, Moment, Left, IsLeft, disk, present, stays, Quiet}
use Rattle.road_io.specs.Calls.{Idles}
use Rattle.road_io.proofs.CallRuns.{started, goes_on, then_runs}

pub quiet_start : (o : Outside) → Quiet o o
quiet_start o =
    record { same_a = refl; same_b = refl; output = refl; only = started o (IsLeft (present o)) (λ left l. l) }

pub same_present : (o u : Outside) → Quiet o u → present u ≡ present o
same_present o u q =
    ap (λ a. record { a = a; b = u.b; from = u.output; to = u.output }) q.same_a
    ∙ ap (λ b. record { a = o.a; b = b; from = u.output; to = u.output }) q.same_b
    ∙ ap (λ (out : List ℕ). record { a = o.a; b = o.b; from = out; to = out }) q.output

pub quiet_left : (o u : Outside) → Quiet o u → (left : Left) → IsLeft (present u) left → IsLeft (present o) left
quiet_left o u q left l = subst (λ (m : Moment). IsLeft m left) (same_present o u q) l

pub quiet_stay : (o u v : Outside) → Quiet o u → v ≡ stays u → Quiet o v
quiet_stay o u v q is =
    let here = quiet_left o u q in
    subst (λ (x : Outside). Quiet o x) (sym is) (record {
      same_a = q.same_a;
      same_b = q.same_b;
      output = q.output;
      only = goes_on o u (stays u) (IsLeft (present o)) (present u) q.only refl here here;
    })

pub quiet_idle : (o u v : Outside) → Quiet o u → Idles u v → Quiet o v
quiet_idle o u v q (inl same) = subst (λ (x : Outside). Quiet o x) (sym same) q
quiet_idle o u v q (inr stay) = quiet_stay o u v q stay

pub quiet_then : (o u v : Outside) → Quiet o u → Quiet u v → Quiet o v
quiet_then o u v p q = record {
  same_a = q.same_a ∙ p.same_a;
  same_b = q.same_b ∙ p.same_b;
  output = q.output ∙ p.output;
  only = then_runs o u v (IsLeft (present o)) (IsLeft (present u)) p.only q.only (quiet_left o u p);
}

pub quiet_disk : (file : Which) (o u : Outside) → Quiet o u → disk u file ≡ disk o file
quiet_disk A o u q = q.same_a
quiet_disk B o u q = q.same_b
