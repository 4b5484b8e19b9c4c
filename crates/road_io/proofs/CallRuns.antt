-- Calls one behind another: what a stop leaves while they go on.
use Rattle.std.proofs.Common.{◌≡◌, ◌++◌, inl, inr, ⊎_elim, ℕ, ◌≤◌, List, [], ◌∷◌, length}
use Rattle.std.proofs.Common.{refl, sym, ◌∙◌, ap, subst, arith}
use Rattle.std.proofs.lemmas.List.{take_all, length-take}
use Rattle.std.specs.Io.{StartsWith}
use Rattle.road_io.specs.declared.outside.Which.{Which}
use Rattle.road_io.specs.declared.outside.Which.TheVariants.{A, B}
use Rattle.road_io.specs.Disk.{Disk, IsImage}
use Rattle.road_io.specs.Outside.{Outside, Moment, Left, IsLeft, LeftIn, LeavesOnly, LeavesFile, clock, present}
use Rattle.road_io.specs.Outside.{disk, other, changed, stays, moment, extended}
use Rattle.road_io.specs.Calls.{Idles}

-- ---- what a stop leaves

-- no span of the past has a number from its length on
none_later : (past : List Moment) (since : ℕ) (left : Left) → length past ≤ since → LeftIn past since left → ⊥
none_later [] since left le may = may
none_later (m ∷ past) since left le (inl here) = absurd (omega (arith, here.0))
none_later (m ∷ past) since left le (inr before) = none_later past since left (omega arith) before

-- before the first call
pub started : (o : Outside) (P : Left → Type 0) → ((left : Left) → IsLeft (present o) left → P left) → LeavesOnly o o P
started o P here = record {
  later = omega arith;
  each = λ left may. ⊎_elim
      (λ at_end. here left at_end.1)
      (λ past. absurd (none_later o.past (clock o) left (omega arith) past)) may;
  earlier = λ since left le may. inl may;
}

-- one call more
pub goes_on : (o u v : Outside) (P : Left → Type 0) (m : Moment) → LeavesOnly o u P → v.past ≡ m ∷ u.past
    → ((left : Left) → IsLeft m left → P left) → ((left : Left) → IsLeft (present v) left → P left) → LeavesOnly o v P
goes_on o u v P m so_far longer during after = record {
  later = omega (arith, ap (λ (l : List Moment). length l) longer, so_far.later);
  each = λ left may. ⊎_elim
      (λ ends. after left ends.1)
      (λ past. ⊎_elim
      (λ in_call. during left in_call.1)
      (λ old. so_far.each left (inr old))
      (subst (λ (l : List Moment). LeftIn l (clock o) left) longer past)) may;
  earlier = λ since left le may. ⊎_elim
      (λ ends. inr (after left ends.1))
      (λ past. ⊎_elim
      (λ in_call. inr (during left in_call.1))
      (λ old. so_far.earlier since left le (inr old))
      (subst (λ (l : List Moment). LeftIn l since left) longer past)) may;
}

-- some calls, and some behind them
pub then_runs : (o u v : Outside) (P Q : Left → Type 0) → LeavesOnly o u P → LeavesOnly u v Q
    → ((left : Left) → Q left → P left) → LeavesOnly o v P
then_runs o u v P Q first second weaker = record {
  later = omega (arith, first.later, second.later);
  each = λ left may. ⊎_elim (first.each left) (weaker left) (second.earlier (clock o) left first.later may);
  earlier = λ since left le may. ⊎_elim
      (first.earlier since left le)
      (λ new. inr (weaker left new))
      (second.earlier since left (omega (arith, le, first.later)) may);
}

pub only_weaker : (o v : Outside) (P Q : Left → Type 0) → LeavesOnly o v P → ((left : Left) → P left → Q left)
    → LeavesOnly o v Q
only_weaker o v P Q only f = record {
  later = only.later;
  each = λ left may. f left (only.each left may);
  earlier = λ since left le may. ⊎_elim (λ old. inl old) (λ new. inr (f left new)) (only.earlier since left le may);
}

-- an output that grows, and all that holds of what a stop leaves while it does
pub put_goes_on : (o u v : Outside) (P : Left → Type 0) (chunk : List ℕ) → LeavesOnly o u P → v ≡ extended chunk u
    → ((left : Left) → IsImage u.a left.a → IsImage u.b left.b → StartsWith (u.output ++ chunk) left.out → P left)
    → LeavesOnly o v P
put_goes_on o u v P chunk so_far is holds = subst (λ (x : Outside). LeavesOnly o x P) (sym is)
    (goes_on o u (extended chunk u) P (record { a = u.a; b = u.b; from = u.output; to = u.output ++ chunk })
    so_far refl (λ left l. holds left l.a l.b l.no_more) (λ left l. holds left l.a l.b l.no_more))

-- ---- calls on one file

-- Calls since `o` changed at most this file, whose disk is now `d`. At each moment its images had Q.
pub record Reached (file : Which) (Q : List ℕ → Type 0) (o u : Outside) (d : Disk) : Type 0 where
  pub only : LeavesOnly o u (LeavesFile file Q o)
  pub images : (c : List ℕ) → IsImage d c → Q c
  pub disk_is : disk u file ≡ d
  pub other : disk u (other file) ≡ disk o (other file)
  pub output : u.output ≡ o.output

same_output : (put out : List ℕ) → StartsWith out put → StartsWith put out → out ≡ put
same_output put out front back =
    let le : length put ≤ length out =
    omega (arith, ap (λ (l : List ℕ). length l) front, length-take (length put) out) in
    sym back ∙ take_all (length out) put le

leaves : (file : Which) (Q : List ℕ → Type 0) (o u : Outside) (d : Disk) → ((c : List ℕ) → IsImage d c → Q c)
    → disk u (other file) ≡ disk o (other file) → u.output ≡ o.output
    → (left : Left) → IsLeft (moment file d u) left → LeavesFile file Q o left
leaves A Q o u d images rest output left l = record {
  image = images left.a l.a;
  other = subst (λ (e : Disk). IsImage e left.b) rest l.b;
  out = same_output u.output left.out l.no_less l.no_more ∙ output;
}
leaves B Q o u d images rest output left l = record {
  image = images left.b l.b;
  other = subst (λ (e : Disk). IsImage e left.a) rest l.a;
  out = same_output u.output left.out l.no_less l.no_more ∙ output;
}

past_changed : (file : Which) (d e : Disk) (o : Outside) → (changed file d e o).past ≡ moment file d o ∷ o.past
past_changed A d e o = refl
past_changed B d e o = refl

present_changed : (file : Which) (d e : Disk) (o : Outside) → present (changed file d e o) ≡ moment file e o
present_changed A d e o = refl
present_changed B d e o = refl

present_moment : (file : Which) (o : Outside) → present o ≡ moment file (disk o file) o
present_moment A o = refl
present_moment B o = refl

pub disk_changed : (file : Which) (d e : Disk) (o : Outside) → disk (changed file d e o) file ≡ e
disk_changed A d e o = refl
disk_changed B d e o = refl

pub other_changed : (file : Which) (d e : Disk) (o : Outside)
    → disk (changed file d e o) (other file) ≡ disk o (other file)
other_changed A d e o = refl
other_changed B d e o = refl

pub output_changed : (file : Which) (d e : Disk) (o : Outside) → (changed file d e o).output ≡ o.output
output_changed A d e o = refl
output_changed B d e o = refl

pub disk_stays : (file : Which) (o : Outside) → disk (stays o) file ≡ disk o file
disk_stays A o = refl
disk_stays B o = refl

pub reached_start : (file : Which) (Q : List ℕ → Type 0) (o : Outside) → ((c : List ℕ) → IsImage (disk o file) c → Q c)
    → Reached file Q o o (disk o file)
reached_start file Q o images = record {
  only = started o (LeavesFile file Q o) (λ left l. leaves file Q o o (disk o file) images refl refl left
      (subst (λ (m : Moment). IsLeft m left) (present_moment file o) l));
  images = images;
  disk_is = refl;
  other = refl;
  output = refl;
}

-- a call that changed the file
pub reached_change : (file : Which) (Q : List ℕ → Type 0) (o u v : Outside) (d during after : Disk)
    → Reached file Q o u d → v ≡ changed file during after u
    → ((c : List ℕ) → IsImage during c → Q c) → ((c : List ℕ) → IsImage after c → Q c) → Reached file Q o v after
reached_change file Q o u v d during after so_far is in_call images =
    subst (λ (x : Outside). Reached file Q o x after) (sym is) (record {
      only = goes_on o u (changed file during after u) (LeavesFile file Q o) (moment file during u) so_far.only
          (past_changed file during after u)
          (λ left l. leaves file Q o u during in_call so_far.other so_far.output left l)
          (λ left l. leaves file Q o u after images so_far.other so_far.output left
          (subst (λ (m : Moment). IsLeft m left) (present_changed file during after u) l));
      images = images;
      disk_is = disk_changed file during after u;
      other = other_changed file during after u ∙ so_far.other;
      output = output_changed file during after u ∙ so_far.output;
    })

-- a call that changed nothing
pub reached_stay : (file : Which) (Q : List ℕ → Type 0) (o u v : Outside) (d : Disk) → Reached file Q o u d
    → v ≡ stays u → Reached file Q o v d
reached_stay file Q o u v d so_far is = subst (λ (x : Outside). Reached file Q o x d) (sym is) (record {
  only = goes_on o u (stays u) (LeavesFile file Q o) (present u) so_far.only refl here here;
  images = so_far.images;
  disk_is = disk_stays file u ∙ so_far.disk_is;
  other = disk_stays (other file) u ∙ so_far.other;
  output = so_far.output;
})
  where
    images_now : (c : List ℕ) → IsImage (disk u file) c → Q c
    images_now c i = so_far.images c (subst (λ (e : Disk). IsImage e c) so_far.disk_is i)

    here : (left : Left) → IsLeft (present u) left → LeavesFile file Q o left
    here left l = leaves file Q o u (disk u file) images_now so_far.other so_far.output left
        (subst (λ (m : Moment). IsLeft m left) (present_moment file u) l)

pub reached_idle : (file : Which) (Q : List ℕ → Type 0) (o u v : Outside) (d : Disk) → Reached file Q o u d
    → Idles u v → Reached file Q o v d
reached_idle file Q o u v d so_far (inl same) = subst (λ (x : Outside). Reached file Q o x d) (sym same) so_far
reached_idle file Q o u v d so_far (inr stay) = reached_stay file Q o u v d so_far stay
