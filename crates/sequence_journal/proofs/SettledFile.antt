-- A sync of a file, and calls after which a stop leaves nothing new.
use Rattle.std.proofs.Common.{◌≡◌, inl, ℕ, List, Result, Ok, Err, refl, sym, ◌∙◌, ap, subst, arith}
use Rattle.std.specs.Io.{StartsWith}
use Rattle.road_io.specs.declared.outside.Failed.{Failed}
use Rattle.road_io.specs.declared.outside.Which.{Which}
use Rattle.road_io.specs.declared.outside.Which.TheVariants.{A, B}
use Rattle.road_io.specs.Disk.{Disk, IsImage, IsDurable, IsSoundDisk, settled}
use Rattle.road_io.specs.Outside.{Outside, Left, IsLeft, IsSound, Quiet, LeavesFile, disk, other, present, changed}
use Rattle.road_io.specs.Calls.{Syncs}
use Rattle.road_io.proofs.PendingImages.{settled_durable, only_image}
use Rattle.road_io.proofs.CallRuns.{started, goes_on, then_runs, reached_start}
use Rattle.road_io.proofs.QuietRuns.{quiet_start, quiet_idle, quiet_disk}
use Rattle.sequence_journal.specs.Loading.{Calm, Settles}

pub calm_quiet : (w v : Outside) → Quiet w v → Calm w v
calm_quiet w v q = record {
  reads = λ f. ap (λ (d : Disk). d.reads) (quiet_disk f w v q);
  durable = λ f d. subst IsDurable (sym (quiet_disk f w v q)) d;
  output = q.output;
  images = λ f c i. subst (λ (d : Disk). IsImage d c) (quiet_disk f w v q) i;
  only = q.only;
}

pub calm_left : (w u : Outside) → Calm w u → (left : Left) → IsLeft (present u) left → IsLeft (present w) left
calm_left w u calm left l = record {
  a = calm.images A left.a l.a;
  b = calm.images B left.b l.b;
  no_less = subst (λ (out : List ℕ). StartsWith left.out out) calm.output l.no_less;
  no_more = subst (λ (out : List ℕ). StartsWith out left.out) calm.output l.no_more;
}

pub calm_then : (w u v : Outside) → Calm w u → Calm u v → Calm w v
calm_then w u v p q = record {
  reads = λ f. q.reads f ∙ p.reads f;
  durable = λ f d. q.durable f (p.durable f d);
  output = q.output ∙ p.output;
  images = λ f c i. p.images f c (q.images f c i);
  only = then_runs w u v (IsLeft (present w)) (IsLeft (present u)) p.only q.only (calm_left w u p);
}

-- a file as it reads is one of its images
settled_image : (d : Disk) → IsSoundDisk d → (c : List ℕ) → IsImage (settled d.reads) c → IsImage d c
settled_image d sound c i =
    subst (λ (l : List ℕ). IsImage d l) (sym (only_image (settled d.reads) (settled_durable d.reads) c i)) sound.image

calm_settled : (file : Which) (w : Outside) → IsSound w → Calm w
    (changed file (disk w file) (settled (disk w file).reads) w)
calm_settled A w sound =
    let images : (left : Left) → IsLeft (present (changed A w.a (settled w.a.reads) w)) left
    → IsLeft (present w) left =
    λ left l. record {
      a = settled_image w.a sound.disk_a left.a l.a;
      b = l.b;
      no_less = l.no_less;
      no_more =
          l.no_more;
    } in
    record {
      reads = reads_a;
      durable = durable_a;
      output = refl;
      images = images_a;
      only = goes_on w w (changed A w.a (settled w.a.reads) w) (IsLeft (present w)) (present w)
          (started w (IsLeft (present w)) (λ left l. l)) refl (λ left l. l) images;
    }
  where
    reads_a : (f : Which) → (disk (changed A w.a (settled w.a.reads) w) f).reads ≡ (disk w f).reads
    reads_a A = refl
    reads_a B = refl

    images_a : (f : Which) (c : List ℕ) → IsImage (disk (changed A w.a (settled w.a.reads) w) f) c
        → IsImage (disk w f) c
    images_a A c i = settled_image w.a sound.disk_a c i
    images_a B c i = i

    durable_a : (f : Which) → IsDurable (disk w f) → IsDurable (disk (changed A w.a (settled w.a.reads) w) f)
    durable_a A d = settled_durable w.a.reads
    durable_a B d = d
calm_settled B w sound =
    let images : (left : Left) → IsLeft (present (changed B w.b (settled w.b.reads) w)) left
    → IsLeft (present w) left =
    λ left l. record {
      a = l.a;
      b = settled_image w.b sound.disk_b left.b l.b;
      no_less = l.no_less;
      no_more =
          l.no_more;
    } in
    record {
      reads = reads_b;
      durable = durable_b;
      output = refl;
      images = images_b;
      only = goes_on w w (changed B w.b (settled w.b.reads) w) (IsLeft (present w)) (present w)
          (started w (IsLeft (present w)) (λ left l. l)) refl (λ left l. l) images;
    }
  where
    reads_b : (f : Which) → (disk (changed B w.b (settled w.b.reads) w) f).reads ≡ (disk w f).reads
    reads_b A = refl
    reads_b B = refl

    images_b : (f : Which) (c : List ℕ) → IsImage (disk (changed B w.b (settled w.b.reads) w) f) c
        → IsImage (disk w f) c
    images_b A c i = i
    images_b B c i = settled_image w.b sound.disk_b c i

    durable_b : (f : Which) → IsDurable (disk w f) → IsDurable (disk (changed B w.b (settled w.b.reads) w) f)
    durable_b A d = d
    durable_b B d = settled_durable w.b.reads

settled_there : (file : Which) (w : Outside) → IsDurable (disk (changed file (disk w file) (settled (disk w
    file).reads) w) file)
settled_there A w = settled_durable w.a.reads
settled_there B w = settled_durable w.b.reads

other_there : (file : Which) (w : Outside) → disk (changed file (disk w file) (settled (disk w file).reads) w)
    (other file)
    ≡ disk w (other file)
other_there A w = refl
other_there B w = refl

pub settles : (file : Which) (result : Result (Unit {0}) Failed) (w v : Outside) → IsSound w → Syncs file result w v
    → Settles file result w v
settles file (Ok x) w v sound is = subst (λ (y : Outside). Settles file (Ok x) w y) (sym is)
    (record { calm = calm_settled file w sound; done = settled_there file w; others = other_there file w })
settles file (Err x) w v sound idle =
    let q : Quiet w v = quiet_idle w w v (quiet_start w) idle in
    record { calm = calm_quiet w v q; done = tt; others = quiet_disk (other file) w v q }

-- what a stop leaves now, of one file
pub leaves_now : (file : Which) (Q : List ℕ → Type 0) (w : Outside) → ((c : List ℕ) → IsImage (disk w file) c → Q c)
    → (left : Left) → IsLeft (present w) left → LeavesFile file Q w left
leaves_now file Q w images left l = (reached_start file Q w images).only.each left (inl (omega arith, l))
