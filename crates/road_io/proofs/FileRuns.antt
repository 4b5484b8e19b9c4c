-- A write, a cut and a sync, each behind some calls on one file.
use Rattle.std.proofs.Common.{◌≡◌, inl, inr, ℕ, List, length, Ok, Err, sym, ◌∙◌, ap, subst}
use Rattle.road_io.specs.declared.outside.Failed.{Failed}
use Rattle.road_io.specs.declared.outside.Which.{Which}
use Rattle.road_io.specs.Disk.{Disk, IsImage, settled, written, cut_off}
use Rattle.road_io.specs.Outside.{Outside, disk, changed}
use Rattle.road_io.specs.Calls.{Writes, Cuts, Syncs}
use Rattle.road_io.proofs.CallRuns.{Reached, reached_change, reached_idle}
use Rattle.road_io.proofs.PendingImages.{IsPending, written_pending, part_pending, IsShorter, cut_shorter, part_shorter}
use Rattle.road_io.proofs.PendingImages.{settled_durable, only_image}

-- some disk, reached by a call that may have failed
pub record Somewhere (file : Which) (Q : List ℕ → Type 0) (o v : Outside) : Type 0 where
  pub d : Disk
  pub reached : Reached file Q o v d

module _ (file : Which) (Q : List ℕ → Type 0) (o u v : Outside) (d : Disk) (so_far : Reached file Q o u d) where
  change : (during after : Disk) → v ≡ changed file during after u → ((c : List ℕ) → IsImage during c → Q c)
      → ((c : List ℕ) → IsImage after c → Q c) → Reached file Q o v after
  change during after is in_call images = reached_change file Q o u v d during after so_far is in_call images

  pub reached_write : (at : ℕ) (chunk : List ℕ) (x : Unit {0}) → Writes file at chunk (Ok x) u v
      → ((e : Disk) → IsPending at (length chunk) d e → (c : List ℕ) → IsImage e c → Q c)
      → Reached file Q o v (written at chunk d)
  reached_write at chunk x is images =
      let e = written at chunk d in
      let here : (c : List ℕ) → IsImage e c → Q c = images e (written_pending at chunk d) in
      change e e
      (is ∙ ap (λ (b : Disk). changed file (written at chunk b) (written at chunk b) u) so_far.disk_is) here here

  pub failed_write : (at : ℕ) (chunk : List ℕ) (x : Failed) → Writes file at chunk (Err x) u v
      → ((e : Disk) → IsPending at (length chunk) d e → (c : List ℕ) → IsImage e c → Q c) → Somewhere file Q o v
  failed_write at chunk x (inl same) images =
      record { d = d; reached = subst (λ (y : Outside). Reached file Q o y d) (sym same) so_far }
  failed_write at chunk x (inr part) images =
      let here : (c : List ℕ) → IsImage part.0 c → Q c = images part.0
      (subst (λ (b : Disk). IsPending at (length chunk) b part.0) so_far.disk_is
      (part_pending at (length chunk) (disk u file) part.0 part.1)) in
      record { d = part.0; reached = change part.0 part.0 part.2 here here }

  pub reached_cut : (len : ℕ) (x : Unit {0}) → Cuts file len (Ok x) u v
      → ((e : Disk) → IsShorter len d e → (c : List ℕ) → IsImage e c → Q c) → Reached file Q o v (cut_off len d)
  reached_cut len x is images =
      let e = cut_off len d in
      let here : (c : List ℕ) → IsImage e c → Q c = images e (cut_shorter len d) in
      change e e (is ∙ ap (λ (b : Disk). changed file (cut_off len b) (cut_off len b) u) so_far.disk_is) here here

  pub failed_cut : (len : ℕ) (x : Failed) → Cuts file len (Err x) u v
      → ((e : Disk) → IsShorter len d e → (c : List ℕ) → IsImage e c → Q c) → Somewhere file Q o v
  failed_cut len x (inl same) images =
      record { d = d; reached = subst (λ (y : Outside). Reached file Q o y d) (sym same) so_far }
  failed_cut len x (inr part) images =
      let here : (c : List ℕ) → IsImage part.0 c → Q c = images part.0
      (subst (λ (b : Disk). IsShorter len b part.0) so_far.disk_is
      (part_shorter len (disk u file) part.0 part.1)) in
      record { d = part.0; reached = change part.0 part.0 part.2 here here }

  pub reached_sync : (x : Unit {0}) (bytes : List ℕ) → Syncs file (Ok x) u v → d.reads ≡ bytes → Q bytes
      → Reached file Q o v (settled bytes)
  reached_sync x bytes is reads holds =
      change d (settled bytes)
      (is ∙ ap (λ (b : Disk). changed file b (settled b.reads) u) so_far.disk_is
      ∙ ap (λ (r : List ℕ). changed file d (settled r) u) reads)
      so_far.images
      (λ c i. subst Q (sym (only_image (settled bytes) (settled_durable bytes) c i)) holds)

  pub failed_sync : (x : Failed) → Syncs file (Err x) u v → Somewhere file Q o v
  failed_sync x idle = record { d = d; reached = reached_idle file Q o u v d so_far idle }
