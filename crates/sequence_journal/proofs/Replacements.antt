-- A base is an end repaired at the file's start, and a chunk behind a gate.
use Rattle.std.proofs.Common.{inl, inr, ℕ, List, [], ◌∷◌, Result, Ok, Err, IsErr, refl, sym, ◌∙◌, ap, subst}
use Rattle.road_io.specs.declared.outside.Failed.{Failed}
use Rattle.road_io.specs.declared.outside.Which.{Which}
use Rattle.road_io.specs.Disk.{Disk, IsImage, IsDurable}
use Rattle.road_io.specs.Outside.{Outside, disk, other, image_of, LeavesOnly, LeavesFile}
use Rattle.road_io.proofs.PendingImages.{settled_durable}
use Rattle.road_io.proofs.CallRuns.{then_runs, only_weaker}
use Rattle.sequence_journal.specs.Ends.{IsGated, Opened, Opens}
use Rattle.sequence_journal.specs.Ends.{IsRepaired, Repaired, Repairs}
use Rattle.sequence_journal.specs.Ends.{IsReplaced, Replaces}

module _ (file : Which) (chunk : List ℕ) (w : Outside) where
  emptied : (c : List ℕ) → IsRepaired [] (disk w file).reads c → IsReplaced (disk w file).reads chunk c
  emptied c (inl front) = inl front
  emptied c (inr gate) = inr (inl gate)

  gated : (c : List ℕ) → IsGated [] chunk c → IsReplaced (disk w file).reads chunk c
  gated c (inl shut) = inr (inr (inl shut))
  gated c (inr whole) = inr (inr (inr whole))

  emptying : (r : Result (Unit {0}) Failed) (u : Outside) → Repaired file [] (disk w file).reads r w u
      → LeavesOnly w u (LeavesFile file (IsReplaced (disk w file).reads chunk) w)
  emptying r u s = only_weaker w u (LeavesFile file (IsRepaired [] (disk w file).reads) w)
      (LeavesFile file (IsReplaced (disk w file).reads chunk) w) s.any_moment
      (λ left l. record { image = emptied (image_of left file) l.image; other = l.other; out = l.out })

  pub base_failed : (result r : Result (Unit {0}) Failed) → IsErr result → (u : Outside) → Repairs file 0 r w u
      → Replaces file chunk result w u
  base_failed (Ok x) r err u repairs durable = cc
  base_failed (Err x) r err u repairs durable =
      let s : Repaired file [] (disk w file).reads r w u = repairs [] (disk w file).reads refl refl durable in
      record { any_moment = emptying r u s; done = tt; others = s.others; output = s.output }

  pub based : (result : Result (Unit {0}) Failed) (x : Unit {0}) (u v : Outside) → Repairs file 0 (Ok x) w u
      → Opens file 0 chunk result u v → Replaces file chunk result w v
  based result x u v repairs opens durable =
      let s : Repaired file [] (disk w file).reads (Ok x) w u = repairs [] (disk w file).reads refl refl durable in
      let o : Opened file [] chunk result u v = opens [] refl (ap (λ (d : Disk). d.reads) s.done)
      (subst IsDurable (sym s.done) (settled_durable (0 ∷ []))) in
      record {
        any_moment = then_runs w u v (LeavesFile file (IsReplaced (disk w file).reads chunk) w)
            (LeavesFile file (IsGated [] chunk) u) (emptying (Ok x) u s) o.any_moment
            (λ left l. record {
              image = gated (image_of left file) l.image;
              other = subst
                  (λ (d : Disk). IsImage d (image_of left (other file))) s.others l.other;
              out = l.out ∙ s.output;
            });
        done = o.done;
        others = o.others ∙ s.others;
        output = o.output ∙ s.output;
      }
