-- A buffer filled with a file's bytes from a place on.
use Rattle.std.proofs.Common.{◌≡◌, ⊎_elim, ℕ, ◌+◌, ◌-◌, ◌<◌, ◌≤◌, List, ◌++◌, length, take, drop, Ok}
use Rattle.std.proofs.Common.{refl}
use Rattle.std.proofs.Common.{sym, ◌∙◌, ap, subst, arith, append_assoc, length-append}
use Rattle.std.proofs.lemmas.List.{take_at, take_all, drop_at, drop-drop, length-drop, length-take-le}
use Rattle.std.proofs.Math.Seq.{take-add}
use borrow.Rule.Slice.PartMut.{put_mid, post_of}
use Rattle.road_io.specs.declared.outside.Which.{Which}
use Rattle.road_io.specs.Outside.{Outside, Quiet, disk}
use Rattle.road_io.specs.Calls.{GivesBytes}
use Rattle.road_io.proofs.QuietRuns.{quiet_start, quiet_stay, quiet_disk}
use Rattle.sequence_journal.specs.Reading.{Fills}

-- so many of the bytes from a place on are in the buffer
pub record FilledSoFar (file : Which) (from at : ℕ) (buf : List ℕ) (w u : Outside) : Type 0 where
  pub quiet : Quiet w u
  pub within : at ≤ length (drop from (disk w file).reads)
  pub read : take at buf ≡ take at (drop from (disk w file).reads)

pub fill_start : (file : Which) (from : ℕ) (buf : List ℕ) (w : Outside) → FilledSoFar file from 0 buf w w
fill_start file from buf w = record { quiet = quiet_start w; within = omega arith; read = refl }

module _ (file : Which) (from at n : ℕ) (buf old sub : List ℕ) (in_buf : at < length buf)
    (room : old ≡ take (length buf - at) (drop at buf)) (few : n ≤ length old) (w u v : Outside)
    (s : FilledSoFar file from at buf w u) (gives : GivesBytes file (from + at) old sub (Ok n) u v) where
  abbrev there : List ℕ
  there = drop from (disk w file).reads

  same : drop (from + at) (disk u file).reads ≡ drop at there
  same = ap (λ d. drop (from + at) d.reads) (quiet_disk file w u s.quiet)
      ∙ sym (drop-drop at from (disk w file).reads)

  enough : n ≤ length (drop at there)
  enough = subst (λ (l : List ℕ). n ≤ length l) same gives.0.enough

  front : length (take at buf) ≡ at
  front = length-take-le at buf (omega arith)

  given : (post : List ℕ) → take n (sub ++ post) ≡ take n (drop at there)
  given post = ap (λ (l : List ℕ). take n (l ++ post)) gives.0.bytes
      ∙ ap (λ (l : List ℕ). take n l) (append_assoc (take n (drop (from + at) (disk u file).reads)) (drop n old) post)
      ∙ take_at (take n (drop (from + at) (disk u file).reads)) (drop n old ++ post) n
      (length-take-le n (drop (from + at) (disk u file).reads) gives.0.enough)
      ∙ ap (λ (l : List ℕ). take n l) same

  filled : (post : List ℕ) → take (at + n) (take at buf ++ (sub ++ post)) ≡ take (at + n) there
  filled post = take-add at n (take at buf ++ (sub ++ post))
      ∙ ap (λ (l : List ℕ). l ++ take n (drop at (take at buf ++ (sub ++ post))))
      (take_at (take at buf) (sub ++ post) at front ∙ s.read)
      ∙ ap (λ (l : List ℕ). take at there ++ take n l) (drop_at (take at buf) (sub ++ post) at front)
      ∙ ap (λ (l : List ℕ). take at there ++ l) (given post)
      ∙ sym (take-add at n there)

  pub fill_more : FilledSoFar file from (at + n) (put_mid at (length buf - at) buf sub) w v
  fill_more = record {
    quiet = quiet_stay w u v s.quiet gives.1;
    within = omega (arith, enough, s.within, length-drop at there);
    read = filled (post_of at (length buf - at) buf);
  }

  pub fill_end : n ≡ 0 → Fills file from (put_mid at (length buf - at) buf sub) (Ok at) w v
  fill_end none =
      let at_end : length there ≤ at = ⊎_elim
      (λ no_room. absurd (omega (
        arith,
        few,
        ap (λ (l : List ℕ). length l) (sym room ∙ no_room),
        length-take-le (length buf - at) (drop at buf) (omega (arith, length-drop at buf)),
      )))
      (λ over. omega (arith, ap (λ (l : List ℕ). length l) (sym same ∙ over), length-drop at there))
      (gives.0.none.0 none) in
      let k : at + n ≡ at = omega arith in
      let now_there : List ℕ = put_mid at (length buf - at) buf sub in
      record {
        quiet = quiet_stay w u v s.quiet gives.1;
        answer = subst (λ (x : ℕ). take x now_there ≡ take x there) k (filled (post_of at (length buf - at) buf))
            ∙ take_all at there at_end
            ∙ sym (take_all (length now_there) there (omega (
              arith,
              at_end,
              front,
              length-append (take at buf) (sub ++ post_of at (length buf - at) buf),
            )));
      }
