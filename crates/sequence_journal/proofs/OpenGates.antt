-- The images that each call leaves while a gate is opened.
use Rattle.std.proofs.Common.{◌≡◌, inl, inr, ℕ, ◌+◌, List, [], ◌∷◌, ◌++◌, length, get_or, take, drop, sym, ◌∙◌, ap}
use Rattle.std.proofs.Common.{arith, append_assoc, length-append, take-append-drop}
use Rattle.std.proofs.lemmas.List.{take_at, drop_at, drop_more, take_all, drop_all, append-nil}
use Rattle.road_io.specs.declared.outside.Which.{Which}
use Rattle.road_io.specs.Disk.{Disk, IsImage, IsDurable, settled, written, overwritten}
use Rattle.road_io.specs.Outside.{Outside, disk}
use Rattle.road_io.proofs.PendingImages.{IsPending, Torn, torn_image, settled_durable, only_image}
use Rattle.road_io.proofs.CallRuns.{Reached, reached_start}
use Rattle.sequence_journal.specs.Ends.{IsGated}

module _ (front chunk : List ℕ) (gate : ℕ) (size : length front ≡ gate) where
  length_closed : (x : ℕ) → length (front ++ x ∷ []) ≡ gate + 1
  length_closed x = omega (arith, size, length-append front (x ∷ []))

  -- a write behind the gate leaves it closed
  pub behind : (d e : Disk) → d.reads ≡ front ++ 0 ∷ [] → IsDurable d → IsPending (gate + 1) (length chunk) d e
      → (c : List ℕ) → IsImage e c → IsGated front chunk c
  behind d e reads durable pending c i =
      let long : length d.reads ≡ gate + 1 = ap (λ (l : List ℕ). length l) reads ∙ length_closed 0 in
      let torn : Torn (gate + 1) (length chunk) d.reads c = torn_image (gate + 1) (length chunk) d e durable pending
      (omega arith) c i in
      let closed : take (gate + 1) c ≡ front ++ 0 ∷ [] = torn.before ∙ take_all (gate + 1) d.reads (omega arith)
      ∙ reads in
      inl (
        drop (gate + 1) c,
        sym (take-append-drop (gate + 1) c)
            ∙ ap (λ (l : List ℕ). l ++ drop (gate + 1) c) closed ∙ append_assoc front (0 ∷ []) (drop (gate + 1) c),
      )

  pub staged : (d : Disk) → d.reads ≡ front ++ 0 ∷ [] → (written (gate + 1) chunk d).reads ≡ front ++ 0 ∷ chunk
  staged d reads =
      let long : length d.reads ≡ gate + 1 = ap (λ (l : List ℕ). length l) reads ∙ length_closed 0 in
      ap (λ (l : List ℕ). l ++ chunk ++ drop (gate + 1 + length chunk) d.reads)
      (take_all (gate + 1) d.reads (omega arith))
      ∙ ap (λ (l : List ℕ). d.reads ++ chunk ++ l) (drop_all (gate + 1 + length chunk) d.reads (omega arith))
      ∙ append-nil (d.reads ++ chunk)
      ∙ ap (λ (l : List ℕ). l ++ chunk) reads
      ∙ append_assoc front (0 ∷ []) chunk

  length_staged : length (front ++ 0 ∷ chunk) ≡ gate + 1 + length chunk
  length_staged = omega (arith, size, length-append front (0 ∷ chunk))

  ahead : take gate (front ++ 0 ∷ chunk) ≡ front
  ahead = take_at front (0 ∷ chunk) gate size

  past : drop (gate + 1) (front ++ 0 ∷ chunk) ≡ chunk
  past = ap (λ (l : List ℕ). drop (gate + 1) l) (sym (append_assoc front (0 ∷ []) chunk))
      ∙ drop_at (front ++ 0 ∷ []) chunk (gate + 1) (length_closed 0)

  -- a write of the gate leaves the chunk whole
  pub opening : (e : Disk) → IsPending gate 1 (settled (front ++ 0 ∷ chunk)) e → (c : List ℕ) → IsImage e c
      → IsGated front chunk c
  opening e pending c i =
      let torn : Torn gate 1 (front ++ 0 ∷ chunk) c = torn_image gate 1 (settled (front ++ 0 ∷ chunk)) e
      (settled_durable (front ++ 0 ∷ chunk)) pending (omega (arith, length_staged)) c i in
      let rest : drop gate c ≡ get_or c gate 0 ∷ chunk =
      drop_more c gate 0 (omega (arith, torn.no_shorter, length_staged))
      ∙ ap (λ (l : List ℕ). get_or c gate 0 ∷ l) (torn.after (omega (arith, length_staged)) ∙ past) in
      inr (
        get_or c gate 0,
        sym (take-append-drop gate c) ∙ ap (λ (l : List ℕ). l ++ drop gate c) (torn.before
            ∙ ahead) ∙ ap (λ (l : List ℕ). front ++ l) rest,
      )

  pub opened : overwritten gate (1 ∷ []) (front ++ 0 ∷ chunk) ≡ front ++ 1 ∷ chunk
  opened = ap (λ (l : List ℕ). l ++ (1 ∷ []) ++ drop (gate + 1) (front ++ 0 ∷ chunk)) ahead
      ∙ ap (λ (l : List ℕ). front ++ (1 ∷ []) ++ l) past ∙ append_assoc front (1 ∷ []) chunk

  pub at_start : (which : Which) (w : Outside) → (disk w which).reads ≡ front ++ 0 ∷ [] → IsDurable (disk w which)
      → Reached which (IsGated front chunk) w w (disk w which)
  at_start which w reads durable = reached_start which (IsGated front chunk) w
      (λ c i. inl ([], only_image (disk w which) durable c i ∙ reads))
