-- What each call of `repair_end` leaves.
use Rattle.std.proofs.Common.{◌≡◌, inl, inr, ℕ, zero, suc, ◌+◌, ◌≤◌, List, [], ◌∷◌, ◌++◌, length, take, drop}
use Rattle.std.proofs.Common.{Result, Ok, Err, IsErr, OnOk, refl, sym, ◌∙◌, ap, arith, length-append}
use Rattle.std.proofs.Common.{take-append-drop}
use Rattle.std.proofs.lemmas.List.{take_at, take_all, drop_all, append-nil, length-drop}
use Rattle.road_io.specs.declared.outside.Failed.{Failed}
use Rattle.road_io.specs.declared.outside.Which.{Which}
use Rattle.road_io.specs.Disk.{Disk, IsImage, IsDurable, settled, written, cut_off, overwritten}
use Rattle.road_io.specs.Outside.{Outside, disk}
use Rattle.road_io.specs.Calls.{Writes, Cuts, Syncs}
use Rattle.road_io.proofs.PendingImages.{IsPending, IsShorter, Torn, torn_image, cut_image, settled_durable}
use Rattle.road_io.proofs.PendingImages.{only_image}
use Rattle.road_io.proofs.CallRuns.{Reached, reached_start}
use Rattle.road_io.proofs.FileRuns.{Somewhere, reached_write, failed_write, reached_cut, failed_cut, reached_sync}
use Rattle.road_io.proofs.FileRuns.{failed_sync}
use Rattle.sequence_journal.specs.Ends.{IsRepaired, Repaired, Repairs}

-- a front of a joined list that holds the first part
front_of : (front rest : List ℕ) (n : ℕ) → length front ≤ n
    → (k : ℕ) × (take n (front ++ rest) ≡ front ++ take k rest)
front_of [] rest n le = (n, refl)
front_of (x ∷ front) rest zero le = absurd (omega arith)
front_of (x ∷ front) rest (suc n) le =
    let r = front_of front rest n (omega arith) in (r.0, ap (λ (l : List ℕ). x ∷ l) r.1)

short : (front rest c tail : List ℕ) → length tail ≤ 1 → c ≡ front ++ tail → IsRepaired front rest c
short front rest c [] le is = inl (0, is)
short front rest c (x ∷ []) le is = inr (x, is)
short front rest c (x ∷ y ∷ tail) le is = absurd (omega arith)

module _ (file : Which) (gate : ℕ) (front rest : List ℕ) (size : length front ≡ gate) where
  module _ (w : Outside) (reads : (disk w file).reads ≡ front ++ rest) (durable : IsDurable (disk w file)) where
    at_start : Reached file (IsRepaired front rest) w w (disk w file)
    at_start = reached_start file (IsRepaired front rest) w
        (λ c i. inl (
          length rest,
          only_image (disk w file) durable c i ∙ reads
              ∙ ap (λ (l : List ℕ). front ++ l) (sym (take_all (length rest) rest (omega arith))),
        ))

    cutting : (e : Disk) → IsShorter gate (disk w file) e → (c : List ℕ) → IsImage e c → IsRepaired front rest c
    cutting e shorter c i =
        let cut = cut_image gate (disk w file) e durable shorter
        (omega (arith, ap (λ (l : List ℕ). length l) reads, length-append front rest)) c i in
        let r = front_of front rest (length c) (omega (arith, cut.0)) in
        inl (r.0, cut.1 ∙ ap (λ (l : List ℕ). take (length c) l) reads ∙ r.1)

    is_cut : (cut_off gate (disk w file)).reads ≡ front
    is_cut = ap (λ (l : List ℕ). take gate l) reads ∙ take_at front rest gate size

  nothing : front ≡ front ++ take 0 rest
  nothing = sym (append-nil front)

  closing : (e : Disk) → IsPending gate 1 (settled front) e → (c : List ℕ) → IsImage e c → IsRepaired front rest c
  closing e pending c i =
      let torn : Torn gate 1 front c = torn_image gate 1 (settled front) e (settled_durable front) pending
      (omega arith) c i in
      short front rest c (drop gate c) (omega (arith, torn.no_longer, length-drop gate c))
      (sym (take-append-drop gate c) ∙ ap (λ (l : List ℕ). l ++ drop gate c) (torn.before
      ∙ take_all gate front (omega arith)))

  is_closed : overwritten gate (0 ∷ []) front ≡ front ++ 0 ∷ []
  is_closed = ap (λ (l : List ℕ). l ++ (0 ∷ []) ++ drop (gate + 1) front) (take_all gate front (omega arith))
      ∙ ap (λ (l : List ℕ). front ++ (0 ∷ []) ++ l) (drop_all (gate + 1) front (omega arith))
      ∙ append-nil (front ++ 0 ∷ [])

abbrev pub Ready : Which → ℕ → List ℕ → List ℕ → Outside → Type 0
Ready file gate front rest w = (length front ≡ gate) × ((disk w file).reads ≡ front ++ rest) × IsDurable (disk w file)

abbrev pub Reaching : Which → ℕ → (List ℕ → Disk → Disk) → Outside → Outside → Type 0
Reaching file gate d w u = (front rest : List ℕ) → Ready file gate front rest w
    → Reached file (IsRepaired front rest) w u (d front (disk w file))

abbrev pub Cutting : Which → ℕ → Outside → Outside → Type 0
Cutting file gate = Reaching file gate (λ front d. cut_off gate d)

abbrev pub Ended : Which → ℕ → Outside → Outside → Type 0
Ended file gate = Reaching file gate (λ front d. settled front)

abbrev pub Shut : Which → ℕ → Outside → Outside → Type 0
Shut file gate = Reaching file gate (λ front d. written gate (0 ∷ []) (settled front))

module _ (file : Which) (gate : ℕ) where
  no_ok : (result : Result (Unit {0}) Failed) (P : Type 0) → IsErr result → OnOk result P
  no_ok (Ok x) P err = cc
  no_ok (Err x) P err = tt

  failed : (result : Result (Unit {0}) Failed) → IsErr result → (front rest : List ℕ) (w v : Outside)
      → Somewhere file (IsRepaired front rest) w v → Repaired file front rest result w v
  failed result err front rest w v s = record {
    any_moment = s.reached.only;
    done = no_ok result (disk v file ≡ settled (front ++ 0 ∷ [])) err;
    others = s.reached.other;
    output = s.reached.output;
  }

  pub first : (x : Unit {0}) (w u : Outside) → Cuts file gate (Ok x) w u → Cutting file gate w u
  first x w u is front rest r =
      reached_cut file (IsRepaired front rest) w w u (disk w file) (at_start file gate front rest r.0 w r.1 r.2) gate
      x is (cutting file gate front rest r.0 w r.1 r.2)

  pub first_failed : (result : Result (Unit {0}) Failed) (x : Failed) → IsErr result → (w u : Outside)
      → Cuts file gate (Err x) w u → Repairs file gate result w u
  first_failed result x err w u is front rest size reads durable = failed result err front rest w u
      (failed_cut file (IsRepaired front rest) w w u (disk w file)
      (at_start file gate front rest size w reads durable) gate x is
      (cutting file gate front rest size w reads durable))

  pub second : (x : Unit {0}) (w u v : Outside) → Cutting file gate w u → Syncs file (Ok x) u v → Ended file gate w v
  second x w u v so_far is front rest r =
      reached_sync file (IsRepaired front rest) w u v (cut_off gate (disk w file)) (so_far front rest r) x front is
      (is_cut file gate front rest r.0 w r.1 r.2) (inl (0, sym (append-nil front)))

  pub second_failed : (result : Result (Unit {0}) Failed) (x : Failed) → IsErr result → (w u v : Outside)
      → Cutting file gate w u → Syncs file (Err x) u v → Repairs file gate result w v
  second_failed result x err w u v so_far is front rest size reads durable = failed result err front rest w v
      (failed_sync file (IsRepaired front rest) w u v (cut_off gate (disk w file))
      (so_far front rest (size, reads, durable)) x is)

  pub third : (x : Unit {0}) (w u v : Outside) → Ended file gate w u → Writes file gate (0 ∷ []) (Ok x) u v
      → Shut file gate w v
  third x w u v so_far is front rest r =
      reached_write file (IsRepaired front rest) w u v (settled front) (so_far front rest r) gate (0 ∷ []) x is
      (closing file gate front rest r.0)

  pub third_failed : (result : Result (Unit {0}) Failed) (x : Failed) → IsErr result → (w u v : Outside)
      → Ended file gate w u → Writes file gate (0 ∷ []) (Err x) u v → Repairs file gate result w v
  third_failed result x err w u v so_far is front rest size reads durable = failed result err front rest w v
      (failed_write file (IsRepaired front rest) w u v (settled front) (so_far front rest (size, reads, durable))
      gate (0 ∷ []) x is (closing file gate front rest size))

  last : (x y : Unit {0}) (w u v : Outside) → Shut file gate w u → Syncs file (Ok x) u v
      → Repairs file gate (Ok y) w v
  last x y w u v so_far is front rest size reads durable =
      let r : Reached file (IsRepaired front rest) w v (settled (front ++ 0 ∷ [])) =
      reached_sync file (IsRepaired front rest) w u v (written gate (0 ∷ []) (settled front))
      (so_far front rest (size, reads, durable)) x (front ++ 0 ∷ []) is (is_closed file gate front rest size)
      (inr (0, refl)) in
      record { any_moment = r.only; done = r.disk_is; others = r.other; output = r.output }

  last_failed : (result : Result (Unit {0}) Failed) (x : Failed) → IsErr result → (w u v : Outside)
      → Shut file gate w u → Syncs file (Err x) u v → Repairs file gate result w v
  last_failed result x err w u v so_far is front rest size reads durable = failed result err front rest w v
      (failed_sync file (IsRepaired front rest) w u v (written gate (0 ∷ []) (settled front))
      (so_far front rest (size, reads, durable)) x is)

  pub last_sync : (result : Result (Unit {0}) Failed) (w u v : Outside) → Shut file gate w u
      → Syncs file result u v → Repairs file gate result w v
  last_sync (Ok x) w u v so_far is = last x x w u v so_far is
  last_sync (Err x) w u v so_far is = last_failed (Err x) x refl w u v so_far is
