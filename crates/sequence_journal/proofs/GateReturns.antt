-- What `open_behind` leaves at each of its returns.
use Rattle.std.proofs.Common.{◌≡◌, inr, ℕ, ◌+◌, List, [], ◌∷◌, ◌++◌, length, Result, Ok, Err, IsErr, OnOk, refl}
use Rattle.road_io.specs.declared.outside.Failed.{Failed}
use Rattle.road_io.specs.declared.outside.Which.{Which}
use Rattle.road_io.specs.Disk.{IsDurable, settled, written}
use Rattle.road_io.specs.Outside.{Outside, disk}
use Rattle.road_io.specs.Calls.{Writes, Syncs}
use Rattle.road_io.proofs.CallRuns.{Reached}
use Rattle.road_io.proofs.FileRuns.{Somewhere, reached_write, failed_write, reached_sync, failed_sync}
use Rattle.sequence_journal.specs.Ends.{IsGated, Opened, Opens}
use Rattle.sequence_journal.proofs.OpenGates.{behind, staged, opening, opened, at_start}

-- what is reached so far, for each front that the file may have had
abbrev pub Behind : Which → ℕ → List ℕ → Outside → Outside → Type 0
Behind file gate chunk w u = (front : List ℕ) → length front ≡ gate → (disk w file).reads ≡ front ++ 0 ∷ []
    → IsDurable (disk w file) → Reached file (IsGated front chunk) w u (written (gate + 1) chunk (disk w file))

abbrev pub Staged : Which → ℕ → List ℕ → Outside → Outside → Type 0
Staged file gate chunk w u = (front : List ℕ) → length front ≡ gate → (disk w file).reads ≡ front ++ 0 ∷ []
    → IsDurable (disk w file) → Reached file (IsGated front chunk) w u (settled (front ++ 0 ∷ chunk))

abbrev pub Tried : Which → ℕ → List ℕ → Outside → Outside → Type 0
Tried file gate chunk w u = (front : List ℕ) → length front ≡ gate → (disk w file).reads ≡ front ++ 0 ∷ []
    → IsDurable (disk w file) → Reached file (IsGated front chunk) w u
    (written gate (1 ∷ []) (settled (front ++ 0 ∷ chunk)))

module _ (file : Which) (gate : ℕ) (chunk : List ℕ) where
  no_ok : (result : Result (Unit {0}) Failed) (P : Type 0) → IsErr result → OnOk result P
  no_ok (Ok x) P err = cc
  no_ok (Err x) P err = tt

  failed : (result : Result (Unit {0}) Failed) → IsErr result → (front : List ℕ) (w v : Outside)
      → Somewhere file (IsGated front chunk) w v → Opened file front chunk result w v
  failed result err front w v s = record {
    any_moment = s.reached.only;
    done = no_ok result (disk v file ≡ settled (front ++ 1 ∷ chunk)) err;
    others = s.reached.other;
    output = s.reached.output;
  }

  pub first : (x : Unit {0}) (w u : Outside) → Writes file (gate + 1) chunk (Ok x) w u → Behind file gate chunk w u
  first x w u is front size reads durable =
      reached_write file (IsGated front chunk) w w u (disk w file)
      (at_start front chunk gate size file w reads durable) (gate + 1) chunk x is
      (λ e pending. behind front chunk gate size (disk w file) e reads durable pending)

  pub first_failed : (result : Result (Unit {0}) Failed) (x : Failed) → IsErr result → (w u : Outside)
      → Writes file (gate + 1) chunk (Err x) w u → Opens file gate chunk result w u
  first_failed result x r w u is front size reads durable = failed result r front w u
      (failed_write file (IsGated front chunk) w w u (disk w file)
      (at_start front chunk gate size file w reads durable) (gate + 1) chunk x is
      (λ e pending. behind front chunk gate size (disk w file) e reads durable pending))

  pub second : (x : Unit {0}) (w u v : Outside) → Behind file gate chunk w u → Syncs file (Ok x) u v
      → Staged file gate chunk w v
  second x w u v so_far is front size reads durable =
      let d = written (gate + 1) chunk (disk w file) in
      let r : Reached file (IsGated front chunk) w u d = so_far front size reads durable in
      reached_sync file (IsGated front chunk) w u v d r x (front ++ 0 ∷ chunk) is
      (staged front chunk gate size (disk w file) reads) (inr (0, refl))

  pub second_failed : (result : Result (Unit {0}) Failed) (x : Failed) → IsErr result → (w u v : Outside)
      → Behind file gate chunk w u → Syncs file (Err x) u v → Opens file gate chunk result w v
  second_failed result x r w u v so_far is front size reads durable = failed result r front w v
      (failed_sync file (IsGated front chunk) w u v (written (gate + 1) chunk (disk w file))
      (so_far front size reads durable) x is)

  pub third : (x : Unit {0}) (w u v : Outside) → Staged file gate chunk w u → Writes file gate (1 ∷ []) (Ok x) u v
      → Tried file gate chunk w v
  third x w u v so_far is front size reads durable =
      reached_write file (IsGated front chunk) w u v (settled (front ++ 0 ∷ chunk)) (so_far front size reads durable)
      gate (1 ∷ []) x is
      (λ e pending. opening front chunk gate size e pending)

  pub third_failed : (result : Result (Unit {0}) Failed) (x : Failed) → IsErr result → (w u v : Outside)
      → Staged file gate chunk w u → Writes file gate (1 ∷ []) (Err x) u v → Opens file gate chunk result w v
  third_failed result x r w u v so_far is front size reads durable = failed result r front w v
      (failed_write file (IsGated front chunk) w u v (settled (front ++ 0 ∷ chunk)) (so_far front size reads durable)
      gate (1 ∷ []) x is
      (λ e pending. opening front chunk gate size e pending))

  last : (x y : Unit {0}) (w u v : Outside) → Tried file gate chunk w u → Syncs file (Ok x) u v
      → Opens file gate chunk (Ok y) w v
  last x y w u v so_far is front size reads durable =
      let d = written gate (1 ∷ []) (settled (front ++ 0 ∷ chunk)) in
      let r : Reached file (IsGated front chunk) w v (settled (front ++ 1 ∷ chunk)) =
      reached_sync file (IsGated front chunk) w u v d (so_far front size reads durable) x (front ++ 1 ∷ chunk) is
      (opened front chunk gate size) (inr (1, refl)) in
      record { any_moment = r.only; done = r.disk_is; others = r.other; output = r.output }

  last_failed : (result : Result (Unit {0}) Failed) (x : Failed) → IsErr result → (w u v : Outside)
      → Tried file gate chunk w u → Syncs file (Err x) u v → Opens file gate chunk result w v
  last_failed result x r w u v so_far is front size reads durable = failed result r front w v
      (failed_sync file (IsGated front chunk) w u v (written gate (1 ∷ []) (settled (front ++ 0 ∷ chunk)))
      (so_far front size reads durable) x is)

  pub last_sync : (result : Result (Unit {0}) Failed) (w u v : Outside) → Tried file gate chunk w u
      → Syncs file result u v → Opens file gate chunk result w v
  last_sync (Ok x) w u v so_far is = last x x w u v so_far is
  last_sync (Err x) w u v so_far is = last_failed (Err x) x refl w u v so_far is
