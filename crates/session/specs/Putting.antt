-- What a put leaves: a front of the chunk behind the output, and both files as they were.
use Rattle.std.specs.Prelude.{◌≡◌, List, ℕ, ◌++◌, Result, OnOk}
use Rattle.std.specs.Io.{StartsWith}
use Rattle.road_io.specs.Disk.{IsImage}
use Rattle.road_io.specs.Outside.{Outside, Left, LeavesOnly}

-- a stop leaves a front of the chunk, and of the files what it could leave before
pub record LeavesPut (chunk : List ℕ) (w : Outside) (left : Left) : Type 0 where
  pub a : IsImage w.a left.a
  pub b : IsImage w.b left.b
  pub begins : StartsWith left.out w.output
  pub within : StartsWith (w.output ++ chunk) left.out

-- A front of the chunk was put, all of it where nothing failed. Both files are as they were.
pub record PutsOn {E : Type 0} (chunk : List ℕ) (result : Result (Unit {0}) E) (w v : Outside) : Type 0 where
  pub same_a : v.a ≡ w.a
  pub same_b : v.b ≡ w.b
  pub put : List ℕ
  pub front : StartsWith chunk put
  pub whole : OnOk result (put ≡ chunk)
  pub grows : v.output ≡ w.output ++ put
  pub only : LeavesOnly w v (LeavesPut chunk w)
