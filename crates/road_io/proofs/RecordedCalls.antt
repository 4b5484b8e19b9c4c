-- One call more in the record of a site in memory: what it tells, and what its files hold.
use Rattle.std.proofs.Common.{◌≡◌, inl, inr, ◌⊎◌, ℕ, List, [], ◌∷◌, ◌++◌, length, take, drop, ◌≤◌, min}
use Rattle.std.proofs.Common.{true, false, Result, Ok, Err, OnOk, OnErr, IsErr, refl, sym, ◌∙◌, ap, subst, arith}
use Rattle.std.proofs.lemmas.List.{append-nil}
use Rattle.std.specs.Result.{is_err, is_ok}
use Rattle.road_io.specs.declared.outside.Failed.{Failed}
use Rattle.road_io.specs.declared.outside.Which.{Which}
use Rattle.road_io.specs.declared.outside.Which.TheVariants.{A, B}
use Rattle.road_io.specs.declared.entries.Call.{Call}
use Rattle.road_io.specs.declared.entries.Call.TheVariants.{Put, FileLen, ReadAt, WriteAt, Cut, Sync}
use Rattle.road_io.specs.declared.entries.Entry.{Entry}
use Rattle.road_io.specs.Disk.{written, cut_off, overwritten}
use Rattle.road_io.specs.Outside.{Outside, disk, changed, stays}
use Rattle.road_io.specs.Calls.{Gives, Idles, Puts, TellsLen, GivesBytes, Writes, Cuts, Syncs}
use Rattle.road_io.specs.Replay.{starting, replay, after, answered, refused, tried_write, tried_cut}
use Rattle.road_io.specs.Memory.{LogState, FilesState, IsKept, ReadsAlike, FailsNote, with_room, noted}
use Rattle.road_io.specs.Memory.{noted_failed, with_file, bytes_of}

-- what these files and this record lead to
abbrev pub told_by : FilesState → LogState → Outside
told_by f l = replay l.calls (starting f.a.opening f.b.opening)

replay_entered : (es : List Entry) (e : Entry) (o : Outside) → replay (es ++ e ∷ []) o ≡ after e (replay es o)
replay_entered [] e o = refl
replay_entered (x ∷ es) e o = replay_entered es e (after x o)

module _ (f : FilesState) (call : Call) (l m : LogState) where
  pub noted_answers : m ≡ with_room m.room (noted call l) → told_by f m ≡ answered call (told_by f l)
  noted_answers is =
      ap (λ (x : LogState). told_by f x) is
      ∙ replay_entered l.calls (record { call = call; failed = false }) (starting f.a.opening f.b.opening)

  pub noted_refuses : m ≡ with_room m.room (noted_failed call l) → told_by f m ≡ refused call (told_by f l)
  noted_refuses is =
      ap (λ (x : LogState). told_by f x) is
      ∙ replay_entered l.calls (record { call = call; failed = true }) (starting f.a.opening f.b.opening)

  -- it was to fail, or found no memory
  pub note_fails : FailsNote call l m → (told_by f m ≡ told_by f l) ⊎ (told_by f m ≡ refused call (told_by f l))
  note_fails (inl to_fail) = inr (noted_refuses to_fail.1)
  note_fails (inr no_memory) = inl (ap (λ (x : LogState). told_by f x) no_memory)

-- the room for a call is taken first
module _ (call : Call) (l m n : LogState) (room : m ≡ with_room m.room l) where
  pub room_then_noted : n ≡ with_room n.room (noted call m) → n ≡ with_room n.room (noted call l)
  room_then_noted is = is ∙ ap (λ (x : LogState). with_room n.room (noted call x)) room

  pub room_then_failed : n ≡ with_room n.room (noted_failed call m) → n ≡ with_room n.room (noted_failed call l)
  room_then_failed is = is ∙ ap (λ (x : LogState). with_room n.room (noted_failed call x)) room

-- ---- what the files and the output hold

alike : (o p : Outside) → p ≡ o → ReadsAlike o p
alike o p is = subst (λ (x : Outside). ReadsAlike o x) (sym is) (record { a = refl; b = refl; output = refl })

pub refused_alike : (call : Call) (o : Outside) → ReadsAlike o (refused call o)
refused_alike (Put chunk) o = record { a = refl; b = refl; output = refl }
refused_alike (FileLen file) o = record { a = refl; b = refl; output = refl }
refused_alike (ReadAt file at len) o = record { a = refl; b = refl; output = refl }
refused_alike (WriteAt A at chunk) o = record { a = refl; b = refl; output = refl }
refused_alike (WriteAt B at chunk) o = record { a = refl; b = refl; output = refl }
refused_alike (Cut A len) o = record { a = refl; b = refl; output = refl }
refused_alike (Cut B len) o = record { a = refl; b = refl; output = refl }
refused_alike (Sync file) o = record { a = refl; b = refl; output = refl }

pub is_refused_alike : (call : Call) (o p : Outside) → p ≡ refused call o → ReadsAlike o p
is_refused_alike call o p is = subst (λ (x : Outside). ReadsAlike o x) (sym is) (refused_alike call o)

pub stays_alike : (o p : Outside) → p ≡ stays o → ReadsAlike o p
stays_alike o p is =
    subst (λ (x : Outside). ReadsAlike o x) (sym is) (record { a = refl; b = refl; output = refl })

synced_alike : (file : Which) (o : Outside) → ReadsAlike o (answered (Sync file) o)
synced_alike A o = record { a = refl; b = refl; output = refl }
synced_alike B o = record { a = refl; b = refl; output = refl }

pub is_synced_alike : (file : Which) (o p : Outside) → p ≡ answered (Sync file) o → ReadsAlike o p
is_synced_alike file o p is = subst (λ (x : Outside). ReadsAlike o x) (sym is) (synced_alike file o)

pub fails_alike : (call : Call) (o p : Outside) → (p ≡ o) ⊎ (p ≡ refused call o) → ReadsAlike o p
fails_alike call o p (inl same) = alike o p same
fails_alike call o p (inr failed) = is_refused_alike call o p failed

pub kept_alike : (f : FilesState) (output : List ℕ) (o p : Outside) → IsKept f output o → ReadsAlike o p
    → IsKept f output p
kept_alike f output o p k r =
    record { file_a = k.file_a ∙ sym r.a; file_b = k.file_b ∙ sym r.b; put = k.put ∙ sym r.output }

pub bytes_kept : (file : Which) (f : FilesState) (output : List ℕ) (o : Outside) → IsKept f output o
    → bytes_of f file ≡ (disk o file).reads
bytes_kept A f output o k = k.file_a
bytes_kept B f output o k = k.file_b

-- ---- put

pub put_refused : (chunk : List ℕ) (e : Failed) (o p : Outside) → p ≡ refused (Put chunk) o → Puts chunk (Err e) o p
put_refused chunk e o p is = inr (
  0,
  is ∙ sym (ap (λ (out : List ℕ). record {
    a = o.a;
    b = o.b;
    output = out;
    past = record { a = o.a; b = o.b; from = o.output; to = out } ∷ o.past;
  }) (append-nil o.output)),
)

pub put_kept : (f : FilesState) (chunk before now : List ℕ) (o p : Outside) → IsKept f before o
    → now ≡ before ++ chunk → p ≡ answered (Put chunk) o → IsKept f now p
put_kept f chunk before now o p k is told = subst (λ (x : Outside). IsKept f now x) (sym told) (record {
  file_a = k.file_a;
  file_b = k.file_b;
  put = is ∙ ap (λ (out : List ℕ). out ++ chunk) k.put;
})

-- ---- write_at

module _ (file : Which) (at : ℕ) (chunk : List ℕ) (o p : Outside) (fits : at ≤ length (disk o file).reads) where
  pub write_told : p ≡ answered (WriteAt file at chunk) o → Writes file at chunk (Ok tt) o p
  write_told is =
      let whole : min at (length (disk o file).reads) ≡ at = omega (arith, fits) in
      is ∙ ap (λ (n : ℕ). changed file (written n chunk (disk o file)) (written n chunk (disk o file)) o) whole

  pub write_refused : (e : Failed) → p ≡ refused (WriteAt file at chunk) o → Writes file at chunk (Err e) o p
  write_refused e is = inr (
    tried_write at (length chunk) (disk o file),
    record {
      before = refl;
      after = refl;
      no_shorter = omega arith;
      no_longer = omega arith;
      synced = refl;
      torn = refl;
      least = refl;
      greatest = refl;
    },
    is,
  )

pub write_kept : (file : Which) (at : ℕ) (chunk : List ℕ) (f g : FilesState) (output : List ℕ) (o p : Outside)
    → IsKept f output o → g ≡ with_file file (overwritten at chunk (bytes_of f file)) f
    → Writes file at chunk (Ok tt) o p → IsKept g output p
write_kept A at chunk f g output o p k is told =
    subst (λ (x : Outside). IsKept g output x) (sym told)
    (subst (λ (h : FilesState). IsKept h output (changed A (written at chunk o.a) (written at chunk o.a) o)) (sym is)
    (record {
      file_a = ap (λ (l : List ℕ). overwritten at chunk l) k.file_a;
      file_b = k.file_b;
      put = k.put;
    }))
write_kept B at chunk f g output o p k is told =
    subst (λ (x : Outside). IsKept g output x) (sym told)
    (subst (λ (h : FilesState). IsKept h output (changed B (written at chunk o.b) (written at chunk o.b) o)) (sym is)
    (record {
      file_a = k.file_a;
      file_b = ap (λ (l : List ℕ). overwritten at chunk l) k.file_b;
      put = k.put;
    }))

-- ---- cut

module _ (file : Which) (len : ℕ) (o p : Outside) (fits : len ≤ length (disk o file).reads) where
  pub cut_refused : (e : Failed) → p ≡ refused (Cut file len) o → Cuts file len (Err e) o p
  cut_refused e is = inr (
    tried_cut len (disk o file),
    record {
      before = refl;
      no_shorter = fits;
      no_longer = omega arith;
      synced = refl;
      torn = refl;
      least = refl;
      greatest = refl;
    },
    is,
  )

pub cut_kept : (file : Which) (len : ℕ) (f g : FilesState) (output : List ℕ) (o p : Outside) → IsKept f output o
    → g ≡ with_file file (take len (bytes_of f file)) f → Cuts file len (Ok tt) o p → IsKept g output p
cut_kept A len f g output o p k is told =
    subst (λ (x : Outside). IsKept g output x) (sym told)
    (subst (λ (h : FilesState). IsKept h output (changed A (cut_off len o.a) (cut_off len o.a) o)) (sym is)
    (record { file_a = ap (λ (l : List ℕ). take len l) k.file_a; file_b = k.file_b; put = k.put }))
cut_kept B len f g output o p k is told =
    subst (λ (x : Outside). IsKept g output x) (sym told)
    (subst (λ (h : FilesState). IsKept h output (changed B (cut_off len o.b) (cut_off len o.b) o)) (sym is)
    (record { file_a = k.file_a; file_b = ap (λ (l : List ℕ). take len l) k.file_b; put = k.put }))

-- ---- the files at first

-- other bytes of a file don't change those that it had at first
with_file_opens : (file : Which) (bytes : List ℕ) (f : FilesState) (l : LogState)
    → told_by (with_file file bytes f) l ≡ told_by f l
with_file_opens A bytes f l = refl
with_file_opens B bytes f l = refl

pub file_changed_opens : (file : Which) (bytes : List ℕ) (f g : FilesState) (l : LogState) → g ≡ with_file file bytes f
    → told_by g l ≡ told_by f l
file_changed_opens file bytes f g l is = ap (λ (h : FilesState). told_by h l) is ∙ with_file_opens file bytes f l

-- ---- calls that need no memory but that of their entry

pub either_way : {T E : Type 0} (result : Result T E) (P Q R : Type 0) → OnOk result P → OnErr result Q → (P → R)
    → (Q → R) → R
either_way (Ok x) P Q R ok err f g = f ok
either_way (Err x) P Q R ok err f g = g err

pub not_err : {T E : Type 0} (result : Result T E) (P : Type 0) → OnOk result P → false ≡ is_err result → P
not_err (Ok x) P ok is = ok
not_err (Err x) P ok is = cc

pub is_not_err : {T E : Type 0} (result : Result T E) → false ≡ is_err result → is_ok result ≡ true
is_not_err (Ok x) is = refl
is_not_err (Err x) is = cc

pub idles : (call : Call) (o p : Outside) → refused call o ≡ stays o → (p ≡ o) ⊎ (p ≡ refused call o) → Idles o p
idles call o p is (inl same) = inl same
idles call o p is (inr failed) = inr (failed ∙ is)

pub sync_told : (file : Which) (result : Result (Unit {0}) Failed) (f : FilesState) (l m : LogState)
    → OnOk result (m ≡ with_room m.room (noted (Sync file) l)) → OnErr result (FailsNote (Sync file) l m)
    → Syncs file result (told_by f l) (told_by f m)
sync_told file (Ok x) f l m ok err = noted_answers f (Sync file) l m ok
sync_told file (Err x) f l m ok err =
    idles (Sync file) (told_by f l) (told_by f m) refl (note_fails f (Sync file) l m err)

-- the length that a file has
pub len_told : (file : Which) (n : ℕ) (bytes output : List ℕ) (f : FilesState) (l m : LogState)
    → IsKept f output (told_by f l) → bytes ≡ bytes_of f file → n ≡ length bytes
    → m ≡ with_room m.room (noted (FileLen file) l) → TellsLen file (Ok n) (told_by f l) (told_by f m)
len_told file n bytes output f l m k is size noted = (
  size ∙ ap (λ (x : List ℕ). length x) (is ∙ bytes_kept file f output (told_by f l) k),
  noted_answers f (FileLen file) l m noted,
)

-- the bytes that a file gives
pub bytes_told : (file : Which) (at n len : ℕ) (bytes given old new output : List ℕ) (f : FilesState) (l m : LogState)
    → IsKept f output (told_by f l) → bytes ≡ bytes_of f file → given ≡ drop at bytes → Gives n given old new
    → m ≡ with_room m.room (noted (ReadAt file at len) l)
    → GivesBytes file at old new (Ok n) (told_by f l) (told_by f m)
bytes_told file at n len bytes given old new output f l m k is from gives noted = (
  subst (λ (x : List ℕ). Gives n x old new)
      (from ∙ ap (λ (x : List ℕ). drop at x) (is ∙ bytes_kept file f output (told_by f l) k)) gives,
  noted_answers f (ReadAt file at len) l m noted,
)

pub len_failed : (file : Which) (result : Result ℕ Failed) (o p : Outside) → IsErr result
    → (p ≡ o) ⊎ (p ≡ refused (FileLen file) o) → TellsLen file result o p
len_failed file (Ok x) o p err fails = cc
len_failed file (Err x) o p err fails = idles (FileLen file) o p refl fails

pub bytes_failed : (file : Which) (at len : ℕ) (old new : List ℕ) (result : Result ℕ Failed) (o p : Outside)
    → IsErr result → (p ≡ o) ⊎ (p ≡ refused (ReadAt file at len) o) → GivesBytes file at old new result o p
bytes_failed file at len old new (Ok x) o p err fails = cc
bytes_failed file at len old new (Err x) o p err fails = idles (ReadAt file at len) o p refl fails
