-- One file and its disk: what a read gives, and what a stop may leave.
use Rattle.std.specs.Prelude.{◌≡◌, ◌⊎◌, ℕ, ◌+◌, ◌<◌, ◌≤◌, min, max, List, [], ◌∷◌, ◌++◌, length, get_or, take, drop}

-- What a read gives; what stood there at the last sync that answered Ok; the places and lengths of the writes since,
-- also of those that failed; the least and the greatest length since.
pub record Disk : Type 0 where
  pub reads : List ℕ
  pub synced : List ℕ
  pub torn : List (ℕ × ℕ)
  pub least : ℕ
  pub greatest : ℕ

-- one of these ranges has the place k
abbrev pub IsTorn : List (ℕ × ℕ) → ℕ → Type 0
IsTorn [] k = ⊥
IsTorn (range ∷ ranges) k = ((range.0 ≤ k) × (k < range.0 + range.1)) ⊎ IsTorn ranges k

-- A stop may leave these bytes. Any byte may stand in a range that was written since the last sync, and past the end at
-- that sync; elsewhere stands what stood there then.
pub record IsImage (d : Disk) (image : List ℕ) : Type 0 where
  pub no_shorter : d.least ≤ length image
  pub no_longer : length image ≤ d.greatest
  pub same : (k : ℕ) → k < length image → k < length d.synced → (IsTorn d.torn k → ⊥)
      → get_or image k 0 ≡ get_or d.synced k 0

-- all of it is on the disk
abbrev pub settled : List ℕ → Disk
settled bytes = record {
  reads = bytes;
  synced = bytes;
  torn = [];
  least = length bytes;
  greatest = length bytes;
}

-- bytes with a chunk in its place
abbrev pub overwritten : ℕ → List ℕ → List ℕ → List ℕ
overwritten at chunk bytes = take at bytes ++ chunk ++ drop (at + length chunk) bytes

-- after a write
abbrev pub written : ℕ → List ℕ → Disk → Disk
written at chunk d = record {
  reads = overwritten at chunk d.reads;
  synced = d.synced;
  torn = (at, length chunk) ∷ d.torn;
  least = d.least;
  greatest = max d.greatest (at + length chunk);
}

-- after a write of n bytes that failed: no byte outside its range changed
pub record IsPartWritten (at n : ℕ) (old new : Disk) : Type 0 where
  pub before : take at new.reads ≡ take at old.reads
  pub after : drop (at + n) new.reads ≡ drop (at + n) old.reads
  pub no_shorter : length old.reads ≤ length new.reads
  pub no_longer : length new.reads ≤ max (length old.reads) (at + n)
  pub synced : new.synced ≡ old.synced
  pub torn : new.torn ≡ (at, n) ∷ old.torn
  pub least : new.least ≡ old.least
  pub greatest : new.greatest ≡ max old.greatest (at + n)

-- after a cut
abbrev pub cut_off : ℕ → Disk → Disk
cut_off len d = record d { reads = take len d.reads; least = min d.least len }

-- after a cut that failed: no byte below its length changed
pub record IsPartCut (len : ℕ) (old new : Disk) : Type 0 where
  pub before : take len new.reads ≡ take len old.reads
  pub no_shorter : len ≤ length new.reads
  pub no_longer : length new.reads ≤ length old.reads
  pub synced : new.synced ≡ old.synced
  pub torn : new.torn ≡ old.torn
  pub least : new.least ≡ min old.least len
  pub greatest : new.greatest ≡ old.greatest

-- Nothing is pending: the only image is the file as it reads. The law `nothing_pending` says so both ways.
pub record IsDurable (d : Disk) : Type 0 where
  pub synced : d.synced ≡ d.reads
  pub least : d.least ≡ length d.reads
  pub greatest : d.greatest ≡ length d.reads
  pub whole : (k : ℕ) → k < length d.reads → IsTorn d.torn k → ⊥

-- the file as it reads is one of its images, and the length at the last sync is one of the lengths since
pub record IsSoundDisk (d : Disk) : Type 0 where
  pub image : IsImage d d.reads
  pub low : d.least ≤ length d.synced
  pub high : length d.synced ≤ d.greatest
