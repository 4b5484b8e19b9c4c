-- What the calls that read parts of a file tell.
use Rattle.std.proofs.Common.{◌≡◌, ◌≢◌, ℕ, ◌+◌, ◌-◌, ◌<◌, ◌≤◌, ◌^◌, List, [], ◌∷◌, ◌++◌, length, take, drop, Option}
use Rattle.std.proofs.Common.{Some, None}
use Rattle.std.proofs.Common.{Bool, true, false, Result, Ok, Err, IsErr, refl, sym, ◌∙◌, ap, subst, arith}
use Rattle.road_io.specs.declared.outside.Failed.{Failed}
use Rattle.road_io.specs.declared.outside.Which.{Which}
use Rattle.road_io.specs.Disk.{Disk}
use Rattle.road_io.specs.Outside.{Outside, Quiet, disk}
use Rattle.road_io.specs.Calls.{TellsLen}
use Rattle.road_io.proofs.QuietRuns.{quiet_start, quiet_stay, quiet_idle, quiet_then, quiet_disk}
use Rattle.sequence_journal.specs.declared.window.Window.{Window}
use Rattle.sequence_journal.specs.Windows.{Shows, seen}
use Rattle.std.proofs.lemmas.List.{drop-take, length-take-le, drop-drop, length-drop, take_all}
use Rattle.sequence_journal.specs.declared.error.JournalError.{JournalError}
use Rattle.sequence_journal.specs.declared.heads.FoundBase.{FoundBase}
use Rattle.sequence_journal.specs.Layout.{IsClosed, RecordIsOpen}
use Rattle.sequence_journal.specs.Fields.{fields_bytes}
use Rattle.sequence_journal.specs.Reading.{Fills, FindsBase, IsBaseSearch, Heads}
use Rattle.sequence_journal.specs.Reading.{ReadsRecord, TestsEnd}
use Rattle.sequence_journal.proofs.FoundParts.{base_there, record_open}

-- ---- the base

pub base_no_len : (file : Which) (result : Result (Option FoundBase) Failed) (x : Failed) (w u : Outside)
    → IsErr result
    → TellsLen file (Err x) w u → FindsBase file result w u
base_no_len file (Ok y) x w u err idle = cc
base_no_len file (Err y) x w u err idle = record { quiet = quiet_idle w w u (quiet_start w) idle; answer = tt }

pub base_no_front : (file : Which) (result : Result (Option FoundBase) Failed) (len : ℕ) (buf : List ℕ) (x : Failed)
    (w u v : Outside) → IsErr result → TellsLen file (Ok len) w u → Fills file 0 buf (Err x) u v
    → FindsBase file result w v
base_no_front file (Ok y) len buf x w u v err tells fills = cc
base_no_front file (Err y) len buf x w u v err tells fills =
    record { quiet = quiet_then w u v (quiet_stay w w u (quiet_start w) tells.1) fills.quiet; answer = tt }

pub base_told : (file : Which) (len n : ℕ) (buf : List ℕ) (found : Option FoundBase) (w u v : Outside)
    → length buf ≡ 37
    → ((reads : List ℕ) → len ≡ length reads → take n buf ≡ take 37 reads → IsBaseSearch reads (Ok found))
    → TellsLen file (Ok len) w u → Fills file 0 buf (Ok n) u v → FindsBase file (Ok found) w v
base_told file len n buf found w u v size is tells fills =
    let first : Quiet w u = quiet_stay w w u (quiet_start w) tells.1 in
    record {
      quiet = quiet_then w u v first fills.quiet;
      answer = is (disk w file).reads tells.0
          (fills.answer ∙ ap (λ (x : ℕ). take x (disk u file).reads) size
          ∙ ap (λ (d : Disk). take 37 d.reads) (quiet_disk file w u first));
    }

pub head_told : (file : Which) (f : FoundBase) (w v : Outside) → FindsBase file (Ok (Some f)) w v
    → Heads file (Ok (Some (record {
      generation = f.head.generation;
      base = record { 0 = f.head.number };
      profile = f.head.profile;
    }))) w v
head_told file f w v finds =
    let reads : List ℕ = (disk w file).reads in
    record {
      quiet = finds.quiet;
      answer = record {
        base = record {
          profile = f.head.profile;
          generation = f.head.generation;
          number = f.head.number;
          bytes = take f.head.size (drop 37 reads);
        };
        rest = drop (37 + f.head.size) reads;
        is_open = base_there reads f finds.answer;
        generation = refl;
        number = refl;
        profile = refl;
      };
    }

-- ---- a record

pub record_unshown : (file : Which) (len gate : ℕ) (window after : Window) (e : JournalError) (w v : Outside)
    → Shows file window gate 17 (Err e) w v → ReadsRecord file len gate after (Err e) w v
record_unshown file len gate window after e w v shows = record { quiet = shows.quiet; answer = λ is. shows.answer }

pub record_closed : (file : Which) (len gate : ℕ) (window after : Window) (front : List ℕ) (x : Unit {0})
    (w v : Outside)
    → front ≡ seen window gate 17
    → ((bytes : List ℕ) → front ≡ take 17 bytes → length bytes ≡ len - gate → IsClosed bytes)
    → Shows file window gate 17 (Ok x) w v → ReadsRecord file len gate after (Ok None) w v
record_closed file len gate window after front x w v same is shows = record {
  quiet = shows.quiet;
  answer = λ long. is (drop gate (disk w file).reads) (same ∙ shows.answer)
      (omega (arith, long, length-drop gate (disk w file).reads));
}

module _ (file : Which) (len gate : ℕ) (before window : Window) (front rest : List ℕ) (number size : ℕ) (x : Unit {0})
    (w u v : Outside) (front_is : front ≡ seen before gate 17) (within : gate ≤ len)
    (long : 17 + size ≤ len - gate) (number_fits : number < 2 ^ 64) (size_fits : size < 2 ^ 64)
    (found : front ≡ fields_bytes number size ++ rest) (first : Shows file before gate 17 (Ok x) w u) where
  same_file : (disk u file).reads ≡ (disk w file).reads
  same_file = ap (λ (d : Disk). d.reads) (quiet_disk file w u first.quiet)

  pub record_unread : (e : JournalError) → Shows file window gate (17 + size) (Err e) u v
      → ReadsRecord file len gate window (Err e) w v
  record_unread e shows = record { quiet = quiet_then w u v first.quiet shows.quiet; answer = λ is. shows.answer }

  module _ (y : Unit {0}) (begins : window.from ≤ gate) (shows : Shows file window gate (17 + size) (Ok y) u v) where
    shown : seen window gate (17 + size) ≡ take (17 + size) (drop gate (disk w file).reads)
    shown = shows.answer ∙ ap (λ (l : List ℕ). take (17 + size) (drop gate l)) same_file

    there : len ≡ length (disk w file).reads → length (take (17 + size) (drop gate (disk w file).reads)) ≡ 17 + size
    there is = length-take-le (17 + size) (drop gate (disk w file).reads)
        (omega (arith, is, long, within, length-drop gate (disk w file).reads))

    pub record_cut_short : (whole : List ℕ) → whole ≡ seen window gate (17 + size) → length whole < 17 + size
        → ReadsRecord file len gate window (Ok None) w v
    record_cut_short whole same few = record {
      quiet = quiet_then w u v first.quiet shows.quiet;
      answer = λ is. absurd (omega (arith, few, there is, ap (λ (l : List ℕ). length l) (same ∙ shown)));
    }

    part : seen window (gate + 17) size ≡ take size (drop 17 (drop gate (disk w file).reads))
    part = ap (λ (k : ℕ). take size (drop k window.bytes.items)) (omega (arith, begins))
        ∙ ap (λ (l : List ℕ). take size l) (sym (drop-drop 17 (gate - window.from) window.bytes.items))
        ∙ sym (drop-take 17 size (drop (gate - window.from) window.bytes.items))
        ∙ ap (λ (l : List ℕ). drop 17 l) shown ∙ drop-take 17 size (drop gate (disk w file).reads)

    pub record_read : ReadsRecord file len gate window (Ok (Some (record { number = number; size = size }))) w v
    record_read =
        let reads : List ℕ = (disk w file).reads in
        let bytes : List ℕ = seen window (gate + 17) size in
        record {
          quiet = quiet_then w u v first.quiet shows.quiet;
          answer = λ is. (
              let so_many : length bytes ≡ size = ap (λ (l : List ℕ). length l) part
              ∙ length-take-le size (drop 17 (drop gate reads))
              (omega (arith, is, long, within, length-drop gate reads, length-drop 17 (drop gate reads))) in (
                subst (λ (l : List ℕ). RecordIsOpen (drop gate reads) (record { number = number; bytes = bytes }) l)
                    (drop-drop (17 + length bytes) gate reads
                    ∙ ap (λ (k : ℕ). drop (gate + (17 + k)) reads) so_many)
                    (record_open (drop gate reads) front rest number size (front_is
                    ∙ first.answer) number_fits size_fits
                    found bytes part so_many),
                so_many,
              ));
        }

-- ---- the end

pub end_elsewhere : (file : Which) (len gate : ℕ) (w : Outside) → len - gate ≢ 1
    → TestsEnd file len gate (Ok false) w w
end_elsewhere file len gate w long = record {
  quiet = quiet_start w;
  answer = λ is one. long (omega (
    arith,
    is,
    ap (λ (l : List ℕ). length l) one,
    length-drop gate (disk w file).reads,
  ));
}

module _ (file : Which) (len gate n : ℕ) (buf bytes : List ℕ) (w v : Outside) (room : length buf ≡ 1)
    (front : bytes ≡ take n buf) (last : len - gate ≡ 1) (fills : Fills file gate buf (Ok n) w v) where
  behind : len ≡ length (disk w file).reads → bytes ≡ drop gate (disk w file).reads
  behind is = front ∙ fills.answer ∙ take_all (length buf) (drop gate (disk w file).reads)
      (omega (arith, is, room, last, length-drop gate (disk w file).reads))

  pub end_tested : (closed : Bool) → (closed ≡ true → bytes ≡ 0 ∷ []) → (closed ≡ false → bytes ≡ 0 ∷ [] → ⊥)
      → TestsEnd file len gate (Ok closed) w v
  end_tested true holds fails = record { quiet = fills.quiet; answer = λ is. sym (behind is) ∙ holds refl }
  end_tested false holds fails = record { quiet = fills.quiet; answer = λ is one. fails refl (behind is ∙ one) }
