-- Calls after which all reads as before, one behind another.
use Rattle.std.proofs.Common.{◌≡◌, ℕ, List, Option, None, Some, false, Ok, sym, subst}
use Rattle.std.specs.Option.{is_some}
use Rattle.road_io.specs.declared.outside.Which.{Which}
use Rattle.road_io.specs.Outside.{Outside, other}
use Rattle.road_io.specs.Told.{Told}
use Rattle.road_io.proofs.ToldCalls.{told_then, told_weaker}
use Rattle.sequence_journal.specs.Layout.{BaseIsOpen, NoBase}
use Rattle.sequence_journal.specs.Loading.{Calm}
use Rattle.sequence_journal.proofs.SettledFile.{calm_quiet, calm_then}
use Rattle.store_switch.specs.LiveFile.{LiveAnswer, FindsLive, BothDurable, SettlesBoth, reads_of}

-- ---- both files synced

-- ---- synced, and the live file found

pub record Found (found : Option Which) (w u : Outside) : Type 0 where
  pub calm : Calm w u
  pub durable : BothDurable u
  pub answer : LiveAnswer (reads_of w) (Ok found)

live_same : (found : Option Which) (w u : Outside) → Calm w u → LiveAnswer (reads_of u) (Ok found)
    → LiveAnswer (reads_of w) (Ok found)
live_same None w u calm none = λ file. subst NoBase (calm.reads file) (none file)
live_same (Some f) w u calm l = record {
  base = l.base;
  rest = l.rest;
  is_open = subst (λ (x : List ℕ). BaseIsOpen x l.base l.rest) (calm.reads f) l.is_open;
  over = λ b rest o. l.over b rest (subst (λ (x : List ℕ). BaseIsOpen x b rest) (sym (calm.reads (other f))) o);
}

pub found_both : (found : Option Which) (x : Unit {0}) (w u v : Outside) → SettlesBoth (Ok x) w u
    → FindsLive (Ok found) u v → Found found w v
found_both found x w u v s f =
    let calm : Calm u v = calm_quiet u v f.quiet in
    record {
      calm = calm_then w u v s.calm calm;
      durable = λ file. calm.durable file (s.done file);
      answer = live_same found w u s.calm f.answer;
    }

pub found_none : (found : Option Which) (w u : Outside) → is_some found ≡ false → Found found w u → Found None w u
found_none None w u none f = f
found_none (Some live) w u none f = absurd (cc)

-- the same as far as it is told
module _ (found : Option Which) (x : Unit {0}) (a b c : Option Outside) (settles : Told (SettlesBoth (Ok x)) a b)
    (finds : Told (FindsLive (Ok found)) b c) where
  pub told_found : Told (Found found) a c
  told_found = told_then a b c (SettlesBoth (Ok x)) (FindsLive (Ok found)) (Found found) settles finds
      (found_both found x)

  pub told_none : is_some found ≡ false → Told (Found None) a c
  told_none none = told_weaker a c (Found found) (Found None) told_found (λ w u. found_none found w u none)
