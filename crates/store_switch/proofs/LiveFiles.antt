-- A file has one open base at most, and one of two files at most is live.
use Rattle.std.proofs.Common.{◌≡◌, inl, inr, ℕ, ◌<◌, ◌≤◌, List, ◌++◌, Option, None, Some}
use Rattle.std.proofs.Common.{Ok, refl, sym, ap, subst, arith}
use Rattle.road_base.specs.History.{History}
use Rattle.road_io.specs.declared.outside.Which.{Which}
use Rattle.road_io.specs.declared.outside.Which.TheVariants.{A, B}
use Rattle.road_io.specs.Disk.{Disk}
use Rattle.road_io.specs.Outside.{Outside, other}
use Rattle.road_io.proofs.QuietRuns.{quiet_then, quiet_disk}
use Rattle.sequence_journal.specs.declared.heads.BaseHead.{BaseHead}
use Rattle.sequence_journal.specs.Layout.{Base, BaseIsOpen, NoBase}
use Rattle.sequence_journal.specs.Standing.{Stands, base_of, changes_bytes}
use Rattle.sequence_journal.specs.Reading.{IsHead, Heads}
use Rattle.sequence_journal.proofs.SameParts.{base_once}
use Rattle.sequence_journal.proofs.OneHistory.{begins_base}
use Rattle.store_switch.specs.TwoFiles.{StandOn}
use Rattle.store_switch.specs.LiveFile.{Beats, IsOver, IsLive, IsChosen, LiveAnswer, FindsLive, reads_of}

one_generation : (file : List ℕ) (b c : Base) (xs ys : List ℕ) → BaseIsOpen file b xs → BaseIsOpen file c ys
    → b.generation ≡ c.generation
one_generation file b c xs ys p q = ap (λ (x : Base). x.generation) (base_once file b c xs ys p q).one

pub live_once : (files : Which → List ℕ) (f k : Which) → IsLive f files → IsLive k files → f ≡ k
live_once files A A l m = refl
live_once files B B l m = refl
live_once files A B l m =
    absurd (omega (arith, l.over m.base m.rest m.is_open, m.over l.base l.rest l.is_open))
live_once files B A l m =
    absurd (omega (arith, l.over m.base m.rest m.is_open, m.over l.base l.rest l.is_open))

-- ---- files that stand for a history

-- the live file's history is over the other file
pub stands_over : (files : Which → List ℕ) (live : Which) → (l : IsLive live files) → (g : ℕ) (h : History)
    → Stands (files live) g h → (x : List ℕ) → x ≡ files (other live) → IsOver live g x
stands_over files live l g h s x same b rest o =
    let once : l.base.generation ≡ g = one_generation (files live) l.base (base_of h.profile g h.base_number
    h.base_events) l.rest
    (changes_bytes h.base_number h.changes ++ s.rest) l.is_open (begins_base (files live) g h s.rest s.begins) in
    subst (λ (k : ℕ). Beats live k b.generation) once
    (l.over b rest (subst (λ (y : List ℕ). BaseIsOpen y b rest) same o))

-- a file on which a history stands is live
pub stands_live : (files : Which → List ℕ) (live : Which) (g : ℕ) (h : History) → StandOn live g files h
    → IsLive live files
stands_live files live g h s = record {
  base = base_of h.profile g h.base_number h.base_events;
  rest = changes_bytes h.base_number h.changes ++ s.stands.rest;
  is_open = begins_base (files live) g h s.stands.rest s.stands.begins;
  over = s.over;
}

-- ---- finding it

module _ (files : Which → List ℕ) where
  choice : (a b : Option BaseHead) (live : Option Which) → IsHead (files A) (Ok a) → IsHead (files B) (Ok b)
      → IsChosen a b live → LiveAnswer files (Ok live)
  choice None None live no_a no_b is = subst (λ (x : Option Which). LiveAnswer files (Ok x)) (sym is) none
    where
      none : (file : Which) → NoBase (files file)
      none A = no_a
      none B = no_b
  choice (Some a) None live h no_b is = subst (λ (x : Option Which). LiveAnswer files (Ok x)) (sym is)
      (record { base = h.base; rest = h.rest; is_open = h.is_open; over = λ c rest o. absurd (no_b c rest o) })
  choice None (Some b) live no_a h is = subst (λ (x : Option Which). LiveAnswer files (Ok x)) (sym is)
      (record { base = h.base; rest = h.rest; is_open = h.is_open; over = λ c rest o. absurd (no_a c rest o) })
  choice (Some a) (Some b) live h k (inl first) = subst (λ (x : Option Which). LiveAnswer files (Ok x)) (sym first.0)
      (record { base = h.base; rest = h.rest; is_open = h.is_open; over = over })
    where
      over : (c : Base) (rest : List ℕ) → BaseIsOpen (files B) c rest → c.generation ≤ h.base.generation
      over c rest o = omega (
        arith,
        one_generation (files B) c k.base rest k.rest o k.is_open,
        h.generation,
        k.generation,
        first.1,
      )
  choice (Some a) (Some b) live h k (inr second) = subst (λ (x : Option Which). LiveAnswer files (Ok x)) (sym second.0)
      (record { base = k.base; rest = k.rest; is_open = k.is_open; over = over })
    where
      over : (c : Base) (rest : List ℕ) → BaseIsOpen (files A) c rest → c.generation < k.base.generation
      over c rest o = omega (
        arith,
        one_generation (files A) c h.base rest h.rest o h.is_open,
        h.generation,
        k.generation,
        second.1,
      )

pub found_live : (a b : Option BaseHead) (live : Option Which) (w u v : Outside) → IsChosen a b live
    → Heads A (Ok a) w u → Heads B (Ok b) u v → FindsLive (Ok live) w v
found_live a b live w u v is h k = record {
  quiet = quiet_then w u v h.quiet k.quiet;
  answer = choice (reads_of w) a b live h.answer
      (subst (λ (d : Disk). IsHead d.reads (Ok b)) (quiet_disk B w u h.quiet) k.answer) is;
}
