-- Why inputs and stores are refused: one reason at most, and none where they are good.
use Rattle.std.proofs.Common.{◌≡◌, ℕ, ◌<◌, ◌≤◌, ◌^◌, List, Option, Some, length, inr, sym, ap, ◌∙◌, subst, arith}
use Rattle.road_base.specs.declared.event.Event.{Event}
use Rattle.opl_lexer.specs.declared.mode.Mode.{Mode}
use Rattle.opl_lexer.specs.Reading.{FaultAt, ReadAll, input_fault}
use Rattle.road_io.specs.declared.outside.Which.{Which}
use Rattle.sequence_journal.specs.Standing.{DamagedAt}
use Rattle.store_switch.specs.LiveFile.{IsLive, NoBases}
use Rattle.last_words.specs.declared.status.Status.{Status}
use Rattle.last_words.specs.Texts.{refused_line}
use Rattle.osmroad.specs.Texts.{damaged_line}
use Rattle.osmroad.specs.Opening.{Files, IsStore, IsTooLarge, IsDamaged, StoreRefusal, OfNoStore, OfTooLarge, OfDamage}
use Rattle.osmroad.specs.Outcomes.{AreInput, InputRefusal}
use Rattle.osmroad.specs.Run.{IsReadable}
use Rattle.osmroad.specs.StoreLaws.{OneLive, HasLive, NoDamage}
use Rattle.osmroad.proofs.CitedLaws.{OneDamage}

-- two of one kind
abbrev pub Same : Status → List ℕ → Status → List ℕ → Type 0
Same status out another other = (status ≡ another) × (out ≡ other)

pub both : {A : Type 0} (x y z : A) → x ≡ z → y ≡ z → x ≡ y
both x y z e f = e ∙ sym f

-- ---- an input

pub no_fault : (mode : Mode) (bytes : List ℕ) (events : List Event) (fault : FaultAt) → ReadAll mode bytes events
    → input_fault mode bytes ≡ Some fault → ⊥
no_fault mode bytes events fault r is = let good = r.good in cc

pub one_fault : (f g : FaultAt) (fault : Option FaultAt) → fault ≡ Some f → fault ≡ Some g
    → refused_line f ≡ refused_line g
one_fault f g fault e k = let same : f ≡ g = cc in ap refused_line same

pub not_refused : (mode : Mode) (bytes : List ℕ) (status : Status) (out : List ℕ) (events : List Event)
    → AreInput mode bytes events → InputRefusal mode bytes status out → ⊥
not_refused mode bytes status out events input (InputRefusal.OfTooMuch much e o) = input.within much
not_refused mode bytes status out events input (InputRefusal.OfFault within fault is e o) =
    no_fault mode bytes events fault input.read is

pub one_refusal : (mode : Mode) (bytes : List ℕ) (status another : Status) (out other : List ℕ)
    → InputRefusal mode bytes status out → InputRefusal mode bytes another other → Same status out another other
one_refusal mode bytes status another out other (InputRefusal.OfTooMuch l e o) (InputRefusal.OfTooMuch m f p) =
    (both _ _ _ e f, both _ _ _ o p)
one_refusal mode bytes status another out other (InputRefusal.OfTooMuch l e o) (InputRefusal.OfFault w x is f p) =
    absurd (w l)
one_refusal mode bytes status another out other (InputRefusal.OfFault w x is e o) (InputRefusal.OfTooMuch m f p) =
    absurd (w m)
one_refusal mode bytes status another out other (InputRefusal.OfFault w x is e o) (InputRefusal.OfFault v y js f p) =
    (both _ _ _ e f, o ∙ (one_fault x y (input_fault mode bytes) is js ∙ sym p))

-- ---- a store

module _ (files : Files) where
  pub none_is_live : (live : Which) → IsLive live files → NoBases files → ⊥
  none_is_live live is none = none live is.base is.rest is.is_open

  -- a file isn't both within the limit and past it
  not_large : OneLive → (live : Which) → IsLive live files → length (files live) ≤ 2 ^ 40 → IsTooLarge files → ⊥
  not_large one live is small t =
      let large = subst (λ (f : Which). 2 ^ 40 < length (files f)) (one files t.live live t.is_live is) t.large in
      omega arith

module _ (files : Files) (status : Status) (out : List ℕ) where
  -- files that can be read aren't refused
  pub readable_not_refused : OneLive → IsReadable files → StoreRefusal files status out → ⊥
  readable_not_refused one r (OfNoStore none e o) = none_is_live files r.live r.is_live none
  readable_not_refused one r (OfTooLarge large e o) = not_large files one r.live r.is_live r.small large
  readable_not_refused one r (OfDamage file offset d e o) = r.whole offset
      (subst (λ (f : Which). DamagedAt (files f) offset) (one files file r.live d.is_live r.is_live) d.damage)

  -- a store isn't refused
  pub store_not_refused : OneLive → HasLive → NoDamage → IsStore files → StoreRefusal files status out → ⊥
  store_not_refused one has sound s (OfNoStore none e o) =
      none_is_live files s.live (has files s.live s.generation s.history s.stands) none
  store_not_refused one has sound s (OfTooLarge large e o) =
      not_large files one s.live (has files s.live s.generation s.history s.stands) s.small large
  store_not_refused one has sound s (OfDamage file offset d e o) =
      sound files file offset (inr (s.history, (s.live, s.generation, s.stands))) d.is_live d.damage

module _ (files : Files) (status another : Status) (out other : List ℕ) where
  one_damage : OneLive → OneDamage → (file next : Which) (offset place : ℕ)
      → IsDamaged file offset files → IsDamaged next place files → damaged_line file offset ≡ damaged_line next place
  one_damage one alone file next offset place d b =
      let same = one files file next d.is_live b.is_live in
      let here = subst (λ (f : Which). DamagedAt (files f) offset) same d.damage in
      ap (λ (f : Which). damaged_line f offset) same
      ∙ ap (λ (n : ℕ). damaged_line next n) (alone (files next) offset place here b.damage)

  pub one_store_refusal : OneLive → OneDamage → StoreRefusal files status out → StoreRefusal files another other
      → Same status out another other
  one_store_refusal one alone (OfNoStore n e o) (OfNoStore m f p) = (both _ _ _ e f, both _ _ _ o p)
  one_store_refusal one alone (OfNoStore n e o) (OfTooLarge b f p) = absurd (none_is_live files b.live b.is_live n)
  one_store_refusal one alone (OfNoStore n e o) (OfDamage k x b f p) = absurd (none_is_live files k b.is_live n)
  one_store_refusal one alone (OfTooLarge a e o) (OfNoStore m f p) = absurd (none_is_live files a.live a.is_live m)
  one_store_refusal one alone (OfTooLarge a e o) (OfTooLarge b f p) = (both _ _ _ e f, both _ _ _ o p)
  one_store_refusal one alone (OfTooLarge a e o) (OfDamage k x b f p) =
      absurd (not_large files one k b.is_live b.small a)
  one_store_refusal one alone (OfDamage i w a e o) (OfNoStore m f p) = absurd (none_is_live files i a.is_live m)
  one_store_refusal one alone (OfDamage i w a e o) (OfTooLarge b f p) =
      absurd (not_large files one i a.is_live a.small b)
  one_store_refusal one alone (OfDamage i w a e o) (OfDamage k x b f p) =
      (both _ _ _ e f, o ∙ (one_damage one alone i k w x a b ∙ sym p))
