-- The first step with which a drive isn't zoned: the first one with which it isn't legal, or with which it has gone
-- through a zone.
use Rattle.std.proofs.Common.{◌≡◌, ◌∙◌, ℕ, zero, suc, ◌+◌, ◌≤◌, ◌<◌, List, [], ◌∷◌, ◌++◌, length, take, drop}
use Rattle.std.proofs.Common.{refl, sym, ap, subst, arith, append_assoc, length-append}
use Rattle.std.proofs.lemmas.List.{take-append-drop, take-append-le, take_all}
use Rattle.road_base.specs.declared.ids.Step.{Step}
use Rattle.road_base.specs.Objects.{Objects}
use Rattle.ordered_lists.proofs.Splits.{cons_not_nil}
use Rattle.road_model.specs.Rules.{Rules}
use Rattle.road_model.specs.Network.{Legal}
use Rattle.road_model.specs.Broken.{BrokenRule, Broken}
use Rattle.drive_judging.specs.declared.verdict.Verdict.{Verdict}
use Rattle.drive_judging.specs.declared.verdict.Verdict.TheVariants.{Legal as LegalVerdict, Broken as BrokenVerdict}
use Rattle.drive_judging.specs.Verdicts.{IsVerdict}
use Rattle.destination_drives.specs.Zones.{Through}
use Rattle.session_replies.specs.ZoneVerdicts.{IsFirstUnzoned, IsZoneVerdict, judged, BreaksWithin}

-- what is taken of a list isn't empty
taken_some : {A : Type 0} (j : ℕ) (l : List A) → 1 ≤ j → 1 ≤ length l → take j l ≡ [] → ⊥
taken_some zero l a b e = absurd (omega (arith, a))
taken_some (suc j) [] a b e = absurd (omega (arith, b))
taken_some (suc j) (x ∷ l) a b e = cons_not_nil [] x (take j l) e

one_of : {A : Type 0} (l : List A) → (l ≡ [] → ⊥) → 1 ≤ length l
one_of [] some = absurd (some refl)
one_of (x ∷ l) some = omega arith

-- what is taken of what stands in front
front_taken : {A : Type 0} (j : ℕ) (before rest d : List A) → d ≡ before ++ rest → j ≤ length before
    → take j d ≡ take j before
front_taken j before rest d is le = ap (take j) is ∙ take-append-le j before rest le

module _ (M : Objects) (P : Rules) where
  nothing_through : Through M P [] → ⊥
  nothing_through t =
      cons_not_nil t.before t.from (t.inward ++ t.marked ∷ (t.outward ++ t.to ∷ t.behind)) (sym t.is)

  -- a drive goes through what its front goes through
  grown : (a b : List Step) → Through M P a → Through M P (a ++ b)
  grown a b t = record {
    before = t.before;
    from = t.from;
    inward = t.inward;
    marked = t.marked;
    outward = t.outward;
    to = t.to;
    behind = t.behind ++ b;
    is = ap (λ l. l ++ b) t.is
        ∙ append_assoc t.before (t.from ∷ (t.inward ++ t.marked ∷ (t.outward ++ t.to ∷ t.behind))) b
        ∙ ap (λ l. t.before ++ t.from ∷ l) (
        append_assoc t.inward (t.marked ∷ (t.outward ++ t.to ∷ t.behind)) b
        ∙ ap (λ l. t.inward ++ t.marked ∷ l) (append_assoc t.outward (t.to ∷ t.behind) b));
    from_outside = t.from_outside;
    inside = t.inside;
    to_outside = t.to_outside;
  }

  front_through : (j : ℕ) (d : List Step) → Through M P (take j d) → Through M P d
  front_through j d t = subst (Through M P) (take-append-drop j d) (grown (take j d) (drop j d) t)

  module _ (d : List Step) (some : d ≡ [] → ⊥)
      (parts : (before s behind : List Step) → (s ≡ [] → ⊥) → Legal M P (before ++ (s ++ behind)) → Legal M P s) where
    legal_front : Legal M P d → (j : ℕ) → (take j d ≡ [] → ⊥) → Legal M P (take j d)
    legal_front legal j more = parts [] (take j d) (drop j d) more
        (subst (Legal M P) (sym (take-append-drop j d)) legal)

    -- before the step with which a rule is broken a drive is legal
    unbroken : (k : ℕ) (rule : BrokenRule) → Broken M P d k rule → (j : ℕ) → j < k → (take j d ≡ [] → ⊥)
        → Legal M P (take j d)
    unbroken k rule b j lt more =
        let le : j ≤ length b.before = omega (arith, b.counted) in
        let same : take j d ≡ take j b.before = front_taken j b.before (b.step ∷ b.behind) d b.is le in
        subst (Legal M P) (sym same)
        (b.legal (take j b.before) (drop j b.before) (sym (take-append-drop j b.before)) (λ e. more (same ∙ e)))

    -- up to the step with which a rule is broken
    up_to_broken : (k : ℕ) (rule : BrokenRule) (b : Broken M P d k rule) → take k d ≡ b.before ++ b.step ∷ []
    up_to_broken k rule b =
        let is : d ≡ (b.before ++ b.step ∷ []) ++ b.behind =
        b.is ∙ sym (append_assoc b.before (b.step ∷ []) b.behind) in
        let l = length-append b.before (b.step ∷ []) in
        let long : k ≡ length (b.before ++ b.step ∷ []) = omega (arith, b.counted, l) in
        front_taken k (b.before ++ b.step ∷ []) b.behind d is (omega (arith, long))
        ∙ take_all k (b.before ++ b.step ∷ []) (omega (arith, long))

    broken_first : (k : ℕ) (rule : BrokenRule) → Broken M P d k rule
        → ((j : ℕ) → j < k → Through M P (take j d) → ⊥) → IsFirstUnzoned M P d k
    broken_first k rule b none =
        let l : length d ≡ length b.before + length (b.step ∷ b.behind) =
        ap length b.is ∙ length-append b.before (b.step ∷ b.behind) in
        record {
          some = omega (arith, b.counted);
          within = omega (arith, b.counted, l);
          unzoned = λ z. b.illegal (subst (Legal M P) (up_to_broken k rule b) z.legal);
          least = λ j one lt. record {
            legal = unbroken k rule b j lt (taken_some j d one (one_of d some));
            not_through = none j lt;
          };
        }

    -- a drive goes through a zone with its first k steps, and with no fewer
    through_first : (k : ℕ) → Through M P (take k d) → ((j : ℕ) → Through M P (take j d) → k ≤ j)
        → ((j : ℕ) → j ≤ k → (take j d ≡ [] → ⊥) → Legal M P (take j d))
        → IsFirstUnzoned M P d k × Legal M P (take k d)
    through_first zero t least legal = absurd (nothing_through t)
    through_first (suc k) t least legal = (
      record {
        some = omega arith;
        within = least (length d) (subst (Through M P) (sym (take_all (length d) d (omega arith)))
            (front_through (suc k) d t));
        unzoned = λ z. z.not_through t;
        least = λ j one lt. record {
          legal = legal j (omega (arith, lt)) (taken_some j d one (one_of d some));
          not_through = λ u. let le = least j u in omega (arith, le, lt);
        };
      },
      legal (suc k) (omega arith) (λ e. nothing_through (subst (Through M P) e t)),
    )

    -- ---- by the verdict where no zone is looked at

    pub judged_alone : (v : Verdict) → IsVerdict M P d v → (Through M P d → ⊥) → IsZoneVerdict M P d (judged v)
    judged_alone LegalVerdict legal none = record { legal = legal; not_through = none }
    judged_alone (BrokenVerdict k rule) b none =
        (broken_first k _ b (λ j lt t. none (front_through j d t)), b)

    pub judged_within : (v : Verdict) → IsVerdict M P d v → (n : ℕ) → BreaksWithin v n
        → ((j : ℕ) → Through M P (take j d) → n ≤ j) → IsZoneVerdict M P d (judged v)
    judged_within LegalVerdict legal n never least = absurd never
    judged_within (BrokenVerdict k rule) b n le least =
        (broken_first k _ b (λ j lt t. let more = least j t in omega (arith, le, lt, more)), b)

    below : (j k n : ℕ) → (k ≤ n → ⊥) → j ≤ n → j < k
    below j k n never le = omega (arith, never, le)

    pub judged_through : (v : Verdict) → IsVerdict M P d v → (n : ℕ) → (BreaksWithin v n → ⊥)
        → Through M P (take n d) → ((j : ℕ) → Through M P (take j d) → n ≤ j)
        → IsFirstUnzoned M P d n × Legal M P (take n d)
    judged_through LegalVerdict legal n never t least =
        through_first n t least (λ j le more. legal_front legal j more)
    judged_through (BrokenVerdict k rule) b n never t least =
        through_first n t least (λ j le more. unbroken k _ b j (below j k n never le) more)
