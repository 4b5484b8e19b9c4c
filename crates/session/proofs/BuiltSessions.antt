-- What was built while a session goes on, as far as the site tells.
use Rattle.std.proofs.Common.{◌≡◌, ◌⊎◌, ℕ, ◌+◌, List, [], ◌++◌, length, Option, None, Some, IfSome}
use Rattle.std.proofs.Common.{Result, Ok, Err, refl, sym, ◌∙◌, ap, subst, append_assoc, arith, inl, inr, ⊎_elim, take}
use Rattle.std.proofs.Common.{drop}
use Rattle.std.proofs.lemmas.List.{append-nil, take-append-drop}
use Rattle.std.proofs.Math.Seq.{take-add}
use Rattle.road_io.specs.Told.{Told}
use Rattle.road_io.specs.Outside.{Outside}
use Rattle.road_io.proofs.ToldCalls.{told_same, told_weaker, told_then}
use Rattle.session_input.specs.declared.input.Input.{Input}
use Rattle.session_input.specs.declared.received.Received.{Received}
use Rattle.session_input.specs.declared.received.InputEnd.TheVariants.{Last}
use Rattle.session_input.specs.Messages.{Message}
use Rattle.session_input.specs.Holding.{Holds}
use Rattle.session_input.specs.Reading.{Means, Receives, IsEnding}
use Rattle.session_answers.specs.Replies.{Costs}
use Rattle.session.specs.declared.stop.Stop.{Stop}
use Rattle.session.specs.declared.talk.Talk.{Talk}
use Rattle.session.specs.Conversation.{Kept}
use Rattle.session.specs.Building.{Start, BuildsFew, BuildsLast, BuildsOf}
use Rattle.session.specs.BuildingOn.{AnswerBuilds}
use Rattle.session.specs.Talking.{IsBuilding, held, costs_of, fixed_of}
use Rattle.road_io.specs.Parts.{Took}
use Rattle.session.proofs.HeldSource.{behind_of}
use Rattle.session.proofs.BuiltMessages.{message_builds, builds_more, builds_few, builds_all, builds_on, builds_until}
use Rattle.session.proofs.BuiltMessages.{builds_last}

if_each : (x : Option Outside) (P : Outside → Type 0) → ((w : Outside) → P w) → IfSome x P
if_each None P f = tt
if_each (Some w) P f = f w

told_before : (x y : Option Outside) (R : Outside → Outside → Type 0) (P : Outside → Type 0) → Told R x y
    → ((w v : Outside) → R w v → P w) → IfSome x P
told_before None y R P told f = tt
told_before (Some w) None R P told f = absurd told
told_before (Some w) (Some v) R P told f = f w v told

told_back : (x y : Option Outside) (R : Outside → Outside → Type 0) (P Q : Outside → Type 0) → Told R x y → IfSome y P
    → ((w v : Outside) → R w v → P v → Q w) → IfSome x Q
told_back None y R P Q told holds f = tt
told_back (Some w) None R P Q told holds f = absurd told
told_back (Some w) (Some v) R P Q told holds f = f w v told holds

-- ---- one call

module _ {A : _} {D : _} (old : Talk A D) (input : Input) (was : ℕ) (x : Option Outside) where
  -- no message ended
  pub goes_building : (taken : List ℕ) (next : Input)
      → ((before : ℕ) (bytes : List ℕ) → Holds before bytes input → Holds before (bytes ++ taken) next)
      → Told (λ w v. (start : Talk A D) (opening : Kept D.Beside) (read : List ℕ) (first : ℕ)
      → IsBuilding start old opening read input first was w
      → IsBuilding start old opening (read ++ taken) next first was v) x x
  goes_building taken next holds =
      told_same x (λ w v. (start : Talk A D) (opening : Kept D.Beside) (read : List ℕ) (first : ℕ)
      → IsBuilding start old opening read input first was w
      → IsBuilding start old opening (read ++ taken) next first was v)
      (λ w start opening read first b. record {
        same = b.same;
        builds = builds_more (costs_of start) opening read input (held old) first was w b.builds taken next holds;
      })

  -- the session doesn't go on
  pub stops_building : (more : List ℕ)
      → IfSome x (λ w. (start : Talk A D) (opening : Kept D.Beside) (read : List ℕ) (first : ℕ)
      → IsBuilding start old opening read input first was w
      → BuildsFew (costs_of start) opening (read ++ more) first was)
  stops_building more =
      if_each x (λ w. (start : Talk A D) (opening : Kept D.Beside) (read : List ℕ) (first : ℕ)
      → IsBuilding start old opening read input first was w
      → BuildsFew (costs_of start) opening (read ++ more) first was)
      (λ w start opening read first b.
      builds_few (costs_of start) opening read input (held old) first was w b.builds more)

  pub ends_building : IfSome x (λ w. (start : Talk A D) (opening : Kept D.Beside) (read : List ℕ) (first : ℕ)
      → IsBuilding start old opening read input first was w
      → BuildsFew (costs_of start) opening read first was ⊎ BuildsLast (costs_of start) opening read first was)
  ends_building =
      if_each x (λ w. (start : Talk A D) (opening : Kept D.Beside) (read : List ℕ) (first : ℕ)
      → IsBuilding start old opening read input first was w
      → BuildsFew (costs_of start) opening read first was ⊎ BuildsLast (costs_of start) opening read first was)
      (λ w start opening read first b.
      inl (builds_all (costs_of start) opening read input (held old) first was w b.builds))

  module _ (received : Received) (new : Talk A D) (now : ℕ) (y : Option Outside) where
    -- what the answer builds, as it is said of the talk with which the session began
    module _ (start : Talk A D) (same : fixed_of old ≡ fixed_of start) (result : Result (Unit {0}) Stop)
        (v : Outside) (from : Kept D.Beside) (message : Message) where
      at_start : AnswerBuilds (costs_of old) from message (held new) result was now v
          → AnswerBuilds (costs_of start) from message (held new) result was now v
      at_start builds =
          subst (λ f. AnswerBuilds (D.costs f) from message (held new) result was now v) same builds

    module _ (taken : List ℕ) (next : Input)
        (receives : (before : ℕ) (bytes : List ℕ) → Holds before bytes input
        → Receives before received (bytes ++ taken) × Holds (before + length (bytes ++ taken)) [] next) where
      pub answers_building : (u : Unit {0}) → fixed_of new ≡ fixed_of old
          → Told (λ w v. (from : Kept D.Beside) (message : Message) → Means message received → held old from w
          → AnswerBuilds (costs_of old) from message (held new) (Ok u) was now v) x y
          → Told (λ w v. (start : Talk A D) (opening : Kept D.Beside) (read : List ℕ) (first : ℕ)
          → IsBuilding start old opening read input first was w
          → IsBuilding start new opening (read ++ taken) next first now v) x y
      answers_building u fixed told =
          told_weaker x y (λ w v. (from : Kept D.Beside) (message : Message) → Means message received
          → held old from w → AnswerBuilds (costs_of old) from message (held new) (Ok u) was now v)
          (λ w v. (start : Talk A D) (opening : Kept D.Beside) (read : List ℕ) (first : ℕ)
          → IsBuilding start old opening read input first was w
          → IsBuilding start new opening (read ++ taken) next first now v) told
          (λ w v a start opening read first i.
          let b = i.builds in
          let r = (receives (length b.front) b.pending b.holds).0 in
          record {
            same = fixed ∙ i.same;
            builds = builds_on (costs_of start) opening read input (held old) first was w b taken next received receives
                (held new) now v
                (at_start start i.same (Ok u) v b.from r.message (a b.from r.message r.means b.kept));
          })

      pub halts_building : (stop : Stop) (more : List ℕ)
          → Told (λ w v. (from : Kept D.Beside) (message : Message) → Means message received → held old from w
          → AnswerBuilds (costs_of old) from message (held new) (Err stop) was now v) x y
          → IfSome x (λ w. (start : Talk A D) (opening : Kept D.Beside) (read : List ℕ) (first : ℕ)
          → IsBuilding start old opening read input first was w
          → BuildsFew (costs_of start) opening (read ++ (taken ++ more)) first now)
      halts_building stop more told =
          told_before x y (λ w v. (from : Kept D.Beside) (message : Message) → Means message received
          → held old from w → AnswerBuilds (costs_of old) from message (held new) (Err stop) was now v)
          (λ w. (start : Talk A D) (opening : Kept D.Beside) (read : List ℕ) (first : ℕ)
          → IsBuilding start old opening read input first was w
          → BuildsFew (costs_of start) opening (read ++ (taken ++ more)) first now) told
          (λ w v a start opening read first i.
          let b = i.builds in
          let r = (receives (length b.front) b.pending b.holds).0 in
          builds_until (costs_of start) opening read input (held old) first was w b taken next received receives
          (held new) now more
          (at_start start i.same (Err stop) v b.from r.message (a b.from r.message r.means b.kept)))

    -- the last message is answered, or isn't
    pub last_building : (result : Result (Unit {0}) Stop)
        → ((before : ℕ) (bytes : List ℕ) → Holds before bytes input → IsEnding bytes (Last received))
        → Told (λ w v. (from : Kept D.Beside) (message : Message) → Means message received → held old from w
        → AnswerBuilds (costs_of old) from message (held new) result was now v) x y
        → IfSome x (λ w. (start : Talk A D) (opening : Kept D.Beside) (read : List ℕ) (first : ℕ)
        → IsBuilding start old opening read input first was w
        → BuildsFew (costs_of start) opening read first now ⊎ BuildsLast (costs_of start) opening read first now)
    last_building result ended told =
        told_before x y (λ w v. (from : Kept D.Beside) (message : Message) → Means message received
        → held old from w → AnswerBuilds (costs_of old) from message (held new) result was now v)
        (λ w. (start : Talk A D) (opening : Kept D.Beside) (read : List ℕ) (first : ℕ)
        → IsBuilding start old opening read input first was w
        → BuildsFew (costs_of start) opening read first now ⊎ BuildsLast (costs_of start) opening read first now) told
        (λ w v a start opening read first i.
        let b = i.builds in
        let e = ended (length b.front) b.pending b.holds in
        builds_last (costs_of start) opening read input (held old) first was w b received e now
        (message_builds (costs_of start) b.from e.1.0 (held new) result was now v
        (at_start start i.same result v b.from e.1.0 (a b.from e.1.0 e.1.2 b.kept))))

-- the source ended, and no read failed
pub builds_at_end : (C : Costs) {B : Type 0} (opening : Kept B) (read behind : List ℕ) (left : Option (List ℕ))
    (calm : Type 0) (old new : ℕ)
    → behind_of left ≡ [] → left ≡ Some behind → calm
    → BuildsFew C opening read old new ⊎ BuildsLast C opening read old new → BuildsOf C opening read behind calm old new
builds_at_end C opening read behind left calm old new nothing is no_fault builds = ⊎_elim
    (λ few. inl few)
    (λ last. inr (sym (ap behind_of is) ∙ nothing, no_fault, last))
    builds

-- ---- one call behind another

module _ {A : _} {D : _} (old mid new : Talk A D) (input between next : Input) (was half now : ℕ)
    (x y : Option Outside) where
  -- what was built of a part so far, and of more of it
  pub part_building : (used more : ℕ) (part rest : List ℕ) (z : Option Outside) → rest ≡ drop used part
      → Told (λ w v. (start : Talk A D) (opening : Kept D.Beside) (read : List ℕ) (first : ℕ)
      → IsBuilding start old opening read input first was w
      → IsBuilding start mid opening (read ++ take used part) between first half v) x y
      → Told (λ w v. (start : Talk A D) (opening : Kept D.Beside) (read : List ℕ) (first : ℕ)
      → IsBuilding start mid opening read between first half w
      → IsBuilding start new opening (read ++ take more rest) next first now v) y z
      → Told (λ w v. (start : Talk A D) (opening : Kept D.Beside) (read : List ℕ) (first : ℕ)
      → IsBuilding start old opening read input first was w
      → IsBuilding start new opening (read ++ take (used + more) part) next first now v) x z
  part_building used more part rest z is first_calls then =
      told_then x y z (λ w v. (start : Talk A D) (opening : Kept D.Beside) (read : List ℕ) (first : ℕ)
      → IsBuilding start old opening read input first was w
      → IsBuilding start mid opening (read ++ take used part) between first half v)
      (λ w v. (start : Talk A D) (opening : Kept D.Beside) (read : List ℕ) (first : ℕ)
      → IsBuilding start mid opening read between first half w
      → IsBuilding start new opening (read ++ take more rest) next first now v)
      (λ w v. (start : Talk A D) (opening : Kept D.Beside) (read : List ℕ) (first : ℕ)
      → IsBuilding start old opening read input first was w
      → IsBuilding start new opening (read ++ take (used + more) part) next first now v) first_calls then
      (λ w u v one two start opening read first b.
      subst (λ (l : List ℕ). IsBuilding start new opening l next first now v)
      (append_assoc read (take used part) (take more rest)
      ∙ ap (λ (l : List ℕ). read ++ (take used part ++ take more l)) is
      ∙ ap (λ (l : List ℕ). read ++ l) (sym (take-add used more part)))
      (two start opening (read ++ take used part) first (one start opening read first b)))

  -- and the session doesn't go on behind that
  pub part_halts : (used : ℕ) (part rest : List ℕ) → rest ≡ drop used part
      → Told (λ w v. (start : Talk A D) (opening : Kept D.Beside) (read : List ℕ) (first : ℕ)
      → IsBuilding start old opening read input first was w
      → IsBuilding start mid opening (read ++ take used part) between first half v) x y
      → IfSome y (λ w. (start : Talk A D) (opening : Kept D.Beside) (read : List ℕ) (first : ℕ)
      → IsBuilding start mid opening read between first half w
      → BuildsFew (costs_of start) opening (read ++ rest) first now)
      → IfSome x (λ w. (start : Talk A D) (opening : Kept D.Beside) (read : List ℕ) (first : ℕ)
      → IsBuilding start old opening read input first was w
      → BuildsFew (costs_of start) opening (read ++ part) first now)
  part_halts used part rest is first_calls stops =
      told_back x y (λ w v. (start : Talk A D) (opening : Kept D.Beside) (read : List ℕ) (first : ℕ)
      → IsBuilding start old opening read input first was w
      → IsBuilding start mid opening (read ++ take used part) between first half v)
      (λ w. (start : Talk A D) (opening : Kept D.Beside) (read : List ℕ) (first : ℕ)
      → IsBuilding start mid opening read between first half w
      → BuildsFew (costs_of start) opening (read ++ rest) first now)
      (λ w. (start : Talk A D) (opening : Kept D.Beside) (read : List ℕ) (first : ℕ)
      → IsBuilding start old opening read input first was w
      → BuildsFew (costs_of start) opening (read ++ part) first now)
      first_calls stops
      (λ w v one few start opening read first b.
      subst (λ (l : List ℕ). BuildsFew (costs_of start) opening l first now)
      (append_assoc read (take used part) rest
      ∙ ap (λ (l : List ℕ). read ++ (take used part ++ l)) is
      ∙ ap (λ (l : List ℕ). read ++ l) (take-append-drop used part))
      (few start opening (read ++ take used part) first (one start opening read first b)))

  -- what was built of all that was read since the session began, and of one more part
  pub read_building : (read part : List ℕ) (first : ℕ) (z : Option Outside)
      → Told (λ w v. (opening : Kept D.Beside) → held old opening w
      → IsBuilding old mid opening read between first half v) x y
      → Told (λ w v. (start : Talk A D) (opening : Kept D.Beside) (before : List ℕ) (count : ℕ)
      → IsBuilding start mid opening before between count half w
      → IsBuilding start new opening (before ++ part) next count now v) y z
      → Told (λ w v. (opening : Kept D.Beside) → held old opening w
      → IsBuilding old new opening (read ++ part) next first now v) x z
  read_building read part first z first_calls then =
      told_then x y z (λ w v. (opening : Kept D.Beside) → held old opening w
      → IsBuilding old mid opening read between first half v)
      (λ w v. (start : Talk A D) (opening : Kept D.Beside) (before : List ℕ) (count : ℕ)
      → IsBuilding start mid opening before between count half w
      → IsBuilding start new opening (before ++ part) next count now v)
      (λ w v. (opening : Kept D.Beside) → held old opening w
      → IsBuilding old new opening (read ++ part) next first now v) first_calls then
      (λ w u v one two opening o. two old opening read first (one opening o))

-- before the first call
pub part_begins : {A : _} {D : _} (talk : Talk A D) (input : Input) (count : ℕ) (x : Option Outside)
    → Told (λ w v. (start : Talk A D) (opening : Kept D.Beside) (read : List ℕ) (first : ℕ)
    → IsBuilding start talk opening read input first count w
    → IsBuilding start talk opening (read ++ []) input first count v) x x
part_begins {A} {D} talk input count x =
    told_same x (λ w v. (start : Talk A D) (opening : Kept D.Beside) (read : List ℕ) (first : ℕ)
    → IsBuilding start talk opening read input first count w
    → IsBuilding start talk opening (read ++ []) input first count v)
    (λ w start opening read first b.
    subst (λ (l : List ℕ). IsBuilding start talk opening l input first count w) (sym (append-nil read)) b)

-- nothing was read yet
pub read_begins : {A : _} {D : _} (talk : Talk A D) (input : Input) (count : ℕ) (x : Option Outside) → Holds 0 [] input
    → Told (λ w v. (opening : Kept D.Beside) → held talk opening w
    → IsBuilding talk talk opening [] input count count v) x x
read_begins {A} {D} talk input count x holds =
    told_same x (λ w v. (opening : Kept D.Beside) → held talk opening w
    → IsBuilding talk talk opening [] input count count v)
    (λ w opening o. record {
      same = refl;
      builds = record {
        front = [];
        pending = [];
        is = refl;
        holds = holds;
        from = opening;
        n = 0;
        costed = Start;
        few = omega arith;
        kept = o;
      };
    })

-- what is told behind some calls
pub told_at : (x y : Option Outside) (R : Outside → Outside → Type 0) (w : Outside) → Told R x y → x ≡ Some w
    → (v : Outside) × (y ≡ Some v) × R w v
told_at None y R w told is = absurd (let e : None ≡ Some w = is in cc)
told_at (Some u) None R w told is = absurd told
told_at (Some u) (Some v) R w told is =
    let same : u ≡ w = cc in (v, refl, subst (λ (o : Outside). R o v) same told)

-- ---- the whole session

-- what was read, where the source tells
pub read_of : (read bytes behind : List ℕ) (held left : Option (List ℕ)) → Took read held left
    → held ≡ Some bytes → left ≡ Some behind → bytes ≡ read ++ behind
read_of read bytes behind None left took was is = absurd (let e : None ≡ Some bytes = was in cc)
read_of read bytes behind (Some all) None took was is = absurd took
read_of read bytes behind (Some all) (Some rest) took was is =
    let e : all ≡ bytes = cc in
    let r : rest ≡ behind = cc in
    sym e ∙ took ∙ subst (λ (l : List ℕ). read ++ rest ≡ read ++ l) r refl

-- nothing was read, and nothing will be
pub builds_nothing : (C : Costs) {B : Type 0} (opening : Kept B) (count : ℕ) → BuildsFew C opening [] count count
builds_nothing C opening count = record {
  front = [];
  rest = [];
  is = refl;
  from = opening;
  n = 0;
  costed = Start;
  few = omega arith;
}
