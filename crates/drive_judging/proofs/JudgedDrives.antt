-- What the words of a table say of a step is what the words of the map say, and a drive is judged step by step.
use Rattle.std.proofs.Common.{◌≡◌, ◌↔◌, ℕ, ◌+◌, ◌<◌, ◌≤◌, ◌⊎◌, inl, inr, List, [], ◌∷◌, ◌++◌, length, take, drop}
use Rattle.std.proofs.Common.{get_or, Contains, Bool, true, false, IsTrue, refl, sym, ap, ◌∙◌, subst, arith}
use Rattle.std.proofs.Common.{append_assoc, append-nil}
use Rattle.std.proofs.lemmas.Option.{slice_get_within}
use Rattle.std.proofs.lemmas.List.{take_more, take-append-drop, length-take-le}
use Rattle.std.proofs.lemmas.List.Elements.{Contains-append_left, Contains-append_right}
use Rattle.road_base.specs.declared.ids.RelationId.{RelationId}
use Rattle.road_base.specs.declared.ids.Step.{Step}
use Rattle.road_base.specs.Objects.{Objects}
use Rattle.road_model.specs.Rules.{Rules}
use Rattle.road_model.specs.Driving.{drivable}
use Rattle.road_model.specs.Words.{IsWord}
use Rattle.road_model.specs.Network.{Legal, GoesOn, Must as MustOnMap}
use Rattle.road_model.specs.Broken.{BrokenRule, No as NoRule, Broken, IsLeast, EndsNoWord, LeavesOnlyWord}
use Rattle.restrictions.specs.declared.word_list.Word.{Word}
use Rattle.turn_automata.specs.Trees.{IsClosed}
use Rattle.turn_automata.specs.Machines.{Machine, Watches}
use Rattle.turn_automata.specs.Watched.{Must, Stops}
use Rattle.drive_judging.specs.declared.verdict.Rule.{Rule}
use Rattle.drive_judging.specs.declared.verdict.Rule.TheVariants.{NoStep, NoNode, Closed, WrongWay, Apart, Barrier}
use Rattle.drive_judging.specs.declared.verdict.Rule.TheVariants.{Reversal, No, Only}
use Rattle.drive_judging.specs.Tables.{BeginsOn, AreDriveWords}
use Rattle.std.specs.BTreeMap.{BTreeMap}
use Rattle.road_base.specs.declared.ids.WayId.{WayId}
use Rattle.drive_judging.specs.declared.drive_lines.DriveLine.{DriveLine}
use Rattle.drive_judging.specs.DriveLines.{AreLinesOn}
use Rattle.drive_judging.specs.Verdicts.{broken_rule}
use Rattle.drive_judging.specs.Judging.{From, Breaks, Follows, KeepsOn, HasWords, WordWith, EndsDriven}
use Rattle.drive_judging.specs.Judging.{LeavesIn, IsWordRule}
use Rattle.road_model.proofs.Shapes.{binding_positive}
use Rattle.drive_judging.proofs.JudgedSteps.{from_eight}

least_as : (Q R : RelationId → Type 0) → ((r : RelationId) → Q r → R r) → ((r : RelationId) → R r → Q r)
    → (r : RelationId) → IsLeast Q r → IsLeast R r
least_as Q R to back r h = record { holds = to r h.holds; least = λ q k. h.least q (back q k) }

pub has_first : (front : List Step) (x : Step) (rest : List Step) → Contains (front ++ x ∷ rest) x
has_first front x rest = Contains-append_right front (x ∷ rest) x (0, omega arith, refl)

module _ (M : Objects) (P : Rules) where
  -- a word has a first step
  starts : (r : RelationId) (only : Bool) (binding : ℕ) (u : List Step) → IsWord M P r only binding u
      → (first : Step) × (rest : List Step) × (u ≡ first ∷ rest)
  starts r only binding u h = (h.first, h.via ++ h.last ∷ [], h.spelled)

  binds : (r : RelationId) (only : Bool) (binding : ℕ) (u : List Step) → IsWord M P r only binding u → 1 ≤ binding
  binds r only binding u h = subst (λ n. 1 ≤ n) (sym h.bound) (binding_positive _)

  module _ (before : List Step) (s : Step) (W : List Word) (has : HasWords M P (before ++ s ∷ []) W) where
    listed : (r : RelationId) (only : Bool) (binding : ℕ) (u : List Step) → IsWord M P r only binding u
        → BeginsOn (before ++ s ∷ []) u
        → Contains W (record { relation = r; only = only; binding = binding; steps = u })
    listed r only binding u h b = has.all (record { relation = r; only = only; binding = binding; steps = u })
        (record { of = refl; is = h }) b

    word_is : (w : Word) → Contains W w → (only : Bool) → w.only ≡ only → IsWord M P w.relation only w.binding w.steps
    word_is w c only e = subst (λ b. IsWord M P w.relation b w.binding w.steps) e (has.each w c).is

    -- ---- No words

    no_in : (r : RelationId) → EndsNoWord M P (before ++ s ∷ []) r → WordWith W (EndsDriven before s) r
    no_in r h =
        let f = starts r false h.binding h.word h.is in
        let first : Contains (before ++ s ∷ []) f.0 =
        subst (λ v. Contains v f.0) (sym (h.ends ∙ ap (λ v. h.front ++ v) f.2)) (has_first h.front f.0 f.1) in
        record {
          word = record { relation = r; only = false; binding = h.binding; steps = h.word };
          among = listed r false h.binding h.word h.is (record { first = f.0; rest = f.1; is = f.2; driven = first });
          of = refl;
          is = record { no = refl; front = h.front; ends = h.ends };
        }

    no_out : (r : RelationId) → WordWith W (EndsDriven before s) r → EndsNoWord M P (before ++ s ∷ []) r
    no_out r k = record {
      front = k.is.front;
      word = k.word.steps;
      ends = k.is.ends;
      binding = k.word.binding;
      is = subst (λ q. IsWord M P q false k.word.binding k.word.steps) (sym k.of)
          (word_is k.word k.among false k.is.no);
    }

    -- ---- Only words

    begins_behind : (front driven : List Step) → before ≡ front ++ driven → 1 ≤ length driven → (next : Step)
        (rest : List Step) → BeginsOn (before ++ s ∷ []) (driven ++ next ∷ rest)
    begins_behind front [] e l next rest = absurd (omega arith)
    begins_behind front (x ∷ driven) e l next rest = record {
      first = x;
      rest = driven ++ next ∷ rest;
      is = refl;
      driven = Contains-append_left before (s ∷ []) x
          (subst (λ v. Contains v x) (sym e) (has_first front x driven));
    }

    word_behind : (front driven : List Step) → before ≡ front ++ driven → (r : RelationId) (binding : ℕ) (next : Step)
        (rest : List Step) → IsWord M P r true binding (driven ++ next ∷ rest) → binding ≤ length driven
        → Contains W (record { relation = r; only = true; binding = binding; steps = driven ++ next ∷ rest })
    word_behind front driven e r binding next rest h b =
        let some = binds r true binding (driven ++ next ∷ rest) h in
        listed r true binding (driven ++ next ∷ rest) h (begins_behind front driven e (omega arith) next rest)

    must_in : (front driven : List Step) → before ≡ front ++ driven → (x : Step) → MustOnMap M P driven x
        → Must W driven x
    must_in front driven e x m = record {
      binding = m.binding;
      rest = m.rest;
      word = record {
        word = record { relation = m.word.relation; only = true; binding = m.binding; steps = driven ++ x ∷ m.rest };
        among = word_behind front driven e m.word.relation m.binding x m.rest m.word.word m.bound;
        only = refl;
        bound = refl;
        is = refl;
      };
      bound = m.bound;
    }

    must_out : (driven : List Step) (x : Step) → Must W driven x → MustOnMap M P driven x
    must_out driven x m =
        let w = m.word in
        let is = word_is w.word w.among true w.only in record {
          binding = m.binding;
          rest = m.rest;
          word = record {
            relation = w.word.relation;
            word = subst (λ v. IsWord M P w.word.relation true m.binding v) w.is
                (subst (λ n. IsWord M P w.word.relation true n w.word.steps) w.bound is);
          };
          bound = m.bound;
        }

    only_in : (r : RelationId) → LeavesOnlyWord M P before s r → LeavesIn W before s r
    only_in r h = record {
      front = h.front;
      driven = h.driven;
      ends = h.ends;
      leaves = record {
        lacks = λ m. h.lacks (must_out h.driven s m);
        word = record {
          word = record { relation = r; only = true; binding = h.binding; steps = h.driven ++ h.next ∷ h.rest };
          among = word_behind h.front h.driven h.ends r h.binding h.next h.rest h.word h.bound;
          of = refl;
          is = (h.next, record { only = refl; bound = h.bound; rest = h.rest; is = refl });
        };
      };
    }

    only_out : (r : RelationId) → LeavesIn W before s r → LeavesOnlyWord M P before s r
    only_out r k =
        let w = k.leaves.word in
        let d = w.is.1 in record {
          front = k.front;
          driven = k.driven;
          ends = k.ends;
          lacks = λ m. k.leaves.lacks (must_in k.front k.driven k.ends s m);
          next = w.is.0;
          rest = d.rest;
          binding = w.word.binding;
          word = subst (λ q. IsWord M P q true w.word.binding (k.driven ++ w.is.0 ∷ d.rest)) (sym w.of)
              (subst (λ v. IsWord M P w.word.relation true w.word.binding v) d.is
              (word_is w.word w.among true d.only));
          bound = d.bound;
        }

    -- ---- the rules on words

    no_illegal : (r : RelationId) → EndsNoWord M P (before ++ s ∷ []) r → Legal M P (before ++ s ∷ []) → ⊥
    no_illegal r h l = l.no h.front h.word [] (h.ends ∙ ap (λ v. h.front ++ v) (sym (append-nil h.word)))
        (record { relation = r; binding = h.binding; word = h.is })

    only_illegal : (r : RelationId) → LeavesOnlyWord M P before s r → Legal M P (before ++ s ∷ []) → ⊥
    only_illegal r h l = h.lacks (l.only h.front h.driven s []
        (ap (λ v. v ++ s ∷ []) h.ends ∙ append_assoc h.front h.driven (s ∷ [])) h.next
        (record { binding = h.binding; rest = h.rest; word = record { relation = r; word = h.word }; bound = h.bound }))

    from_nine : Follows M P before s → ((q : RelationId) → WordWith W (EndsDriven before s) q → ⊥)
        → From M P before s 9
    from_nine f none (NoRule q) h = absurd (none q (no_in q h.holds))
    from_nine f none o h = let l = from_eight M P before s f o h in omega arith

    pub word_breaks : Follows M P before s → (rule : Rule) → IsWordRule W before s rule
        → Breaks M P before s (broken_rule rule)
    word_breaks f NoStep h = absurd h
    word_breaks f (NoNode v) h = absurd h
    word_breaks f (Closed by) h = absurd h
    word_breaks f WrongWay h = absurd h
    word_breaks f Apart h = absurd h
    word_breaks f (Barrier v) h = absurd h
    word_breaks f (Reversal v) h = absurd h
    word_breaks f (No r) h =
        let least = least_as (WordWith W (EndsDriven before s)) (EndsNoWord M P (before ++ s ∷ [])) no_out no_in r h in
        record { applies = least; first = from_eight M P before s f; illegal = no_illegal r least.holds }
    word_breaks f (Only r) h =
        let least = least_as (LeavesIn W before s) (LeavesOnlyWord M P before s) only_out only_in r h.0 in
        record { applies = least; first = from_nine f h.1; illegal = only_illegal r least.holds }

    -- a step that the words don't stop goes on
    pub keeps_on : Follows M P before s → (Stops W before s → ⊥)
        → ((front end : List Step) (x : Step) → before ≡ front ++ end → Must W end x → Must W end s)
        → KeepsOn M P before s
    keeps_on f free demanded = record {
      drives = f.drives;
      goes = record {
        passes = λ a x e. f.passes x (a, e);
        no = λ a u e w.
            let k = no_in w.relation (record { front = a; word = u; ends = e; binding = w.binding; is = w.word }) in
            free (inl (record {
              word = k.word.steps;
              no = record { word = k.word; among = k.among; no = k.is.no; is = refl };
              front = k.is.front;
              is = k.is.ends;
            }));
        only = λ a p e x m. must_out p s (demanded a p x e (must_in a p e x m));
      };
    }

  -- ---- one step after the other

  -- the steps so far are legal, if there are any
  abbrev pub Begun : List Step → Type 0
  Begun d = (d ≡ []) ⊎ Legal M P d

  module _ (alone : (s : Step) → IsTrue (drivable M P s) → Legal M P (s ∷ []))
      (grows : (d : List Step) (t : Step) → Legal M P d → IsTrue (drivable M P t)
      → GoesOn M P d t ↔ Legal M P (d ++ t ∷ []))
      (parts : (before d behind : List Step) → (d ≡ [] → ⊥) → Legal M P (before ++ (d ++ behind)) → Legal M P d) where
    pub one_more : (before : List Step) (s : Step) → Begun before → KeepsOn M P before s → Legal M P (before ++ s ∷ [])
    one_more before s (inl e) k = subst (λ v. Legal M P (v ++ s ∷ [])) (sym e) (alone s k.drives)
    one_more before s (inr l) k = (grows before s l k.drives).0 k.goes

    fronts : (before : List Step) → Begun before → (a b : List Step) → before ≡ a ++ b → (a ≡ [] → ⊥) → Legal M P a
    fronts before (inl e) [] b f n = absurd (n refl)
    fronts before (inl e) (x ∷ a) b f n = cc
    fronts before (inr l) a b f n = parts [] a b n (subst (Legal M P) f l)

    pub broken : (d before : List Step) (s : Step) (behind : List Step) → d ≡ before ++ s ∷ behind → Begun before
        → (rule : BrokenRule) → Breaks M P before s rule → Broken M P d (length before + 1) rule
    broken d before s behind e begun rule h = record {
      before = before;
      step = s;
      behind = behind;
      is = e;
      counted = refl;
      legal = fronts before begun;
      illegal = h.illegal;
      applies = h.applies;
      first = h.first;
    }

  -- the table of a drive has the words of each front
  pub table_has : (d front behind : List Step) → d ≡ front ++ behind → (W : List Word) → AreDriveWords M P d W
      → HasWords M P front W
  table_has d front behind e W t = record {
    each = λ w c. (t.each w c).0;
    all = λ w is b. t.all w is (record {
      first = b.first;
      rest = b.rest;
      is = b.is;
      driven = subst (λ v. Contains v b.first) (sym e) (Contains-append_left front behind b.first b.driven);
    });
  }

-- the lines of a drive's ways are those of its first steps
pub front_lines : (M : Objects) (lines : BTreeMap WayId DriveLine) (d front behind : List Step) → d ≡ front ++ behind
    → AreLinesOn M lines d → AreLinesOn M lines front
front_lines M lines d front behind e are s has =
    are s (subst (λ v. Contains v s) (sym e) (Contains-append_left front behind s has))

-- ---- where a drive is cut, and where the first state stands

module _ {X : Type 0} (xs : List X) (i : ℕ) (d : X) (l : i < length xs) where
  pub cut_behind : xs ≡ (take i xs ++ get_or xs i d ∷ []) ++ drop (i + 1) xs
  cut_behind = sym (take-append-drop (i + 1) xs) ∙ ap (λ v. v ++ drop (i + 1) xs) (take_more xs i d l)

  pub cut_at : xs ≡ take i xs ++ get_or xs i d ∷ drop (i + 1) xs
  cut_at = cut_behind ∙ append_assoc (take i xs) (get_or xs i d ∷ []) (drop (i + 1) xs)

pub front_length : {X : Type 0} (xs : List X) (i : ℕ) → i < length xs → length (take i xs) ≡ i
front_length xs i l = length-take-le i xs (omega arith)

no_end : {X : Type 0} (a b : List X) → [] ≡ a ++ b → length b ≤ 0
no_end [] b e = let f = ap (λ v. length v) e in omega arith
no_end (x ∷ a) b e = cc

pub first_state : (m : Machine) → IsClosed m.states → (0 < length m.states) × Watches m 0 []
first_state m closed = (
  slice_get_within m.states 0 [] closed.empty,
  record {
    list = [];
    watched = record { front = []; is = refl; holds = inr refl; longest = λ a b e q. no_end a b e };
    is = closed.empty;
  },
)
