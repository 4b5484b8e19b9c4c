-- What `sample` prepares, and the lines of a sample, one behind another.
use Rattle.std.proofs.Common.{◌≡◌, ℕ, suc, ◌+◌, ◌<◌, List, [], ◌++◌, Option, Some, Result, Err, refl, ap, subst}
use Rattle.std.proofs.Common.{◌∙◌, sym, arith, Bool, true, cond, nat_lt, lt-ltb}
use Rattle.std.specs.FinMap.{empty}
use Rattle.road_base.specs.declared.event.Event.{Event}
use Rattle.road_base.specs.Objects.{Objects}
use Rattle.road_base.specs.Applying.{IsApplied}
use Rattle.road_io.specs.Outside.{Outside}
use Rattle.sample_town.specs.Lists.{Progress, next_list, after_list}
use Rattle.osmroad.specs.declared.command.Command.{Command}
use Rattle.osmroad.specs.declared.command.Command.TheVariants.{Sample}
use Rattle.last_words.specs.declared.words.LastWords.{LastWords}
use Rattle.last_words.specs.declared.words.Failure.{Failure}
use Rattle.last_words.specs.declared.words.Failure.TheVariants.{NoMemory as MemoryFailure}
use Rattle.last_words.specs.declared.status.Status.TheVariants.{Done}
use Rattle.road_model.specs.Rules.{Rules}
use Rattle.access_profile.specs.Profiles.{rules_of}
use Rattle.osmroad.specs.Sampling.{events_of_lists, IsSampleLine, IsSample, Led}
use Rattle.last_words.specs.Replies.{Replies}
use Rattle.osmroad.specs.Replies.{IsPrepared, Prepares}
use Rattle.session.proofs.HeldSource.{behind_of}
use Rattle.road_io.proofs.SourceParts.{took_nothing}
use Rattle.osmroad.proofs.Replied.{replied}
use Rattle.osmroad.proofs.Prepared.{by_failure, prepares}
use Rattle.osmroad.proofs.WithoutStore.{silent_still, stands_still, leaves_still, will_put_alone}

module _ (number : ℕ) (held : Option (List ℕ)) (x : Option Outside) where
  abbrev command : Option Command
  command = Some (Sample number)

  unread : (result : Result LastWords Failure) → IsPrepared command (behind_of held) [] result x x
      → Prepares command result held held x x
  unread result answer = prepares command result [] held held x x (took_nothing held) answer (silent_still x)
      (leaves_still command [] (λ stored. stored) x)

  -- memory ended
  pub failed_sample : (result : Result LastWords Failure) → result ≡ Err MemoryFailure
      → Prepares command result held held x x
  failed_sample result is = unread result
      (by_failure command (behind_of held) [] x x MemoryFailure result is (stands_still x))

  pub put_sample : (result : Result LastWords Failure) (out : List ℕ) → Replies Done out result → IsSample (rules_of 1)
      number out
      → Prepares command result held held x x
  put_sample result out says is = unread result
      (replied command (behind_of held) [] Done out result x x says
      (will_put_alone command [] (λ stored. stored) (behind_of held) Done out x refl refl (refl, is, refl))
      (stands_still x))

-- ---- one line more

after_so_many : (n count : ℕ) → count < 11
    → after_list (record { number = n; given = count }) ≡ record { number = n; given = count + 1 }
unfolding after_list
after_so_many n count few =
    let more : nat_lt count 11 ≡ true = lt-ltb count 11 few in
    ap (λ (b : Bool). record { number = n; given = cond b (count + 1) count }) more

pub led_on : (P : Rules) (n count : ℕ) → count < 11 → (town later : Progress) (world new : Objects) (events : List
    Event)
    (text line longer : List ℕ) → Led P n count town world text
    → ((M N O : Objects) (a b : List Event) → IsApplied M a N → IsApplied N b O → IsApplied M (a ++ b) O)
    → events ≡ next_list town → later ≡ after_list town → IsApplied world events new
    → ((all : List Event) → IsApplied empty all new → IsSampleLine P count all line) → longer ≡ text ++ line
    → Led P n (count + 1) later new longer
led_on P n count few town later world new events text line longer led turn list after applied is grows =
    subst (λ (m : ℕ). Led P n m later new longer) next (record {
      town_is = after ∙ ap after_list led.town_is
          ∙ after_so_many n count few ∙ ap (λ (m : ℕ). record { number = n; given = m }) (sym next);
      applied = all;
      lines = (text, line, led.lines, is (events_of_lists n (suc count)) all, grows);
    })
  where
    next : suc count ≡ count + 1
    next = omega arith

    all : IsApplied empty (events_of_lists n (suc count)) new
    all = turn empty world new (events_of_lists n count) (next_list (record { number = n; given = count })) led.applied
        (subst (λ (l : List Event). IsApplied world l new) (list ∙ ap next_list led.town_is) applied)
