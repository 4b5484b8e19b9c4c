use Rattle.std.proofs.Common.{◌≡◌, ◌+◌, ◌≤◌, ◌++◌, ℕ, List, Err, length, take, drop, refl, sym, ◌∙◌, false, ◌^◌}
use Rattle.std.proofs.Common.{ap, subst, append_assoc, arith}
use Rattle.std.proofs.lemmas.List.{append-nil, take-append-drop, take_all, length-drop}
use Rattle.std.proofs.Math.Seq.{take-add}
use Rattle.road_io.specs.Told.{Told}
use Rattle.session.specs.declared.talk.Talk.{Talk}
use Rattle.session.specs.Conversation.{Kept}
use Rattle.session.specs.Answering.{CountsStops}
use Rattle.session.specs.Following.{Since, Halts}
use Rattle.session.specs.Talking.{IsGoing, IsBuilding, held, replies_of}
use Rattle.session.proofs.BuiltSessions.{part_begins, part_building, part_halts}
use Rattle.session.proofs.following.take_part.Goals as goal

within_then : (used more : ℕ) (part rest : List ℕ) → used ≤ length part → rest ≡ drop used part → more ≤ length rest
    → used + more ≤ length part
within_then used more part rest within is fits =
    omega (arith, within, fits, ap (λ (l : List ℕ). length l) is, length-drop used part)

small_still : (used : ℕ) (part rest : List ℕ) → rest ≡ drop used part → length part ≤ 2 ^ 16
    → length rest ≤ 2 ^ 16
small_still used part rest is small =
    omega (arith, small, ap (λ (l : List ℕ). length l) is, length-drop used part)

pub loop-used-init : goal.loop-used-init
loop-used-init g c = record {
  goes = λ start read x going. subst (λ (l : List ℕ). IsGoing start c.args.talk.now l c.args.input.now x
      (g.W.Site.outside c.args.site.now)) (sym (append-nil read)) going;
  builds = part_begins c.args.talk.now c.args.input.now c.args.steps.now (g.W.Site.outside c.args.site.now);
  within = omega arith;
  calm = refl;
  not_closed = c.requires.not_closed;
  fixed = refl;
}

pub take_next-requires-clause-not_closed : goal.take_next-requires-clause-not_closed
take_next-requires-clause-not_closed g c = c.loop-used.invariant.not_closed

pub take_next-requires-clause-goes : goal.take_next-requires-clause-goes
take_next-requires-clause-goes g c =
    let was = c.requires.goes in (
      was.0,
      was.1 ++ take c.loop-used.used c.args.part.now,
      was.2,
      c.loop-used.invariant.goes was.0 was.1 was.2 was.3,
    )

pub take_next-requires-clause-small : goal.take_next-requires-clause-small
take_next-requires-clause-small g c =
    small_still c.loop-used.used c.args.part.now c.behind.result.now c.behind.ensures c.requires.small

pub loop-used-preserved : goal.loop-used-preserved
loop-used-preserved g c =
    let part = c.args.part.now in
    let used = c.loop-used.used in
    let more = c.in-Ok.more in
    let i = c.loop-used.invariant in
    let talk = c.take_next.new.talk in
    let input = c.take_next.new.input in
    let after = g.W.Site.outside c.take_next.new.site in
    record {
      goes = λ start read x going.
          subst (λ (l : List ℕ). IsGoing start talk l input x after)
          (append_assoc read (take used part) (take more (drop used part))
          ∙ ap (λ (l : List ℕ). read ++ l) (sym (take-add used more part)))
          (subst (λ (l : List ℕ). IsGoing start talk ((read ++ take used part) ++ take more l) input x after)
          c.behind.ensures
          (c.in-Ok.ensures.goes start (read ++ take used part) x (i.goes start read x going)));
      builds = part_building c.args.talk.now c.loop-used.talk talk c.args.input.now c.loop-used.input input
          c.args.steps.now c.loop-used.steps c.take_next.new.steps (g.W.Site.outside c.args.site.now)
          (g.W.Site.outside c.loop-used.site) used more part c.behind.result.now after c.behind.ensures i.builds
          c.in-Ok.ensures.builds;
      within = within_then used more part c.behind.result.now i.within c.behind.ensures c.in-Ok.ensures.used;
      calm = c.in-Ok.ensures.calls.stays (λ e. (cc)) ∙ i.calm;
      not_closed = c.in-Ok.ensures.not_closed;
      fixed = c.in-Ok.ensures.fixed ∙ i.fixed;
    }

pub returns-in-Err-clause-halts : goal.returns-in-Err-clause-halts
returns-in-Err-clause-halts g c = λ start read x going.
    let part = c.args.part.now in
    let used = c.loop-used.used in
    let after = g.W.Site.outside c.take_next.new.site in
    subst (λ (l : List ℕ). Since (held start) (λ opening w v. Halts (replies_of start) opening l false c.in-Err.stop w
    v) x after)
    (append_assoc read (take used part) (drop used part)
    ∙ ap (λ (l : List ℕ). read ++ l) (take-append-drop used part))
    (subst (λ (l : List ℕ). Since (held start) (λ opening w v. Halts (replies_of start) opening
    ((read ++ take used part) ++ l) false c.in-Err.stop w v) x after)
    c.behind.ensures
    (c.in-Err.ensures.halts start (read ++ take used part) x (c.loop-used.invariant.goes start read x going)))

pub returns-in-Err-clause-few : goal.returns-in-Err-clause-few
returns-in-Err-clause-few g c =
    part_halts c.args.talk.now c.loop-used.talk c.take_next.new.talk c.args.input.now c.loop-used.input
    c.take_next.new.input c.args.steps.now c.loop-used.steps c.take_next.new.steps (g.W.Site.outside c.args.site.now)
    (g.W.Site.outside c.loop-used.site) c.loop-used.used c.args.part.now c.behind.result.now c.behind.ensures
    c.loop-used.invariant.builds c.in-Err.ensures.few

pub returns-in-Err-clause-calls : goal.returns-in-Err-clause-calls
returns-in-Err-clause-calls g c =
    subst (λ (n : ℕ). CountsStops {T = Unit {0}} n (g.W.Site.faults c.take_next.new.site) (Err c.in-Err.stop))
    c.loop-used.invariant.calm
    (record {
      cause = λ e. c.in-Err.ensures.calls.cause (cc);
      stays = λ other. c.in-Err.ensures.calls.stays (λ e. other (cc));
    })

pub returns-clause-goes : goal.returns-clause-goes
returns-clause-goes g c = λ start read x going.
    let part = c.args.part.now in
    subst (λ (l : List ℕ). IsGoing start c.loop-used.talk (read ++ l) c.loop-used.input x
    (g.W.Site.outside c.loop-used.site))
    (take_all c.loop-used.used part (omega (arith, c.loop-used-test.false)))
    (c.loop-used.invariant.goes start read x going)

pub returns-clause-builds : goal.returns-clause-builds
returns-clause-builds g c =
    let part = c.args.part.now in
    subst (λ (l : List ℕ). Told (λ w v. (start : Talk g.row.A.Denot g.A.Answerer) (opening : Kept g.A.Answerer.Beside)
    (read : List ℕ) (first : ℕ)
    → IsBuilding start c.args.talk.now opening read c.args.input.now first c.args.steps.now w
    → IsBuilding start c.loop-used.talk opening (read ++ l) c.loop-used.input first c.loop-used.steps v)
    (g.W.Site.outside c.args.site.now) (g.W.Site.outside c.loop-used.site))
    (take_all c.loop-used.used part (omega (arith, c.loop-used-test.false))) c.loop-used.invariant.builds

pub returns-clause-calls : goal.returns-clause-calls
returns-clause-calls g c = record { cause = λ e. (cc); stays = λ other. c.loop-used.invariant.calm }

pub returns-clause-not_closed : goal.returns-clause-not_closed
returns-clause-not_closed g c = c.loop-used.invariant.not_closed

pub returns-clause-fixed : goal.returns-clause-fixed
returns-clause-fixed g c = c.loop-used.invariant.fixed

pub returns-in-Err-clause-fixed : goal.returns-in-Err-clause-fixed
returns-in-Err-clause-fixed g c = c.in-Err.ensures.fixed ∙ c.loop-used.invariant.fixed
