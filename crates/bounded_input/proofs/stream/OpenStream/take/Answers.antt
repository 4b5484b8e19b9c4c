use Rattle.std.proofs.Common.{◌≡◌, ◌++◌, ℕ, List, [], sym, ap, ◌∙◌, subst, append_assoc, append-nil}
use Rattle.road_base.specs.declared.event.Event.{Event}
use Rattle.bounded_input.specs.declared.limits.Measure.{Measure}
use Rattle.bounded_input.specs.Limits.{Measures}
use Rattle.bounded_input.specs.OpenStreams.{IsOpenAt, KeepsLines}
use Rattle.bounded_input.proofs.StreamEnds.{on_ok, within_stream, takes_none, stops_in}
use Rattle.bounded_input.proofs.stream.OpenStream.take.Goals as goal

-- no line ends
pub returns-in_default-cut_last-clause-ok : goal.returns-in_default-cut_last-clause-ok
returns-in_default-cut_last-clause-ok g c = on_ok c.hold.result c.hold.ensures.ok (λ keeps. (
  [],
  λ mode read events k.
      let open_now : IsOpenAt mode (read ++ c.args.part.now) events c.hold.new.self = record {
        measures = subst (λ (m : Measure). Measures (read ++ c.args.part.now) m) (sym c.hold.ensures.kept)
            (c.in-Some.ensures.some read k.measures);
        keeps = keeps mode read events (record { mode_is = k.keeps.mode_is; open_lines = k.keeps.open_lines });
      } in
      subst (λ (es : List Event). IsOpenAt mode (read ++ c.args.part.now) es c.hold.new.self)
      (sym (append-nil events)) open_now,
  takes_none (g.T.TakesEvents.has_taken c.args.taker.now),
))

pub returns-in-Ok-clause-ok : goal.returns-in-Ok-clause-ok
returns-in-Ok-clause-ok g c =
    let ended = c.in-Some-cut_last.ended.now in
    let rest = c.in-Some-cut_last.rest.now in
    let more = c.in-Ok.ensures.ok.0 in
    on_ok c.hold-in-Ok.result c.hold-in-Ok.ensures.ok (λ keeps. (
      more,
      λ mode read events k.
          let whole : (read ++ ended) ++ rest ≡ read ++ c.args.part.now =
          append_assoc read ended rest ∙ ap (λ (l : List ℕ). read ++ l) (sym c.in-Some-cut_last.ensures.some.written) in
          record {
            measures = subst (λ (m : Measure). Measures (read ++ c.args.part.now) m)
                (sym (c.hold-in-Ok.ensures.kept ∙ c.in-Ok.ensures.kept)) (c.in-Some.ensures.some read k.measures);
            keeps = subst (λ (l : List ℕ). KeepsLines mode l (events ++ more) c.hold-in-Ok.new.self) whole
                (keeps mode (read ++ ended) (events ++ more) (c.in-Ok.ensures.ok.1 mode read events
                (record { mode_is = k.keeps.mode_is; open_lines = k.keeps.open_lines })));
          },
      c.in-Ok.ensures.ok.2,
    ))

-- a line that has ended is in fault
pub returns-in-Err-clause-err : goal.returns-in-Err-clause-err
returns-in-Err-clause-err g c = λ mode read events k.
    stops_in mode read c.args.part.now c.in-Some-cut_last.ended.now c.in-Some-cut_last.rest.now c.in-Err.error
    c.in-Some-cut_last.ensures.some.written
    (within_stream (read ++ c.args.part.now) c.in-Some.measure (c.in-Some.ensures.most ∙ c.args.self.now.limit)
    (c.in-Some.ensures.some read k.measures))
    (c.in-Err.ensures.err mode read events
    (record { mode_is = k.keeps.mode_is; open_lines = k.keeps.open_lines }))
