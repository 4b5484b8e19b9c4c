use Rattle.std.proofs.Common.{◌++◌, ℕ, refl, subst}
use Rattle.bounded_input.specs.Limits.{Passes}
use Rattle.bounded_input.proofs.InputEnds.{within_limit}
use Rattle.bounded_input.proofs.input.ReadInput.take.Goals as goal

pub returns-in_default-clause-err : goal.returns-in_default-clause-err
returns-in_default-clause-err c = λ mode read holds. record {
  front = read;
  part = c.args.part.now;
  is = refl;
  small = c.requires;
  within = within_limit read c.args.self.now holds.measures;
  passes = subst (λ (n : ℕ). Passes n (read ++ c.args.part.now)) c.args.self.now.limit
      (c.in_default.ensures.none read holds.measures);
}

pub returns-in_default-feed-clause-ok : goal.returns-in_default-feed-clause-ok
returns-in_default-feed-clause-ok c = λ mode read holds. record {
  measures = c.in-Some.ensures.some read holds.measures;
  has_read = c.in_default-feed.ensures.read mode read holds.has_read;
}

pub returns-in_default-feed-2-clause-ok : goal.returns-in_default-feed-2-clause-ok
returns-in_default-feed-2-clause-ok c = λ mode read holds. record {
  measures = c.in-Some.ensures.some read holds.measures;
  has_read = c.feed.ensures.read mode read holds.has_read;
}
