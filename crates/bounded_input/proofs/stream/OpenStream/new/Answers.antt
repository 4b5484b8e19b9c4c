use Rattle.std.proofs.Common.{[], ℕ, List, refl, sym, subst}
use Rattle.opl_objects.specs.Feeding.{IsOpen}
use Rattle.opl_objects.proofs.StreamSteps.{open_none}
use Rattle.bounded_input.proofs.stream.OpenStream.new.Goals as goal

pub returns-clause-open : goal.returns-clause-open
returns-clause-open c = record {
  measures = c.new.ensures.measures;
  keeps = record {
    mode_is = refl;
    open_lines = subst (λ (l : List ℕ). IsOpen c.args.mode [] l [] 0) (sym c.new-2.ensures.items)
        (open_none c.args.mode);
  };
}
