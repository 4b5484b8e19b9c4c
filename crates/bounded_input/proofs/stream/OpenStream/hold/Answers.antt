use Rattle.std.proofs.Common.{◌++◌, ℕ, List, sym, subst}
use Rattle.opl_objects.specs.Feeding.{IsOpen}
use Rattle.opl_objects.proofs.StreamSteps.{open_hold}
use Rattle.bounded_input.proofs.stream.OpenStream.hold.Goals as goal

pub returns-in-Ok-clause-ok : goal.returns-in-Ok-clause-ok
returns-in-Ok-clause-ok c = λ mode read events keeps. record {
  mode_is = keeps.mode_is;
  open_lines = subst (λ (l : List ℕ). IsOpen mode (read ++ c.args.bytes.now) l events c.args.self.now.lines)
      (sym c.in-Ok.ensures.items)
      (open_hold mode read c.args.self.now.held.items c.args.bytes.now events c.args.self.now.lines keeps.open_lines
      c.requires.open_line);
}
