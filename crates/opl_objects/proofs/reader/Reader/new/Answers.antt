use Rattle.std.proofs.Common.{refl, arith}
use Rattle.opl_objects.proofs.StreamSteps.{open_none}
use Rattle.opl_objects.proofs.reader.Reader.new.Goals as goal

pub returns-clause-read : goal.returns-clause-read
returns-clause-read c = record {
  mode_is = refl;
  stands = rw (c.new.ensures.items, c.new-2.ensures.items)
      (open_none c.args.mode);
  fits = omega (arith, c.new.ensures.len);
}
