use Rattle.std.proofs.Common.{◌≡◌, ◌≤◌, ◌+◌, ◌++◌, length, vec_len, arith}
use Rattle.std.proofs.lemmas.Grind.{common_steps}
use Rattle.opl_objects.proofs.StreamSteps.{open_of, open_hold, has_open, fits_more}
use Rattle.opl_objects.specs.Feeding.{counted}
use Rattle.opl_objects.proofs.reader.Reader.hold.Goals as goal

pub returns-clause-read : goal.returns-clause-read
returns-clause-read c = λ mode fed read lacks.
    let self = c.args.self.now in
    let grown : c.extend_from_slice.new.self.items ≡ self.held.items ++ c.args.part.now = grind (arith, common_steps) in
    let longer : vec_len c.extend_from_slice.new.self ≤ vec_len self.held + length c.args.part.now = grind
    (arith, common_steps) in
    let held = open_hold mode fed self.held.items c.args.part.now self.events.items self.lines
    (open_of mode fed self read c.requires.going) lacks in
    has_open mode (fed ++ c.args.part.now) _ read.mode_is c.requires.going
    (fits_more fed c.args.part.now (counted self) _ read.fits (omega (arith, longer))) (rw grown held)
