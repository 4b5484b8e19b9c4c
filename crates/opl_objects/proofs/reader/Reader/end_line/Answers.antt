use Rattle.std.proofs.Common.{◌++◌, ◌∷◌, [], refl, arith, length-append}
use Rattle.opl_objects.proofs.StreamSteps.{open_of, open_end, ended_by, has_open, has_ended, fits_more}
use Rattle.opl_objects.specs.Feeding.{counted}
use Rattle.opl_objects.proofs.reader.Reader.end_line.Goals as goal

pub returns-in-Err-clause-read : goal.returns-in-Err-clause-read
returns-in-Err-clause-read c = λ mode fed read lacks.
    let self = c.args.self.now in
    let line = c.args.line.now in
    let bad = rw read.mode_is at c.in-Err.ensures.err in
    let ended = ended_by mode fed self.held.items line self.events.items self.lines c.in-Err.error
    (open_of mode fed self read c.requires.going) lacks bad in
    has_ended mode (fed ++ (line ++ (10 ∷ []))) _ c.in-Err.error read.mode_is refl
    (fits_more fed (line ++ (10 ∷ [])) (counted self) _ read.fits
    (rw length-append (omega (arith, c.in-Err.ensures.len)))) ended

pub returns-clause-read : goal.returns-clause-read
returns-clause-read c = λ mode fed read lacks.
    let self = c.args.self.now in
    let line = c.args.line.now in
    let adds = rw read.mode_is at c.in_default.ensures.ok in
    let end = open_end mode fed self.held.items line self.events.items c.finish_line.new.events.items self.lines
    (open_of mode fed self read c.requires.going) lacks adds in
    has_open mode (fed ++ (line ++ (10 ∷ []))) _ read.mode_is c.requires.going
    (fits_more fed (line ++ (10 ∷ [])) (counted self) _ read.fits
    (rw length-append (omega (arith, c.in_default.ensures.len)))) (rw c.in_default.ensures.emptied end)
