use Rattle.opl_lexer.specs.Faults.{lon_letter, lat_letter}
use Rattle.opl_lexer.specs.Spelling.{text_behind}
use Rattle.opl_objects.proofs.LineEvents.{held_range}
use Rattle.opl_objects.proofs.parts.Parts.visible.Goals as goal

pub place-requires-clause-lon : goal.place-requires-clause-lon
place-requires-clause-lon c = held_range 1800000000 (text_behind lon_letter c.requires.0) c.args.self.lon
    c.requires.1.holds.lon

pub place-requires-clause-lat : goal.place-requires-clause-lat
place-requires-clause-lat c = held_range 900000000 (text_behind lat_letter c.requires.0) c.args.self.lat
    c.requires.1.holds.lat
