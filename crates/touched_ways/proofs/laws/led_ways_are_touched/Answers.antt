use Rattle.touched_ways.proofs.TouchedAround.{led_touched}
use Rattle.touched_ways.proofs.laws.led_ways_are_touched.Goals as goal

pub returns : goal.returns
returns g c M N w b name before a around is listed = led_touched M N (g.P.Profile.rules c.args.profile.now)
    (g.met.P.Profile.free_needs_highway c.args.profile.now) w b name before a around is listed
