use Rattle.touched_ways.proofs.LedBlocks.{led_block}
use Rattle.touched_ways.proofs.laws.led_blocks_stay.Goals as goal

pub returns : goal.returns
returns g c M N w b same led = led_block M N (g.P.Profile.rules c.args.profile.now) w b same led
