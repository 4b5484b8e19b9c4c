use Rattle.road_model.proofs.LocalWords.{local_words}
use Rattle.road_model.proofs.laws.local_words.Goals as goal

pub returns : goal.returns
returns g c M N r only binding u s same has on = local_words M N (g.P.Profile.rules c.args.profile.now) c.args.way r
    only binding u s same has on
