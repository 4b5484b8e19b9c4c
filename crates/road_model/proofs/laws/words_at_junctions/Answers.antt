use Rattle.std.proofs.Common.{◌∷◌, refl}
use Rattle.road_model.proofs.Shapes.{stretch, word_shape, one_next}
use Rattle.road_model.proofs.laws.words_at_junctions.Goals as goal

pub returns-clause-begins : goal.returns-clause-begins
returns-clause-begins g c M p front s t back rest i e w =
    (word_shape M _ w.relation w.only w.binding (s ∷ rest) w.word).starts s rest refl
    ((stretch M _ p i).links front s t back e).mid

pub returns-clause-ends : goal.returns-clause-ends
returns-clause-ends g c M p front s t back before i e w =
    (word_shape M _ w.relation w.only w.binding _ w.word).stops before t refl
    ((stretch M _ p i).links front s t back e).inner

pub returns-clause-goes_straight : goal.returns-clause-goes_straight
returns-clause-goes_straight g c M p front s t next back before rest i e w =
    let link = (stretch M _ p i).links front s t back e in
    one_next s next t ((word_shape M _ w.relation w.only w.binding _ w.word).straight before s next rest refl link.mid)
    link.next
