use Rattle.session.proofs.OpenedSessions.{ends_first}
use Rattle.session.proofs.laws.nothing_read.Goals as goal

pub returns : goal.returns
returns g c = λ fixed opening journal w on_store.
    ends_first c.store_laws.ensures (g.A.Answerer.replies fixed) opening journal w on_store
