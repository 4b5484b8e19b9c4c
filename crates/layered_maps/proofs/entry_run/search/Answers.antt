use Rattle.std.proofs.Common.{rules}
use Rattle.std.proofs.lemmas.List.Sorted.{answers_always}
use Rattle.layered_maps.proofs.entry_run.search.Goals as goal

pub returns-clause-position : goal.returns-clause-position
returns-clause-position g c =
    c.binary_search_by_key.ensures.position (λ e. e.key) (answers_always _ _ _ (λ f a r h called. search rules))
