use Rattle.std.proofs.Common.{◌≡◌, length, ap, ◌∙◌}
use Rattle.layered_maps.proofs.KeyedLists.{zip_long}
use Rattle.layered_maps.proofs.list_run.ListRun.len.Goals as goal

pub returns : goal.returns
returns g c =
    let keys = c.self.inside.keys.items in
    let long : c.len.result ≡ length keys = c.len.ensures ∙ c.self.inside.keys.ok.0 in
    long ∙ zip_long keys c.self.inside.lists c.self.invariant.0 ∙ ap length c.self.view_is
