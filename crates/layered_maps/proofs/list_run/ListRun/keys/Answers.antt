use Rattle.std.proofs.Common.{List, map, sym, ap, ◌∙◌}
use Rattle.std.proofs.lemmas.Slice.Zip.{firsts-zip}
use Rattle.layered_maps.proofs.list_run.ListRun.keys.Goals as goal

pub returns : goal.returns
returns g c =
    c.as_slice.ensures.value ∙ sym (firsts-zip c.self.inside.keys.items c.self.inside.lists c.self.invariant.0)
    ∙ ap (map (λ (p : g.row.K.Denot × List g.row.V.Denot). p.0)) c.self.view_is
