use Rattle.std.proofs.Common.{◌++◌, Ok, Err}
use Rattle.road_io.proofs.ToldCalls.{told_then, told_weaker}
use Rattle.session.specs.declared.stop.Stop.{Stop}
use Rattle.session.specs.Putting.{PutsOn}
use Rattle.session.proofs.PutChunks.{puts_first, puts_second}
use Rattle.session.proofs.putting.put_both.Goals as goal

pub returns-in-Ok-clause-told : goal.returns-in-Ok-clause-told
returns-in-Ok-clause-told g c =
    let first = c.args.first.now in
    let second = c.args.second.now in
    told_then (g.W.Site.outside c.args.site.now) (g.W.Site.outside c.put_chunk.new.site)
    (g.W.Site.outside c.put_chunk-in-Ok.new.site) (PutsOn {E = Stop} first (Ok tt))
    (PutsOn second c.put_chunk-in-Ok.result)
    (PutsOn (first ++ second) c.put_chunk-in-Ok.result) c.in-Ok.ensures.told c.put_chunk-in-Ok.ensures.told
    (λ w u v. puts_second first second tt c.put_chunk-in-Ok.result w u v)

pub returns-in-Err-clause-told : goal.returns-in-Err-clause-told
returns-in-Err-clause-told g c =
    let first = c.args.first.now in
    let second = c.args.second.now in
    told_weaker (g.W.Site.outside c.args.site.now) (g.W.Site.outside c.put_chunk.new.site)
    (PutsOn first (Err c.in-Err.error)) (PutsOn (first ++ second) (Err c.in-Err.error)) c.in-Err.ensures.told
    (puts_first first second c.in-Err.error)
