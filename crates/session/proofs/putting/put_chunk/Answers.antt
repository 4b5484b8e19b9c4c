use Rattle.std.proofs.Common.{Ok, Err, sym, ◌∙◌}
use Rattle.road_io.proofs.ToldCalls.{told_same, told_weaker}
use Rattle.road_io.specs.Calls.{Puts}
use Rattle.session.specs.declared.stop.Stop.{Stop}
use Rattle.session.specs.declared.stop.Stop.TheVariants.{SiteFault}
use Rattle.session.specs.Putting.{PutsOn}
use Rattle.session.proofs.PutChunks.{puts_nothing, puts_chunk, puts_part, no_byte}
use Rattle.session.proofs.putting.put_chunk.Goals as goal

pub returns-then-is_empty-clause-told : goal.returns-then-is_empty-clause-told
returns-then-is_empty-clause-told g c =
    told_same (g.W.Site.outside c.args.site.now) (PutsOn {E = Stop} c.args.chunk.now (Ok tt))
    (λ w. puts_nothing c.args.chunk.now (Ok tt) w
    (no_byte c.args.chunk.now (sym c.if-is_empty.true ∙ c.is_empty.ensures)))

pub returns-in-Ok-clause-told : goal.returns-in-Ok-clause-told
returns-in-Ok-clause-told g c =
    told_weaker (g.W.Site.outside c.args.site.now) (g.W.Site.outside c.put.new.self)
    (Puts c.args.chunk.now (Ok tt)) (PutsOn {E = Stop} c.args.chunk.now (Ok tt)) c.in-Ok.ensures.told
    (puts_chunk c.args.chunk.now tt)

pub returns-in-Err-clause-told : goal.returns-in-Err-clause-told
returns-in-Err-clause-told g c =
    told_weaker (g.W.Site.outside c.args.site.now) (g.W.Site.outside c.put.new.self)
    (Puts c.args.chunk.now (Err c.in-Err.field-0)) (PutsOn c.args.chunk.now (Err SiteFault)) c.in-Err.ensures.told
    (puts_part c.args.chunk.now c.in-Err.field-0 SiteFault)
