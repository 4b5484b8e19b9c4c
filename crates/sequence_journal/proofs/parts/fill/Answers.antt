use Rattle.std.proofs.Common.{refl, arith, Ok, ◌+◌, ◌-◌, ◌++◌, length, length-append, take, drop}
use Rattle.std.proofs.lemmas.List.{length-take-le}
use borrow.Rule.Slice.PartMut.{post_of}
use Rattle.road_io.specs.Calls.{GivesBytes}
use Rattle.road_io.proofs.ToldCalls.{told_then, told_same}
use Rattle.sequence_journal.proofs.FilledParts.{FilledSoFar, fill_start, fill_more, fill_end}
use Rattle.sequence_journal.proofs.parts.fill.Goals as goal

pub loop-at-init : goal.loop-at-init
loop-at-init g c = record {
  within = omega arith;
  told = told_same (g.W.Site.outside c.args.site.now) (FilledSoFar c.args.file c.args.from 0 c.args.buf.now)
      (fill_start c.args.file c.args.from c.args.buf.now);
  counted = refl;
}

pub returns-then-n-eq0-clause-told : goal.returns-then-n-eq0-clause-told
returns-then-n-eq0-clause-told g c =
    told_then (g.W.Site.outside c.args.site.now) (g.W.Site.outside c.loop-at.site)
    (g.W.Site.outside c.read_at.new.self)
    (FilledSoFar c.args.file c.args.from c.loop-at.at c.loop-at.buf)
    (GivesBytes c.args.file (c.args.from + c.loop-at.at)
    (take (length c.loop-at.buf - c.loop-at.at) (drop c.loop-at.at c.loop-at.buf)) c.read_at.new.buf
    (Ok c.in_ok-n.n)) _
    c.loop-at.invariant.told c.in_ok-n.ensures.told
    (λ w u v s t. fill_end c.args.file c.args.from c.loop-at.at c.in_ok-n.n c.loop-at.buf _ c.read_at.new.buf
    c.loop-at-test.true refl c.in_ok-n.ensures.fits w u v s t c.if-n-eq0.true)

pub loop-at-preserved : goal.loop-at-preserved
loop-at-preserved g c = record {
  within = omega (
    arith,
    c.in_ok-n.ensures.fits,
    c.read_at.auto.buf,
    length-append (take c.loop-at.at c.loop-at.buf)
        (c.read_at.new.buf ++ post_of c.loop-at.at (length c.loop-at.buf - c.loop-at.at) c.loop-at.buf),
    length-append c.read_at.new.buf (post_of c.loop-at.at (length c.loop-at.buf - c.loop-at.at) c.loop-at.buf),
    length-take-le c.loop-at.at c.loop-at.buf (omega (arith, c.loop-at-test.true)),
  );
  told = told_then (g.W.Site.outside c.args.site.now) (g.W.Site.outside c.loop-at.site)
      (g.W.Site.outside c.read_at.new.self) (FilledSoFar c.args.file c.args.from c.loop-at.at c.loop-at.buf)
      (GivesBytes c.args.file (c.args.from + c.loop-at.at)
      (take (length c.loop-at.buf - c.loop-at.at) (drop c.loop-at.at c.loop-at.buf)) c.read_at.new.buf
      (Ok c.in_ok-n.n)) _
      c.loop-at.invariant.told c.in_ok-n.ensures.told
      (λ w u v s t. fill_more c.args.file c.args.from c.loop-at.at c.in_ok-n.n c.loop-at.buf _ c.read_at.new.buf
      c.loop-at-test.true refl c.in_ok-n.ensures.fits w u v s t);
  counted = omega (arith, c.loop-at.invariant.counted, c.in_ok-n.ensures.counts.stays refl);
}
