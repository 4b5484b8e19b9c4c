use Rattle.std.proofs.Common.{◌∙◌, sym, ap}
use Rattle.road_base.specs.Tags.{is_ascending}
use Rattle.spelled_bytes.specs.Spelling.{pair_bytes, PairFits}
use Rattle.object_codec.specs.Spelling.{tags_bytes, text_bytes, list_bytes, TagsFit, TextFits, ListFits}
use Rattle.spelled_bytes.specs.OneSpelling.{pair_one}
use Rattle.object_codec.specs.OneSpelling.{list_one, text_one}
use Rattle.spelled_bytes.proofs.Fronts.{value_refused}
use Rattle.object_codec.proofs.texts.TagsSpellEventFormat.read.Goals as goal

pub returns-then-not-are_ascending-clause-malformed : goal.returns-then-not-are_ascending-clause-malformed
unfolding tags_bytes TagsFit
returns-then-not-are_ascending-clause-malformed c = λ tags r whole.
    let refused = ap is_ascending (sym c.deref.ensures.value) ∙ sym c.are_ascending.ensures
    ∙ c.if-not-are_ascending.true in
    value_refused (list_bytes (pair_bytes text_bytes text_bytes)) (ListFits (PairFits TextFits TextFits))
    (list_one (pair_bytes text_bytes text_bytes) (PairFits TextFits TextFits)
    (pair_one text_bytes TextFits text_bytes TextFits text_one text_one)) is_ascending c.args.bytes.now
    c.in_ok-list.list.items c.in_ok-list.rest.now c.in_ok-list.ensures.found refused tags r
    (record { fits = whole.fits.1; parts = whole.parts }) whole.fits.0
