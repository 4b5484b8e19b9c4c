use Rattle.context_search.proofs.DriveOver.{lies_over}
use Rattle.context_search.proofs.laws.drives_over.Goals as goal

pub returns : goal.returns
returns g c M a b d l = lies_over M _ (record {
  walked = c.walk_law.ensures M;
  one = c.one_piece.ensures M;
  alone = c.one_junction.ensures.alone M;
  before = c.whole_pieces.ensures.before M;
  behind = c.whole_pieces.ensures.behind M;
  parts = c.drive_parts.ensures M;
}) a b d l
