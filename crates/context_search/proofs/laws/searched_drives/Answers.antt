use Rattle.context_search.proofs.DriveParts.{leads_within, leads_along}
use Rattle.context_search.proofs.DriveSearch.{no_drive}
use Rattle.context_search.proofs.laws.searched_drives.Goals as goal

pub returns-clause-within : goal.returns-clause-within
returns-clause-within g c M a b p i j = leads_within M _ (record {
  walked = c.walk_law.ensures M;
  one = c.one_piece.ensures M;
  alone = c.one_junction.ensures.alone M;
  before = c.whole_pieces.ensures.before M;
  behind = c.whole_pieces.ensures.behind M;
  parts = c.drive_parts.ensures M;
}) a b p i j

pub returns-clause-along : goal.returns-clause-along
returns-clause-along g c M a b p i whole k t j e = leads_along M _ (record {
  walked = c.walk_law.ensures M;
  one = c.one_piece.ensures M;
  alone = c.one_junction.ensures.alone M;
  before = c.whole_pieces.ensures.before M;
  behind = c.whole_pieces.ensures.behind M;
  parts = c.drive_parts.ensures M;
}) a b p i whole k t j e

pub returns-clause-nowhere : goal.returns-clause-nowhere
returns-clause-nowhere g c M a b seen s d l = no_drive M _ (record {
  walked = c.walk_law.ensures M;
  one = c.one_piece.ensures M;
  alone = c.one_junction.ensures.alone M;
  before = c.whole_pieces.ensures.before M;
  behind = c.whole_pieces.ensures.behind M;
  parts = c.drive_parts.ensures M;
}) a b seen s d l
