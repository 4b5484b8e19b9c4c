use Rattle.way_pieces.proofs.road_pieces.WayPieces.listed.Goals as goal

pub returns : goal.returns
returns c = λ M P w lists.
    record {
      spans = c.in_ok-spans.ensures M P w lists;
      starts = c.in_ok-starts.ensures M P w lists;
      stops = c.in_ok-stops.ensures M P w lists;
    }
