-- What holds of each key once holds of all.
use Rattle.std.proofs.Common.{rules, ◌≡◌, ◌++◌}
use Rattle.std.proofs.lemmas.List.{append_assoc}
use Rattle.restrictions.proofs.Members.{all_once}
use Rattle.restrictions.proofs.roles.each_once.Goals as goal

pub returns : goal.returns
returns c test =
    let keys = c.extend_from_slice-3.new.self.items in
    let are : keys ≡ c.args.froms.now ++ (c.args.vias.now ++ c.args.tos.now) = search (rules, append_assoc) in
    all_once test c.leave_once.new.list.items keys c.args.froms.now c.args.vias.now c.args.tos.now
    c.leave_once.ensures.exactly are
