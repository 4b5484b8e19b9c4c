use Rattle.session_replies.proofs.further_messages.moment_of.Goals as goal

pub returns : goal.returns
returns c = c.one_moment.ensures c.args.word.now c.parse_moment.result c.parse_moment.ensures.exact
    c.parse_moment.ensures.day c.parse_moment.ensures.minute
