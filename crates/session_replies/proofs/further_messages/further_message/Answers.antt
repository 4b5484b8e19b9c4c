use Rattle.session_replies.proofs.further_messages.further_message.Goals as goal

pub returns-in-route-clause-drives : goal.returns-in-route-clause-drives
returns-in-route-clause-drives c = c.further_route.ensures.drives
