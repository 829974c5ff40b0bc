use Rattle.commands.proofs.Spaces.{peeled_spaces}
use Rattle.commands.proofs.past_spaces.Goals as goal

pub returns : goal.returns
returns c = peeled_spaces _ _ c.trim_start_matches.ensures.matches
