use Rattle.commands.proofs.Spaces.{peeled_back_spaces}
use Rattle.commands.proofs.up_to_spaces.Goals as goal

pub returns : goal.returns
returns c = peeled_back_spaces _ _ c.trim_end_matches.ensures.matches
