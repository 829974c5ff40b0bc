use Rattle.std.proofs.Common.{◌≡◌, Some, rules}
use Rattle.papers.specs.Commands.{shown_names, meant}
use Rattle.papers.proofs.Turns.{answers_by}
use Rattle.papers.proofs.paper.Paper.deed.Goals as goal

pub returns : goal.returns
returns c =
    let e : Some c.in_ok-what.what ≡ meant (shown_names c.args.self.now) c.args.command = search rules in
    answers_by _ c.args.self.now c.args.command c.in_ok-what.what _ e c.next_deed.ensures
