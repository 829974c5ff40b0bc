-- A command's deed, from what the command comes to.
use Rattle.std.proofs.Common.{◌≡◌, ℕ, Some, Option, Result, subst}
use Rattle.ops.specs.Doc.{do_it, turn}
use Rattle.papers.specs.Commands.{shown_names, meant, Makes, MadeOf, Answers}
use Rattle.papers.specs.Deeds.{kind_of}
use Rattle.papers.specs.Papers.{deeds_of}
use Rattle.papers.specs.declared.commands.Refusal.{Refusal}
use Rattle.papers.specs.declared.deeds.What.{What}
use Rattle.papers.specs.declared.deeds.Deed.{Deed}
use Rattle.papers.specs.declared.deeds.Command.{Command}
use Rattle.papers.specs.declared.deeds.Command.TheVariants.{Insert, Strike, Write, Add}
use Rattle.papers.specs.declared.paper.Paper.{Paper}

pub answers_by : (w : ℕ) (p : Paper) (c : Command) (a : What) (r : Result Deed Refusal) → Some a ≡ meant (shown_names p) c → Makes (do_it w (deeds_of p) (kind_of a)) (deeds_of p) r → Answers w p c r
unfolding turn
answers_by w p c a r e h = go c (subst (λ (o : Option What). MadeOf w (deeds_of p) o r) e h)
  where
    go : (c : Command) → MadeOf w (deeds_of p) (meant (shown_names p) c) r → Answers w p c r
    go (Insert place sign) k = k
    go (Strike place) k = k
    go (Write key word) k = unfold turn in k
    go (Add key amount) k = unfold turn in k
