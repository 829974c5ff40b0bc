-- What is seen of an answer; and that what is seen under a key is the plain paper's for some deeds.
use Rattle.std.specs.Prelude.{◌≡◌, ℕ, List, Ok, Err, Result}
use Rattle.std.specs.Option.{option_to_list}
use Rattle.ops.specs.Doc as doc
use Rattle.ops.specs.Doc.{word_at, count_at}
use Rattle.desks.specs.Refusals.{number_of}
use Rattle.desks.specs.declared.refusal.Refusal.{Refusal}
use Rattle.simulator.specs.declared.room.Answer.{Answer}
use Rattle.simulator.specs.declared.room.Answer.TheVariants as answer
use Rattle.witnesses.specs.declared.sights.Sight.{Sight}
use Rattle.witnesses.specs.declared.sights.Sight.TheVariants.{Done, Met, Refused, Key, Knows, Count}

abbrev pub KeyOf : List doc.Op → ℕ → Sight → Type 0
KeyOf ops k Done = ⊥
KeyOf ops k Met = ⊥
KeyOf ops k (Refused n) = ⊥
KeyOf ops k (Key word tally) = (option_to_list word ≡ word_at ops k) × (tally ≡ count_at ops k)
KeyOf ops k (Knows of number) = ⊥
KeyOf ops k (Count n) = ⊥

abbrev pub answered : Answer → Sight
answered answer.Done = Done
answered (answer.Key k) = Key k.word k.tally
answered (answer.Met pairs bytes) = Met

abbrev pub seen : Result Answer Refusal → Sight
seen (Ok a) = answered a
seen (Err k) = Refused (number_of k)
