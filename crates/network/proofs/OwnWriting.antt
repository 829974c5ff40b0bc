-- A letter that the machine writes fits, whatever stands in its memory, and writing it leaves the memory as it was.
use Rattle.std.proofs.Common.{◌≡◌, ℕ, ◌<◌, ◌≤◌, true, ltb, leb, List, [], ◌∷◌, length, get_or, refl, ap, ◌∙◌, arith, length-take}
use Rattle.std.proofs.lemmas.Bool.{le-leb, and_from}
use Rattle.ops.specs.Doc.{every}
use Rattle.ops.specs.Version.{newer_than}
use Rattle.ops.specs.Log.{ops_of}
use Rattle.messages.specs.Letter.{most_records, heard, news, versions, letter_of, letter_for}
use Rattle.messages.proofs.RoundTrip.{length-letter, all_bytes-letter}
use Rattle.desks.specs.Run.{letter_to, sends, ran, a_letter, runs_on}
use Rattle.desks.specs.Machine.{me, says, does}
use Rattle.desks.specs.Entry.{own}
use Rattle.desks.proofs.Refusals.{letter_well}
use Rattle.desks.proofs.Telling.{accepts}
use Rattle.network.proofs.OwnRep.{idle_same, nothing_left}
use Rattle.network.proofs.OwnRuns.{own_sends}

pub letter-fits : (m : List ℕ) (from for : ℕ) → from < 32 → for < 32 → a_letter (letter_for m from for) ≡ true
unfolding letter_for news
letter-fits m from for hf ht =
    let bs : List ℕ = letter_of from for (versions m) (news m for) in
    let few : length (news m for) ≤ most_records = let e = length-take most_records (newer_than (heard m for) (ops_of m)) in omega arith in
    let l = length-letter from for (versions m) (news m for) in
    and_from (leb (length bs) 4096) (every (λ b. ltb b 256) bs) (le-leb (length bs) 4096 (omega arith)) (all_bytes-letter from for (versions m) (news m for) hf ht few)

pub writes-letter : (m : List ℕ) (a : ℕ) → 0 < get_or m 0 0 → get_or m 1 0 ≡ 0 → (a < 32) × (a ≡ me m → ⊥) → runs_on 3 own m (letter_to a) ≡ ran m [] (letter_for m (me m) a ∷ []) 0
unfolding does
writes-letter m a o still p =
    let bs : List ℕ = letter_for m (me m) a in
    own_sends m m m bs (letter_to a) (letter-fits m (me m) a (omega arith) p.0)
    (accepts m (letter_to a) (letter_well m a (me m) o refl p) ∙ ap (λ l. says l (sends bs)) (idle_same m still)) (nothing_left m o still)
