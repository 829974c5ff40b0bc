-- Summaries add up field by field; a sum that has no room stays at the highest number.
use Rattle.std.specs.Prelude.{ℕ, ◌+◌, ◌-◌, ◌^◌, min}
use Rattle.plans.specs.declared.summary.Summary.{Summary}

abbrev pub sum : ℕ → ℕ → ℕ
sum a b = min (a + b) (2 ^ 64 - 1)

abbrev pub nothing : Summary
nothing = record {
  days = 0;
  events = 0;
  deeds = 0;
  refused = 0;
  letters_made = 0;
  letters_come = 0;
  letters_lost = 0;
  letters_doubled = 0;
  letter_bytes = 0;
  meetings = 0;
  meeting_bytes = 0;
  compared = 0;
  differences = 0;
}

abbrev pub both : Summary → Summary → Summary
both a b = record {
  days = sum a.days b.days;
  events = sum a.events b.events;
  deeds = sum a.deeds b.deeds;
  refused = sum a.refused b.refused;
  letters_made = sum a.letters_made b.letters_made;
  letters_come = sum a.letters_come b.letters_come;
  letters_lost = sum a.letters_lost b.letters_lost;
  letters_doubled = sum a.letters_doubled b.letters_doubled;
  letter_bytes = sum a.letter_bytes b.letter_bytes;
  meetings = sum a.meetings b.meetings;
  meeting_bytes = sum a.meeting_bytes b.meeting_bytes;
  compared = sum a.compared b.compared;
  differences = sum a.differences b.differences;
}
