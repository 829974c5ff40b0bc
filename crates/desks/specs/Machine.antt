-- One step of the machine, on its memory: when it refuses, and with which number; and what it does when it doesn't.
use Rattle.std.specs.Prelude.{ℕ, suc, ◌-◌, ◌%◌, Bool, not, ◌&&◌, List, [], ◌∷◌, replicate, ◌==◌, nat_lt, slice_index, slice_set}
use Rattle.ops.specs.Doc as doc
use Rattle.ops.specs.Doc.{pick, id, under, added, Command, insert, strike, write_under, add_to, show_text, show_key, word_at, count_at}
use Rattle.ops.specs.Layout.{desk_cell, pending_cell, key_cell, made_cell, memory_size, low}
use Rattle.ops.specs.Log.{kept, ops_of, appended, highest_up_to}
use Rattle.messages.specs.Letter.{letter_for, is_letter, received}
use Rattle.desks.specs.Run.{Event, opens, said, letter_to, hears, next, Act, shows, sends, done, refused, Step}

-- the numbers of refusals
abbrev pub malformed : ℕ
malformed = 1

abbrev pub unknown : ℕ
unknown = 2

abbrev pub closed : ℕ
closed = 3

abbrev pub no_room : ℕ
no_room = 7

-- whether the desk is open, and which it is
abbrev pub is_open : List ℕ → Bool
is_open m = nat_lt 0 (slice_index m desk_cell)

abbrev pub me : List ℕ → ℕ
me m = (slice_index m desk_cell - 1) % 32

-- another desk
abbrev pub is_peer : List ℕ → ℕ → Bool
is_peer m a = nat_lt a 32 && not (a == me m)

-- a number of 32 bits
abbrev pub is_small : ℕ → Bool
is_small a = nat_lt a 4294967296

-- a desk has done fewer than 256 things. (In a memory that no run of the machine leads to, the log could be full or its numbers used up: then there's no room either.)
unfoldable pub has_room : List ℕ → ℕ → Bool
has_room m d = nat_lt (low m (made_cell d)) 256 && (nat_lt (kept m) 8192 && is_small (suc (highest_up_to 32 m)))

-- WHEN IT REFUSES, and with which number; 0: it doesn't
unfoldable pub refusal_said : List ℕ → Command → ℕ
refusal_said m (insert i c) = unknown
refusal_said m (strike i) = unknown
refusal_said m (write_under k v) = pick (is_small k && is_small v) (pick (has_room m (me m)) 0 no_room) malformed
refusal_said m (add_to k v) = pick (is_small k && is_small v) (pick (has_room m (me m)) 0 no_room) malformed
refusal_said m show_text = unknown
refusal_said m (show_key k) = pick (is_small k) 0 malformed

unfoldable pub refusal : List ℕ → Event → ℕ
refusal m (opens a) = pick (nat_lt a 32) (pick (is_open m) closed 0) malformed
refusal m (said c) = pick (is_open m) (refusal_said m c) closed
refusal m (letter_to a) = pick (is_open m) (pick (is_peer m a) 0 malformed) closed
refusal m (hears a bs) = pick (is_open m) (pick (is_peer m a && is_letter a (me m) bs) 0 malformed) closed
refusal m next = pick (is_open m) 0 closed

-- WHAT IT DOES when it doesn't refuse
abbrev pub says : List ℕ → Act → Step
says m a = record { memory = m; act = a }

-- whatever it is told anew, it forgets what was still to be shown
abbrev pub idle : List ℕ → List ℕ
idle m = slice_set m pending_cell 0

-- an operation of a desk's, under a new id
abbrev pub deed : List ℕ → ℕ → doc.Kind → doc.Op
deed m d k = record { name = id (suc (highest_up_to 32 m)) d; kind = k }

-- a key's word is shown at once, and its tally when the desk is told to go on
unfoldable pub does_said : List ℕ → Command → Step
does_said m (insert i c) = says m done
does_said m (strike i) = says m done
does_said m (write_under k v) = says (appended (idle m) (deed m (me m) (under k v))) done
does_said m (add_to k v) = says (appended (idle m) (deed m (me m) (added k v))) done
does_said m show_text = says m done
does_said m (show_key k) = says (slice_set (slice_set m pending_cell 1) key_cell k) (shows (word_at (ops_of m) k))

unfoldable pub goes_on : List ℕ → Step
goes_on m = pick (slice_index m pending_cell == 1) (says (idle m) (shows (count_at (ops_of m) (low m key_cell) ∷ []))) (says m done)

unfoldable pub does : List ℕ → Event → Step
does m (opens a) = says (slice_set (idle m) desk_cell (suc a)) done
does m (said c) = does_said m c
does m (letter_to a) = says (idle m) (sends (letter_for m (me m) a))
does m (hears a bs) = says (idle (received a bs m)) done
does m next = goes_on m

unfoldable pub step_own : List ℕ → Event → Step
step_own m ev = pick (refusal m ev == 0) (does m ev) (says m (refused (refusal m ev)))

unfoldable pub blank : List ℕ
blank = replicate memory_size 0
