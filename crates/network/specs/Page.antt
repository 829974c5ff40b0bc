-- A page worked through by three desks: what each of them reads after each step.
use Rattle.std.specs.Prelude.{◌≡◌, ℕ, not, List, [], ◌∷◌, ◌++◌}
use Rattle.ops.specs.Doc.{those, Op, has_op, text, turn, insert, strike, write_under, add_to, show_key}
use Rattle.network.specs.Said.{after}

-- the letters, as characters' numbers
abbrev pub f : ℕ
f = 102

abbrev pub g : ℕ
g = 103

abbrev pub i : ℕ
i = 105

abbrev pub o : ℕ
o = 111

abbrev pub x : ℕ
x = 120

abbrev pub ! : ℕ
! = 33

-- a log once its desk has heard of all that is in another: what it didn't have goes to its end
abbrev pub hears : List Op → List Op → List Op
hears mine theirs = mine ++ those (λ op. not (has_op mine op)) theirs

-- desk 0 has put f and g, and the others have heard of it
abbrev pub start : List Op
start = after 0 (after 0 [] (insert 0 f)) (insert 1 g)

-- desk 0 inserts o where desk 1 inserts i
abbrev pub o_at_0 : List Op
o_at_0 = after 0 start (insert 1 o)

abbrev pub i_at_1 : List Op
i_at_1 = after 1 start (insert 1 i)

-- desk 2 strikes f, and then inserts ! behind g
abbrev pub !_at_2 : List Op
!_at_2 = after 2 (after 2 start (strike 0)) (insert 1 !)

-- desk 1 hears of desk 0's
abbrev pub o_heard_at_1 : List Op
o_heard_at_1 = hears i_at_1 o_at_0

-- all hear of all, each in an order of its own
abbrev pub all_at_0 : List Op
all_at_0 = hears (hears o_at_0 o_heard_at_1) !_at_2

abbrev pub all_at_1 : List Op
all_at_1 = hears o_heard_at_1 !_at_2

abbrev pub all_at_2 : List Op
all_at_2 = hears !_at_2 o_heard_at_1

-- desk 1 inserts x
abbrev pub x_at_1 : List Op
x_at_1 = after 1 all_at_1 (insert 2 x)

-- desks 0 and 2 write under key 1, and add to it
abbrev pub key_at_0 : List Op
key_at_0 = after 0 (after 0 all_at_0 (write_under 1 7)) (add_to 1 3)

abbrev pub key_at_2 : List Op
key_at_2 = after 2 (after 2 all_at_2 (write_under 1 9)) (add_to 1 4)

-- desk 0 hears of desk 2's
abbrev pub keys_at_0 : List Op
keys_at_0 = hears key_at_0 key_at_2

-- what desks 0, 1 and 2 read
abbrev pub Read : List Op → List Op → List Op → List ℕ → List ℕ → List ℕ → Type 0
Read log-0 log-1 log-2 at-0 at_1 at-2 = (text log-0 ≡ at-0) × (text log-1 ≡ at_1) × (text log-2 ≡ at-2)

-- Of two letters put at the same place, i stands before o, since of two ids with the same number the one of desk 1 is the newer.
abbrev pub PageReads : Type 0
PageReads =
    Read start start start (f ∷ g ∷ []) (f ∷ g ∷ []) (f ∷ g ∷ [])
    × Read o_at_0 i_at_1 start (f ∷ o ∷ g ∷ []) (f ∷ i ∷ g ∷ []) (f ∷ g ∷ [])
    × Read o_at_0 i_at_1 !_at_2 (f ∷ o ∷ g ∷ []) (f ∷ i ∷ g ∷ []) (g ∷ ! ∷ [])
    × Read o_at_0 o_heard_at_1 !_at_2 (f ∷ o ∷ g ∷ []) (f ∷ i ∷ o ∷ g ∷ []) (g ∷ ! ∷ [])
    × Read all_at_0 o_heard_at_1 !_at_2 (i ∷ o ∷ g ∷ ! ∷ []) (f ∷ i ∷ o ∷ g ∷ []) (g ∷ ! ∷ [])
    × Read all_at_0 all_at_1 all_at_2 (i ∷ o ∷ g ∷ ! ∷ []) (i ∷ o ∷ g ∷ ! ∷ []) (i ∷ o ∷ g ∷ ! ∷ [])
    × Read all_at_0 x_at_1 all_at_2 (i ∷ o ∷ g ∷ ! ∷ []) (i ∷ o ∷ x ∷ g ∷ ! ∷ []) (i ∷ o ∷ g ∷ ! ∷ [])
    × ((turn 0 keys_at_0 (show_key 1)).shows ≡ (9 ∷ []) ∷ (7 ∷ []) ∷ [])
    × ((turn 0 keys_at_0 (strike 9)).reply ≡ 4)
