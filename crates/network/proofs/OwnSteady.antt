-- The machine is steady: its memory never grows, nor do its numbers, whatever it is told and whatever stood there.
use Rattle.std.proofs.Common.{◌≡◌, ℕ, zero, suc, ◌<◌, Bool, true, false, ◌&&◌, eqb, ltb, List, [], ◌∷◌, length, get_or, set, replicate, refl, ◌∙◌, arith, length-set}
use Rattle.std.proofs.lemmas.Bool.{and_parts, ltb-true, eqb-true}
use Rattle.ops.specs.Doc.{pick, every, Kind, under, added, Command, insert, strike, write_under, add_to, show_text, show_key, count_at}
use Rattle.ops.specs.Layout.{made_cell, key_cell, memory_size, low}
use Rattle.ops.specs.Log.{kept, ops_of, appended, highest_up_to}
use Rattle.ops.proofs.Stores.{fits, every_set}
use Rattle.messages.specs.Records.{SmallKind}
use Rattle.messages.specs.Letter.{letter_for, received}
use Rattle.desks.specs.Run.{Event, opens, said, letter_to, hears, next, Act, shows, sends, done, refused, Step, Steady, all_small}
use Rattle.desks.specs.Machine.{is_open, me, is_small, has_room, refusal_said, refusal, says, idle, deed, does_said, goes_on, does, step_own, blank}
use Rattle.desks.specs.Entry.{own}
use Rattle.desks.proofs.Sizes.{own-length}
use Rattle.ops.proofs.Frames.{append-length}
use Rattle.network.proofs.Fitting.{every-appended, received-length, every-received}

-- a step keeps the length and the size of the numbers
abbrev Sound : List ℕ → Step → Type 0
Sound m s = (length s.memory ≡ length m) × (every fits m ≡ true → every fits s.memory ≡ true)

sound_same : (m : List ℕ) (a : Act) → Sound m (says m a)
sound_same m a = (refl, λ h. h)

sound_idle : (m : List ℕ) (a : Act) → Sound m (says (idle m) a)
sound_idle m a = (length-set m 1 0, λ h. every_set m 1 0 h (omega arith))

sound_either : (m : List ℕ) (b : Bool) (s t : Step) → Sound m s → Sound m t → Sound m (pick b s t)
sound_either m true s t f g = f
sound_either m false s t f g = g

-- an accepted deed's number and values are small
room_small : (m : List ℕ) (d : ℕ) → has_room m d ≡ true → suc (highest_up_to 32 m) < 4294967296
unfolding has_room
room_small m d t =
    let p = and_parts (ltb (low m (made_cell d)) 256) (ltb (kept m) 8192 && is_small (suc (highest_up_to 32 m))) t in
    ltb-true _ _ (and_parts (ltb (kept m) 8192) (is_small (suc (highest_up_to 32 m))) p.1).1

sound_deed : (m : List ℕ) (k : Kind) → SmallKind k → has_room m (me m) ≡ true → Sound m (says (appended (idle m) (deed m (me m) k)) done)
sound_deed m k small t = (
  append-length (idle m) (deed m (me m) k) ∙ length-set m 1 0,
  λ h. every-appended (idle m) (deed m (me m) k) (every_set m 1 0 h (omega arith)) (room_small m (me m) t, omega arith, small),
)

-- what a command that isn't refused has passed
passed : (b t : Bool) → ◌≡◌ {A = ℕ} (pick b (pick t 0 7) 1) 0 → (b ≡ true) × (t ≡ true)
passed true true e = (refl, refl)
passed true false e = absurd (omega arith)
passed false t e = absurd (omega arith)

opened_passed : (o : Bool) (k : ℕ) → pick o k 3 ≡ 0 → k ≡ 0
opened_passed true k e = e
opened_passed false k e = absurd (omega arith)

sound_said : (m : List ℕ) (c : Command) → refusal_said m c ≡ 0 → Sound m (does_said m c)
unfolding refusal_said does_said
sound_said m (insert i c) e = sound_same m done
sound_said m (strike i) e = sound_same m done
sound_said m (write_under k v) e =
    let p = passed (is_small k && is_small v) (has_room m (me m)) e in
    let q = and_parts (is_small k) (is_small v) p.0 in
    sound_deed m (under k v) (ltb-true _ _ q.0, ltb-true _ _ q.1) p.1
sound_said m (add_to k v) e =
    let p = passed (is_small k && is_small v) (has_room m (me m)) e in
    let q = and_parts (is_small k) (is_small v) p.0 in
    sound_deed m (added k v) (ltb-true _ _ q.0, ltb-true _ _ q.1) p.1
sound_said m show_text e = sound_same m done
sound_said m (show_key k) e =
    let s = small_key (is_small k) refl e in
    (length-set (set m 1 1) 2 k ∙ length-set m 1 1, λ h. every_set (set m 1 1) 2 k (every_set m 1 1 h (omega arith)) (omega arith))
  where
    small_key : (b : Bool) → is_small k ≡ b → ◌≡◌ {A = ℕ} (pick b 0 1) 0 → k < 4294967296
    small_key true p z = ltb-true k 4294967296 p
    small_key false p z = absurd (omega arith)

sound_does : (m : List ℕ) (ev : Event) → refusal m ev ≡ 0 → Sound m (does m ev)
unfolding refusal does goes_on
sound_does m (opens a) e =
    let s = near (ltb a 32) refl (is_open m) e in
    (length-set (idle m) 0 (suc a) ∙ length-set m 1 0, λ h. every_set (idle m) 0 (suc a) (every_set m 1 0 h (omega arith)) (omega arith))
  where
    near : (b : Bool) → ltb a 32 ≡ b → (o : Bool) → ◌≡◌ {A = ℕ} (pick b (pick o 3 0) 1) 0 → a < 32
    near true p o z = ltb-true a 32 p
    near false p o z = absurd (omega arith)
sound_does m (said c) e = sound_said m c (opened_passed (is_open m) (refusal_said m c) e)
sound_does m (letter_to a) e = sound_idle m (sends (letter_for m (me m) a))
sound_does m (hears a bs) e =
    (length-set (received a bs m) 1 0 ∙ received-length a bs m, λ h. every_set (received a bs m) 1 0 (every-received a bs m h) (omega arith))
sound_does m next e =
    sound_either m (eqb (get_or m 1 0) 1) (says (idle m) (shows (count_at (ops_of m) (low m key_cell) ∷ []))) (says m done) (sound_idle m (shows (count_at (ops_of m) (low m key_cell) ∷ []))) (sound_same m done)

sound_step : (m : List ℕ) (ev : Event) → Sound m (step_own m ev)
unfolding step_own
sound_step m ev = go (eqb (refusal m ev) 0) refl
  where
    go : (b : Bool) → eqb (refusal m ev) 0 ≡ b → Sound m (pick b (does m ev) (says m (refused (refusal m ev))))
    go true e = sound_does m ev (eqb-true _ _ e)
    go false e = sound_same m (refused (refusal m ev))

zeros : (n : ℕ) → every (λ x. eqb x 0) (replicate n 0) ≡ true
unfolding every
zeros zero = refl
zeros (suc n) = zeros n

pub own_steady : Steady own
unfolding Steady own all_small blank
own_steady = (let e = own-length in omega arith, zeros memory_size, λ m ev. ((sound_step m ev).0, (sound_step m ev).1))
