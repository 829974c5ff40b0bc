-- The calls by their numbers, and the sizes of what is lent to them.
use Rattle.std.specs.Prelude.{◌≡◌, ℕ, ◌≤◌, Bool, ◌&&◌, List, length, ◌==◌, nat_le, Result, MatchResult}
use Rattle.ops.specs.Layout.{memory_size}
use Rattle.desks.specs.declared.call.Call.{Call}
use Rattle.desks.specs.declared.call.Call.TheVariants.{Open, Insert, Strike, Write, Add, ShowText, ShowKey, Send, Read, GoOn}
use Rattle.desks.specs.declared.refusal.Refusal.{Refusal}
use Rattle.desks.specs.declared.refusal.Refusal.TheVariants.{Unfit}

abbrev pub call_number : Call → ℕ
call_number Open = 0
call_number Insert = 1
call_number Strike = 2
call_number Write = 3
call_number Add = 4
call_number ShowText = 5
call_number ShowKey = 6
call_number Send = 7
call_number Read = 8
call_number GoOn = 9

abbrev pub ReadsCall : ℕ → Result Call Refusal → Type 0
ReadsCall n r = MatchResult r (λ call. call_number call ≡ n) (λ refusal. (10 ≤ n) × (refusal ≡ Unfit))

abbrev pub sizes_fit : (memory : List ℕ) (letter row out : List ℕ) → Bool
sizes_fit memory letter row out = (length memory == memory_size) && (nat_le (length letter) 4096 && (nat_le 8192 (length row) && nat_le 4096 (length out)))
