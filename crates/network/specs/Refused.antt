-- Which commands are refused, with which reply, and that a refusal shows nothing and leaves the log as it was.
use Rattle.std.specs.Prelude.{◌≡◌, ℕ, List, [], length, ◌≢◌, nat_le, nat_lt}
use Rattle.ops.specs.Doc.{pick, Op, text, Command, insert, strike, write_under, add_to, show_text, show_key, turn, made_by}

-- 7 where the desk has made all the operations that it may
abbrev pub full : ℕ → List Op → ℕ
full w ops = pick (nat_le 256 (made_by w ops)) 7 0

-- 4 where there is no such place; 0 is no refusal
unfoldable pub refusal : ℕ → List Op → Command → ℕ
refusal w ops (insert i c) = pick (nat_lt (length (text ops)) i) 4 (full w ops)
refusal w ops (strike i) = pick (nat_le (length (text ops)) i) 4 (full w ops)
refusal w ops (write_under k v) = full w ops
refusal w ops (add_to k v) = full w ops
refusal w ops show_text = 0
refusal w ops (show_key k) = 0

unfoldable pub Refused : Type 0
Refused =
    (w : ℕ) (ops : List Op) (c : Command) →
    ((turn w ops c).reply ≡ refusal w ops c) × ((refusal w ops c ≢ 0) → ((turn w ops c).shows ≡ []) × ((turn w ops c).ops ≡ ops))
