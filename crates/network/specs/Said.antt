-- What commands do to keys, what they show, and what they leave as it was, at a desk that may still make operations.
use Rattle.std.specs.Prelude.{◌≡◌, ℕ, ◌+◌, ◌<◌, true, List, [], ◌∷◌, ◌≢◌}
use Rattle.ops.specs.Doc.{Op, text, word_at, count_at, Command, insert, strike, write_under, add_to, show_text, show_key, turn, yes_with, made_by, hangs}

-- the log that a command leaves
abbrev pub after : ℕ → List Op → Command → List Op
after w ops c = (turn w ops c).ops

-- What is written under a key stands there, and what is added to it counts. Other keys stay as they were, and so does the text. To insert or to strike changes no
-- key. What is shown is the text, or the key's word and count, and to show changes nothing.
unfoldable pub Said : Type 0
Said =
    (w : ℕ) (ops : List Op) (k v : ℕ) → hangs ops ≡ true → made_by w ops < 256 →
    (word_at (after w ops (write_under k v)) k ≡ v ∷ []) × (count_at (after w ops (add_to k v)) k ≡ count_at ops k + v)
    × ((j : ℕ) → (j ≢ k) → (word_at (after w ops (write_under k v)) j ≡ word_at ops j) × (count_at (after w ops (add_to k v)) j ≡ count_at ops j))
    × ((j : ℕ) → (count_at (after w ops (write_under k v)) j ≡ count_at ops j) × (word_at (after w ops (add_to k v)) j ≡ word_at ops j))
    × (text (after w ops (write_under k v)) ≡ text ops) × (text (after w ops (add_to k v)) ≡ text ops)
    × ((i c j : ℕ) → (word_at (after w ops (insert i c)) j ≡ word_at ops j) × (count_at (after w ops (insert i c)) j ≡ count_at ops j) × (word_at (after w ops (strike i)) j ≡ word_at ops j) × (count_at (after w ops (strike i)) j ≡ count_at ops j))
    × (turn w ops show_text ≡ yes_with (text ops ∷ []) ops)
    × (turn w ops (show_key k) ≡ yes_with (word_at ops k ∷ (count_at ops k ∷ []) ∷ []) ops)
