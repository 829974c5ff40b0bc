-- What a line says, from its first word and what follows it.
use Rattle.std.proofs.Common.{◌≡◌, ℕ, false, eqb, List, [], ◌∷◌, length, get_or, codes, sym, refl, ap, ◌∙◌}
use Rattle.std.specs.Str.{bytes_eq}
use Rattle.std.proofs.lemmas.Bool.{cond-false, ne_eqb, false_from_ne_true}
use Rattle.std.proofs.lemmas.Slice.Eq.{bytes_eq-Decides}
use Rattle.commands.specs.Words.{past_spaces, up_to_spaces, first_of, rest_of}
use Rattle.sessions.specs.Session.{at_desk, words_note, text_notes, session_says}

abbrev pub Unlike : List ℕ → List ℕ → Type 0
Unlike w v = w ≡ v → ⊥

other : (w v : List ℕ) → Unlike w v → bytes_eq w v ≡ false
other w v h = false_from_ne_true (bytes_eq w v) (λ e. h ((bytes_eq-Decides w v).0 e))

pub not_a_word : (w text : List ℕ) → Unlike w (codes "session") → Unlike w (codes "meet") → Unlike w (codes "expect") → at_desk w text ≡ words_note w text
not_a_word w text s m e = sym (cond-false _ _ _ (other w _ s) ∙ cond-false _ _ _ (other w _ m) ∙ cond-false _ _ _ (other w _ e))

pub some_words : (text : List ℕ) → (length text ≡ 0 → ⊥) → (get_or text 0 0 ≡ 35 → ⊥) → words_note (first_of text) (rest_of text) ≡ text_notes text
some_words [] some plain = absurd (some refl)
some_words (b ∷ bs) some plain = sym (cond-false (eqb b 35) _ _ (ne_eqb b 35 plain))

pub line_notes : (line front text word rest : List ℕ) → front ≡ up_to_spaces line → text ≡ past_spaces front → (length text ≡ 0 → ⊥) → (get_or text 0 0 ≡ 35 → ⊥) → word ≡ first_of text → rest ≡ rest_of text → words_note word rest ≡ session_says line
line_notes line front text word rest f p some plain w r =
    ap (λ (x : List ℕ). words_note x rest) w ∙ ap (λ (x : List ℕ). words_note (first_of text) x) r ∙ some_words text some plain ∙ ap text_notes (p ∙ ap past_spaces f)
