-- The only character of a word, and a sign that is given by its number.
use Rattle.std.proofs.Common.{◌≡◌, ℕ, Bool, true, false, not, eqb, List, [], ◌∷◌, ◌++◌, length, Some, None, IsUtf8, Option, sym, refl, ap, ◌∙◌, arith}
use lib.Utf8.{encode}
use Rattle.std.specs.Str.{chars}
use Rattle.std.specs.Option.{is_some}
use Rattle.std.specs.Bool.{then_some}
use Rattle.std.specs.List.{slice_get}
use Rattle.std.proofs.lemmas.Bool.{cond-false, ne_eqb, false≢true}
use Rattle.std.proofs.lemmas.Str.{chars-nil, chars_past_char}
use Rattle.commands.specs.Numbers.{number_of, coded, only, or_else, sign_of}

none_left : (bs : List ℕ) → length bs ≡ 0 → chars bs ≡ []
none_left [] h = chars-nil
none_left (b ∷ bs) h = absurd (omega arith)

pub only_none : (bs rest : List ℕ) → rest ≡ bs → length rest ≡ 0 → None ≡ only (chars bs)
unfolding only
only_none bs rest e h = ap only (sym (none_left rest h) ∙ ap chars e)

alone : (c : ℕ) (cs : List ℕ) (b : Bool) → is_some (slice_get cs 0) ≡ not b → then_some b c ≡ only (c ∷ cs)
unfolding only
alone c [] true h = refl
alone c (d ∷ cs) false h = refl
alone c [] false h = absurd (false≢true h)
alone c (d ∷ cs) true h = absurd (false≢true (sym h))

pub only_first : (bs all rest : List ℕ) (c : ℕ) (next : Option ℕ) (b : Bool) → IsUtf8 bs → all ≡ bs → all ≡ encode c ++ rest → next ≡ slice_get (chars rest) 0 → is_some next ≡ not b → then_some b c ≡ only (chars bs)
only_first bs all rest c next b u same e n h = alone c (chars rest) b (ap is_some (sym n) ∙ h) ∙ ap only (sym (chars_past_char bs rest c u (sym same ∙ e)))

pub sign_char : (bs : List ℕ) (c : ℕ) → Some c ≡ only (chars bs) → Some c ≡ sign_of bs
unfolding sign_of or_else
sign_char bs c e = ap (λ (o : Option ℕ). or_else o (coded bs)) e

sign_coded : (bs : List ℕ) → None ≡ only (chars bs) → coded bs ≡ sign_of bs
unfolding sign_of or_else
sign_coded bs e = ap (λ (o : Option ℕ). or_else o (coded bs)) e

not_coded : (bs : List ℕ) → ((rest : List ℕ) → bs ≡ 35 ∷ rest → ⊥) → None ≡ coded bs
unfolding coded
not_coded [] h = refl
not_coded (b ∷ bs) h = sym (cond-false (eqb b 35) (number_of bs) None (ne_eqb b 35 (λ e. h bs (ap (λ (x : ℕ). x ∷ bs) e))))

is_coded : (bs rest : List ℕ) → bs ≡ 35 ∷ rest → number_of rest ≡ coded bs
unfolding coded
is_coded bs rest e = ap coded (sym e)

pub no_sign : (bs : List ℕ) → None ≡ only (chars bs) → ((rest : List ℕ) → bs ≡ 35 ∷ rest → ⊥) → None ≡ sign_of bs
no_sign bs e h = not_coded bs h ∙ sign_coded bs e

pub sign_number : (bs rest : List ℕ) → None ≡ only (chars bs) → bs ≡ 35 ∷ rest → number_of rest ≡ sign_of bs
sign_number bs rest e h = is_coded bs rest h ∙ sign_coded bs e
