-- Whether bytes are a letter, test by test.
use Rattle.std.specs.Prelude.{Option, Some, None, is_some, IfSome}
use Rattle.std.specs.Option.{MatchOption}
use Rattle.std.specs.Bool.{then_some}
use Rattle.std.proofs.Common.{◌≡◌, ℕ, ◌+◌, ◌-◌, ◌*◌, Bool, ◌&&◌, true, false, eqb, List, length, take, refl, ap, ◌∙◌}
use Rattle.messages.specs.Bytes.{byte, number_at}
use Rattle.checksums.specs.Crc.{crc32_of}
use Rattle.messages.specs.Records.{are_records}
use Rattle.messages.specs.Letter.{is_sealed, is_letter}
use Rattle.messages.specs.Parsed.{is_between, is_whole}
use Rattle.messages.specs.declared.parsed.Letter.{Letter}

pub sealed_is : (bs : List ℕ) (n a b : ℕ) → n ≡ length bs - 4 → a ≡ number_at bs n → b ≡ crc32_of (take n bs) → eqb a b ≡ is_sealed bs
unfolding is_sealed
sealed_is bs n a b e f g =
    ap (λ (x : ℕ). eqb x b) f ∙ ap (λ (y : ℕ). eqb (number_at bs n) y) g
    ∙ ap (λ (k : ℕ). eqb (number_at bs k) (crc32_of (take k bs))) e

some_if : (b : Bool) (l : Letter) → is_some (then_some b l) ≡ b
some_if true l = refl
some_if false l = refl

and_regroup : (a b c d : Bool) → (a && (b && c)) && d ≡ a && (b && (c && d))
and_regroup true true c d = refl
and_regroup true false c d = refl
and_regroup false b c d = refl

module _ (from for : ℕ) (bs : List ℕ) where
  pub between_is : (x y z : Bool) → x ≡ eqb (byte bs 0) 1 → y ≡ eqb (byte bs 1) from → z ≡ eqb (byte bs 2) for → x && (y && z) ≡ is_between from for bs
  unfolding is_between
  between_is x y z e f g = cc

  -- bytes that are as long as they say are kept as a letter if they are whole
  pub parsed_is : (framed kept : Option Letter) → is_some framed ≡ eqb (length bs) (136 + byte bs 3 * 16) → IfSome framed (λ l. l.bytes.now ≡ bs) →
      MatchOption framed (kept ≡ None) (λ l. (b : Bool) × (b ≡ is_whole from for l.bytes.now) × (kept ≡ then_some b l)) → is_some kept ≡ is_letter from for bs
  unfolding is_letter is_between
  parsed_is None kept t v h = rw h (rw (← t) refl)
  parsed_is (Some l) kept t v (b, e, k) =
      ap is_some k ∙ some_if b l ∙ e ∙ ap (is_whole from for) v ∙ and_regroup (eqb (byte bs 0) 1) (eqb (byte bs 1) from) (eqb (byte bs 2) for) (are_records (byte bs 3) bs && is_sealed bs)
      ∙ rw (← t) refl
