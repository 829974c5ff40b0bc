-- Whether records are well formed, test by test and record by record.
use Rattle.std.proofs.Common.{◌≡◌, ℕ, zero, suc, Bool, ◌&&◌, ◌+◌, ◌*◌, ◌<◌, ◌≤◌, true, false, ltb, List, get_or, sym, refl, ap, ◌∙◌, arith, w8, Fits}
use Rattle.std.proofs.lemmas.Bool.{lt-ltb, le-ltb}
use Rattle.std.specs.Prelude.{Result}
use Rattle.std.specs.Result.{is_ok}
use Rattle.ops.specs.declared.types.Tag.{Tag}
use Rattle.ops.specs.declared.types.UnknownTag.{UnknownTag}
use Rattle.ops.specs.Values.{ReadsTag}
use Rattle.ops.proofs.Slots.{tag_known}
use Rattle.std.specs.List.{list_all, range_with_len}
use Rattle.messages.specs.Bytes.{byte}
use Rattle.messages.specs.Records.{is_record, are_records}

-- what the code reads are bytes
pub as_byte : (bs : List ℕ) → ((i : ℕ) → Fits w8 (get_or bs i 0)) → (i : ℕ) → get_or bs i 0 ≡ byte bs i
as_byte bs typed i = omega (arith, typed i)

module _ (bs : List ℕ) (p : ℕ) (typed : (i : ℕ) → Fits w8 (get_or bs i 0)) where
  pub far_desk : 32 ≤ get_or bs (p + 4) 0 → false ≡ is_record bs p
  unfolding is_record
  far_desk h = let e = as_byte bs typed (p + 4) in rw (le-ltb (byte bs (p + 4)) 32 (omega arith)) refl

  pub other_tag : get_or bs (p + 4) 0 < 32 → ltb (get_or bs (p + 5) 0) 4 ≡ false → false ≡ is_record bs p
  unfolding is_record
  other_tag h t = let e = as_byte bs typed (p + 4) in rw (lt-ltb (byte bs (p + 4)) 32 (omega arith), ← (as_byte bs typed (p + 5)), t) refl

  pub near_desk : get_or bs (p + 4) 0 < 32 → ltb (get_or bs (p + 5) 0) 4 ≡ true → ltb (get_or bs (p + 6) 0) 32 ≡ is_record bs p
  unfolding is_record
  near_desk h t =
      let e = as_byte bs typed (p + 4) in
      rw (lt-ltb (byte bs (p + 4)) 32 (omega arith), ← (as_byte bs typed (p + 5)), t, ← (as_byte bs typed (p + 6))) refl

-- whether a tag is read, as the code tests it
pub tag_tested : (n m : ℕ) (r : Result Tag UnknownTag) (v o t : Bool) → n ≡ m → ReadsTag n r → o ≡ is_ok r → v ≡ o → v ≡ t → ltb m 4 ≡ t
tag_tested n m r v o t e h f g k = ap (λ i. ltb i 4) (sym e) ∙ sym (tag_known n r h) ∙ sym f ∙ sym g ∙ k

-- all records, as a chain over their places tests them
and_assoc : (a b c : Bool) → a && (b && c) ≡ (a && b) && c
and_assoc true b c = refl
and_assoc false b c = refl

and_true : (a : Bool) → a && true ≡ a
and_true true = refl
and_true false = refl

pub all_more : (f : ℕ → Bool) (a n : ℕ) → list_all f (range_with_len a (suc n)) ≡ list_all f (range_with_len a n) && f (a + n)
all_more f a zero = and_true (f a) ∙ ap f (omega arith)
all_more f a (suc n) =
    let e : a + 1 + n ≡ a + suc n = omega arith in
    ap (λ b. f a && b) (all_more f (a + 1) n) ∙ rw e (and_assoc (f a) (list_all f (range_with_len (a + 1) n)) (f (a + suc n)))

pub all_records : (bs : List ℕ) (n : ℕ) → list_all (λ k. is_record bs (132 + k * 16)) (range_with_len 0 n) ≡ are_records n bs
unfolding are_records
all_records bs zero = refl
all_records bs (suc n) =
    let e : 0 + n ≡ n = omega arith in
    all_more (λ k. is_record bs (132 + k * 16)) 0 n ∙ rw (e, all_records bs n) refl
