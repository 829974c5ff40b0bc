-- Showing a key: the word, then the tally, then nothing is left; a memory with nothing to show before is as it was but for the cell of the key.
use Rattle.std.proofs.Common.{◌≡◌, ℕ, ◌%◌, ◌<◌, List, [], ◌∷◌, length, get_or, set, ap, ◌∙◌, arith, length-set, get_or-set_other, get_or-set_same}
use Rattle.std.proofs.lemmas.List.{set-set, set_comm}
use Rattle.std.proofs.lemmas.Bool.{eq-eqb}
use Rattle.ops.specs.Doc.{pick, show_key, word_at, count_at}
use Rattle.ops.specs.Layout.{key_cell, low}
use Rattle.ops.specs.Log.{ops_of}
use Rattle.ops.proofs.Frames.{ops_of_same}
use Rattle.desks.specs.Run.{said, next, shows, done, ran, runs_on}
use Rattle.desks.specs.Machine.{says, idle, does_said, goes_on, does, step_own}
use Rattle.desks.specs.Entry.{own}
use Rattle.desks.proofs.Refusals.{key_small_shown, next_well}
use Rattle.desks.proofs.Telling.{accepts}
use Rattle.network.proofs.OwnRep.{idle_same, nothing_left}
use Rattle.network.proofs.OwnRuns.{own_shows_two}

module _ (m : List ℕ) (k : ℕ) (opened : 0 < get_or m 0 0) (long : 2 < length m) (small : k < 4294967296) where
  -- after the word; after the tally
  abbrev pub m₁ : List ℕ
  m₁ = set (set m 1 1) 2 k

  abbrev pub m₂ : List ℕ
  m₂ = idle m₁

  log₁ : ops_of m₁ ≡ ops_of m
  log₁ = ops_of_same m m₁ (same 3 (omega arith)) (λ i a. same i (omega arith))
    where
      same : (i : ℕ) → 2 < i → get_or m₁ i 0 ≡ get_or m i 0
      same i l = get_or-set_other (set m 1 1) 2 i k 0 (omega arith) ∙ get_or-set_other m 1 i 1 0 (omega arith)

  desk₁ : get_or m₁ 0 0 ≡ get_or m 0 0
  desk₁ = get_or-set_other (set m 1 1) 2 0 k 0 (omega arith) ∙ get_or-set_other m 1 0 1 0 (omega arith)

  pending₁ : get_or m₁ 1 0 ≡ 1
  pending₁ = get_or-set_other (set m 1 1) 2 1 k 0 (omega arith) ∙ get_or-set_same m 1 1 0 (omega arith)

  key₁ : low m₁ key_cell ≡ k
  key₁ = ap (λ n. n % 4294967296) (get_or-set_same (set m 1 1) 2 k 0 (let e = length-set m 1 1 in omega arith)) ∙ omega arith

  pub shows_word : step_own m (said (show_key k)) ≡ says m₁ (shows (word_at (ops_of m) k))
  unfolding does does_said
  shows_word = accepts m (said (show_key k)) (key_small_shown m k opened small)

  pub shows_tally : step_own m₁ next ≡ says m₂ (shows (count_at (ops_of m) k ∷ []))
  unfolding does goes_on
  shows_tally =
      let e = desk₁ in
      accepts m₁ next (next_well m₁ (omega arith))
      ∙ (λ j. pick (eq-eqb (get_or m₁ 1 0) 1 pending₁ j) (says m₂ (shows (count_at (log₁ j) (key₁ j) ∷ []))) (says m₁ done))

  -- nothing is left to show
  rests : step_own m₂ next ≡ says m₂ done
  rests =
      let e = get_or-set_other m₁ 1 0 0 0 (omega arith) ∙ desk₁ in
      nothing_left m₂ (omega arith) (get_or-set_same m₁ 1 0 0 (let f = length-set (set m 1 1) 2 k in let g = length-set m 1 1 in omega arith))

  pub shows_both : runs_on 3 own m (said (show_key k)) ≡ ran m₂ (word_at (ops_of m) k ∷ (count_at (ops_of m) k ∷ []) ∷ []) [] 0
  shows_both = own_shows_two m m₁ m₂ m₂ (word_at (ops_of m) k) (count_at (ops_of m) k ∷ []) (said (show_key k)) shows_word shows_tally rests

  back : get_or m 1 0 ≡ 0 → m₂ ≡ set m 2 k
  back still = set_comm (set m 1 1) 2 1 k 0 (λ z. omega arith) ∙ ap (λ l. set l 2 k) (set-set m 1 1 0 ∙ idle_same m still)

  pub shows_key : get_or m 1 0 ≡ 0 → runs_on 3 own m (said (show_key k)) ≡ ran (set m 2 k) (word_at (ops_of m) k ∷ (count_at (ops_of m) k ∷ []) ∷ []) [] 0
  shows_key still = shows_both ∙ ap (λ l. ran l (word_at (ops_of m) k ∷ (count_at (ops_of m) k ∷ []) ∷ []) [] 0) (back still)
