-- An append to a memory is one more operation at the end of the log that it keeps.
use Rattle.std.proofs.Common.{◌≡◌, ℕ, ◌+◌, ◌%◌, ◌<◌, ◌≤◌, eqb, ◌⊎◌, List, [], ◌∷◌, ◌++◌, length, sym, ap, ◌∙◌, subst, inl, inr, ⊎_elim, arith}
use Rattle.std.proofs.lemmas.Bool.{cases_eq}
use Rattle.ops.specs.Doc.{Op, made_by}
use Rattle.ops.specs.Version.{version}
use Rattle.ops.specs.Layout.{version_cell, made_cell, heard_cell, low}
use Rattle.ops.specs.Log.{kept, ops_of, with_op, appended}
use Rattle.ops.proofs.Members.{in_append, in_only}
use Rattle.ops.proofs.Frames.{length-with_op, with_op_other, with_op-version, with_op_made, appended-room}
use Rattle.messages.specs.Records.{SmallOp}
use Rattle.network.proofs.Counting.{those-length}
use Rattle.network.proofs.Keeping.{Keeps, low_same, kept_is}
use Rattle.network.proofs.Stored.{low_small, ops_of-with_op}
use Rattle.network.proofs.Ends.{version_last, version_last_other, made_last, made_last_other}

module _ {m : List ℕ} {log : List Op} {h : ℕ → ℕ → ℕ} (o : Op) (k : Keeps m log h) (s : SmallOp o) (room : length log < 8192) (new : version log o.name.who < o.name.n) where
  abbrev after : List ℕ
  after = with_op m (kept m) o

  other : (i : ℕ) → 32 ≤ i → i < 1120 → (version_cell o.name.who ≡ i → ⊥) → (made_cell o.name.who ≡ i → ⊥) → low after i ≡ low m i
  other i a b c d = low_same m after i (with_op_other m (kept m) o i (omega arith) (λ e. c (sym e)) (λ e. d (sym e)) (inl (omega arith)))

  log_after : ops_of after ≡ log ++ o ∷ []
  unfolding ops_of
  log_after =
      let e = kept_is k in
      let l = k.long in
      ops_of-with_op m (kept m) o s (omega arith) (omega arith) ∙ ap (λ os. os ++ o ∷ []) k.log_is

  version-after : (d : ℕ) → d < 32 → (o.name.who ≡ d) ⊎ (o.name.who ≡ d → ⊥) → low after (version_cell d) ≡ version (log ++ o ∷ []) d
  version-after d a (inl e) =
      let w = s.1 in
      let l = k.long in
      subst (λ (c : ℕ). low after (version_cell c) ≡ version (log ++ o ∷ []) c) e
      (ap (λ n. n % 4294967296) (with_op-version m (kept m) o (omega arith)) ∙ low_small o.name.n s.0 ∙ sym (version_last log o new))
  version-after d a (inr e) =
      let w = s.1 in
      other (version_cell d) (omega arith) (omega arith) (λ z. e (omega arith)) (λ z. omega arith) ∙ k.version_is d a ∙ sym (version_last_other log o d e)

  made_after : (d : ℕ) → d < 32 → (o.name.who ≡ d) ⊎ (o.name.who ≡ d → ⊥) → low after (made_cell d) ≡ made_by d (log ++ o ∷ [])
  made_after d a (inl e) =
      let w = s.1 in
      let l = k.long in
      let c = k.made_is o.name.who w in
      let f = those-length (λ p. eqb p.name.who o.name.who) log in
      let g = made_last log o in
      subst (λ (c : ℕ). low after (made_cell c) ≡ made_by c (log ++ o ∷ [])) e
      (ap (λ n. n % 4294967296) (with_op_made m (kept m) o (omega arith)) ∙ low_small (low m (made_cell o.name.who) + 1) (omega arith) ∙ omega arith)
  made_after d a (inr e) =
      let w = s.1 in
      other (made_cell d) (omega arith) (omega arith) (λ z. omega arith) (λ z. e (omega arith)) ∙ k.made_is d a ∙ sym (made_last_other log o d e)

  heard-after : (p d : ℕ) → p < 32 → d < 32 → low after (heard_cell p d) ≡ h p d
  heard-after p d a b =
      let w = s.1 in
      other (heard_cell p d) (omega arith) (omega arith) (λ z. omega arith) (λ z. omega arith) ∙ k.heard_is p d a b

  pub keeps_append : Keeps (appended m o) (log ++ o ∷ []) h
  keeps_append =
      let e = kept_is k in
      subst (λ (l : List ℕ). Keeps l (log ++ o ∷ []) h) (sym (appended-room m o (omega arith)))
      (record {
        long = length-with_op m (kept m) o ∙ k.long;
        log_is = log_after;
        version_is = λ d a. version-after d a (cases_eq o.name.who d);
        made_is = λ d a. made_after d a (cases_eq o.name.who d);
        heard_is = heard-after;
        small = λ q i. ⊎_elim (λ a. k.small q a) (λ a. subst (λ (p : Op). SmallOp p) (sym (in_only o q a)) s) (in_append log (o ∷ []) q i);
      })
