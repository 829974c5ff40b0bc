-- What a desk's memory keeps: its log, each desk's version and count of it, and what was heard of the others' version vectors.
use Rattle.std.proofs.Common.{◌≡◌, ℕ, ◌%◌, ◌<◌, ◌≤◌, min, List, [], length, get_or, set, replicate, sym, ap, ◌∙◌, ⊎_elim, arith, length-set, get_or-set_other}
use lib.ListN.{length-replicate, get_or-replicate}
use Rattle.std.proofs.lemmas.List.{get_or_past}
use Rattle.std.proofs.lemmas.Bool.{cases_lt}
use Rattle.ops.specs.Doc.{those, Op, made_by}
use Rattle.ops.specs.Version.{version}
use Rattle.ops.specs.Layout.{length_cell, version_cell, made_cell, heard_cell, memory_size, low}
use Rattle.ops.specs.Log.{firsts, kept, ops_of}
use Rattle.ops.proofs.Members.{In}
use Rattle.ops.proofs.Scans.{firsts_none}
use Rattle.ops.proofs.Frames.{ops_of_same, length-ops_of}
use Rattle.messages.specs.Records.{SmallOp}

pub record Keeps (m : List ℕ) (log : List Op) (h : ℕ → ℕ → ℕ) : Type 0 where
  pub long : length m ≡ memory_size
  pub log_is : ops_of m ≡ log
  pub version_is : (d : ℕ) → d < 32 → low m (version_cell d) ≡ version log d
  pub made_is : (d : ℕ) → d < 32 → low m (made_cell d) ≡ made_by d log
  pub heard_is : (p d : ℕ) → p < 32 → d < 32 → low m (heard_cell p d) ≡ h p d
  pub small : (o : Op) → In o log → SmallOp o

pub low_same : (m l : List ℕ) (i : ℕ) → get_or l i 0 ≡ get_or m i 0 → low l i ≡ low m i
low_same m l i e = ap (λ n. n % 4294967296) e

pub kept_is : {m : List ℕ} {log : List Op} {h : ℕ → ℕ → ℕ} → Keeps m log h → kept m ≡ length log
kept_is {m} k = sym (length-ops_of m) ∙ ap length k.log_is

-- the first three cells are no part of it
pub keeps_same : {m : List ℕ} {log : List Op} {h : ℕ → ℕ → ℕ} (l : List ℕ) → Keeps m log h → length l ≡ length m → ((i : ℕ) → 3 ≤ i → get_or l i 0 ≡ get_or m i 0) → Keeps l log h
keeps_same {m} l k e s =
    record {
      long = e ∙ k.long;
      log_is = ops_of_same m l (s length_cell (omega arith)) (λ i a. s i (omega arith)) ∙ k.log_is;
      version_is = λ d a. low_same m l (version_cell d) (s (version_cell d) (omega arith)) ∙ k.version_is d a;
      made_is = λ d a. low_same m l (made_cell d) (s (made_cell d) (omega arith)) ∙ k.made_is d a;
      heard_is = λ p d a b. low_same m l (heard_cell p d) (s (heard_cell p d) (omega arith)) ∙ k.heard_is p d a b;
      small = k.small;
    }

pub keeps_set : {m : List ℕ} {log : List Op} {h : ℕ → ℕ → ℕ} (i v : ℕ) → Keeps m log h → i < 3 → Keeps (set m i v) log h
keeps_set {m} i v k l = keeps_same (set m i v) k (length-set m i v) (λ j a. get_or-set_other m i j v 0 (omega arith))

-- AT THE START
none_kept : (m : List ℕ) → get_or m length_cell 0 ≡ 0 → ops_of m ≡ []
unfolding ops_of kept
none_kept m e = ap (λ n. firsts (min n 8192) m) e ∙ firsts_none m

zero_low : (m : List ℕ) (i : ℕ) → get_or m i 0 ≡ 0 → low m i ≡ 0
zero_low m i e = ap (λ n. n % 4294967296) e

pub keeps_none : (m : List ℕ) → length m ≡ memory_size → ((i : ℕ) → 3 ≤ i → get_or m i 0 ≡ 0) → Keeps m [] (λ p d. 0)
unfolding version those
keeps_none m e z =
    record {
      long = e;
      log_is = none_kept m (z length_cell (omega arith));
      version_is = λ d a. zero_low m (version_cell d) (z (version_cell d) (omega arith));
      made_is = λ d a. zero_low m (made_cell d) (z (made_cell d) (omega arith));
      heard_is = λ p d a b. zero_low m (heard_cell p d) (z (heard_cell p d) (omega arith));
      small = λ o k. absurd k;
    }

zeros : (n i : ℕ) → ◌≡◌ {A = ℕ} (get_or (replicate n 0) i 0) 0
zeros n i = ⊎_elim (λ a. get_or-replicate n i 0 0 a) (λ a. get_or_past (replicate n 0) i 0 (let e = length-replicate {A = ℕ} n 0 in omega arith)) (cases_lt i n)

-- the size is a variable here, so that no list of so many is written out
pub blank-length : (n v : ℕ) → length (set (set (replicate n 0) 1 0) 0 v) ≡ n
blank-length n v = length-set (set (replicate n 0) 1 0) 0 v ∙ length-set (replicate n 0) 1 0 ∙ length-replicate n 0

pub blank_zero : (n v i : ℕ) → 3 ≤ i → get_or (set (set (replicate n 0) 1 0) 0 v) i 0 ≡ 0
blank_zero n v i l = get_or-set_other (set (replicate n 0) 1 0) 0 i v 0 (omega arith) ∙ get_or-set_other (replicate n 0) 1 i 0 0 (omega arith) ∙ zeros n i

pub keeps_blank : (n v : ℕ) → n ≡ memory_size → Keeps (set (set (replicate n 0) 1 0) 0 v) [] (λ p d. 0)
keeps_blank n v e = keeps_none (set (set (replicate n 0) 1 0) 0 v) (blank-length n v ∙ e) (blank_zero n v)
