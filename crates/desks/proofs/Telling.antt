-- What the machine does at an event, from whether it refuses it: the memory after, and the act.
use Rattle.std.proofs.Common.{◌≡◌, ℕ, suc, eqb, List, Ok, Err, Option, Result, sym, refl, ap, ◌∙◌, subst, arith}
use Rattle.std.specs.Result.{IsErrAnd}
use Rattle.std.proofs.lemmas.Bool.{ne_eqb}
use Rattle.ops.specs.Doc.{pick}
use Rattle.ops.specs.Values.{held, Holds}
use Rattle.ops.specs.declared.types.Memory.{Memory}
use Rattle.desks.specs.Run.{Event, Act, refused, Step}
use Rattle.desks.specs.Machine.{says, refusal, does, step_own}
use Rattle.desks.specs.Refusals.{number_of}
use Rattle.desks.specs.Acts.{Acts, quiet, word, rest, Posts}
use Rattle.desks.specs.declared.refusal.Refusal.{Refusal}

pub accepts : (m : List ℕ) (ev : Event) → refusal m ev ≡ 0 → step_own m ev ≡ does m ev
unfolding step_own
accepts m ev e = ap (λ k. pick (eqb k 0) (does m ev) (says m (refused k))) e

pub refuses : (m : List ℕ) (ev : Event) (k : ℕ) → refusal m ev ≡ suc k → step_own m ev ≡ says m (refused (suc k))
unfolding step_own
refuses m ev k e =
    ap (λ k. pick (eqb k 0) (does m ev) (says m (refused k))) e ∙ ap (λ b. pick b (does m ev) (says m (refused (suc k)))) (ne_eqb (suc k) 0 (λ z. omega arith))

acts_by : (m m₁ : Memory) (s : Step) (l : List ℕ) (a : Act) → s ≡ says l a → Holds m m₁ l → Acts s a m m₁
acts_by m m₁ s l a e h = subst (λ s. Acts s a m m₁) (sym e) (record { after = h; act = refl })

-- refused: the memory stays
pub refusing : (m : Memory) (ev : Event) (k : ℕ) {e r : Refusal} → e ≡ r → number_of r ≡ suc k → refusal (held m) ev ≡ suc k → Acts (step_own (held m) ev) (refused (number_of e)) m m
refusing m ev k {e} {r} i n z =
    subst (λ j. Acts (step_own (held m) ev) (refused j) m m) (sym (ap number_of i ∙ n))
    (acts_by m m _ (held m) (refused (suc k)) (refuses (held m) ev k z) (record { after = refl; same = refl }))

-- accepted: what it does
pub acting : (m m₁ : Memory) (ev : Event) (l : List ℕ) (a : Act) → refusal (held m) ev ≡ 0 → does (held m) ev ≡ says l a → Holds m m₁ l → Acts (step_own (held m) ev) a m m₁
acting m m₁ ev l a e f h = acts_by m m₁ _ l a (accepts (held m) ev e ∙ f) h

-- a check that leaves with its refusal
module _ {T : Type 0} (answered : Result T Refusal → Act) (says_no : (x : Refusal) → answered (Err x) ≡ refused (number_of x)) where
  pub leaves : (m : Memory) (ev : Event) (k : ℕ) (r : Result T Refusal) {e e₁ : Refusal} → IsErrAnd r (λ x. x ≡ e) → e ≡ e₁ → number_of e₁ ≡ suc k → refusal (held m) ev ≡ suc k → Acts (step_own (held m) ev) (answered r) m m
  leaves m ev k (Ok x) h i n z = absurd h
  leaves m ev k (Err x) h i n z = subst (λ a. Acts (step_own (held m) ev) a m m) (sym (says_no x)) (refusing m ev k (h ∙ i) n z)

pub leaves_quiet : (m : Memory) (ev : Event) (k : ℕ) (r : Result (Unit {0}) Refusal) {e e₁ : Refusal} → IsErrAnd r (λ x. x ≡ e) → e ≡ e₁ → number_of e₁ ≡ suc k → refusal (held m) ev ≡ suc k → Acts (step_own (held m) ev) (quiet r) m m
leaves_quiet = leaves quiet (λ x. refl)

pub leaves_word : (m : Memory) (ev : Event) (k : ℕ) (r : Result (Option ℕ) Refusal) {e e₁ : Refusal} → IsErrAnd r (λ x. x ≡ e) → e ≡ e₁ → number_of e₁ ≡ suc k → refusal (held m) ev ≡ suc k → Acts (step_own (held m) ev) (word r) m m
leaves_word = leaves word (λ x. refl)

pub leaves_rest : (m : Memory) (ev : Event) (k : ℕ) (r : Result (Option ℕ) Refusal) {e e₁ : Refusal} → IsErrAnd r (λ x. x ≡ e) → e ≡ e₁ → number_of e₁ ≡ suc k → refusal (held m) ev ≡ suc k → Acts (step_own (held m) ev) (rest r) m m
leaves_rest = leaves rest (λ x. refl)

pub leaves_unsent : (m : Memory) (ev : Event) (k : ℕ) (r : Result ℕ Refusal) {e e₁ : Refusal} (out : List ℕ) → IsErrAnd r (λ x. x ≡ e) → e ≡ e₁ → number_of e₁ ≡ suc k → refusal (held m) ev ≡ suc k → Posts (step_own (held m) ev) r m m out out
leaves_unsent m ev k (Ok x) out h i n z = absurd h
leaves_unsent m ev k (Err x) out h i n z = record { acts = refusing m ev k (h ∙ i) n z; front = refl }

-- a refusal that stands for this one, whatever was done before it
pub leaves_as : (m m₁ : Memory) (s : Step) (r : Result (Unit {0}) Refusal) (k : Refusal) → IsErrAnd r (λ x. x ≡ k) → Acts s (refused (number_of k)) m m₁ → Acts s (quiet r) m m₁
leaves_as m m₁ s (Ok x) k h q = absurd h
leaves_as m m₁ s (Err x) k h q = subst (λ a. Acts s (refused (number_of a)) m m₁) (sym h) q
