-- What the machine doesn't refuse ends in no refusal: it shows, sends or is done.
use Rattle.std.proofs.Common.{◌≡◌, ℕ, true, false, eqb, List, [], ◌∷◌, get_or, sym, refl, ap, ◌∙◌, arith}
use Rattle.std.proofs.lemmas.Bool.{ne_eqb}
use Rattle.ops.specs.Doc.{pick, Command, insert, strike, write_under, add_to, show_text, show_key, count_at}
use Rattle.ops.specs.Layout.{key_cell, low}
use Rattle.ops.specs.Log.{ops_of}
use Rattle.desks.specs.Run.{Event, opens, said, letter_to, hears, next, Act, shows, sends, done, refused, Step}
use Rattle.desks.specs.Machine.{says, idle, does_said, goes_on, does, refusal, step_own}
use Rattle.desks.specs.Entry.{own}
use Rattle.desks.proofs.Telling.{accepts}
use Rattle.network.specs.Declined.{Declined}

abbrev is_refusal : Act → ℕ
is_refusal (shows s) = 0
is_refusal (sends b) = 0
is_refusal done = 0
is_refusal (refused k) = 1

obeyed_said : (m : List ℕ) (c : Command) → is_refusal (does_said m c).act ≡ 0
unfolding does_said
obeyed_said m (insert i c) = refl
obeyed_said m (strike i) = refl
obeyed_said m (write_under k v) = refl
obeyed_said m (add_to k v) = refl
obeyed_said m show_text = refl
obeyed_said m (show_key k) = refl

obeyed : (m : List ℕ) (ev : Event) → is_refusal (does m ev).act ≡ 0
unfolding does goes_on
obeyed m (opens a) = refl
obeyed m (said c) = obeyed_said m c
obeyed m (letter_to a) = refl
obeyed m (hears a bs) = refl
obeyed m next =
    elim (eqb (get_or m 1 0) 1) as (λ b. is_refusal (pick {A = Step} b (says (idle m) (shows (count_at (ops_of m) (low m key_cell) ∷ []))) (says m done)).act ≡ 0) [ true ↦ refl | false ↦ refl ]

pub declined : Declined
unfolding Declined own step_own
declined m ev = (
  (λ h. ap (λ b. pick b (does m ev) (says m (refused (refusal m ev)))) (ne_eqb (refusal m ev) 0 h)),
  (λ e k f. let z : ◌≡◌ {A = ℕ} 0 1 = sym (obeyed m ev) ∙ ap is_refusal (sym (ap (λ (s : Step). s.act) (accepts m ev e)) ∙ f) in omega arith),
)
