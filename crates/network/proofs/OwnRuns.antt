-- How the machine's own runs go, from what its steps say.
use Rattle.std.proofs.Common.{◌≡◌, ℕ, ◌<◌, ◌≤◌, true, List, [], ◌∷◌, refl, ap, ◌∙◌}
use Rattle.desks.specs.Run.{Event, next, Act, shows, sends, done, refused, Step, ran, a_letter, runs_on}
use Rattle.desks.specs.Machine.{says, step_own}
use Rattle.desks.specs.Entry.{own}
use Rattle.network.proofs.Runs.{run_done, run_refused, run_sends, run_shows_two}

own_step : (m : List ℕ) (ev : Event) → own.step m ev ≡ step_own m ev
unfolding own
own_step m ev = refl

-- what a step does and leaves
act_is : (m l : List ℕ) (ev : Event) (a : Act) → step_own m ev ≡ says l a → (own.step m ev).act ≡ a
act_is m l ev a e = ap (λ (s : Step). s.act) (own_step m ev ∙ e)

memory_is : (m l : List ℕ) (ev : Event) (a : Act) → step_own m ev ≡ says l a → (own.step m ev).memory ≡ l
memory_is m l ev a e = ap (λ (s : Step). s.memory) (own_step m ev ∙ e)

pub own_done : (m l : List ℕ) (ev : Event) → step_own m ev ≡ says l done → runs_on 3 own m ev ≡ ran l [] [] 0
own_done m l ev e = run_done own m ev (act_is m l ev done e) ∙ ap (λ x. ran x [] [] 0) (memory_is m l ev done e)

pub own_refused : (m : List ℕ) (ev : Event) (k : ℕ) → 1 ≤ k → k < 1000 → step_own m ev ≡ says m (refused k) → runs_on 3 own m ev ≡ ran m [] [] k
own_refused m ev k a b e = run_refused own m ev k a b (act_is m m ev (refused k) e) ∙ ap (λ x. ran x [] [] k) (memory_is m m ev (refused k) e)

-- going on from what the step before left
act_next : (x l l₁ : List ℕ) (a : Act) → x ≡ l → step_own l next ≡ says l₁ a → (own.step x next).act ≡ a
act_next x l l₁ a p e = ap (λ y. (own.step y next).act) p ∙ act_is l l₁ next a e

memory_next : (x l l₁ : List ℕ) (a : Act) → x ≡ l → step_own l next ≡ says l₁ a → (own.step x next).memory ≡ l₁
memory_next x l l₁ a p e = ap (λ y. (own.step y next).memory) p ∙ memory_is l l₁ next a e

pub own_sends : (m l l₁ bs : List ℕ) (ev : Event) → a_letter bs ≡ true → step_own m ev ≡ says l (sends bs) → step_own l next ≡ says l₁ done → runs_on 3 own m ev ≡ ran l₁ [] (bs ∷ []) 0
own_sends m l l₁ bs ev t e f =
    let p = memory_is m l ev (sends bs) e in
    run_sends own m ev bs t (act_is m l ev (sends bs) e) (act_next _ l l₁ done p f) ∙ ap (λ x. ran x [] (bs ∷ []) 0) (memory_next _ l l₁ done p f)

pub own_shows_two : (m l l₁ l₂ s t : List ℕ) (ev : Event) → step_own m ev ≡ says l (shows s) → step_own l next ≡ says l₁ (shows t) → step_own l₁ next ≡ says l₂ done →
    runs_on 3 own m ev ≡ ran l₂ (s ∷ t ∷ []) [] 0
own_shows_two m l l₁ l₂ s t ev e f g =
    let p = memory_is m l ev (shows s) e in
    let q = memory_next _ l l₁ (shows t) p f in
    run_shows_two own m ev s t (act_is m l ev (shows s) e) (act_next _ l l₁ (shows t) p f) (act_next _ l₁ l₂ done q g) ∙ ap (λ x. ran x (s ∷ t ∷ []) [] 0) (memory_next _ l₁ l₂ done q g)
