-- One step of the machine over the memory that a replica owns: it is lent whole, and comes back as it was left.
use Rattle.std.proofs.Common.{◌≡◌, ℕ, suc, Bool, true, false, List, ◌++◌, length, take, drop, Result, sym, refl, ap, ◌∙◌, subst}
use Rattle.std.proofs.lemmas.List.{take_at}
use Rattle.ops.specs.Values.{held}
use Rattle.ops.specs.declared.types.Memory.{Memory}
use Rattle.ops.specs.Doc.{pick}
use Rattle.desks.specs.Run.{Event, said, Act, refused, Step}
use Rattle.desks.specs.Machine.{is_open, refusal, step_own}
use Rattle.desks.specs.Refusals.{number_of}
use Rattle.desks.proofs.Telling.{refuses}
use Rattle.desks.specs.Acts as acts
use Rattle.desks.specs.declared.refusal.Refusal.{Refusal}
use Rattle.replicas.specs.Replica.{command_of}
use Rattle.replicas.specs.Steps.{event_of, Tells, PostsIf}
use Rattle.replicas.specs.declared.machine.Deed.{Deed}
use Rattle.replicas.specs.declared.acts.Asked.{Asked}

-- a row that is lent whole and comes back as long as it was
abbrev pub Back : ℕ → List ℕ → List ℕ → List ℕ
Back n back own = take n (back ++ drop (length back) own)

pub record Lent (n : ℕ) (own lent back : List ℕ) : Type 0 where
  pub long : length own ≡ n
  pub whole : lent ≡ own
  pub kept : length back ≡ length lent

pub is_back : {n : ℕ} {own lent back : List ℕ} → Lent n own lent back → Back n back own ≡ back
is_back {n} {own} {lent} {back} h = take_at back (drop (length back) own) n (h.kept ∙ (ap length h.whole ∙ h.long))

pub back_long : {n : ℕ} {own lent back : List ℕ} → Lent n own lent back → length (Back n back own) ≡ n
back_long h = ap length (is_back h) ∙ (h.kept ∙ (ap length h.whole ∙ h.long))

-- what was lent is the memory, before and after
pub lent_tells : (ev : Event) (a : Act) {n : ℕ} {m m₀ m₁ : List ℕ} → Lent n m m₀ m₁ → Tells (step_own m₀ ev) a m₁ → Tells (step_own m ev) a (Back n m₁ m)
lent_tells ev a {n} {m} {m₀} {m₁} x h =
    subst (λ (u : List ℕ). Tells (step_own m ev) a u) (sym (is_back x)) (subst (λ (u : List ℕ). Tells (step_own u ev) a m₁) x.whole h)

pub lent_posts : (b : Bool) (ev : Event) (r : Result ℕ Refusal) (out out₁ : List ℕ) {n : ℕ} {m m₀ m₁ : List ℕ} → Lent n m m₀ m₁ → PostsIf b (step_own m₀ ev) r m₀ m₁ out out₁ → PostsIf b (step_own m ev) r m (Back n m₁ m) out out₁
lent_posts b ev r out out₁ {n} {m} {m₀} {m₁} x h =
    subst (λ (u : List ℕ). PostsIf b (step_own m ev) r m u out out₁) (sym (is_back x)) (subst (λ (u : List ℕ). PostsIf b (step_own u ev) r u m₁ out out₁) x.whole h)

-- an act over cells that are lent as a memory; they are given back as they are then
pub tells_by : (m m₁ : Memory) (s : Step) (a : Act) (cells : List ℕ) → cells ≡ held m₁ → acts.Acts s a m m₁ → Tells s a cells
tells_by m m₁ s a cells back h = record { memory = back ∙ h.after.after; act = h.act }

pub posts_by : (m m₁ : Memory) (s : Step) (r : Result ℕ Refusal) (cells out out₁ : List ℕ) → cells ≡ held m₁ → (b : Bool) → acts.PostsIf b s r m m₁ out out₁ → PostsIf b s r (held m) cells out out₁
posts_by m m₁ s r cells out out₁ back true h = record { tells = tells_by m m₁ s _ cells back h.acts; front = h.front }
posts_by m m₁ s r cells out out₁ back false h = record { said = h.said; memory = back ∙ h.after.after; bytes = h.bytes }

-- what isn't known is refused by whether the desk is open
pub unknown_tells : (m : List ℕ) (ev : Event) (r : Refusal) → refusal m ev ≡ pick (is_open m) 2 3 → number_of r ≡ pick (is_open m) 2 3 → Tells (step_own m ev) (refused (number_of r)) m
unknown_tells m ev r e f = go (is_open m) e f
  where
    told : (k : ℕ) → refusal m ev ≡ suc k → number_of r ≡ suc k → Tells (step_own m ev) (refused (number_of r)) m
    told k e f =
        let s = refuses m ev k e in
        record { memory = sym (ap (λ (x : Step). x.memory) s); act = ap (λ (x : Step). x.act) s ∙ ap refused (sym f) }

    go : (t : Bool) → refusal m ev ≡ pick t 2 3 → number_of r ≡ pick t 2 3 → Tells (step_own m ev) (refused (number_of r)) m
    go true e f = told 1 e f
    go false e f = told 2 e f

pub unknown_acts : (m : Memory) (ev : Event) (r : Refusal) → refusal (held m) ev ≡ pick (is_open (held m)) 2 3 → number_of r ≡ pick (is_open (held m)) 2 3 → acts.Acts (step_own (held m) ev) (refused (number_of r)) m m
unknown_acts m ev r e f = let t = unknown_tells (held m) ev r e f in record { after = record { after = t.memory; same = refl }; act = t.act }

-- by what the match on it told
pub deed_acts : (m m₁ : Memory) (a : Act) {d d₁ : Deed} → d ≡ d₁ → acts.Acts (step_own (held m) (said (command_of d₁))) a m m₁ → acts.Acts (step_own (held m) (said (command_of d))) a m m₁
deed_acts m m₁ a e h = subst (λ d. acts.Acts (step_own (held m) (said (command_of d))) a m m₁) (sym e) h

pub told_tells : (m m₁ : List ℕ) (a : Act) {t t₁ : Asked} → t ≡ t₁ → Tells (step_own m (event_of t₁)) a m₁ → Tells (step_own m (event_of t)) a m₁
told_tells m m₁ a e h = subst (λ t. Tells (step_own m (event_of t)) a m₁) (sym e) h
