-- Two numbers that are two different desks.
use Rattle.std.proofs.Common.{◌≡◌, ℕ, true, not, ◌&&◌, sym, subst}
use Rattle.std.proofs.lemmas.Bool.{lt-ltb, ne_eqb}
use Rattle.std.specs.declared.alloc.AllocError.{AllocError}
use Rattle.std.proofs.Common.{Ok, Result}
use Rattle.desks.specs.declared.refusal.Refusal.{Refusal}
use Rattle.desks.specs.Run.{makes, meet}
use Rattle.network.specs.Room.{Room}
use Rattle.simulator.specs.declared.room.Answer.{Answer}
use Rattle.simulator.specs.declared.two.Two.{Two}
use Rattle.simulator.specs.Two.{are_two, AreTwo}
use Rattle.simulator.specs.Play.{Plays, Played}

pub is_two : (t : Two) → true ≡ are_two t.one t.other
is_two t = sym (λ k. (lt-ltb t.one 32 t.near k && lt-ltb t.other 32 t.far k) && not (ne_eqb t.one t.other t.apart k))

-- what is done of the two that the numbers are
pub made_of_two : (r r₁ : Room) (i j : ℕ) (t : Two) → AreTwo i j (Ok t) → (x : Result (Result Answer Refusal) AllocError) → Played r (makes t.one t.other) x r₁ → Played r (makes i j) x r₁
made_of_two r r₁ i j t a x h = subst (λ k. Played r (makes i k) x r₁) a.2 (subst (λ k. Played r (makes k t.other) x r₁) a.1 h)

pub met_of_two : (r r₁ : Room) (i j : ℕ) (t : Two) → AreTwo i j (Ok t) → (x : Result Answer Refusal) → Plays r (meet t.one t.other) x r₁ → Plays r (meet i j) x r₁
met_of_two r r₁ i j t a x h = subst (λ k. Plays r (meet i k) x r₁) a.2 (subst (λ k. Plays r (meet k t.other) x r₁) a.1 h)
