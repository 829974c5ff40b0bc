-- A command that is told to a replica does to its log what the paper's turn does to it, and keeps the invariant.
use Rattle.std.proofs.Common.{◌≡◌, ℕ, suc, ◌<◌, Bool, true, List, [], ◌∷◌, ◌++◌, sym, refl, subst, ⊎_elim}
use Rattle.ops.specs.Doc.{id, Op, all_in, highest, Command, turn, small_command}
use Rattle.ops.proofs.Ids.{in_all_in}
use Rattle.desks.specs.Run.{Engine, said, runs_on, Letter}
use Rattle.network.proofs.Laws.{Bounded, Representation, Bearing, Lawful}
use Rattle.network.proofs.Distinct.{distinct_names}
use Rattle.network.proofs.Logs.{Valid, valid_hangs, valid_bounded}
use Rattle.network.proofs.Invariant.{Replica, replica, with_replica, Invariant, steps}
use Rattle.network.proofs.Deeds.{deed-history, deed_valid, deed_done}
use Rattle.network.proofs.Turns.{Deed, SameTurn, Turns}

-- how the run of a command ends, and what its memory stands for then
pub record Commanded (e : Engine) (Rep : Representation) (Bears : Bearing) (S : ℕ → Replica) (ls : List Letter) (i : ℕ) (c : Command) : Type 0 where
  pub ends : (runs_on 3 e (S i).memory (said c)).end ≡ (turn i (S i).log c).reply
  pub showed : (runs_on 3 e (S i).memory (said c)).showed ≡ (turn i (S i).log c).shows
  pub sent : (runs_on 3 e (S i).memory (said c)).sent ≡ []
  pub stands : Rep i (runs_on 3 e (S i).memory (said c)).memory (turn i (S i).log c).ops (S i).heard
  pub made : List Op
  pub invariant : Invariant Rep Bears (with_replica S i (replica (runs_on 3 e (S i).memory (said c)).memory (turn i (S i).log c).ops (S i).heard)) made ls

pub commanded : {known : Command → Bool} {e : Engine} {cap : ℕ} {Rep : Representation} {Bears : Bearing} → Lawful known e cap Rep Bears → Turns known →
    {S : ℕ → Replica} {u : List Op} {ls : List Letter} → Invariant Rep Bears S u ls → (i : ℕ) (c : Command) → i < 32 → small_command c ≡ true → known c ≡ true →
    Commanded e Rep Bears S ls i c
commanded {known} {e} {cap} {Rep} {Bears} L T {S} {u} {ls} inv i c hi small kn = ⊎_elim idle does t.2
  where
    log : List Op
    log = (S i).log

    heard : ℕ → ℕ → ℕ
    heard = (S i).heard

    m₁ : List ℕ
    m₁ = (runs_on 3 e (S i).memory (said c)).memory

    g : Valid u log
    g = inv.valid i hi

    before : Bounded log
    before = valid_bounded inv.history g

    itself : all_in log log ≡ true
    itself = in_all_in log log (λ o k. k)

    t : SameTurn i log log c
    t = T.turns i log log c hi kn (valid_hangs inv.history g) (distinct_names log g.distinct) itself itself

    -- the run, and the invariant for the log that it leaves
    by : (log₁ u₁ : List Op) → (turn i log c).ops ≡ log₁ → Bounded log₁ → (Rep i m₁ log₁ heard → Invariant Rep Bears (with_replica S i (replica m₁ log₁ heard)) u₁ ls) →
        Commanded e Rep Bears S ls i c
    by log₁ u₁ q after keep =
        let w = L.says_well i (S i).memory log heard c hi (inv.stands i hi) before small kn (subst (λ z. Bounded z) (sym q) after) in
        record {
          ends = w.0;
          showed = w.1;
          sent = w.2;
          stands = w.3;
          made = u₁;
          invariant = subst (λ z. Invariant Rep Bears (with_replica S i (replica m₁ z heard)) u₁ ls) (sym q) (keep (subst (λ z. Rep i m₁ z heard) q w.3));
        }

    idle : ((turn i log c).ops ≡ log) × ((turn i log c).ops ≡ log) → Commanded e Rep Bears S ls i c
    idle q = by log u q.0 before (λ r. steps inv i m₁ hi r)

    does : Deed i log log c → Commanded e Rep Bears S ls i c
    does q =
        let x : Op = record { name = id (suc (highest log)) i; kind = q.kind } in
        by (log ++ x ∷ []) (x ∷ u) q.there (valid_bounded (deed-history inv i hi x refl refl q.room q.past) (deed_valid inv i hi x refl refl q.target))
        (λ r. deed_done inv i hi x refl refl m₁ q.room q.past q.target r)
