-- The desks of a run mirror replicas that keep the invariant: the same memory, and the same operations in any order.
use Rattle.std.proofs.Common.{◌≡◌, ℕ, ◌<◌, List, length, sym, refl, ◌∙◌, subst, arith}
use Rattle.ops.specs.Doc.{Op}
use Rattle.ops.proofs.Members.{Sub}
use Rattle.desks.specs.Run.{Letter, Desk, desk, desk_at, with_desk}
use Rattle.network.proofs.Laws.{Representation, Bearing}
use Rattle.network.proofs.Distinct.{Distinct}
use Rattle.network.proofs.Invariant.{Replica, replica, with_replica, each-replica, Invariant}
use Rattle.network.proofs.Rows.{desk-here, desk-there, desk-length}

pub record Mirrors (d : Desk) (s : Replica) : Type 0 where
  pub memory : d.memory ≡ s.memory
  pub to : Sub s.log d.ops
  pub back : Sub d.ops s.log
  pub distinct : Distinct d.ops

pub record Upheld (Rep : Representation) (Bears : Bearing) (ds : List Desk) (ls : List Letter) : Type 0 where
  pub replicas : ℕ → Replica
  pub made : List Op
  pub invariant : Invariant Rep Bears replicas made ls
  pub mirrors : (k : ℕ) → k < 32 → Mirrors (desk_at ds k) (replicas k)
  pub count : length ds ≡ 32

module _ {Rep : Representation} {Bears : Bearing} {ds : List Desk} {ls : List Letter} (v : Upheld Rep Bears ds ls) (i : ℕ) (hi : i < 32) where
  -- what a desk's memory stands for
  pub stands_for : Rep i (desk_at ds i).memory (v.replicas i).log (v.replicas i).heard
  stands_for = subst (λ z. Rep i z (v.replicas i).log (v.replicas i).heard) (sym (v.mirrors i hi).memory) (v.invariant.stands i hi)

  -- one desk, and its replica, change
  pub upheld_with : (x : Desk) (s : Replica) {u₁ : List Op} {ls₁ : List Letter} → Mirrors x s → Invariant Rep Bears (with_replica v.replicas i s) u₁ ls₁ →
      Upheld Rep Bears (with_desk ds i x) ls₁
  upheld_with x s {u₁} new c =
      record {
        replicas = with_replica v.replicas i s;
        made = u₁;
        invariant = c;
        mirrors =
            each-replica (λ k t. k < 32 → Mirrors (desk_at (with_desk ds i x) k) t) v.replicas i s
            (λ h. subst (λ d. Mirrors d s) (sym (desk-here ds i x (let n = v.count in omega arith))) new)
            (λ k ne h. subst (λ d. Mirrors d (v.replicas k)) (sym (desk-there ds i x k ne)) (v.mirrors k h));
        count = desk-length ds i x ∙ v.count;
      }

  -- nothing but its memory changes
  pub mirrors_still : (m : List ℕ) → Mirrors (desk m (desk_at ds i).ops) (replica m (v.replicas i).log (v.replicas i).heard)
  mirrors_still m = let a = v.mirrors i hi in record { memory = refl; to = a.to; back = a.back; distinct = a.distinct }
