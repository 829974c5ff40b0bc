-- Two desks that meet know the same afterwards, all that either knew and nothing else, and uphold the invariant.
use Rattle.std.proofs.Common.{◌≡◌, ℕ, suc, ◌+◌, ◌<◌, ◌≤◌, Bool, true, List, ◌++◌, length, sym, ◌∙◌, subst, inl, inr, ⊎_elim, arith}
use Rattle.std.proofs.lemmas.Bool.{cases_eq}
use Rattle.ops.specs.Doc.{Op, hangs, Command}
use Rattle.ops.proofs.Members.{Sub, in_left, in_right, in_append}
use Rattle.desks.specs.Run.{Engine, Letter, Two, exchange, Desk, desk, desk_at, with_desk, union_is}
use Rattle.network.proofs.Laws.{Representation, Bearing, Lawful}
use Rattle.network.proofs.Distinct.{distinct_length}
use Rattle.network.proofs.Logs.{Valid, valid_sub, valid_hangs}
use Rattle.network.proofs.Invariant.{Replica}
use Rattle.network.proofs.Lacks.{lacking, lacking-left, lacking_right, lacking_none}
use Rattle.network.proofs.Meeting.{Met, met}
use Rattle.network.proofs.Rows.{desk-here, desk-there, desk-length}
use Rattle.network.proofs.Mirror.{Mirrors, Upheld}
use Rattle.network.proofs.Items.{union_of}

abbrev pub Synced : Engine → Representation → Bearing → List Desk → List Letter → ℕ → ℕ → Type 0
Synced e Rep Bears ds ls i j =
    (k : ℕ) × (n : ℕ) × (ops : List Op) × (k ≤ 8 + length (desk_at ds i).ops + length (desk_at ds j).ops)
    × ((exchange k n e i j (desk_at ds i).memory (desk_at ds j).memory true).fair ≡ true) × (hangs ops ≡ true) × (union_is ops (desk_at ds i).ops (desk_at ds j).ops ≡ true)
    × Upheld Rep Bears
    (with_desk (with_desk ds i (desk (exchange k n e i j (desk_at ds i).memory (desk_at ds j).memory true).one ops)) j
    (desk (exchange k n e i j (desk_at ds i).memory (desk_at ds j).memory true).other ops)) ls

pub synced : {known : Command → Bool} {e : Engine} {cap : ℕ} {Rep : Representation} {Bears : Bearing} → Lawful known e cap Rep Bears →
    (ds : List Desk) (ls : List Letter) (i j : ℕ) → Upheld Rep Bears ds ls → i < 32 → j < 32 → (i ≡ j → ⊥) → Synced e Rep Bears ds ls i j
synced {e = e} {cap} {Rep} {Bears} L ds ls i j v hi hj ne = (
  suc k,
  3,
  ops,
  omega arith,
  m.fair,
  valid_hangs v.invariant.history valid_i,
  union_of ops (desk_at ds i).ops (desk_at ds j).ops (λ o q. all-i o (in_left (S i).log (S j).log o (mi.back o q))) (λ o q. all-i o (in_right (S i).log (S j).log o (mj.back o q)))
      (λ o q. ⊎_elim (λ y. inl (mi.to o y)) (λ y. inr (mj.to o y)) (in_append (S i).log (S j).log o (m.together.in_i o q))),
  record {
    replicas = m.next;
    made = u;
    invariant = m.invariant;
    mirrors = mirror;
    count = desk-length (with_desk ds i xi) j xj ∙ (desk-length ds i xi ∙ v.count);
  },
)
  where
    S : ℕ → Replica
    S = v.replicas

    u : List Op
    u = v.made

    mi : Mirrors (desk_at ds i) (S i)
    mi = v.mirrors i hi

    mj : Mirrors (desk_at ds j) (S j)
    mj = v.mirrors j hj

    w : List Op
    w = (S i).log ++ (S j).log

    k : ℕ
    k = length (desk_at ds i).ops + length (desk_at ds j).ops

    ex : Two
    ex = exchange (suc k) 3 e i j (desk_at ds i).memory (desk_at ds j).memory true

    enough : lacking w (S i).log + lacking w (S j).log ≤ k
    enough =
        let p = lacking_right (S i).log (S j).log in
        let q = lacking-left (S i).log (S j).log in
        let x = distinct_length (S i).log (desk_at ds i).ops (v.invariant.valid i hi).distinct mi.to in
        let y = distinct_length (S j).log (desk_at ds j).ops (v.invariant.valid j hj).distinct mj.to in
        omega arith

    m : Met Rep Bears e cap u ls i j w S ex
    m =
        met Rep Bears e cap u ls i j w L hi hj ne k S (desk_at ds i).memory (desk_at ds j).memory v.invariant
        (record { in_i = in_left (S i).log (S j).log; in_j = in_right (S i).log (S j).log; cover = in_append (S i).log (S j).log })
        (sym mi.memory) (sym mj.memory) enough

    ops : List Op
    ops = (m.next i).log

    valid_i : Valid u ops
    valid_i = m.invariant.valid i hi

    made : Sub w u
    made = λ o q. ⊎_elim (λ y. valid_sub (v.invariant.valid i hi) o y) (λ y. valid_sub (v.invariant.valid j hj) o y) (in_append (S i).log (S j).log o q)

    all-i : Sub w ops
    all-i = lacking_none w v.invariant.history valid_i made m.none_i

    all_j : Sub w (m.next j).log
    all_j = lacking_none w v.invariant.history (m.invariant.valid j hj) made m.none_j

    xi : Desk
    xi = desk ex.one ops

    xj : Desk
    xj = desk ex.other ops

    at_i : Mirrors (desk_at (with_desk ds i xi) i) (m.next i)
    at_i =
        subst (λ d. Mirrors d (m.next i)) (sym (desk-here ds i xi (let y = v.count in omega arith)))
        (record { memory = sym m.memory_i; to = λ o q. q; back = λ o q. q; distinct = valid_i.distinct })

    at_j : Mirrors (desk_at (with_desk (with_desk ds i xi) j xj) j) (m.next j)
    at_j =
        subst (λ d. Mirrors d (m.next j)) (sym (desk-here (with_desk ds i xi) j xj (let y = desk-length ds i xi in let z = v.count in omega arith)))
        (record { memory = sym m.memory_j; to = λ o q. all-i o (m.together.in_j o q); back = λ o q. all_j o (m.together.in_i o q); distinct = valid_i.distinct })

    not_j : (n : ℕ) → n < 32 → (n ≡ j → ⊥) → Mirrors (desk_at (with_desk ds i xi) n) (m.next n)
    not_j n h nj =
        ⊎_elim (λ z. subst (λ y. Mirrors (desk_at (with_desk ds i xi) y) (m.next y)) (sym z) at_i)
        (λ ni. subst (λ d. Mirrors d (m.next n)) (sym (desk-there ds i xi n ni)) (subst (λ s. Mirrors (desk_at ds n) s) (sym (m.rest n ni nj)) (v.mirrors n h)))
        (cases_eq n i)

    mirror : (n : ℕ) → n < 32 → Mirrors (desk_at (with_desk (with_desk ds i xi) j xj) n) (m.next n)
    mirror n h =
        ⊎_elim (λ z. subst (λ y. Mirrors (desk_at (with_desk (with_desk ds i xi) j xj) y) (m.next y)) (sym z) at_j)
        (λ nj. subst (λ d. Mirrors d (m.next n)) (sym (desk-there (with_desk ds i xi) j xj n nj)) (not_j n h nj))
        (cases_eq n j)
