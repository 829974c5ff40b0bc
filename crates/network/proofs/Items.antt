-- A command, a letter that is made and one that comes are right, and uphold the invariant.
use Rattle.std.proofs.Common.{◌≡◌, ℕ, suc, ◌<◌, ◌≤◌, Bool, true, false, ◌&&◌, ◌⊎◌, List, [], ◌∷◌, ◌++◌, length, sym, refl, ap, ◌∙◌, subst, subst₂, inl, inr, ⊎_elim, arith}
use Rattle.std.proofs.lemmas.Bool.{and_from}
use Rattle.ops.specs.Doc.{or, every, Id, id, Op, all_in, hangs, highest, Command, turn, small_command}
use Rattle.ops.specs.Version.{version}
use Rattle.ops.proofs.Members.{In, Sub, or_inl, or_inr, in_every, in_left, in_right, in_append, in_only}
use Rattle.ops.proofs.Ids.{in_all_in}
use Rattle.desks.specs.Run.{Engine, said, letter_to, hears, runs_on, made_well, read_well, first_letter, Letter, Desk, desk, desk_at, with_desk, Came, union_is}
use Rattle.network.proofs.Laws.{deliver_all, batch, Representation, Bearing, Lawful}
use Rattle.network.proofs.Distinct.{Distinct, distinct_push, distinct_names}
use Rattle.network.proofs.Versions.{highest_above}
use Rattle.network.proofs.Logs.{valid_hangs, valid_bounded}
use Rattle.network.proofs.Invariant.{Replica, replica, with_replica, Message, Underway, Invariant, steps, posts}
use Rattle.network.proofs.Letters.{after_writing, written, writes, after_reading, reads, reads_whole}
use Rattle.network.proofs.Commanding.{Commanded, commanded}
use Rattle.network.proofs.Turns.{Deed, SameTurn, Turns}
use Rattle.network.proofs.Mirror.{Mirrors, Upheld, stands_for, upheld_with, mirrors_still}

-- each operation of a list is known to one of two
pub one_of_two : (ops as₁ bs : List Op) → ((o : Op) → In o ops → In o as₁ ⊎ In o bs) → every (λ o. or (all_in (o ∷ []) as₁) (all_in (o ∷ []) bs)) ops ≡ true
one_of_two ops as₁ bs h =
    in_every (λ o. or (all_in (o ∷ []) as₁) (all_in (o ∷ []) bs)) ops
    (λ o k. ⊎_elim (λ a. or_inl (all_in (o ∷ []) as₁) (all_in (o ∷ []) bs) (one as₁ o a)) (λ b. or_inr (all_in (o ∷ []) as₁) (all_in (o ∷ []) bs) (one bs o b)) (h o k))
  where
    one : (xs : List Op) (o : Op) → In o xs → all_in (o ∷ []) xs ≡ true
    one xs o a = in_all_in (o ∷ []) xs (λ p k. subst (λ x. In x xs) (sym (in_only o p k)) a)

-- a list of all that is known to either
pub union_of : (ops as₁ bs : List Op) → Sub as₁ ops → Sub bs ops → ((o : Op) → In o ops → In o as₁ ⊎ In o bs) → union_is ops as₁ bs ≡ true
union_of ops as₁ bs a b h =
    and_from (all_in as₁ ops && all_in bs ops) (every (λ o. or (all_in (o ∷ []) as₁) (all_in (o ∷ []) bs)) ops)
    (and_from (all_in as₁ ops) (all_in bs ops) (in_all_in as₁ ops a) (in_all_in bs ops b)) (one_of_two ops as₁ bs h)

module _ {known : Command → Bool} {e : Engine} {cap : ℕ} {Rep : Representation} {Bears : Bearing} (L : Lawful known e cap Rep Bears) where
  -- A COMMAND THAT ISN'T KNOWN
  pub declined : (ds : List Desk) (ls : List Letter) (i : ℕ) (c : Command) → Upheld Rep Bears ds ls → i < 32 → small_command c ≡ true → known c ≡ false →
      ((runs_on 3 e (desk_at ds i).memory (said c)).end ≡ 2) × ((runs_on 3 e (desk_at ds i).memory (said c)).showed ≡ []) × ((runs_on 3 e (desk_at ds i).memory (said c)).sent ≡ [])
      × Upheld Rep Bears (with_desk ds i (desk (runs_on 3 e (desk_at ds i).memory (said c)).memory (desk_at ds i).ops)) ls
  declined ds ls i c v hi small unknown =
      let s : Replica = v.replicas i in
      let m : List ℕ = (desk_at ds i).memory in
      let m₁ : List ℕ = (runs_on 3 e m (said c)).memory in
      let r = L.says-no i m s.log s.heard c hi (stands_for v i hi) (valid_bounded v.invariant.history (v.invariant.valid i hi)) small unknown in
      (r.0, r.1, r.2, upheld_with v i hi (desk m₁ (desk_at ds i).ops) (replica m₁ s.log s.heard) (mirrors_still v i hi m₁) (steps v.invariant i m₁ hi r.3))

  -- ONE THAT IS
  abbrev Answered : List Desk → List Letter → ℕ → Command → Type 0
  Answered ds ls i c =
      ((runs_on 3 e (desk_at ds i).memory (said c)).end ≡ (turn i (desk_at ds i).ops c).reply) × ((runs_on 3 e (desk_at ds i).memory (said c)).showed ≡ (turn i (desk_at ds i).ops c).shows)
      × ((runs_on 3 e (desk_at ds i).memory (said c)).sent ≡ [])
      × Upheld Rep Bears (with_desk ds i (desk (runs_on 3 e (desk_at ds i).memory (said c)).memory (turn i (desk_at ds i).ops c).ops)) ls

  pub answered : Turns known → (ds : List Desk) (ls : List Letter) (i : ℕ) (c : Command) → Upheld Rep Bears ds ls → i < 32 → small_command c ≡ true → known c ≡ true → Answered ds ls i c
  answered T ds ls i c v hi small kn =
      subst
      (λ m. ((runs_on 3 e m (said c)).end ≡ (turn i ops c).reply) × ((runs_on 3 e m (said c)).showed ≡ (turn i ops c).shows) × ((runs_on 3 e m (said c)).sent ≡ [])
      × Upheld Rep Bears (with_desk ds i (desk (runs_on 3 e m (said c)).memory (turn i ops c).ops)) ls)
      (sym a.memory) (w.ends ∙ sym t.0, w.showed ∙ sym t.1, w.sent, upheld_with v i hi (desk m₁ (turn i ops c).ops) s₁ (⊎_elim idle does t.2) w.invariant)
    where
      S : ℕ → Replica
      S = v.replicas

      log : List Op
      log = (S i).log

      ops : List Op
      ops = (desk_at ds i).ops

      m₁ : List ℕ
      m₁ = (runs_on 3 e (S i).memory (said c)).memory

      s₁ : Replica
      s₁ = replica m₁ (turn i log c).ops (S i).heard

      a : Mirrors (desk_at ds i) (S i)
      a = v.mirrors i hi

      w : Commanded e Rep Bears S ls i c
      w = commanded L T v.invariant i c hi small kn

      -- the operations may have come in another order, which changes nothing
      t : SameTurn i ops log c
      t = T.turns i ops log c hi kn (valid_hangs v.invariant.history (v.invariant.valid i hi)) (distinct_names ops a.distinct) (in_all_in ops log a.back) (in_all_in log ops a.to)

      mirrored : (ops₁ log₁ : List Op) → (turn i ops c).ops ≡ ops₁ → (turn i log c).ops ≡ log₁ → Sub log₁ ops₁ → Sub ops₁ log₁ → Distinct ops₁ → Mirrors (desk m₁ (turn i ops c).ops) s₁
      mirrored ops₁ log₁ p q to back d =
          subst₂ (λ x y. Mirrors (desk m₁ x) (replica m₁ y (S i).heard)) (sym p) (sym q) (record { memory = refl; to = to; back = back; distinct = d })

      idle : ((turn i ops c).ops ≡ ops) × ((turn i log c).ops ≡ log) → Mirrors (desk m₁ (turn i ops c).ops) s₁
      idle q = mirrored ops log q.0 q.1 a.to a.back a.distinct

      does : Deed i ops log c → Mirrors (desk m₁ (turn i ops c).ops) s₁
      does q =
          let x : Op = record { name = id (suc (highest log)) i; kind = q.kind } in
          mirrored (ops ++ x ∷ []) (log ++ x ∷ []) q.here q.there
          (λ o k. ⊎_elim (λ y. in_left ops (x ∷ []) o (a.to o y)) (λ y. in_right ops (x ∷ []) o y) (in_append log (x ∷ []) o k))
          (λ o k. ⊎_elim (λ y. in_left log (x ∷ []) o (a.back o y)) (λ y. in_right log (x ∷ []) o y) (in_append ops (x ∷ []) o k))
          (distinct_push ops x a.distinct (λ p k z. let y = highest_above log p (a.back p k) in let y₁ = ap (λ (q : Id). q.n) z in omega arith))

  -- A LETTER IS MADE
  pub made : (ds : List Desk) (ls : List Letter) (i j : ℕ) → Upheld Rep Bears ds ls → i < 32 → j < 32 → (i ≡ j → ⊥) →
      (made_well (runs_on 3 e (desk_at ds i).memory (letter_to j)) ≡ true)
      × Upheld Rep Bears (with_desk ds i (desk (runs_on 3 e (desk_at ds i).memory (letter_to j)).memory (desk_at ds i).ops))
      (ls ++ record { from = i; for = j; bytes = first_letter (runs_on 3 e (desk_at ds i).memory (letter_to j)).sent; knew = (desk_at ds i).ops } ∷ [])
  made ds ls i j v hi hj ne =
      subst
      (λ m. (made_well (runs_on 3 e m (letter_to j)) ≡ true)
      × Upheld Rep Bears (with_desk ds i (desk (runs_on 3 e m (letter_to j)).memory ops))
      (ls ++ record { from = i; for = j; bytes = first_letter (runs_on 3 e m (letter_to j)).sent; knew = ops } ∷ []))
      (sym a.memory) (w.0, upheld_with v i hi (desk s₁.memory ops) s₁ (mirrors_still v i hi s₁.memory) one_more)
    where
      S : ℕ → Replica
      S = v.replicas

      u : List Op
      u = v.made

      ops : List Op
      ops = (desk_at ds i).ops

      a : Mirrors (desk_at ds i) (S i)
      a = v.mirrors i hi

      s₁ : Replica
      s₁ = after_writing e (S i) j

      l : Letter
      l = written e (S i) i j ops

      w : (made_well (runs_on 3 e (S i).memory (letter_to j)) ≡ true) × Invariant Rep Bears (with_replica S i s₁) u ls
          × Message Bears (with_replica S i s₁) u l (version (S i).log) (batch cap ((S i).heard j) (S i).log) ((S i).heard j)
      w = writes L v.invariant i j ops hi hj ne a.to a.back

      one_more : Invariant Rep Bears (with_replica S i s₁) u (ls ++ l ∷ [])
      one_more = posts w.1 l (version (S i).log, batch cap ((S i).heard j) (S i).log, (S i).heard j, w.2)

  -- ONE COMES
  abbrev Comes : List Desk → Letter → (List Desk → Type 0) → List ℕ → Type 0
  Comes ds l go m =
      (n : ℕ) × (ops : List Op) × (read_well (runs_on n e m (hears l.from l.bytes)) ≡ true)
      × (hangs ops ≡ true) × (all_in (desk_at ds l.for).ops ops ≡ true) × (every (λ o. or (all_in (o ∷ []) (desk_at ds l.for).ops) (all_in (o ∷ []) l.knew)) ops ≡ true)
      × (length l.knew ≤ 16 → all_in l.knew ops ≡ true)
      × go (with_desk ds l.for (desk (runs_on n e m (hears l.from l.bytes)).memory ops))

  comes : (ds : List Desk) (ls : List Letter) (l : Letter) (go : List Desk → Type 0) → Upheld Rep Bears ds ls → In l ls → ((ds₁ : List Desk) → Upheld Rep Bears ds₁ ls → go ds₁) →
      Comes ds l go (desk_at ds l.for).memory
  comes ds ls l go v sent on = subst (λ m. Comes ds l go m) (sym a.memory) read
    where
      u : List Op
      u = v.made

      i : ℕ
      i = l.for

      s : Replica
      s = v.replicas i

      way : Underway Bears v.replicas u l
      way = v.invariant.underway l sent

      message : Message Bears v.replicas u l way.0 way.1 way.2
      message = way.3

      hi : i < 32
      hi = message.for_desk

      a : Mirrors (desk_at ds i) s
      a = v.mirrors i hi

      log₁ : List Op
      log₁ = deliver_all s.log way.1

      s₁ : Replica
      s₁ = after_reading e s l way.0 way.1

      read : Comes ds l go s.memory
      read =
          let w = reads L v.invariant l way.0 way.1 way.2 message in
          let t = w.1 in (
            3,
            log₁,
            w.0,
            valid_hangs v.invariant.history t.valid,
            in_all_in (desk_at ds i).ops log₁ (λ o k. t.kept o (a.back o k)),
            one_of_two log₁ (desk_at ds i).ops l.knew (λ o k. ⊎_elim (λ y. inl (a.to o y)) (λ y. inr (message.part o y)) (t.only o k)),
            (λ few. in_all_in l.knew log₁ (reads_whole v.invariant message t few)),
            on (with_desk ds i (desk s₁.memory log₁))
                (upheld_with v i hi (desk s₁.memory log₁) s₁ (record { memory = refl; to = λ o k. k; back = λ o k. k; distinct = t.valid.distinct }) w.2),
          )

  pub came : (ds : List Desk) (ls r : List Letter) (go : List Desk → Type 0) → Upheld Rep Bears ds ls → Sub r ls → ((ds₁ : List Desk) → Upheld Rep Bears ds₁ ls → go ds₁) → Came e ds go r
  unfolding Came
  came ds ls [] go v sub on = on ds v
  came ds ls (l ∷ rest) go v sub on = comes ds ls l go v (sub l (inl refl)) on
