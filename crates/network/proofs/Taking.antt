-- Operations that are delivered to a memory are delivered to the log that it keeps.
use Rattle.std.proofs.Common.{◌≡◌, ℕ, ◌<◌, ◌≤◌, Bool, true, false, ltb, List, [], ◌∷◌, ◌++◌, length, get_or, sym, refl, ◌∙◌, subst, inl, inr, arith, length-append}
use Rattle.std.proofs.lemmas.Bool.{ltb-true}
use Rattle.ops.specs.Doc.{pick, Op}
use Rattle.ops.specs.Version.{version}
use Rattle.ops.specs.Layout.{version_cell, low}
use Rattle.ops.specs.Log.{appended}
use Rattle.ops.proofs.Members.{In}
use Rattle.ops.proofs.Frames.{append-length, append_other}
use Rattle.messages.specs.Records.{SmallOp}
use Rattle.messages.specs.Letter as letter
use Rattle.messages.specs.Letter.{delivered}
use Rattle.network.proofs.Laws.{deliver, deliver_all}
use Rattle.network.proofs.Keeping.{Keeps}
use Rattle.network.proofs.Appending.{keeps_append}

-- a memory's length and first cells, whatever is delivered
deliver-length : (m : List ℕ) (o : Op) → length (letter.deliver m o) ≡ length m
unfolding letter.deliver
deliver-length m o =
    elim (ltb (low m (version_cell o.name.who)) o.name.n) as (λ b. length (pick b (appended m o) m) ≡ length m) [ true ↦ append-length m o | false ↦ refl ]

deliver_other : (m : List ℕ) (o : Op) (i : ℕ) → i < 3 → get_or (letter.deliver m o) i 0 ≡ get_or m i 0
unfolding letter.deliver
deliver_other m o i l =
    elim (ltb (low m (version_cell o.name.who)) o.name.n) as (λ b. get_or (pick b (appended m o) m) i 0 ≡ get_or m i 0) [ true ↦ append_other m o i l | false ↦ refl ]

pub delivered-length : (m : List ℕ) (news : List Op) → length (delivered m news) ≡ length m
unfolding delivered
delivered-length m [] = refl
delivered-length m (o ∷ os) = delivered-length (letter.deliver m o) os ∙ deliver-length m o

pub delivered_other : (m : List ℕ) (news : List Op) (i : ℕ) → i < 3 → get_or (delivered m news) i 0 ≡ get_or m i 0
unfolding delivered
delivered_other m [] i l = refl
delivered_other m (o ∷ os) i l = delivered_other (letter.deliver m o) os i l ∙ deliver_other m o i l

-- a log only grows
deliver_grows : (log : List Op) (o : Op) → length log ≤ length (deliver log o)
unfolding deliver
deliver_grows log o =
    let e = length-append log (o ∷ []) in
    elim (ltb (version log o.name.who) o.name.n) as (λ b. length log ≤ length (pick b (log ++ o ∷ []) log)) [ true ↦ omega arith | false ↦ omega arith ]

deliver_all_grows : (log news : List Op) → length log ≤ length (deliver_all log news)
unfolding deliver_all
deliver_all_grows log [] = omega arith
deliver_all_grows log (o ∷ os) = let a = deliver_grows log o in let b = deliver_all_grows (deliver log o) os in omega arith

keeps_deliver : {m : List ℕ} {log : List Op} {h : ℕ → ℕ → ℕ} (o : Op) → Keeps m log h → SmallOp o → length (deliver log o) ≤ 8192 → Keeps (letter.deliver m o) (deliver log o) h
unfolding letter.deliver deliver
keeps_deliver {m} {log} {h} o k s few =
    subst (λ (v : ℕ). Keeps (pick (ltb v o.name.n) (appended m o) m) (pick (ltb (version log o.name.who) o.name.n) (log ++ o ∷ []) log) h)
    (sym (k.version_is o.name.who s.1)) (go (ltb (version log o.name.who) o.name.n) refl few)
  where
    go : (b : Bool) → ltb (version log o.name.who) o.name.n ≡ b → length (pick b (log ++ o ∷ []) log) ≤ 8192 → Keeps (pick b (appended m o) m) (pick b (log ++ o ∷ []) log) h
    go true e f = let g = length-append log (o ∷ []) in keeps_append o k s (omega arith) (ltb-true (version log o.name.who) o.name.n e)
    go false e f = k

pub keeps_delivered : (news : List Op) {m : List ℕ} {log : List Op} {h : ℕ → ℕ → ℕ} → Keeps m log h → ((o : Op) → In o news → SmallOp o) → length (deliver_all log news) ≤ 8192 →
    Keeps (delivered m news) (deliver_all log news) h
unfolding delivered deliver_all
keeps_delivered [] k s few = k
keeps_delivered (o ∷ os) {log = log} k s few =
    let a = deliver_all_grows (deliver log o) os in
    keeps_delivered os (keeps_deliver o k (s o (inl refl)) (omega arith)) (λ q i. s q (inr i)) few
