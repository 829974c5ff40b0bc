-- A new operation, made at a desk that has room for it, is one more of the history, and all else stays as it was.
use Rattle.std.proofs.Common.{◌≡◌, ℕ, suc, ◌<◌, ◌≤◌, true, List, [], ◌∷◌, ◌++◌, length, sym, refl, ap, ◌∙◌, subst, inl, inr, ⊎_elim, arith}
use Rattle.ops.specs.Doc.{Op, about, older, made_by, highest}
use Rattle.ops.proofs.Members.{In, Sub, in_left, in_right}
use Rattle.desks.specs.Run.{Letter}
use Rattle.network.proofs.Laws.{Representation, Bearing}
use Rattle.network.proofs.Distinct.{distinct_made_by}
use Rattle.network.proofs.Counting.{made_by_more}
use Rattle.network.proofs.Targets.{about_in}
use Rattle.network.proofs.Versions.{highest_above, highest_of, version-highest}
use Rattle.network.proofs.Causal.{causal_map, causal_more}
use Rattle.network.proofs.Logs.{History, Nothing, Valid, valid_sub, valid_push}
use Rattle.network.proofs.Invariant.{Replica, replica, with_replica, each-replica, logs_grow, Covered, Underway, Invariant, message_later, heard-later}

module _ {Rep : Representation} {Bears : Bearing} {S : ℕ → Replica} {u : List Op} {ls : List Letter} (c : Invariant Rep Bears S u ls)
    (i : ℕ) (hi : i < 32) (x : Op) (mine : x.name.who ≡ i) (next : x.name.n ≡ suc (highest (S i).log)) where
  deed_latest : (q : Op) → In q u → q.name.who ≡ x.name.who → q.name.n < x.name.n
  deed_latest q h e = let k = highest_above (S i).log q (c.own i hi q h (e ∙ mine)) in omega arith

  pub deed-history : made_by i (S i).log < 256 → older x.name x.kind ≡ true → History (x ∷ u)
  deed-history room past =
      record {
        distinct = ((λ p k z. let y = deed_latest p k (ap (λ v. v.who) z) in let y₁ = ap (λ v. v.n) z in omega arith), c.history.distinct);
        each_one =
            λ o. ⊎_elim
            (λ z. subst (λ v. (1 ≤ v.name.n) × (v.name.n ≤ suc (length u)) × (v.name.who < 32) × (older v.name v.kind ≡ true)) (sym z)
            (omega arith, (let h = low in omega arith), omega arith, past))
            (λ k. let f = c.history.each_one o k in (f.0, (let f₁ = f.1 in omega arith), f.2, f.3));
        few_each =
            λ d. let k = c.history.few_each d in
            ⊎_elim (λ r. let r₀ = r.0 in let m : made_by d u < 256 = subst (λ v. made_by v u < 256) (sym mine ∙ r.1) fewer in omega arith) (λ r. omega arith) (made_by_more d x u);
      }
    where
      low : highest (S i).log ≤ length u
      low =
          ⊎_elim (λ z. omega arith) (λ r. let f = (c.history.each_one r.0 (valid_sub (c.valid i hi) r.0 r.1)).1 in let r₂ = r.2 in omega arith) (highest_of (S i).log)

      -- a desk knows all its own
      fewer : made_by i u < 256
      fewer = let k = distinct_made_by i u (S i).log c.history.distinct (λ o h e. c.own i hi o h e) in omega arith

  deed_others : (log : List Op) → Valid u log → Valid (x ∷ u) log
  deed_others log g = record { distinct = g.distinct; causal = causal_more u x Nothing log deed_latest g.causal }

  pub deed_valid : about (S i).log x.kind ≡ true → Valid (x ∷ u) ((S i).log ++ x ∷ [])
  deed_valid target =
      valid_push x (deed_others (S i).log (c.valid i hi))
      (record {
        here = inl refl;
        before = λ p k e l. ⊎_elim (λ z. absurd (let y = ap (λ (v : Op). v.name.n) z in omega arith)) (λ h. c.own i hi p h (e ∙ mine)) k;
        target = about_in (S i).log x.kind target;
      })
      (let t = version-highest (S i).log x.name.who in omega arith)

  deed_message : (S₁ : ℕ → Replica) → ((k : ℕ) → Sub (S k).log (S₁ k).log) → (l : Letter) → Underway Bears S u l → Underway Bears S₁ (x ∷ u) l
  deed_message S₁ grow l m =
      let a = message_later S S₁ grow m.3 in (
        m.0,
        m.1,
        m.2,
        record {
          from_desk = a.from_desk;
          for_desk = a.for_desk;
          apart = a.apart;
          bears = a.bears;
          version_low = a.version_low;
          base_low = a.base_low;
          causal =
              causal_map (x ∷ u) (Covered u m.2) (Covered (x ∷ u) m.2) m.1 (λ q b. (inr b.0, b.1))
              (causal_more u x (Covered u m.2) m.1 deed_latest a.causal);
          known = λ o b. inr (a.known o b);
          part = a.part;
          whole = a.whole;
        },
      )

  pub deed_done : (m : List ℕ) → made_by i (S i).log < 256 → older x.name x.kind ≡ true → about (S i).log x.kind ≡ true → Rep i m ((S i).log ++ x ∷ []) (S i).heard →
      Invariant Rep Bears (with_replica S i (replica m ((S i).log ++ x ∷ []) (S i).heard)) (x ∷ u) ls
  deed_done m room past target r =
      let s : Replica = replica m ((S i).log ++ x ∷ []) (S i).heard in
      let sub : Sub (S i).log s.log = in_left (S i).log (x ∷ []) in
      record {
        history = deed-history room past;
        valid = each-replica (λ k t. k < 32 → Valid (x ∷ u) t.log) S i s (λ h. deed_valid target) (λ k e h. deed_others (S k).log (c.valid k h));
        own =
            each-replica (λ k t. k < 32 → (o : Op) → In o (x ∷ u) → o.name.who ≡ k → In o t.log) S i s
            (λ h o a e. ⊎_elim (λ z. in_right (S i).log (x ∷ []) o (inl z)) (λ b. sub o (c.own i hi o b e)) a)
            (λ k ne h o a e. ⊎_elim (λ z. absurd (ne (sym e ∙ (ap (λ (v : Op). v.name.who) z ∙ mine)))) (λ b. c.own k h o b e) a);
        stands = each-replica (λ k t. k < 32 → Rep k t.memory t.log t.heard) S i s (λ h. r) (λ k e. c.stands k);
        heard_low = heard-later c i s sub (λ j hj d. c.heard_low i hi j hj d);
        underway = λ l k. deed_message (with_replica S i s) (logs_grow S i s sub) l (c.underway l k);
      }
