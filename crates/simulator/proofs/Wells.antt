-- Whether a letter was made well, or read well, from how the run ended.
use Rattle.std.proofs.Common.{◌≡◌, ℕ, ◌≤◌, true, false, not, ◌&&◌, eqb, List, [], ◌∷◌, is_ok, Ok, Err, Result, sym, ap, arith}
use Rattle.std.proofs.lemmas.Bool.{ne_eqb}
use Rattle.ops.specs.Doc.{none_of}
use Rattle.desks.specs.Run.{Ran, made_well, read_well}
use Rattle.desks.specs.Refusals.{number_of}
use Rattle.desks.specs.declared.refusal.Refusal.{Refusal}
use Rattle.replicas.specs.Replica.{Ended}

refused_end : (n k : ℕ) → n ≡ k → 1 ≤ k → eqb n 0 ≡ false
refused_end n k e l = ne_eqb n 0 (λ z. omega arith)

pub made_ok : (x : Ran) (b : List ℕ) → x.end ≡ 0 → x.showed ≡ [] → x.sent ≡ b ∷ [] → made_well x ≡ true
unfolding none_of
made_ok x b e s l = λ i. eqb (e i) 0 && (none_of (s i) && not (none_of (l i)))

pub made_no : (x : Ran) (k : ℕ) → x.end ≡ k → 1 ≤ k → made_well x ≡ false
made_no x k e l = ap (λ t. t && (none_of x.showed && not (none_of x.sent))) (refused_end x.end k e l)

pub read_is : (x : Ran) (r : Result (Unit {0}) Refusal) → Ended x r → x.showed ≡ [] → x.sent ≡ [] → is_ok r ≡ read_well x
unfolding none_of
read_is x (Ok v) e s l = sym (λ i. eqb (e i) 0 && (none_of (s i) && none_of (l i)))
read_is x (Err k) e s l = sym (ap (λ t. t && (none_of x.showed && none_of x.sent)) (refused_end x.end (number_of k) e.0 e.1))
