-- A machine that is told which desk it is stands for an empty log.
use Rattle.std.proofs.Common.{◌≡◌, ℕ, suc, ◌<◌, true, List, [], length, set, replicate, sym, refl, ap, ◌∙◌, subst, arith, length-set, get_or-set_other, get_or-set_same}
use lib.ListN.{get_or-replicate, length-replicate}
use Rattle.ops.specs.Layout.{memory_size}
use Rattle.desks.specs.Run.{opens, done, Ran, runs_on, read_well}
use Rattle.desks.specs.Promise.{opened}
use Rattle.desks.specs.Machine.{says, idle, does, step_own, blank}
use Rattle.desks.specs.Entry.{own}
use Rattle.desks.proofs.Refusals.{opens_well}
use Rattle.desks.proofs.Telling.{accepts}
use Rattle.network.proofs.Keeping.{keeps_blank}
use Rattle.network.proofs.OwnRep.{Rep}
use Rattle.network.proofs.OwnRuns.{own_done}
use Rattle.network.proofs.OwnLetters.{well_read}

-- the number of cells is a variable here, so that no list of so many is written out
module _ (n : ℕ) (e : n ≡ memory_size) (i : ℕ) (hi : i < 32) where
  abbrev zeros : List ℕ
  zeros = replicate n 0

  abbrev opened_cells : List ℕ
  opened_cells = set (idle zeros) 0 (suc i)

  rep_opened : Rep i opened_cells [] (λ p d. 0)
  rep_opened =
      let l : length (idle zeros) ≡ n = length-set zeros 1 0 ∙ length-replicate {A = ℕ} n 0 in
      record {
        keeps = keeps_blank n (suc i) e;
        desk = get_or-set_same (idle zeros) 0 (suc i) 0 (omega arith);
        still = get_or-set_other (idle zeros) 0 1 (suc i) 0 (omega arith) ∙ get_or-set_same zeros 1 0 0 (let q = length-replicate {A = ℕ} n 0 in omega arith);
      }

  opens_step : step_own zeros (opens i) ≡ says opened_cells done
  unfolding does
  opens_step = accepts zeros (opens i) (opens_well zeros i hi (let z = get_or-replicate {A = ℕ} n 0 0 0 (omega arith) in λ o. omega arith))

  opens_zeros : (read_well (runs_on 3 own zeros (opens i)) ≡ true) × Rep i (runs_on 3 own zeros (opens i)).memory [] (λ p d. 0)
  opens_zeros =
      let p = own_done zeros opened_cells (opens i) opens_step in
      (ap (λ z. read_well z) p ∙ well_read opened_cells, subst (λ (z : Ran). Rep i z.memory [] (λ p d. 0)) (sym p) rep_opened)

own-start : own.start ≡ blank
unfolding own
own-start = refl

blank_is : blank ≡ replicate memory_size 0
unfolding blank
blank_is = refl

pub opens_law : (i : ℕ) → i < 32 → (read_well (opened 3 own i) ≡ true) × Rep i (opened 3 own i).memory [] (λ p d. 0)
opens_law i hi =
    subst (λ m. (read_well (runs_on 3 own m (opens i)) ≡ true) × Rep i (runs_on 3 own m (opens i)).memory [] (λ p d. 0)) (sym (own-start ∙ blank_is)) (opens_zeros memory_size refl i hi)
