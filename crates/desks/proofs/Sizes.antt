-- What fits: a step fits whose call there is, and that is lent rows of the right sizes.
use Rattle.std.proofs.Common.{◌≡◌, ℕ, ◌≤◌, Bool, true, false, ◌&&◌, eqb, leb, List, length, sym, refl, ap, ◌∙◌}
use lib.ListN.{length-replicate}
use Rattle.std.proofs.lemmas.Bool.{and_parts, lt-leb}
use Rattle.ops.specs.Layout.{memory_size}
use Rattle.desks.specs.Machine.{blank}
use Rattle.desks.specs.Calls.{call_number, sizes_fit}
use Rattle.desks.specs.Entry.{own, step_fits}
use Rattle.desks.specs.declared.call.Call.{Call}
use Rattle.desks.specs.declared.call.Call.TheVariants.{Open, Insert, Strike, Write, Add, ShowText, ShowKey, Send, Read, GoOn}

pub own-length : length own.start ≡ memory_size
unfolding own blank
own-length = length-replicate {A = ℕ} memory_size 0

-- the last call is number 9
call_is : (call : Call) (k : ℕ) → call_number call ≡ k → leb k 9 ≡ true
call_is Open k e = ap (λ n. leb n 9) (sym e)
call_is Insert k e = ap (λ n. leb n 9) (sym e)
call_is Strike k e = ap (λ n. leb n 9) (sym e)
call_is Write k e = ap (λ n. leb n 9) (sym e)
call_is Add k e = ap (λ n. leb n 9) (sym e)
call_is ShowText k e = ap (λ n. leb n 9) (sym e)
call_is ShowKey k e = ap (λ n. leb n 9) (sym e)
call_is Send k e = ap (λ n. leb n 9) (sym e)
call_is Read k e = ap (λ n. leb n 9) (sym e)
call_is GoOn k e = ap (λ n. leb n 9) (sym e)

module _ (m : List ℕ) (k : ℕ) (l row out : List ℕ) where
  abbrev lent : Bool
  lent = leb (length l) 4096 && (leb 8192 (length row) && leb 4096 (length out))

  fits_is : step_fits m k l row out ≡ (eqb (length m) memory_size && (leb k 9 && lent))
  unfolding step_fits
  fits_is = ap (λ n. eqb (length m) n && (leb k 9 && lent)) own-length

  pub not_sized : false ≡ sizes_fit m l row out → false ≡ step_fits m k l row out
  not_sized e = go (eqb (length m) memory_size) (leb k 9) e ∙ sym fits_is
    where
      go : (a b : Bool) → false ≡ (a && lent) → false ≡ (a && (b && lent))
      go true true e = e
      go true false e = refl
      go false b e = refl

  pub no_call : 10 ≤ k → false ≡ step_fits m k l row out
  no_call h = go (eqb (length m) memory_size) (leb k 9) (lt-leb k 9 h) ∙ sym fits_is
    where
      go : (a b : Bool) → b ≡ false → false ≡ (a && (b && lent))
      go true b e = ap (λ b. b && lent) (sym e)
      go false b e = refl

  pub sized : true ≡ sizes_fit m l row out → (call : Call) → call_number call ≡ k → true ≡ step_fits m k l row out
  sized e call n = e ∙ ap (λ b. eqb (length m) memory_size && (b && lent)) (sym (call_is call k n)) ∙ sym fits_is

  pub fits_out : true ≡ step_fits m k l row out → leb 4096 (length out) ≡ true
  fits_out e =
      let p = and_parts (eqb (length m) memory_size) (leb k 9 && lent) (sym (e ∙ fits_is)) in
      let q = and_parts (leb k 9) lent p.1 in
      let r = and_parts (leb (length l) 4096) (leb 8192 (length row) && leb 4096 (length out)) q.1 in
      (and_parts (leb 8192 (length row)) (leb 4096 (length out)) r.1).1
