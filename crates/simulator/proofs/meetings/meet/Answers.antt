use Rattle.std.proofs.Common.{◌≡◌, ◌+◌, ◌<◌, vec_len, subst, arith}
use Rattle.simulator.specs.Rooms.{memories}
use Rattle.simulator.specs.Meetings.{Met}
use Rattle.simulator.proofs.Passing.{counted, known-there, level-there}
use Rattle.simulator.proofs.UnderWay.{sets_out, ends_level, ends_all, goes_on}
use Rattle.simulator.proofs.meetings.meet.Goals as goal

pub overflow_add-most : goal.overflow_add-most
overflow_add-most c = let b = c.known.ensures.bound in omega arith

pub overflow_add-most-2 : goal.overflow_add-most-2
overflow_add-most-2 c = let b = c.known.ensures.bound in let d = c.known-2.ensures.bound in omega arith

pub loop-pairs-init : goal.loop-pairs-init
loop-pairs-init c = (c.requires, sets_out _ _ _)

pub returns-then-is_level_with : goal.returns-then-is_level_with
returns-then-is_level_with c =
    let desks = c.args.desks.now in
    let now = c.loop-pairs.desks in
    let n = c.loop-pairs.invariant.0 in
    let m = c.requires in
    let near = c.args.two.near in
    let far = c.args.two.far in
    let h : c.args.two.one < vec_len desks = omega arith in
    let g : c.args.two.other < vec_len desks = omega arith in
    let a = known-there desks c.args.two.one _ _ h c.index.ensures c.known.ensures.value in
    let b = known-there desks c.args.two.other _ _ g c.index-2.ensures c.known-2.ensures.value in
    let t = c.loop-pairs-test.true in
    record {
      met =
          ends_level _ _ _ _ _ _ _ c.loop-pairs.invariant.1 (omega arith)
          (level-there now c.args.two.one c.args.two.other _ _ _ (omega arith) (omega arith) c.index-in-loop-pairs.ensures c.index-in-loop-pairs-2.ensures c.if-is_level_with.ensures);
      count = n;
    }

pub loop-pairs-preserved : goal.loop-pairs-preserved
loop-pairs-preserved c =
    let desks = c.args.desks.now in
    let now = c.loop-pairs.desks in
    let n = c.loop-pairs.invariant.0 in
    let m = c.requires in
    let near = c.args.two.near in
    let far = c.args.two.far in
    let h : c.args.two.one < vec_len desks = omega arith in
    let g : c.args.two.other < vec_len desks = omega arith in
    let a = known-there desks c.args.two.one _ _ h c.index.ensures c.known.ensures.value in
    let b = known-there desks c.args.two.other _ _ g c.index-2.ensures c.known-2.ensures.value in
    let t = c.loop-pairs-test.true in
    let here : c.args.two.one < vec_len now = omega arith in
    let there : c.args.two.other < vec_len now = omega arith in (
      c.pair-mail.ensures.count,
      goes_on _ _ _ _ _ _ _ _ _ _ (counted now _ here) (counted now _ there) c.args.two.apart c.loop-pairs.invariant.1 (omega arith)
          (level-there now c.args.two.one c.args.two.other _ _ _ here there c.index-in-loop-pairs.ensures c.index-in-loop-pairs-2.ensures c.if-is_level_with.ensures) c.pair-mail.ensures.paired,
    )

pub returns : goal.returns
returns c =
    let desks = c.args.desks.now in
    let m = c.requires in
    let near = c.args.two.near in
    let far = c.args.two.far in
    let h : c.args.two.one < vec_len desks = omega arith in
    let g : c.args.two.other < vec_len desks = omega arith in
    let a = known-there desks c.args.two.one _ _ h c.index.ensures c.known.ensures.value in
    let b = known-there desks c.args.two.other _ _ g c.index-2.ensures c.known-2.ensures.value in
    let l = c.loop-pairs-test.false in
    let k = c.loop-pairs.auto.pairs-end in
    let e : c.loop-pairs.pairs ≡ 8 + c.known.result + c.known-2.result = omega arith in
    record {
      met =
          subst (λ n. Met (memories desks) c.args.two.one c.args.two.other n c.loop-pairs.fair c.loop-pairs.bytes (memories c.loop-pairs.desks)) e
          (ends_all _ _ _ _ _ _ _ c.loop-pairs.invariant.1 (omega arith));
      count = c.loop-pairs.invariant.0;
    }
