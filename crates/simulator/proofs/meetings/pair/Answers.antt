use Rattle.std.proofs.Common.{◌<◌, vec_len, arith}
use Rattle.simulator.proofs.Passing.{counted, paired, turned}
use Rattle.simulator.proofs.meetings.pair.Goals as goal

pub returns : goal.returns
returns c =
    let desks = c.args.desks.now in
    let t = c.args.two in
    let n = c.requires in
    let a : t.one < vec_len desks = let z = t.near in omega arith in
    let b : t.other < vec_len desks = let z = t.far in omega arith in
    record {
      paired = paired _ _ _ _ _ _ _ _ _ (counted desks _ a) (counted desks _ b) t.apart c.pass-there.ensures.passed (turned _ _ _ _ _ _ _ _ c.turned.ensures.0 c.turned.ensures.1 c.pass-back.ensures.passed);
      count = c.pass-back.ensures.count;
    }
