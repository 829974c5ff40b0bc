use Rattle.std.proofs.Common.{refl, ◌<◌, ◌≤◌, rules, length, vec_items, arith}
use Rattle.simulator.proofs.Passing.{passed_ok, passed_no}
use Rattle.simulator.proofs.meetings.pass.Goals as goal

pub returns-in_default : goal.returns-in_default
returns-in_default c =
    let len = c.args.desks.now.ok.0 in
    let t = c.args.two in
    let n = c.requires in
    let mail_long : 4096 ≤ length c.args.mail.now = search rules in
    let hi : t.one < length (vec_items c.args.desks.now) = let z = t.near in omega arith in
    let hj : t.other < length (vec_items c.args.desks.now) = let z = t.far in omega arith in
    record {
      passed =
          passed_no _ _ _ hi hj t.apart _ _ _ _ c.index_mut.ensures.value c.index_mut-in_default.ensures.value _ _ _ _ mail_long c.in_default.ensures c.hear.ensures;
      count = let z = c.args.desks.now.ok.0 in c.requires;
    }

pub returns : goal.returns
returns c =
    let len = c.args.desks.now.ok.0 in
    let t = c.args.two in
    let n = c.requires in
    let mail_long : 4096 ≤ length c.args.mail.now = search rules in
    let hi : t.one < length (vec_items c.args.desks.now) = let z = t.near in omega arith in
    let hj : t.other < length (vec_items c.args.desks.now) = let z = t.far in omega arith in
    record {
      passed =
          passed_ok _ _ _ hi hj t.apart _ _ _ _ c.index_mut.ensures.value c.index_mut-2.ensures.value _ _ _ _ _ _ mail_long c.letter.auto.out refl
          c.is_ok-fair.ensures.value c.in-Ok.ensures c.hear-2.ensures;
      count = let z = c.args.desks.now.ok.0 in c.requires;
    }
