use Rattle.std.proofs.Common.{◌≤◌, map, length, vec_len, sym, ap, arith}
use Rattle.network.specs.Room.{note, room}
use Rattle.simulator.specs.Rooms.{note_of, memories}
use Rattle.simulator.proofs.Twos.{is_two}
use Rattle.simulator.proofs.Playing.{kept_none, kept_one, cut_row, none_played, reached_next, reached_same, within}
use Rattle.simulator.proofs.room.Room.send.Goals as goal

pub invariant_of-self : goal.invariant_of-self
invariant_of-self c =
    let self = c.args.self.now in
    record { count = self.count; reached = reached_same _ _ (ap (λ l. room (memories self.desks) (map note_of l)) c.reserve.ensures.items) self.reached }

pub returns-in_err-reserve : goal.returns-in_err-reserve
returns-in_err-reserve c =
    let self = c.args.self.now in
    none_played _ _ _ _ c.from_residual-in_err-reserve.ensures.0 (ap (λ l. room (memories self.desks) (map note_of l)) c.reserve.ensures.items)

pub invariant_of-self-in-Err-1 : goal.invariant_of-self-in-Err-1
invariant_of-self-in-Err-1 c =
    let self = c.args.self.now in
    let t = c.args.two in
    let two = is_two t in
    let there = within self.desks _ self.count t.near in
    let long : 4096 ≤ length c.as_mut_slice.result.now = let e = c.as_mut_slice.ensures.len in let f = c.in_ok-bytes.ensures.len in omega arith in
    let p = kept_none _ _ _ _ _ _ _ _ _ _ two there c.index_mut.ensures.value long c.in-Err.ensures c.reserve.ensures.items in
    record { count = self.count; reached = reached_next _ _ _ p.after self.reached }

pub returns-in-Err : goal.returns-in-Err
returns-in-Err c =
    let self = c.args.self.now in
    let t = c.args.two in
    let two = is_two t in
    let there = within self.desks _ self.count t.near in
    let long : 4096 ≤ length c.as_mut_slice.result.now = let e = c.as_mut_slice.ensures.len in let f = c.in_ok-bytes.ensures.len in omega arith in
    kept_none _ _ _ _ _ _ _ _ _ _ two there c.index_mut.ensures.value long c.in-Err.ensures c.reserve.ensures.items

pub invariant_of-push_reserved : goal.invariant_of-push_reserved
invariant_of-push_reserved c =
    let n = c.truncate.ensures.len in
    let f = c.in_ok-bytes.ensures.len in
    let short : vec_len c.truncate.new.self ≤ 4096 = omega arith in
    record { near = c.args.two.far; short = short }

pub invariant_of-self-2 : goal.invariant_of-self-2
invariant_of-self-2 c =
    let self = c.args.self.now in
    let t = c.args.two in
    let two = is_two t in
    let there = within self.desks _ self.count t.near in
    let long : 4096 ≤ length c.as_mut_slice.result.now = let e = c.as_mut_slice.ensures.len in let f = c.in_ok-bytes.ensures.len in omega arith in
    let cut = cut_row _ _ _ _ _ _ (sym c.in_ok-bytes.bytes.ok.0) c.as_mut_slice.ensures.value c.letter.auto.out c.truncate.ensures.items in
    let p =
    kept_one _ _ _ _ _ _ _ _ _ _ _ _ two there c.index_mut.ensures.value long c.in-Ok.ensures c.reserve.ensures.items c.push_reserved.ensures.items
    (ap (note t.one t.other) cut) in
    record { count = self.count; reached = reached_next _ _ _ p.after self.reached }

pub returns : goal.returns
returns c =
    let self = c.args.self.now in
    let t = c.args.two in
    let two = is_two t in
    let there = within self.desks _ self.count t.near in
    let long : 4096 ≤ length c.as_mut_slice.result.now = let e = c.as_mut_slice.ensures.len in let f = c.in_ok-bytes.ensures.len in omega arith in
    let cut = cut_row _ _ _ _ _ _ (sym c.in_ok-bytes.bytes.ok.0) c.as_mut_slice.ensures.value c.letter.auto.out c.truncate.ensures.items in
    kept_one _ _ _ _ _ _ _ _ _ _ _ _ two there c.index_mut.ensures.value long c.in-Ok.ensures c.reserve.ensures.items c.push_reserved.ensures.items
    (ap (note t.one t.other) cut)
