use Rattle.std.proofs.Common.{◌<◌, ◌≤◌, length, vec_items, arith}
use Rattle.std.proofs.lemmas.List.{length-map}
use Rattle.simulator.specs.Rooms.{note_of}
use Rattle.simulator.proofs.Playing.{cannot_come, came_one, came_after, reached_next, within}
use Rattle.simulator.proofs.room.Room.deliver.Goals as goal

pub returns-then-letter-len : goal.returns-then-letter-len
returns-then-letter-len c =
    let ls = c.args.self.now.letters in
    let t = c.if-letter-len.true in
    let e = c.len.ensures in
    let f = ls.ok.0 in
    let g = length-map (vec_items ls) note_of in
    cannot_come _ _ (omega arith)

pub invariant_of-self-2 : goal.invariant_of-self-2
invariant_of-self-2 c =
    let self = c.args.self.now in
    let l = c.index-letter.result.now in
    let near = l.near in
    let there : c.args.letter < length (vec_items self.letters) = let t = c.if-letter-len.false in let e = c.len.ensures in let f = self.letters.ok.0 in omega arith in
    let short : length c.as_slice.result.now ≤ 4096 = let s = l.short in let e = c.as_slice.ensures.len in omega arith in
    let p = came_after _ _ _ l _ _ _ _ there c.index-letter.ensures (within self.desks _ self.count near) c.index_mut.ensures.value c.as_slice.ensures.value short c.hear.ensures in
    record { count = self.count; reached = reached_next _ _ _ p self.reached }

pub returns : goal.returns
returns c =
    let self = c.args.self.now in
    let l = c.index-letter.result.now in
    let near = l.near in
    let there : c.args.letter < length (vec_items self.letters) = let t = c.if-letter-len.false in let e = c.len.ensures in let f = self.letters.ok.0 in omega arith in
    let short : length c.as_slice.result.now ≤ 4096 = let s = l.short in let e = c.as_slice.ensures.len in omega arith in
    came_one _ _ _ l _ _ _ _ _ there c.index-letter.ensures (within self.desks _ self.count near) c.index_mut.ensures.value c.as_slice.ensures.value short c.plain.ensures c.hear.ensures
