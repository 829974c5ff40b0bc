use Rattle.std.proofs.Common.{◌<◌, map, length, vec_items, arith}
use Rattle.simulator.specs.Rooms.{note_of}
use Rattle.simulator.proofs.Looking.{noted, note-there}
use Rattle.simulator.proofs.room.Room.letter.Goals as goal

pub returns-then-number-letters : goal.returns-then-number-letters
returns-then-number-letters c = let t = c.if-number-letters.true in let e = c.letters.ensures in omega arith

pub returns : goal.returns
returns c =
    let ls = c.args.self.now.letters in
    let n = noted ls in
    let f = ls.ok.0 in
    let t = c.if-number-letters.false in
    let e = c.letters.ensures in
    let there : c.args.number < length (vec_items ls) = omega arith in
    let here : c.args.number < length (map note_of (vec_items ls)) = omega arith in
    (here, note-there (vec_items ls) _ _ there c.index.ensures)

pub index-requires : goal.index-requires
index-requires c = let n = noted c.args.self.now.letters in let t = c.if-number-letters.false in let e = c.letters.ensures in omega arith
