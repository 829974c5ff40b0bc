use Rattle.std.proofs.Common.{◌≡◌, map, ap, ◌∙◌, arith}
use Rattle.ops.specs.Doc.{each}
use Rattle.desks.specs.Promise.{up_to, opened}
use Rattle.desks.specs.Entry.{own}
use Rattle.replicas.specs.Replica.{memory_of}
use Rattle.simulator.proofs.Playing.{none_opened, one_opened, is_first, reached_first}
use Rattle.simulator.proofs.room.Room.new.Goals as goal

pub loop-desk-init : goal.loop-desk-init
loop-desk-init c = (c.new-desks.ensures.len, ap (map memory_of) c.new-desks.ensures.items ∙ none_opened)

pub loop-desk-preserved : goal.loop-desk-preserved
loop-desk-preserved c =
    let p = c.in_ok-push.ensures in
    let n = p.len in
    let m = c.loop-desk.invariant.0 in
    (omega arith, one_opened _ _ _ _ p.items c.in-Ok.ensures.1 c.loop-desk.invariant.1)

pub invariant_of-result : goal.invariant_of-result
invariant_of-result c =
    let l = c.loop-desk-test.false in
    let k = c.loop-desk.auto.desk-end in
    let m = c.loop-desk.invariant.0 in
    let e : c.loop-desk.desk ≡ 32 = omega arith in
    record { count = omega arith; reached = reached_first _ (is_first _ _ (c.loop-desk.invariant.1 ∙ ap (λ n. each (λ i. (opened 3 own i).memory) (up_to n)) e) c.new-letters.ensures.items) }

pub returns : goal.returns
returns c =
    let l = c.loop-desk-test.false in
    let k = c.loop-desk.auto.desk-end in
    let e : c.loop-desk.desk ≡ 32 = omega arith in
    is_first _ _ (c.loop-desk.invariant.1 ∙ ap (λ n. each (λ i. (opened 3 own i).memory) (up_to n)) e) c.new-letters.ensures.items
