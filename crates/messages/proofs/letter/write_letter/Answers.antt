use Rattle.std.proofs.Common.{refl, arith}
use Rattle.messages.proofs.Written.{wrote_letter, wrote_within, wrote_nothing, front_long}
use Rattle.messages.proofs.letter.write_letter.Goals as goal

pub returns-in_err-out : goal.returns-in_err-out
returns-in_err-out c = let h = c.in_err-out.ensures in rw c.from_residual.ensures (wrote_nothing _ c.args.out.now h.cases)

pub returns : goal.returns
returns c =
    let h = c.in_ok-out.ensures in
    let f = c.write_news-count.ensures.few in
    wrote_within _ c.args.out.now c.in_ok-out.out.now _ _ h.cases.enough h.cases.same (omega (arith, f))
    (wrote_letter _ _ _ _ _ _ _ _ _ _ (front_long _ _ h.cases.enough h.cases.same) c.write_versions.ensures c.write_news-count.ensures.count c.write_news-count.ensures.after
    c.write_head.ensures refl c.seal.ensures)
