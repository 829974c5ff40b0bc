use Rattle.std.proofs.Common.{◌≡◌, true, false, sym, refl, ap, ◌∙◌, eqb, get_or, arith, eq-eqb, ne_eqb}
use Rattle.std.proofs.lemmas.Bool.{both_ways}
use Rattle.messages.specs.Bytes.{byte}
use Rattle.messages.proofs.Wholeness.{between_is}
use Rattle.messages.proofs.parsed.Letter.is_between.Goals as goal
use Rattle.messages.proofs.parsed.Letter.is_between.Goals.{then-self-eq-FORMAT, else-self-eq-FORMAT}

pub returns-then-self-from : goal.returns-then-self-from
returns-then-self-from c =
    let bs = c.args.self.now.bytes.now in
    let a : get_or bs 2 0 ≡ byte bs 2 = omega arith in
    elim c.if-self-eq-FORMAT.branch [
      | then-self-eq-FORMAT w ↦
          let b : get_or bs 1 0 ≡ byte bs 1 = omega arith in
          between_is _ _ bs true true _ (sym (eq-eqb (byte bs 0) 1 (omega arith))) (sym c.if-self-from.true ∙ w.value-is ∙ ap (λ n. eqb n c.args.from.number) b) (ap (λ n. eqb n c.args.to.number) a)
      | else-self-eq-FORMAT w ↦ absurd (both_ways _ (w.value-is ∙ ne_eqb _ _ w.if-self-eq-FORMAT.false) c.if-self-from.true)
    ]

pub returns-else-self-from : goal.returns-else-self-from
returns-else-self-from c =
    let bs = c.args.self.now.bytes.now in
    elim c.if-self-eq-FORMAT.branch [
      | then-self-eq-FORMAT w ↦
          let b : get_or bs 1 0 ≡ byte bs 1 = omega arith in
          c.if-self-from.false
          ∙ between_is _ _ bs true false _ (sym (eq-eqb (byte bs 0) 1 (omega arith))) (sym c.if-self-from.false ∙ w.value-is ∙ ap (λ n. eqb n c.args.from.number) b) refl
      | else-self-eq-FORMAT w ↦ c.if-self-from.false ∙ between_is _ _ bs false _ _ (sym (ne_eqb (byte bs 0) 1 (λ e. w.if-self-eq-FORMAT.false (omega arith)))) refl refl
    ]
