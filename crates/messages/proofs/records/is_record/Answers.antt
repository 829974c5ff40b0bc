use Rattle.std.proofs.Common.{◌∙◌, le-ltb}
use Rattle.std.proofs.lemmas.Bool.{both_ways}
use Rattle.messages.proofs.Formed.{far_desk, other_tag, near_desk, tag_tested}
use Rattle.messages.proofs.records.is_record.Goals as goal
use Rattle.messages.proofs.records.is_record.Goals.{then-letter-at-lt-DESKS, else-letter-at-lt-DESKS}

pub returns-then-is_ok : goal.returns-then-is_ok
returns-then-is_ok c =
    elim c.if-letter-at-lt-DESKS.branch [
      | then-letter-at-lt-DESKS w ↦
          near_desk _ _ c.type_inv.letter w.if-letter-at-lt-DESKS.true (tag_tested _ _ _ _ _ _ w.from.ensures w.try_from.ensures w.is_ok.ensures.value w.value-is c.if-is_ok.true)
      | else-letter-at-lt-DESKS w ↦ absurd (both_ways _ (w.value-is ∙ le-ltb _ _ w.if-letter-at-lt-DESKS.false) c.if-is_ok.true)
    ]

pub returns-else-is_ok : goal.returns-else-is_ok
returns-else-is_ok c =
    elim c.if-letter-at-lt-DESKS.branch [
      | then-letter-at-lt-DESKS w ↦
          c.if-is_ok.false
          ∙ other_tag _ _ c.type_inv.letter w.if-letter-at-lt-DESKS.true (tag_tested _ _ _ _ _ _ w.from.ensures w.try_from.ensures w.is_ok.ensures.value w.value-is c.if-is_ok.false)
      | else-letter-at-lt-DESKS w ↦ c.if-is_ok.false ∙ far_desk _ _ c.type_inv.letter w.if-letter-at-lt-DESKS.false
    ]
