use Rattle.std.proofs.Common.{◌≡◌, ap, ◌∙◌, rules}
use Rattle.ops.specs.Values.{desk_of, held}
use Rattle.messages.specs.Letter.{received}
use Rattle.messages.proofs.Deliveries.{received_is}
use Rattle.messages.proofs.letter.read_letter.Goals as goal

pub returns-clause-after : goal.returns-clause-after
returns-clause-after c =
    let h = c.in_ok-letter.ensures in
    let e : c.in_ok-letter.letter.bytes.now ≡ c.args.letter.now = search rules in
    record {
      after =
          received_is _ _ _ c.in_ok-letter.letter.bytes.now _ c.note_versions.ensures.after c.deliver_records.ensures.after
          ∙ ap (λ bs. received (desk_of c.args.from) bs (held c.args.memory.now)) e;
      same = c.deliver_records.ensures.same ∙ c.note_versions.ensures.same;
    }
