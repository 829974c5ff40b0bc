use Rattle.std.proofs.Common.{◌+◌, ◌*◌, refl, rules, ap, ◌∙◌, arith}
use Rattle.std.proofs.lemmas.Iterator.{YieldsList-from_range}
use Rattle.std.proofs.lemmas.Iterator.Search.{all_from_yields_List}
use borrow.Author.Tests.{tests}
use Rattle.messages.specs.Records.{is_record, are_records}
use Rattle.messages.proofs.Formed.{all_records}
use Rattle.messages.proofs.parsed.Letter.has_records.Goals as goal

pub returns : goal.returns
returns c =
    all_from_yields_List (λ k. is_record c.args.self.now.bytes.now (132 + k * 16)) _ _ _ c.all.ensures.ran (YieldsList-from_range 0 c.count.result c.count.result refl (omega arith)) (λ k b q h. search (rules, tests))
    ∙ all_records c.args.self.now.bytes.now c.count.result ∙ ap (λ n. are_records n c.args.self.now.bytes.now) c.count.ensures
