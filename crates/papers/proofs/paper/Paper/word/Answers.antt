use Rattle.std.proofs.Common.{◌≡◌, ap, ◌∙◌, arith, rules}
use borrow.Author.Tests.{tests}
use Rattle.std.specs.List.{reduce, filter_map}
use Rattle.std.specs.Option.{option_map, option_to_list}
use Rattle.std.proofs.lemmas.Iterator.{YieldsList-from_slice}
use Rattle.std.proofs.lemmas.Iterator.Consumers.{YieldsList-from_filter_map}
use Rattle.std.proofs.lemmas.Bool.Decides.{nat_tests}
use Rattle.ops.specs.Doc.{word_at}
use Rattle.papers.specs.Words.{named_word}
use Rattle.papers.proofs.Newest.{newer, word_is_newest}
use Rattle.papers.proofs.Picks.{max_by_key_from_yields_List}
use Rattle.papers.proofs.paper.Paper.word.Goals as goal

pub returns : goal.returns
returns c =
    let e : c.max_by_key.result ≡ reduce newer (filter_map (named_word c.args.key) c.deeds.result.now) =
    max_by_key_from_yields_List _ _ (λ w. w.0) _ (λ x k q h. search (rules, tests)) newer (λ x y. grind (arith, nat_tests)) _ c.max_by_key.result c.max_by_key.ensures.ran
    (YieldsList-from_filter_map _ (named_word c.args.key) (YieldsList-from_slice c.deeds.result.now cc) c.filter_map-written.ensures.closure (λ x r q k. search (rules, tests))) in
    let f : c.map.result ≡ option_map (λ w. w.1) c.max_by_key.result = search rules in
    ap option_to_list (f ∙ ap (option_map (λ w. w.1)) e) ∙ word_is_newest c.args.key c.deeds.result.now ∙ ap (λ ops. word_at ops c.args.key) c.deeds.ensures
