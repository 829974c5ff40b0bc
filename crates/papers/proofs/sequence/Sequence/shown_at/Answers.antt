use Rattle.std.proofs.Common.{◌≡◌, not, sym, ap, ◌∙◌, rules}
use borrow.Author.Tests.{tests}
use Rattle.std.specs.List.{filter, slice_get}
use Rattle.std.specs.Option.{option_map}
use Rattle.std.proofs.lemmas.Iterator.{YieldsList-from_slice}
use Rattle.std.proofs.lemmas.Iterator.Consumers.{YieldsList-from_filter, nth_from_yields_List}
use Rattle.std.proofs.lemmas.Option.{slice_get-map}
use Rattle.papers.specs.Signs.{names}
use Rattle.papers.specs.declared.sequence.Sign.{Sign}
use Rattle.papers.proofs.Over.{those-filter}
use Rattle.papers.proofs.Rows.{name-now}
use Rattle.papers.proofs.sequence.Sequence.shown_at.Goals as goal

pub returns : goal.returns
returns c =
    let row = c.deref.result.now in
    let e : option_map (λ s. s.now) c.nth.result ≡ slice_get (filter (λ s. not s.struck) row) c.args.place =
    nth_from_yields_List _ _ _ c.nth.ensures.ran (YieldsList-from_filter _ (λ s. not s.struck) (YieldsList-from_slice row cc) c.filter-shown.ensures.closure (λ x b q k. search (rules, tests))) in
    let f : c.map.result ≡ option_map (λ s. s.now.name) c.nth.result = search rules in
    let name = λ (s : Sign). s.name in
    f ∙ name-now c.nth.result ∙ ap (option_map name) (e ∙ ap (λ r. slice_get r c.args.place) (sym (those-filter _ row))) ∙ sym (slice_get-map name _ c.args.place)
    ∙ ap (λ r. slice_get (names r) c.args.place) c.deref.ensures.value
