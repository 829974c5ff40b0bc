-- The page reads as it says: each row is computed.
use Rattle.std.proofs.Common.{refl}
use Rattle.ops.specs.Doc.{any, those, each, flat, added_up, same_kind, kind_behind, put_op, newest_first, behind, strikes, sign_of, is_under, word_of, count_of, first_word, highest, nth_op, turn}
use Rattle.network.specs.Page.{PageReads}

pub page_reads : PageReads
unfolding any those each flat added_up same_kind kind_behind put_op newest_first behind strikes sign_of is_under word_of count_of first_word highest nth_op turn
page_reads =
    ((refl, refl, refl), (refl, refl, refl), (refl, refl, refl), (refl, refl, refl), (refl, refl, refl), (refl, refl, refl), (refl, refl, refl), refl, refl)
