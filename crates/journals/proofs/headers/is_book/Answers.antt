use Rattle.std.proofs.lemmas.Slice.Eq.{slice_eq-Decides}
use Rattle.journals.proofs.Openings.{too_short, titled}
use Rattle.journals.proofs.headers.is_book.Goals as goal
use Rattle.std.proofs.lemmas.Bool.Decides.{Decides-eqb}

pub returns-then-bytes-ge-SIZE : goal.returns-then-bytes-ge-SIZE
returns-then-bytes-ge-SIZE c = titled _ _ c.if-bytes-ge-SIZE.true (slice_eq-Decides Decides-eqb _ _ _ c.starts_with.ensures.value)

pub returns-else-bytes-ge-SIZE : goal.returns-else-bytes-ge-SIZE
returns-else-bytes-ge-SIZE c = too_short _ c.if-bytes-ge-SIZE.false
