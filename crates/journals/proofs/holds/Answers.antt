use Rattle.std.proofs.Common.{sym, refl, subst}
use Rattle.journals.specs.Statements.{Statement}
use Rattle.journals.proofs.Openings.{header_returns}
use Rattle.journals.proofs.Returns.{entry_returns}
use Rattle.journals.proofs.Books.{entry_by_entry, book_returns, cut}
use Rattle.journals.proofs.holds.Goals as goal

pub returns-in-HeaderReturns : goal.returns-in-HeaderReturns
returns-in-HeaderReturns c = (refl, subst Statement (sym c.in-HeaderReturns.is) header_returns)

pub returns-in-EntryReturns : goal.returns-in-EntryReturns
returns-in-EntryReturns c = (refl, subst Statement (sym c.in-EntryReturns.is) (λ e rest w. entry_returns e w rest))

pub returns-in-EntryByEntry : goal.returns-in-EntryByEntry
returns-in-EntryByEntry c = (refl, subst Statement (sym c.in-EntryByEntry.is) entry_by_entry)

pub returns-in-BookReturns : goal.returns-in-BookReturns
returns-in-BookReturns c = (refl, subst Statement (sym c.in-BookReturns.is) book_returns)

pub returns-in-Cut : goal.returns-in-Cut
returns-in-Cut c = (refl, subst Statement (sym c.in-Cut.is) cut)
