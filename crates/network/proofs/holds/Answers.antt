use Rattle.std.proofs.Common.{sym, refl, subst}
use Rattle.network.specs.Statements.{Statement}
use Rattle.messages.proofs.RoundTrip.{decoded, only_for}
use Rattle.network.proofs.Order.{any_order}
use Rattle.network.proofs.HangsOn.{hangs_on}
use Rattle.network.proofs.Keys.{counts_added}
use Rattle.network.proofs.OneMore.{new_names}
use Rattle.network.proofs.Commands.{said}
use Rattle.network.proofs.Refusals.{refused}
use Rattle.network.proofs.OwnRefusals.{declined}
use Rattle.network.proofs.Worked.{page_reads}
use Rattle.network.proofs.holds.Goals as goal

pub returns-in-AnyOrder : goal.returns-in-AnyOrder
returns-in-AnyOrder c = (refl, subst Statement (sym c.in-AnyOrder.is) any_order)

pub returns-in-HangsOn : goal.returns-in-HangsOn
returns-in-HangsOn c = (refl, subst Statement (sym c.in-HangsOn.is) hangs_on)

pub returns-in-CountsAdded : goal.returns-in-CountsAdded
returns-in-CountsAdded c = (refl, subst Statement (sym c.in-CountsAdded.is) counts_added)

pub returns-in-NewNames : goal.returns-in-NewNames
returns-in-NewNames c = (refl, subst Statement (sym c.in-NewNames.is) new_names)

pub returns-in-Said : goal.returns-in-Said
returns-in-Said c = (refl, subst Statement (sym c.in-Said.is) said)

pub returns-in-Refused : goal.returns-in-Refused
returns-in-Refused c = (refl, subst Statement (sym c.in-Refused.is) refused)

pub returns-in-PageReads : goal.returns-in-PageReads
returns-in-PageReads c = (refl, subst Statement (sym c.in-PageReads.is) page_reads)

pub returns-in-RoundTrip : goal.returns-in-RoundTrip
returns-in-RoundTrip c = (refl, subst Statement (sym c.in-RoundTrip.is) decoded)

pub returns-in-OnlyFor : goal.returns-in-OnlyFor
returns-in-OnlyFor c = (refl, subst Statement (sym c.in-OnlyFor.is) only_for)

pub returns-in-Declined : goal.returns-in-Declined
returns-in-Declined c = (refl, subst Statement (sym c.in-Declined.is) declined)
