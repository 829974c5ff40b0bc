-- The statement of each theorem.
use Rattle.desks.specs.Promise as promise
use Rattle.messages.specs.RoundTrip as letters
use Rattle.network.specs.Said as said
use Rattle.network.specs.Refused as refused
use Rattle.network.specs.Declined as declined
use Rattle.network.specs.Page as page
use Rattle.network.specs.declared.Theorem.{Theorem}
use Rattle.network.specs.declared.Theorem.TheVariants.{AnyOrder, HangsOn, CountsAdded, NewNames, Said, Refused, Declined, RoundTrip, OnlyFor, PageReads}

abbrev pub Statement : Theorem → Type 0
Statement AnyOrder = promise.AnyOrder
Statement HangsOn = promise.HangsOn
Statement CountsAdded = promise.CountsAdded
Statement NewNames = promise.NewNames
Statement Said = said.Said
Statement Refused = refused.Refused
Statement Declined = declined.Declined
Statement RoundTrip = letters.RoundTrip
Statement OnlyFor = letters.OnlyFor
Statement PageReads = page.PageReads
