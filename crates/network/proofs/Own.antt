-- The machine obeys the laws of one desk, so all desks together are right in any run.
use Rattle.std.proofs.Common.{arith}
use Rattle.ops.specs.Doc.{core}
use Rattle.messages.specs.Letter.{most_records}
use Rattle.desks.specs.Promise as promise
use Rattle.desks.specs.Entry.{own}
use Rattle.network.proofs.Laws.{Lawful}
use Rattle.network.proofs.Order.{any_order}
use Rattle.network.proofs.Turns.{turns_core}
use Rattle.network.proofs.Whole.{whole}
use Rattle.network.proofs.OwnRep.{Rep, Bears}
use Rattle.network.proofs.OwnSteady.{own_steady}
use Rattle.network.proofs.OwnOpening.{opens_law}
use Rattle.network.proofs.OwnCommands.{says_law, says-no_law}
use Rattle.network.proofs.OwnLetters.{writes_law, reads_law}

pub own_lawful : Lawful core own most_records Rep Bears
own_lawful =
    record {
      steady = own_steady;
      large = omega arith;
      opens_well = opens_law;
      says_well = says_law;
      says-no = λ i m log h c hi r b sm kn. says-no_law i m log h c hi r kn;
      writes_well = writes_law;
      reads_well = λ i j m log h bs v news hi hj ne r c small b b₁. reads_law i j m log h bs v news hi hj ne r c b₁;
    }

pub whole-core : promise.Whole core own
whole-core = whole core own most_records Rep Bears (turns_core any_order) own_lawful
