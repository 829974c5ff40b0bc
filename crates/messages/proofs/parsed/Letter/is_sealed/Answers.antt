use Rattle.std.proofs.Common.{refl}
use Rattle.messages.proofs.Wholeness.{sealed_is}
use Rattle.messages.proofs.parsed.Letter.is_sealed.Goals as goal

pub returns : goal.returns
returns c = sealed_is _ _ _ _ refl c.number_at.ensures c.crc32.ensures
