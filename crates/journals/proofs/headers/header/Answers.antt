use Rattle.std.proofs.Common.{◌∙◌}
use Rattle.journals.proofs.Written.{header_is}
use Rattle.journals.proofs.headers.header.Goals as goal

pub returns : goal.returns
returns c =
    header_is _ _ _ _ c.copy_from_slice.ensures.after c.crc32.ensures
    (c.copy_from_slice-2.ensures.after ∙ c.to_le_bytes-crc.ensures)
