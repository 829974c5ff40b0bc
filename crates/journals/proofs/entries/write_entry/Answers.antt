use Rattle.std.proofs.Common.{◌∙◌}
use Rattle.std.proofs.lemmas.Slice.{pushed}
use Rattle.journals.proofs.Written.{entry_is, too_long, no_memory, written}
use Rattle.journals.proofs.entries.write_entry.Goals as goal

pub returns-then-entry-gt-LONGEST_LETTER : goal.returns-then-entry-gt-LONGEST_LETTER
returns-then-entry-gt-LONGEST_LETTER c = too_long _ c.if-entry-gt-LONGEST_LETTER.true

pub returns-in_err-bytes : goal.returns-in_err-bytes
returns-in_err-bytes c = no_memory _ _ c.from_residual.ensures.1 c.if-entry-gt-LONGEST_LETTER.false

pub returns-in_err-extend_from_slice : goal.returns-in_err-extend_from_slice
returns-in_err-extend_from_slice c = no_memory _ _ c.from_residual-in_err-extend_from_slice.ensures.1 c.if-entry-gt-LONGEST_LETTER.false

pub returns : goal.returns
returns c =
    let front = c.in_ok-bytes.ensures in
    let all = pushed _ front c.in_ok-extend_from_slice.was c.extend_from_slice.ensures.items in
    written _ _ c.if-entry-gt-LONGEST_LETTER.false (entry_is _ _ _ _ _ (c.deref.ensures.value ∙ front) c.crc32.ensures c.to_le_bytes-crc.ensures all)
