-- What is asked of bytes that are as long as a letter of theirs, and what is left of a letter's records that are gone through.
use Rattle.std.specs.Prelude.{ℕ, Bool, ◌&&◌, List, drop, ◌==◌}
use Rattle.ops.specs.Doc as doc
use Rattle.messages.specs.Bytes.{byte}
use Rattle.messages.specs.Records.{records, are_records}
use Rattle.messages.specs.Letter.{is_sealed}
use Rattle.messages.specs.declared.parsed.Records.{Records}

-- the head: of this version, from one desk for another
unfoldable pub is_between : ℕ → ℕ → List ℕ → Bool
is_between from for bs = byte bs 0 == 1 && (byte bs 1 == from && byte bs 2 == for)

-- and of well-formed records, undamaged
abbrev pub is_whole : ℕ → ℕ → List ℕ → Bool
is_whole from for bs = is_between from for bs && (are_records (byte bs 3) bs && is_sealed bs)

abbrev pub records_left : Records → List doc.Op
records_left it = drop it.place (records (byte it.letter.bytes.now 3) it.letter.bytes.now)
