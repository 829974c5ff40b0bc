use Rattle.std.proofs.Common.{refl, ◌∙◌}
use Rattle.std.proofs.lemmas.Slice.{pushed}
use Rattle.journals.proofs.LittleEndian.{two_bytes, eight_bytes}
use Rattle.journals.proofs.Written.{unsealed_is}
use Rattle.journals.proofs.entries.unsealed.Goals as goal

pub returns : goal.returns
returns c =
    let none = c.in_ok-bytes.ensures.items in
    let one = pushed _ none c.in_ok-extend_from_slice.was c.extend_from_slice.ensures.items in
    let two = pushed _ one c.in_ok-extend_from_slice-2.was c.extend_from_slice-2.ensures.items in
    let three = pushed _ two c.in_ok-extend_from_slice-3.was c.extend_from_slice-3.ensures.items in
    let four = pushed _ three c.in_ok-extend_from_slice-4.was c.extend_from_slice-4.ensures.items in
    let five = pushed _ four c.in_ok-extend_from_slice-5.was c.extend_from_slice-5.ensures.items in
    let six = pushed _ five c.in_ok-extend_from_slice-6.was c.extend_from_slice-6.ensures.items in
    unsealed_is _ _ _ _ _ _ _ refl (c.to_le_bytes.ensures ∙ two_bytes _) (c.to_le_bytes-2.ensures ∙ two_bytes _)
    (c.to_le_bytes-3.ensures ∙ eight_bytes _) (c.to_le_bytes-4.ensures ∙ eight_bytes _) six
