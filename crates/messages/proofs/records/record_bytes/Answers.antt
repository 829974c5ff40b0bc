use Rattle.messages.specs.Records.{bytes_of}
use Rattle.messages.proofs.Coding.{bytes_by}
use Rattle.messages.proofs.records.record_bytes.Goals as goal

pub returns-in-Insert : goal.returns-in-Insert
unfolding bytes_of
returns-in-Insert c = bytes_by c.args.op _ _ c.in-Insert.is c.record_of.ensures

pub returns-in-Delete : goal.returns-in-Delete
unfolding bytes_of
returns-in-Delete c = bytes_by c.args.op _ _ c.in-Delete.is c.record_of-in-Delete.ensures

pub returns-in-Write : goal.returns-in-Write
unfolding bytes_of
returns-in-Write c = bytes_by c.args.op _ _ c.in-Write.is c.record_of-in-Write.ensures

pub returns-in-Add : goal.returns-in-Add
unfolding bytes_of
returns-in-Add c = bytes_by c.args.op _ _ c.in-Add.is c.record_of-in-Add.ensures
