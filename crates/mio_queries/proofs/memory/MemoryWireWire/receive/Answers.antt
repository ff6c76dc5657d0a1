use Rattle.mio_queries.proofs.MemoryLemmas.{receipts_more_ok, receipts_more_err}
use Rattle.mio_queries.proofs.memory.MemoryWireWire.receive.Goals as goal

pub returns-in-Ok-clause-received : goal.returns-in-Ok-clause-received
returns-in-Ok-clause-received c =
    receipts_more_ok c.args.self.now.answers.items c.deref.result.now c.args.self.now.taken c.in-Some-Ok.field-0.now _ _ c.deref.ensures.value c.in-Some-Ok.ensures.lookup.3.0 c.in-Some-Ok.ensures.lookup.1 c.in-Some-Ok.field-0-is c.in-Ok.ensures

pub returns-in-Some-Err-NoMemory-clause-refused : goal.returns-in-Some-Err-NoMemory-clause-refused
returns-in-Some-Err-NoMemory-clause-refused c =
    receipts_more_err c.args.self.now.answers.items c.deref.result.now c.args.self.now.taken c.in-Some-Err-NoMemory.field-0.now _ c.deref.ensures.value c.in-Some-Err-NoMemory.ensures.lookup.3.0 c.in-Some-Err-NoMemory.ensures.lookup.1 c.in-Some-Err-NoMemory.field-0-is

pub returns-in-Some-Err-Io-clause-refused : goal.returns-in-Some-Err-Io-clause-refused
returns-in-Some-Err-Io-clause-refused c =
    receipts_more_err c.args.self.now.answers.items c.deref.result.now c.args.self.now.taken c.in-Some-Err-Io.field-0.now _ c.deref.ensures.value c.in-Some-Err-Io.ensures.lookup.3.0 c.in-Some-Err-Io.ensures.lookup.1 c.in-Some-Err-Io.field-0-is
