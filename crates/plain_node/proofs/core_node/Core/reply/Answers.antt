use Rattle.plain_node.proofs.MessageLemmas.{reply_code-fits}
use Rattle.plain_node.proofs.core_node.Core.reply.Goals as goal

pub written-requires-clause-fits : goal.written-requires-clause-fits
written-requires-clause-fits c = rw c.opcode-op.ensures (reply_code-fits _ c.args.from c.args.url.now c.requires.whole)
