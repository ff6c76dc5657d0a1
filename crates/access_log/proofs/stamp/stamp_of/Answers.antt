use Rattle.access_log.proofs.Places.{places}
use Rattle.access_log.proofs.stamp.stamp_of.Goals as goal

pub returns : goal.returns
returns c = places c.args.date.now c.to_bytes-text.result c.month_digits.result c.to_bytes-text.ensures c.month_digits.ensures
