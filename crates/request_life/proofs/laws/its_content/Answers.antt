use Rattle.request_life.proofs.Due.{content_is_first, uncollected_is_not_looked_up, content_comes}
use Rattle.request_life.proofs.Orders.{unread_closes}
use Rattle.request_life.proofs.laws.its_content.Goals as goal

pub returns-clause-begun : goal.returns-clause-begun
returns-clause-begun c = content_is_first

pub returns-clause-collected : goal.returns-clause-collected
returns-clause-collected c = uncollected_is_not_looked_up

pub returns-clause-coming : goal.returns-clause-coming
returns-clause-coming c = content_comes

pub returns-clause-amid : goal.returns-clause-amid
returns-clause-amid c = unread_closes
