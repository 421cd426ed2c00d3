use Rattle.std.proofs.Common.{get_or}
use Rattle.topology.specs.Networks.{numbers}
use Rattle.worker_pool.proofs.OneByOne.{begun_since}
use Rattle.worker_pool.proofs.shorts.begun_since.Goals as goal

pub returns : goal.returns
returns c =
    begun_since c.device_at.result (get_or (numbers c.args.book.now.core.net.devices) c.args.place 0) c.args.front c.count_begins.result c.args.book.now.log c.log.result.now
    c.log.ensures.value c.device_at.ensures c.count_begins.ensures
