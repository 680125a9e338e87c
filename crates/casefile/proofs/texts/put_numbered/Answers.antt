-- The bytes, and the number behind them.
use Rattle.casefile.specs.Texts.{decimal}
use Rattle.casefile.proofs.Writing.{put-behind}
use Rattle.casefile.proofs.texts.put_numbered.Goals as goal

pub returns : goal.returns
returns c = put-behind c.put_bytes-number.ensures (decimal c.args.n) c.requires c.put_decimal.ensures
