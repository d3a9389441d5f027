-- The bucket is that of the words.
use Rattle.std.proofs.Common.{arith, ap}
use Rattle.rows_keys.specs.Keys.{bucket_by, bucket_of}
use Rattle.rows_keys.proofs.Spread.bucket.Goals as goal

pub returns : goal.returns
unfolding bucket_of
returns c =
    let n = c.args.self.now.numbers in
    (rw (c.shares.ensures.0, c.shares-2.ensures.0, c.shares-3.ensures.0) (ap (bucket_by n) c.words-w.ensures.value), omega arith)
