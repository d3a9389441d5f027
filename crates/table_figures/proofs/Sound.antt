-- What a sound book gives to the figures: live records that are few and light enough to sum, and whose sum is the standing millions.
use Rattle.std.proofs.Common.{◌≡◌, ℕ, ◌≤◌, true, List, length, take, arith, leb-true, length-take-le}
use Rattle.book.specs.declared.Book.{Book}
use Rattle.book.specs.declared.Pool.{Pool}
use Rattle.book.specs.Records.{standing_millions}
use Rattle.book.specs.Opening.{records_max}
use Rattle.book.specs.Soundness.{is_sound, Sound}
use Rattle.book.proofs.Reached.{is_sound_law}
use Rattle.rows.specs.Runs.{run_sum, millions_share, share_of}
use Rattle.rows.proofs.Runs.{standing_runs}
use Rattle.check_soundness.specs.Parts.{Light}
use Rattle.check_soundness.proofs.Whole.{few_trades, light}

module _ (b : Book) (t : List Pool) (e : is_sound b t ≡ true) where
  facts : Sound b t
  facts = is_sound_law b t e

  within : b.live ≤ length t
  within = leb-true b.live (length t) facts.live_within

  pub live_few : length (take b.live t) ≡ b.live
  live_few = length-take-le b.live t within

  pub short : length (take b.live t) ≤ records_max
  short = omega (arith, live_few, within, leb-true (length t) records_max facts.table_short)

  pub all_light : Light (take b.live t)
  all_light = light b.values (few_trades b.values facts.values) (take b.live t) facts.records

  pub standing : (trade : ℕ) → run_sum (share_of trade millions_share) 0 0 (take b.live t) ≡ standing_millions trade (take b.live t)
  standing trade = standing_runs b.values (take b.live t) facts.ordered facts.records trade
