-- What holds where none of the rules before those on open pars is broken.
use Rattle.std.proofs.Common.{◌≡◌, ◌≤◌, Bool, true, ◌&&◌, leb, List, length, drop, None, sym, ap, ◌∙◌, leb-true}
use Rattle.lists.specs.Lists.{all}
use Rattle.lists.proofs.Tests.{and_left, and_right}
use Rattle.sequence.specs.Sequence.{sound_line}
use Rattle.book.specs.declared.Book.{Book}
use Rattle.book.specs.declared.Pool.{Pool}
use Rattle.book.specs.Opening.{trades_max, records_max, values_fine}
use Rattle.book.specs.Soundness.{live_of, record_fine, in_order, fields_once, is_none}
use Rattle.check_soundness.proofs.Whole.{few_trades}
use Rattle.fault.specs.Rules.{is_sound}
use Rattle.fault.specs.Faults.{table_fault}
use Rattle.fault.proofs.Exactly.{table_exact}

module _ (b : Book) (t : List Pool) (e : None ≡ table_fault b t) where
  abbrev records : Bool
  records = all (record_fine b.values) (live_of b t) && (in_order (live_of b t) && (fields_once (live_of b t) && all is_none (drop b.live t)))

  abbrev after_values : Bool
  after_values = leb (length t) records_max && (sound_line b.values.connection.line && (leb b.live (length t) && records))

  hold : (values_fine b.values && after_values) ≡ true
  hold = sym (table_exact b t) ∙ ap is_sound (sym e)

  pub few : b.values.lent.trade_count ≤ trades_max
  few = few_trades b.values (and_left (values_fine b.values) after_values hold)

  pub short : length t ≤ records_max
  short = leb-true (length t) records_max (and_left (leb (length t) records_max) (sound_line b.values.connection.line && (leb b.live (length t) && records)) (and_right (values_fine b.values) after_values hold))

  records_hold : records ≡ true
  records_hold =
      and_right (leb b.live (length t)) records
      (and_right (sound_line b.values.connection.line) (leb b.live (length t) && records)
      (and_right (leb (length t) records_max) (sound_line b.values.connection.line && (leb b.live (length t) && records)) (and_right (values_fine b.values) after_values hold)))

  pub fine : all (record_fine b.values) (live_of b t) ≡ true
  fine = and_left (all (record_fine b.values) (live_of b t)) (in_order (live_of b t) && (fields_once (live_of b t) && all is_none (drop b.live t))) records_hold

  pub ordered : in_order (live_of b t) ≡ true
  ordered =
      and_left (in_order (live_of b t)) (fields_once (live_of b t) && all is_none (drop b.live t))
      (and_right (all (record_fine b.values) (live_of b t)) (in_order (live_of b t) && (fields_once (live_of b t) && all is_none (drop b.live t))) records_hold)
