-- The book with its two counters moved by an answer (01, "The line" and "What goes out").
use Rattle.std.specs.Prelude.{ℕ, List}
use Rattle.book.specs.declared.Book.{Book}
use Rattle.book.specs.declared.Answer.{Answer}
use Rattle.book.specs.Step.{line_of, outbound_of}

-- all but the line and the last outbound number stays
unfoldable pub with_counters : Book → List ℕ → Answer → Book
with_counters book body a =
    record {
      values =
          record {
            trades = book.values.trades;
            lent = book.values.lent;
            last_message_id = book.values.last_message_id;
            connection = record { id = book.values.connection.id; line = line_of book body a; outbound = outbound_of book body a };
          };
      live = book.live;
    }
