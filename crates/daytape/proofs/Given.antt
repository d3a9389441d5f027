-- The program's values pass 41, and the book that it runs its day on is the one that the report speaks of.
use mathlib.Core.Path.{◌≡◌, refl, ap, ◌∙◌}
use mathlib.Core.List.{List}
use mathlib.Core.Bool.{true, ◌&&◌}
use Prim.Native.Nat.{ℕ}
use lib.ListN.{replicate, length-replicate}
use lib.Dec.{leb}
use Rattle.lists.specs.Lists.{within, part}
use Rattle.fields.specs.Fields.{all_between}
use Rattle.calendar.specs.Calendar.{day_number, weekday_of, is_date, business_date}
use Rattle.book.specs.declared.Values.{Values}
use Rattle.book.specs.declared.Pool.{Pool}
use Rattle.book.specs.Records.{no_pool}
use Rattle.book.specs.Opening.{records_max, values_fine, opening_fine, opened, cleared}
use Rattle.book.specs.Promise.{State, after_all, fed}
use Rattle.book.specs.declared.Book.{Book}
use Rattle.std.specs.Prelude.{Option, Result, Ok, unwrap_or, IfOk}
use Rattle.calls.specs.declared.Figures.{Figures}
use Rattle.calls.specs.Calls.{Opens, Says}
use Rattle.day.specs.declared.Day.{Day}
use Rattle.day.specs.Tape.{puts_of}
use Rattle.day.specs.Days.{state_of, accepted_among, others_among, Passes}
use Rattle.daytape.specs.Program.{values_given, start_of, said_of, ReportsOver}

-- 41 passes the values
pub given_fine : values_fine values_given ≡ true
unfolding values_fine values_given within part all_between day_number weekday_of is_date business_date
given_fine = refl

-- and any values in range, with a table as long as the program's
pub given_passes : (v : Values) → values_fine v ≡ true → opening_fine v (replicate 512 no_pool) ≡ true
unfolding opening_fine
given_passes v e = λ i. e i && leb (length-replicate 512 no_pool i) records_max

-- the report of a day over zeros that were opened
pub reports : (v : Values) (pools zeros : List Pool) (r : Result Book Book) (b : Book) → pools ≡ replicate 512 no_pool → Opens v pools r zeros → IfOk r (λ (x : Book). b ≡ x) → (tape : List ℕ) (d : Day) (left : List Pool) → Passes b zeros tape d left
    → (told : Option Figures) (f : Figures) → Says d.book left 0 told → f ≡ unwrap_or told (record { open_par = 0; millions = 0 }) → values_fine v ≡ true
    → ReportsOver v tape (record { accepted = d.accepted; others = d.others; open_par = f.open_par; millions = f.millions })
reports v pools zeros r b are opens given tape d left p told f says is fine =
    let passes : opening_fine v pools ≡ true = rw are (given_passes v fine) in
    let ok : r ≡ Ok (opened v) = rw passes at opens.book in
    let book : b ≡ opened v = rw ok at given in
    let table : zeros ≡ cleared (replicate 512 no_pool) = (rw passes at opens.table) ∙ ap cleared are in
    let first : state_of b zeros ≡ start_of v = λ i. record { book = book i; table = table i } in
    let last : state_of d.book left ≡ after_all (start_of v) (puts_of tape) = p.state ∙ ap (λ (s : State). after_all s (puts_of tape)) first in
    let said : f ≡ said_of (after_all (start_of v) (puts_of tape)) 0 = is ∙ rw says.figures (ap (λ (s : State). said_of s 0) last) in
    record {
      accepted = p.accepted ∙ ap (λ (s : State). accepted_among (fed s (puts_of tape))) first;
      others = p.others ∙ ap (λ (s : State). others_among (fed s (puts_of tape))) first;
      open_par = ap (λ (g : Figures). g.open_par) said;
      millions = ap (λ (g : Figures). g.millions) said;
    }
