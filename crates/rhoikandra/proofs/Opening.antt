-- An opening on words passes where it can, and is refused where it cannot.
use Prim.Native.Nat.{ℕ}
use mathlib.Core.Path.{◌≡◌, refl, ap, ◌∙◌}
use mathlib.Core.List.{List}
use mathlib.Core.Bool.{Bool, true, false, ◌&&◌}
use Rattle.lists.specs.Lists.{pasted}
use Rattle.book.specs.declared.Values.{Values}
use Rattle.book.specs.declared.Book.{Book}
use Rattle.book.specs.declared.Pool.{Pool}
use Rattle.book.specs.Opening.{opening_fine, opened, unopened}
use Rattle.image.specs.Images.{is_lent, values_in, image_of}
use Rattle.std.specs.Prelude.{Result, Ok, Err}
use Rattle.lists.proofs.Tests.{and_left}
use Rattle.calls.specs.Calls.{Opens}
use Rattle.exports_book.specs.Reading.{ReadsValues}
use Rattle.exports_book.specs.Writing.{OpensTo}
use Rattle.exports_book.proofs.Reading.{values_refused}
use Rattle.calls_words.specs.Opening.{openable, Opening}

module _ (ws : List ℕ) (pools : List Pool) (v : Values) (r : Result Book Book) (ws' : List ℕ) (pools' : List Pool) (n : ℕ) (reads : ReadsValues ws v) (opens : Opens v pools r pools') (ended : OpensTo ws r ws' n) where
  -- whether it passes, by whether the words lend values
  test_is : opening_fine v pools ≡ openable ws pools
  unfolding openable
  test_is = go (is_lent ws) refl
    where
      go : (k : Bool) → is_lent ws ≡ k → opening_fine v pools ≡ (k && opening_fine (values_in ws) pools)
      go true e = ap (λ (u : Values). opening_fine u pools) (reads.values e)
      go false e = values_refused v pools (reads.none e)

  lent_known : openable ws pools ≡ true → is_lent ws ≡ true
  unfolding openable
  lent_known e = and_left (is_lent ws) (opening_fine (values_in ws) pools) e

  pub opening_made : Opening ws pools ws' pools' n
  opening_made =
      record {
        passes = λ t.
            let e : opening_fine v pools ≡ true = test_is ∙ t in
            let ok : r ≡ Ok (opened v) = rw e at opens.book in
            let end = rw ok at ended in
            record {
              code = end.0;
              image = end.1 ∙ ap (λ (u : Values). pasted ws 0 (image_of (opened u))) (reads.values (lent_known t));
              zeros = rw e at opens.table;
            };
        refuses = λ f.
            let e : opening_fine v pools ≡ false = test_is ∙ f in
            let err : r ≡ Err (unopened v) = rw e at opens.book in
            let end = rw err at ended in
            record { code = end.0; image = end.1; table = rw e at opens.table };
      }
