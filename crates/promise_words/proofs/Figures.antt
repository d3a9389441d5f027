-- The figure itself: what a client is told of a trade that it opened, after any run of frame calls on its words, is what demand 3 says. The trade is known,
-- and its open par and good millions are those of the history of the same messages and answers.
use Prim.Native.Nat.{ℕ, ◌<◌}
use mathlib.Core.Path.{◌≡◌, refl}
use mathlib.Core.List.{List, [], ◌∷◌}
use Rattle.std.specs.Prelude.{Option, Some, None, IsSomeAnd}
use lib.ListN.{length}
use Rattle.book.specs.declared.Pool.{Pool}
use Rattle.book.specs.Trades.{trades_of}
use Rattle.book.specs.History.{Fed}
use Rattle.book.proofs.Reached.{sound_is}
use Rattle.promise.specs.Told.{Told}
use Rattle.promise.proofs.Figures.{figures_told}
use Rattle.image.specs.Images.{values_in, book_in}
use Rattle.calls.specs.declared.Figures.{Figures}
use Rattle.calls_words.specs.Opening.{Opening}
use Rattle.calls_words.specs.Figures.{figures_in, figures_numbers}
use Rattle.promise_words.specs.Runs.{Stored, state_of, WordsRun}
use Rattle.promise_words.proofs.Promised.{words_image, words_demand3, words_count, words_sound}

module _ (ws : List ℕ) (pools : List Pool) (ws' : List ℕ) (pools' : List Pool) (r : ℕ) (o : Opening ws pools ws' pools' r) (zero : r ≡ 0)
    (s : Stored) (fs : List Fed) (run : WordsRun (record { words = ws'; pools = pools' }) fs s) where
  pub words_figures : (t : ℕ) → t < length (trades_of (values_in ws)) → IsSomeAnd (figures_in s.words s.pools t) (λ (f : Figures). Told (values_in ws) fs t f.open_par f.millions)
  unfolding figures_in
  words_figures t lt =
      rw (words_image ws pools ws' pools' r o zero s fs run)
      (figures_told (values_in ws) (state_of s) fs (words_demand3 ws pools ws' pools' r o zero s fs run)
      (sound_is (book_in s.words) s.pools (words_sound ws pools ws' pools' r o zero s fs run)) (words_count ws pools ws' pools' r o zero s fs run) t lt)

  -- and this is what is written of it: that it is known, its open par and its millions
  pub words_numbers : (t : ℕ) → t < length (trades_of (values_in ws)) → IsSomeAnd (figures_in s.words s.pools t) (λ (f : Figures). figures_numbers (figures_in s.words s.pools t) ≡ 1 ∷ f.open_par ∷ f.millions ∷ [])
  unfolding figures_numbers
  words_numbers t lt = go (figures_in s.words s.pools t) (words_figures t lt)
    where
      go : (o : Option Figures) → IsSomeAnd o (λ (f : Figures). Told (values_in ws) fs t f.open_par f.millions) → IsSomeAnd o (λ (f : Figures). figures_numbers o ≡ 1 ∷ f.open_par ∷ f.millions ∷ [])
      go (Some f) told = refl
      go None told = told
