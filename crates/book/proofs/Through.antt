-- A call depends on its table only through what that holds: the live records, their number and the zeros after them. So any list of checks says the
-- same of two tables that hold the same, and of two with the same live records where its tests of the whole table do.
use Prim.Native.Nat.{ℕ}
use mathlib.Core.Path.{◌≡◌, refl, ap, ◌∙◌}
use mathlib.Core.List.{List, [], ◌∷◌}
use mathlib.Core.Bool.{Bool}
use Rattle.book.specs.declared.Book.{Book}
use Rattle.book.specs.declared.Pool.{Pool}
use Rattle.book.specs.Reasons.{Verdict}
use Rattle.std.specs.Prelude.{Ok, Err}
use Rattle.book.specs.Soundness.{live_of, Held, held_in}
use Rattle.book.specs.Checks.{Asked, call, Test, of_body, of_values, of_line, of_asked, of_live, of_table, fails, Check, checks, first_failing, answer_to, answer_of}
use Rattle.book.specs.Step.{trades_moved, live_moved, book_after, output_after}

-- the tests of a list that look at the whole table
abbrev with_whole : Test → List (Book → Held → List ℕ → Bool) → List (Book → Held → List ℕ → Bool)
with_whole (of_body p) ps = ps
with_whole (of_values p) ps = ps
with_whole (of_line p) ps = ps
with_whole (of_asked p) ps = ps
with_whole (of_live p) ps = ps
with_whole (of_table p) ps = p ∷ ps

abbrev pub whole_tests : List Check → List (Book → Held → List ℕ → Bool)
whole_tests [] = []
whole_tests (k ∷ ks) = with_whole k.test (whole_tests ks)

module _ (b : Book) (t u : List Pool) (body : List ℕ) (asked : Asked) where
  -- they say the same of two tables
  abbrev pub Agree : List (Book → Held → List ℕ → Bool) → Type 0
  Agree [] = Unit {0}
  Agree (p ∷ ps) = (p b (held_in b t) body ≡ p b (held_in b u) body) × Agree ps

  to_alike : (v : Verdict) → answer_to (call b t body asked) v ≡ answer_to (call b u body asked) v
  to_alike (Ok u) = refl
  to_alike (Err r) = refl

  module _ (lives : live_of b t ≡ live_of b u) where
    test_alike : (x : Test) (ps : List (Book → Held → List ℕ → Bool)) → Agree (with_whole x ps) → (fails x (call b t body asked) ≡ fails x (call b u body asked)) × Agree ps
    test_alike (of_body p) ps a = (refl, a)
    test_alike (of_values p) ps a = (refl, a)
    test_alike (of_line p) ps a = (refl, a)
    test_alike (of_asked p) ps a = (refl, a)
    test_alike (of_live p) ps a = (ap (λ (rs : List Pool). p b.values rs body) lives, a)
    test_alike (of_table p) ps a = (a.0, a.1)

    pub first_alike : (ks : List Check) → Agree (whole_tests ks) → first_failing ks (call b t body asked) ≡ first_failing ks (call b u body asked)
    first_alike [] a = refl
    first_alike (k ∷ ks) a =
        let q = test_alike k.test (whole_tests ks) a in
        rw (q.0, first_alike ks q.1)

    -- what an accepted message leaves live
    pub live_alike : live_moved (call b t body asked) ≡ live_moved (call b u body asked)
    unfolding live_moved
    live_alike = rw lives

    module _ (a : Agree (whole_tests checks)) where
      pub answer_alike : answer_of (call b t body asked) ≡ answer_of (call b u body asked)
      unfolding answer_of
      answer_alike = to_alike (first_failing checks (call b t body asked)) ∙ ap (answer_to (call b u body asked)) (first_alike checks a)

      pub book_alike : book_after (call b t body asked) ≡ book_after (call b u body asked)
      unfolding book_after trades_moved live_moved
      book_alike = rw (answer_alike, lives)

      pub output_alike : (out : List ℕ) → output_after (call b t body asked) out ≡ output_after (call b u body asked) out
      unfolding output_after
      output_alike out = rw answer_alike

  -- where two tables hold the same, every test of them says the same
  pub agreed : held_in b t ≡ held_in b u → (ps : List (Book → Held → List ℕ → Bool)) → Agree ps
  agreed e [] = tt
  agreed e (p ∷ ps) = (ap (λ (h : Held). p b h body) e, agreed e ps)

  pub through_held : held_in b t ≡ held_in b u → (ks : List Check) → first_failing ks (call b t body asked) ≡ first_failing ks (call b u body asked)
  through_held e ks = first_alike (ap (λ (h : Held). h.live) e) ks (agreed e (whole_tests ks))
