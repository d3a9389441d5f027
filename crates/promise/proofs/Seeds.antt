-- Nothing that a call answers or leaves depends on its seed: the one check of what the caller gives looks at the room in the output, and of the caller only the time bytes go out.
use Rattle.std.specs.Prelude.{Err, Ok}
use Prim.Native.Nat.{ℕ}
use mathlib.Core.Path.{◌≡◌, refl, ap, ◌∙◌}
use mathlib.Core.List.{List, [], ◌∷◌}
use mathlib.Core.Bool.{Bool}
use Rattle.book.specs.declared.Book.{Book}
use Rattle.book.specs.declared.Pool.{Pool}
use Rattle.book.specs.Reasons.{Verdict}
use Rattle.book.specs.Checks.{Asked, Call, call, asked_by, Test, of_body, of_values, of_line, of_asked, of_live, of_table, fails, Check, soundness_checks, sender_checks, terms_checks, moves_checks, checks, first_failing, answer_to, answer_of}
use Rattle.book.specs.Step.{trades_moved, live_moved, table_moved, book_after, table_after, output_for, output_after}

-- the tests of a list that look at what the caller gives
abbrev with_asked : Test → List (Asked → Bool) → List (Asked → Bool)
with_asked (of_body p) ps = ps
with_asked (of_values p) ps = ps
with_asked (of_line p) ps = ps
with_asked (of_asked p) ps = p ∷ ps
with_asked (of_live p) ps = ps
with_asked (of_table p) ps = ps

abbrev asked_tests : List Check → List (Asked → Bool)
asked_tests [] = []
asked_tests (k ∷ ks) = with_asked k.test (asked_tests ks)

module _ (b : Book) (t : List Pool) (body time : List ℕ) (room s z : ℕ) where
  -- the call by a seed
  abbrev pub by : ℕ → Call
  by seed = call b t body (asked_by (record { time = time; seed = seed }) room)

  -- they say the same by both seeds
  abbrev Agree : List (Asked → Bool) → Type 0
  Agree [] = Unit {0}
  Agree (p ∷ ps) = (p (by s).asked ≡ p (by z).asked) × Agree ps

  test_same : (x : Test) (ps : List (Asked → Bool)) → Agree (with_asked x ps) → (fails x (by s) ≡ fails x (by z)) × Agree ps
  test_same (of_body p) ps a = (refl, a)
  test_same (of_values p) ps a = (refl, a)
  test_same (of_line p) ps a = (refl, a)
  test_same (of_asked p) ps a = (a.0, a.1)
  test_same (of_live p) ps a = (refl, a)
  test_same (of_table p) ps a = (refl, a)

  first_same : (ks : List Check) → Agree (asked_tests ks) → first_failing ks (by s) ≡ first_failing ks (by z)
  first_same [] a = refl
  first_same (k ∷ ks) a =
      let q = test_same k.test (asked_tests ks) a in
      rw (q.0, first_same ks q.1)

  all_agree : Agree (asked_tests checks)
  unfolding soundness_checks sender_checks terms_checks moves_checks
  all_agree = (refl, tt)

  to_same : (v : Verdict) → answer_to (by s) v ≡ answer_to (by z) v
  to_same (Ok u) = refl
  to_same (Err r) = refl

  pub answer_by_any : answer_of (by s) ≡ answer_of (by z)
  unfolding answer_of
  answer_by_any = to_same (first_failing checks (by s)) ∙ ap (answer_to (by z)) (first_same checks all_agree)

  pub book_by_any : book_after (by s) ≡ book_after (by z)
  unfolding book_after trades_moved live_moved
  book_by_any = rw answer_by_any

  pub table_by_any : table_after (by s) ≡ table_after (by z)
  unfolding table_after table_moved live_moved
  table_by_any = rw answer_by_any

  pub output_by_any : (out : List ℕ) → output_after (by s) out ≡ output_after (by z) out
  unfolding output_after output_for
  output_by_any out = rw answer_by_any
