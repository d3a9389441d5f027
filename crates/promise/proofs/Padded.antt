-- A call on a table with zeros after its first records is the call on those records alone, with the zeros after them, where they have room for what the message
-- can bring; and a question for a trade's figures gives the same. So a table may be longer than a book needs.
use Prim.Native.Nat.{ℕ, ◌+◌, ◌-◌, ◌/◌, ◌≤◌, ◌<◌}
use native.Mathlib.Omega.{arith}
use native.Mathlib.Nat.{le-div_iff_mul-le, div-mul-le_self}
use mathlib.Core.Logic.{◌⊎◌, inl, inr}
use mathlib.Core.Path.{◌≡◌, refl, sym, ap, ◌∙◌}
use mathlib.Core.List.{List, ◌++◌, append_assoc}
use mathlib.Core.Bool.{Bool, true, false, cond, not, ◌&&◌}
use lib.ListN.{length, take, drop, replicate, take-append-drop, length-drop, replicate-append-replicate}
use lib.Seq.{length-take-le, take_all, take-take, drop-append-le}
use borrow.Author.Tests.{le-leb, leb-true}
use Rattle.lists.specs.Lists.{all}
use Rattle.lists.proofs.Tests.{all_append, all_right, clash, un_true}
use Rattle.layout.specs.Columns.{header_width, detail_width}
use Rattle.layout.specs.Details.{pools, length_fits, pool_count, details}
use Rattle.layout.proofs.Reader.{length_details}
use Rattle.faces.specs.Faces.{is_new, new_pools}
use Rattle.book.specs.declared.Book.{Book}
use Rattle.book.specs.declared.Pool.{Pool}
use Rattle.book.specs.Records.{no_pool}
use Rattle.book.specs.Opening.{records_max}
use Rattle.book.specs.Messages.{listed}
use Rattle.book.specs.Soundness.{live_of, is_none, held_in, Sound, is_sound}
use Rattle.book.specs.Checks.{Call, call, table_fine, soundness_checks, sender_checks, terms_checks, moves_checks, checks, answer_of, Asked}
use Rattle.book.specs.Step.{live_moved, table_moved, accepted, book_after, table_after, output_after}
use Rattle.book.proofs.ListLaws.{length_keep}
use Rattle.book.proofs.Passed.{fine}
use Rattle.book.proofs.Zeros.{zeros_are}
use Rattle.book.proofs.Through.{whole_tests, Agree, live_alike, answer_alike, book_alike, output_alike}
use Rattle.book.proofs.Reached.{is_sound_law, moved_fits}
use Rattle.calls.specs.Figures.{figures_of}

-- the pools that a message of so many bytes can bring: no more than there are details in it
abbrev pub brings_max : ℕ → ℕ
brings_max bytes = bytes / detail_width

-- a table with zeros after its first m records; those are all, or the live ones and n more
pub record Padded (b : Book) (table : List Pool) (m n : ℕ) : Type 0 where
  pub within : m ≤ length table
  pub short : length table ≤ records_max
  pub zeros : all is_none (drop m table) ≡ true
  pub enough : (m ≡ length table) ⊎ (b.live + n ≤ m)

-- ---- soundness
and_true : (b : Bool) → (b && true) ≡ b
and_true true = refl
and_true false = refl

-- the records from live on, in two parts
rest_parts : (live m : ℕ) (t : List Pool) → live ≤ m → m ≤ length t → drop live t ≡ drop live (take m t) ++ drop m t
rest_parts live m t h l =
    ap (drop live) (sym (take-append-drop m t)) ∙ drop-append-le live (take m t) (drop m t) (rw (length-take-le m t l) h)

module _ (b : Book) (t : List Pool) (m n : ℕ) (p : Padded b t m n) where
  -- a fact of all the records
  pub whole : m ≡ length t → take m t ≡ t
  whole e = take_all m t (omega arith)

  pub same_live : live_of b t ≡ live_of b (take m t)
  same_live = go p.enough
    where
      go : (m ≡ length t) ⊎ (b.live + n ≤ m) → take b.live t ≡ take b.live (take m t)
      go (inl e) = ap (take b.live) (sym (whole e))
      go (inr h) = sym (take-take b.live m t (omega arith))

  zeros_same : b.live ≤ m → all is_none (drop b.live t) ≡ all is_none (drop b.live (take m t))
  zeros_same h =
      ap (all is_none) (rest_parts b.live m t h p.within) ∙ all_append is_none (drop b.live (take m t)) (drop m t)
      ∙ ap (λ (x : Bool). all is_none (drop b.live (take m t)) && x) p.zeros ∙ and_true (all is_none (drop b.live (take m t)))

  pub same_sound : is_sound b t ≡ is_sound b (take m t)
  unfolding is_sound
  same_sound = go p.enough
    where
      go : (m ≡ length t) ⊎ (b.live + n ≤ m) → is_sound b t ≡ is_sound b (take m t)
      go (inl e) = ap (is_sound b) (sym (whole e))
      go (inr h) =
          let l : length (take m t) ≡ m = length-take-le m t p.within in
          rw (
            l,
            le-leb (length t) records_max p.short,
            le-leb m records_max (omega (arith, p.short, p.within)),
            le-leb b.live (length t) (omega (arith, p.within)),
            le-leb b.live m (omega arith),
            same_live,
            zeros_same (omega arith),
          )

-- ---- tables that 42 refuses
module _ (b : Book) (t : List Pool) where
  not_sound : (Sound b t → ⊥) → is_sound b t ≡ false
  not_sound n = un_true (is_sound b t) (λ e. n (is_sound_law b t e))

  pub too_long : records_max < length t → is_sound b t ≡ false
  too_long h = not_sound (λ s. omega (arith, leb-true (length t) records_max s.table_short))

  -- something other than zeros after the first m records, of which the live ones are some
  pub not_zeros : (m : ℕ) → b.live ≤ m → m ≤ length t → all is_none (drop m t) ≡ false → is_sound b t ≡ false
  not_zeros m h l e = not_sound (λ s. clash (all_right is_none (drop b.live (take m t)) (drop m t) (sym (ap (all is_none) (rest_parts b.live m t h l)) ∙ s.zeros)) e)

-- ---- a frame call
-- a message brings at most as many pools as it has room for
count_room : (body : List ℕ) → pool_count body ≤ brings_max (length body)
unfolding pool_count
count_room body = go (length_fits body)
  where
    go : (b : Bool) → cond b (pools body) 0 ≤ brings_max (length body)
    go true = (le-div_iff_mul-le {k = detail_width} {x = pools body} {y = length body} (omega arith)).1 (omega (arith, div-mul-le_self (length body - header_width) detail_width))
    go false = omega arith

few_new : (body : List ℕ) → length (new_pools (details body)) ≤ brings_max (length body)
few_new body = omega (arith, length_keep is_new (details body), length_details body, count_room body)

module _ (b : Book) (t : List Pool) (m : ℕ) (body : List ℕ) (p : Padded b t m (brings_max (length body))) (asked : Asked) where
  abbrev n : ℕ
  n = brings_max (length body)

  abbrev rows : List Pool
  rows = take m t

  abbrev whole_call : Call
  whole_call = call b t body asked

  abbrev rows_call : Call
  rows_call = call b rows body asked

  length_rows : length rows ≡ m
  length_rows = length-take-le m t p.within

  -- 40: a table with room for a message
  roomy : (x : List Pool) → b.live + n ≤ length x → table_fine b (held_in b x) body ≡ true
  roomy x h =
      le-leb (length (take b.live x) + length (new_pools (details body))) (length x + length (listed body))
      (omega (arith, few_new body, length-take-le b.live x (omega arith)))

  same_full : table_fine b (held_in b t) body ≡ table_fine b (held_in b rows) body
  same_full = go p.enough
    where
      go : (m ≡ length t) ⊎ (b.live + n ≤ m) → table_fine b (held_in b t) body ≡ table_fine b (held_in b rows) body
      go (inl e) = ap (λ (x : List Pool). table_fine b (held_in b x) body) (sym (whole b t m n p e))
      go (inr h) = roomy t (omega (arith, p.within)) ∙ sym (roomy rows (omega (arith, length_rows)))

  -- 42 and 40 are the tests of the whole table
  agree : Agree b t rows body asked (whole_tests checks)
  unfolding soundness_checks sender_checks terms_checks moves_checks is_sound
  agree = (ap not (same_sound b t m n p), (ap not same_full, tt))

  pub same_answer : answer_of whole_call ≡ answer_of rows_call
  same_answer = answer_alike b t rows body asked (same_live b t m n p) agree

  pub same_book : book_after whole_call ≡ book_after rows_call
  same_book = book_alike b t rows body asked (same_live b t m n p) agree

  pub same_output : (out : List ℕ) → output_after whole_call out ≡ output_after rows_call out
  same_output out = output_alike b t rows body asked (same_live b t m n p) agree out

  same_moved : live_moved whole_call ≡ live_moved rows_call
  same_moved = live_alike b t rows body asked (same_live b t m n p)

  -- the live records after an accepted call stand in the rows
  module _ (ok : accepted rows_call ≡ true) where
    moved_within : length (live_moved rows_call) ≤ m
    moved_within = omega (arith, length_rows, moved_fits rows_call ok (is_sound_law b rows (fine rows_call ok).sound))

    moved_padded : table_moved whole_call ≡ table_moved rows_call ++ drop m t
    unfolding table_moved
    moved_padded =
        let z : drop m t ≡ replicate (length t - m) no_pool = zeros_are (drop m t) (length t - m) (length-drop m t) p.zeros in
        let n : (m - length (live_moved rows_call)) + (length t - m) ≡ length t - length (live_moved rows_call) = omega (arith, moved_within, p.within) in
        rw (same_moved, length_rows, z, append_assoc, replicate-append-replicate, n)

  pub table_padded : table_after whole_call ≡ table_after rows_call ++ drop m t
  unfolding table_after
  table_padded = rw same_answer (go (accepted rows_call) refl)
    where
      go : (a : Bool) → accepted rows_call ≡ a → cond a (table_moved whole_call) t ≡ cond a (table_moved rows_call) rows ++ drop m t
      go true ok = moved_padded ok
      go false e = sym (take-append-drop m t)

-- ---- a trade's figures
pub same_figures : (b : Book) (t : List Pool) (m n : ℕ) → Padded b t m n → (trade : ℕ) → figures_of b (take m t) trade ≡ figures_of b t trade
unfolding figures_of
same_figures b t m n p trade = rw (same_sound b t m n p, same_live b t m n p)
