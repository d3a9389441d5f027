-- Which records a call changes: none where it refuses, and none from the last live one on; an ON leaves every live one.
use Prim.Native.Nat.{ℕ, ◌+◌, ◌-◌, ◌≤◌}
use native.Mathlib.Omega.{arith}
use mathlib.Core.Path.{◌≡◌, refl, sym, ap, ◌∙◌}
use mathlib.Core.List.{List, [], ◌++◌, map, append_assoc}
use mathlib.Core.Bool.{true, false, not, and-false, false≢true}
use lib.ListN.{length, take, drop, replicate, take-append-drop, length-append, length-drop, length-replicate}
use lib.Seq.{length-take-le, take_at, drop-append_seam, drop-drop}
use borrow.Author.Tests.{leb-true}
use Rattle.lists.specs.Lists.{all}
use Rattle.lists.proofs.Tests.{all_right, keep_all}
use Rattle.layout.specs.Details.{details}
use Rattle.message_type.specs.declared.MessageType.{MessageType}
use Rattle.message_type.specs.declared.MessageType.TheVariants.{On, Cc, Dk, Cx, Other}
use Rattle.book.specs.declared.Pool.{Pool}
use Rattle.book.specs.Records.{fields_of, no_pool, records_of}
use Rattle.book.specs.Messages.{type_of, target_of, under, listed_of, listed}
use Rattle.book.specs.Soundness.{is_none, Sound}
use Rattle.book.specs.Checks.{Call, live, dues, is_taken}
use Rattle.message_type.specs.Questions.{is_on}
use Rattle.book.specs.Step.{live_moved, table_moved, accepted, book_after, table_after}
use Rattle.book.proofs.ListLaws.{all_replicate}
use Rattle.book.proofs.Passed.{fine}
use Rattle.book.proofs.Reached.{is_sound_law, moved_fits}
use Rattle.book.proofs.Zeros.{zeros_are}

-- two tables of one length are the same where both are zeros
zeros_from_law : (t : List Pool) (i e : ℕ) → i ≤ e → all is_none (drop i t) ≡ true → drop e t ≡ replicate (length t - e) no_pool
zeros_from_law t i e h z =
    let n : i + (e - i) ≡ e = omega arith in
    let d : drop (e - i) (drop i t) ≡ drop e t = drop-drop (e - i) i t ∙ ap (λ (k : ℕ). drop k t) n in
    zeros_are (drop e t) (length t - e) (length-drop e t)
    (sym (ap (all is_none) d) ∙ all_right is_none (take (e - i) (drop i t)) (drop (e - i) (drop i t)) (ap (all is_none) (take-append-drop (e - i) (drop i t)) ∙ z))

-- an ON lists nothing
on_lists : (body : List ℕ) → is_on (type_of body) ≡ true → listed body ≡ []
unfolding listed
on_lists body e = go (type_of body) e
  where
    go : (k : MessageType) → is_on k ≡ true → map fields_of (listed_of k (details body)) ≡ []
    go On e = refl
    go Cc e = absurd (false≢true e)
    go Dk e = absurd (false≢true e)
    go Cx e = refl
    go Other e = refl

module _ (c : Call) where
  abbrev new : List Pool
  new = records_of (c.book.values.last_message_id + 1) 1 (dues c)

  -- so it takes nothing off
  on_moved : is_on (type_of c.body) ≡ true → live_moved c ≡ live c ++ new
  unfolding live_moved
  on_moved e =
      rw (on_lists c.body e)
      (ap (λ (rs : List Pool). rs ++ new)
      (keep_all (λ (r : Pool). not (is_taken (target_of c.body) [] r)) (live c) (λ r i. ap not (and-false (under (target_of c.body) r)))))

  pub refused_table : accepted c ≡ false → table_after c ≡ c.table
  unfolding table_after
  refused_table e = rw e

  module _ (ok : accepted c ≡ true) where
    sound : Sound c.book c.table
    sound = is_sound_law c.book c.table (fine c ok).sound

    abbrev count : ℕ
    count = length (live_moved c)

    fits : count ≤ length c.table
    fits = moved_fits c ok sound

    pub live_within_law : c.book.live ≤ length c.table
    live_within_law = leb-true c.book.live (length c.table) sound.live_within

    after_is : table_after c ≡ live_moved c ++ replicate (length c.table - count) no_pool
    unfolding table_after table_moved
    after_is = rw ok

    pub live_after : (book_after c).live ≡ count
    unfolding book_after
    live_after = rw ok

    pub after_within : (book_after c).live ≤ length c.table
    after_within = omega (arith, live_after, fits)

    pub length_after : length (table_after c) ≡ length c.table
    length_after =
        ap length after_is
        ∙ omega (arith, fits, length-append (live_moved c) (replicate (length c.table - count) no_pool), length-replicate (length c.table - count) no_pool)

    zeros_after : all is_none (drop count (table_after c)) ≡ true
    zeros_after =
        ap (λ (x : List Pool). all is_none (drop count x)) after_is
        ∙ ap (all is_none) (drop-append_seam (live_moved c) (replicate (length c.table - count) no_pool))
        ∙ all_replicate is_none (length c.table - count) no_pool refl

    -- after the live records, old and new, nothing changes
    pub rest_stays : (e : ℕ) → c.book.live ≤ e → (book_after c).live ≤ e → drop e (table_after c) ≡ drop e c.table
    rest_stays e h k =
        zeros_from_law (table_after c) count e (omega (arith, live_after)) zeros_after ∙ ap (λ (n : ℕ). replicate (n - e) no_pool) length_after
        ∙ sym (zeros_from_law c.table c.book.live e h sound.zeros)

    module _ (o : is_on (type_of c.body) ≡ true) where
      size : length (live c) ≡ c.book.live
      size = length-take-le c.book.live c.table live_within_law

      pub on_stays : take c.book.live (table_after c) ≡ take c.book.live c.table
      on_stays =
          ap (take c.book.live) (after_is ∙ ap (λ (x : List Pool). x ++ replicate (length c.table - count) no_pool) (on_moved o) ∙ append_assoc (live c) new (replicate (length c.table - count) no_pool))
          ∙ take_at (live c) (new ++ replicate (length c.table - count) no_pool) c.book.live size
