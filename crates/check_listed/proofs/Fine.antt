-- 37: the marks of the places that were found decide it for a CC and for a DK, and mark the records that the message takes off.
use Prim.Native.Nat.{ℕ, ◌+◌, ◌-◌, ◌≤◌, ◌<◌}
use mathlib.Core.Path.{◌≡◌, refl, sym, ap, ◌∙◌}
use mathlib.Core.List.{List, map}
use mathlib.Core.Bool.{Bool, true, false, cond, not, ◌&&◌, ◌||◌, or-true, and_assoc, false≢true}
use native.Mathlib.Omega.{arith}
use lib.Dec.{eqb}
use lib.ListN.{length, get_or}
use borrow.Author.Tests.{eq-eqb, eqb-true}
use Rattle.std.specs.Bool.{then_some}
use Rattle.std.specs.Prelude.{Option, Some, None}
use Rattle.lists.specs.Lists.{tab, keep, all}
use Rattle.lists.proofs.Tests.{◌∈◌, and_left, implied, keep_in}
use Rattle.layout.specs.declared.Detail.{Detail}
use Rattle.layout.specs.Details.{details, pool_count}
use Rattle.layout.proofs.Passes.{pool_of}
use Rattle.terminator.specs.Terminators.{is_canceled}
use Rattle.terminator.specs.Lots.{lots, formed_for}
use Rattle.message_type.specs.declared.MessageType.{MessageType}
use Rattle.message_type.specs.declared.MessageType.TheVariants.{On, Cc, Dk, Cx, Other}
use Rattle.book.specs.declared.Pool.{Pool}
use Rattle.book.specs.Records.{Fields, fields_of, distinct, same_lot, no_pool}
use Rattle.book.specs.Messages.{type_of, target_of, under, listed_of, listed}
use Rattle.book.specs.Opening.{records_max}
use Rattle.book.specs.Soundness.{in_order, fields_once}
use Rattle.book.specs.Checks.{is_taken, canceled_lots, listed_fine}
use Rattle.message_type.specs.Questions.{is_cc, lists_lots, lists_all}
use Rattle.book.proofs.ByRecord.{all_live, whole_lots, one_by_record, listed_by_record}
use Rattle.book.proofs.LiveLots.{listed_by_record_law}
use Rattle.book.proofs.ListLaws.{implies}
use Rattle.rows_find.specs.declared.Run.{Run}
use Rattle.rows_find.specs.Finding.{lists, Placed, Finds}
use Rattle.rows_find.proofs.Ascending.{run_rises}
use Rattle.rows_find.proofs.Seeking.{record_at, found_live}
use Rattle.check_listed.specs.Marks.{Marked, Places, entries_from, mark_all, unmarked, even_at, marks_even, no_marks}
use Rattle.check_listed.specs.Lots.{record_of, alike_all}
use Rattle.check_listed.specs.Listing.{Findable, marks_in, marks_taken, Takes}
use Rattle.check_listed.proofs.Indexed.{all_each, each_all}
use Rattle.check_listed.proofs.Marking.{mark_at, length_marks}
use Rattle.check_listed.proofs.Exact.{unmarked_length}
use Rattle.check_listed.proofs.Evenness.{Even}
use Rattle.check_listed.proofs.Likeness.{lot_alike, alike_pass}
use Rattle.check_listed.proofs.Whole.{Stands, dk_fine, dk_taken, dk_even}
use Rattle.check_listed.proofs.Canceled.{Recorded, cc_fine, cc_taken, cc_even}
use Rattle.check_listed.proofs.Placed.{run, places_are, order_at, once_at, run_bound, run_inside, record_place, cells_placed, pools_stand}

-- what is read of a canceled pool's record is that record
recorded : (rs : List Pool) (place : Detail → ℕ) → Recorded (record_at rs) place (λ (d : Detail). record_of rs (place d) d)
recorded rs place =
    record {
      some = λ d e. ap (λ (b : Bool). cond b (Some (get_or rs (place d) no_pool)) None) e;
      none = λ d e. ap (λ (b : Bool). cond b (Some (get_or rs (place d) no_pool)) None) e;
    }

-- tests put together
dk_tests : (l d w f e a o : Bool) → l ≡ true → f ≡ d → (f ≡ true → e ≡ w) → (f && (e && (not false || a))) ≡ ((l && (d && w)) && (not false || o))
dk_tests l d w true e a o p q h = rw (p, sym q, h refl)
dk_tests l d w false e a o p q h = rw (p, sym q)

cc_tests : (l d w o f e a : Bool) → l ≡ true → f ≡ d → (f ≡ true → (e && a) ≡ (w && o)) → (f && (e && (not true || a))) ≡ ((l && (d && w)) && (not true || o))
cc_tests l d w o true e a p q h = rw (p, sym q) (h refl)
cc_tests l d w o false e a p q h = rw (p, sym q)

-- a CC lists lots
pub cc_lists : (t : MessageType) → is_cc t ≡ true → lists_lots t ≡ true
cc_lists On e = absurd (false≢true e)
cc_lists Cc e = refl
cc_lists Dk e = refl
cc_lists Cx e = absurd (false≢true e)
cc_lists Other e = absurd (false≢true e)

module _ (body : List ℕ) (rs : List Pool) (given : Findable body rs) where
  abbrev target_run : Run
  target_run = run body rs given.ordered given.once

  by_record : listed_fine body rs ≡ listed_by_record body rs
  by_record = listed_by_record_law body rs given.ordered given.once given.formed

  -- a listed pool is not live under the target
  pub takes_not_found : lists_lots (type_of body) ≡ true → Finds body rs target_run None → Takes body rs None
  takes_not_found c w =
      let none : false ≡ listed_by_record body rs = rw (sym (found_live body rs given.ordered None w)) in
      record { fine = rw c (none ∙ sym by_record); taken = tt }

  -- all are
  module _ (cells : List ℕ) (finds : Finds body rs target_run (Some cells)) where
    abbrev f : ℕ → Pool
    f = record_at rs

    abbrev place : Detail → ℕ
    place = record_place body rs given.ordered given.once

    pub cells_there : Places place body cells
    cells_there = cells_placed body rs given.ordered given.once cells finds.placed

    small : length rs ≤ records_max
    small = given.few

    order : in_order (tab f (length rs) 0) ≡ true
    order = order_at body rs given.ordered given.once

    once : fields_once (tab f (length rs) 0) ≡ true
    once = once_at body rs given.ordered given.once

    inside : (i : ℕ) → i < length rs → under (target_of body) (f i) ≡ true → (target_run.start ≤ i) × (i < target_run.stop)
    inside = run_inside body rs given.ordered given.once

    bound : target_run.stop ≤ length rs
    bound = run_bound body rs given.ordered given.once

    stands : (d : Detail) → d ∈ details body → lists (type_of body) d ≡ true → Stands (target_of body) f (length rs) place d
    stands = pools_stand body rs given.ordered given.once cells finds.placed

    -- the test of even marks
    module _ (m : Marked) where
      abbrev EvenMarks : Type 0
      EvenMarks = Even (target_of body) f (length rs) order once target_run.start target_run.stop (mark_at m)

      even_out : marks_even rs m.marks target_run.start target_run.stop ≡ true → EvenMarks
      unfolding marks_even
      even_out e i h l s =
          eqb-true (mark_at m i) (mark_at m (i + 1))
          (implied (same_lot (f i) (f (i + 1))) (eqb (mark_at m i) (mark_at m (i + 1)))
          (all_each (λ (j : ℕ). j) (even_at rs m.marks) (target_run.stop - 1 - target_run.start) target_run.start e i h (omega arith)) s)

      even_in : EvenMarks → marks_even rs m.marks target_run.start target_run.stop ≡ true
      unfolding marks_even
      even_in e =
          each_all (λ (j : ℕ). j) (even_at rs m.marks) (target_run.stop - 1 - target_run.start) target_run.start
          (λ i h l. implies (same_lot (f i) (f (i + 1))) (eqb (mark_at m i) (mark_at m (i + 1)))
          (λ s. eq-eqb (mark_at m i) (mark_at m (i + 1)) (e i h (omega arith) s)))

    abbrev its : Detail → Option Pool
    its d = record_of rs (place d) d

    abbrev marks_for : Bool → Marked
    marks_for cc' = mark_all unmarked (entries_from cc' place 1 (details body))

    abbrev even_for : Bool → Bool
    even_for cc' = marks_even rs (marks_for cc').marks target_run.start target_run.stop

    abbrev alike_lots : Bool
    alike_lots = (alike_all its (details body)).fine

    -- what is to be shown of each type
    abbrev fields_for : MessageType → List Fields
    fields_for t = map fields_of (listed_of t (details body))

    abbrev live_for : MessageType → Type 0
    live_for t = all_live (target_of body) (fields_for t) rs ≡ true

    abbrev Shown : MessageType → Type 0
    Shown t =
        (((marks_for (is_cc t)).fine && (even_for (is_cc t) && (not (is_cc t) || alike_lots)))
        ≡ ((all_live (target_of body) (fields_for t) rs && (distinct (fields_for t) && whole_lots (target_of body) (fields_for t) rs))
        && (not (is_cc t) || all (one_by_record (target_of body) rs) (canceled_lots (details body)))))
        × ((marks_for (is_cc t)).fine ≡ true → (i : ℕ) → i < length rs → eqb (mark_at (marks_for (is_cc t)) i) 0 ≡ not
        (is_taken (target_of body) (fields_for t) (get_or rs i no_pool)))

    records_tab : rs ≡ tab f (length rs) 0
    records_tab = places_are body rs given.ordered given.once

    shown_dk : type_of body ≡ Dk → live_for Dk → Shown Dk
    shown_dk t l = (
      dk_tests (all_live (target_of body) (fields_for Dk) rs) (distinct (fields_for Dk)) (whole_lots (target_of body) (fields_for Dk) rs)
          (marks_for false).fine (even_for false) alike_lots
          (all (one_by_record (target_of body) rs) (canceled_lots (details body))) l
          (dk_fine (target_of body) f (length rs) order once small place (details body) each)
          (λ e. dk_even (target_of body) f (length rs) order once small place (details body) each e target_run.start target_run.stop inside bound (even_for false)
          (even_out (marks_for false)) (even_in (marks_for false))
          ∙ ap (whole_lots (target_of body) (fields_for Dk)) (sym records_tab)),
      λ e i h. dk_taken (target_of body) f (length rs) order once small place (details body) each e i h,
    )
      where
        each : (d : Detail) → d ∈ details body → Stands (target_of body) f (length rs) place d
        each d m = stands d m (ap (λ (u : MessageType). lists u d) t)

    shown_cc : type_of body ≡ Cc → live_for Cc → Shown Cc
    shown_cc t l = (
      cc_tests (all_live (target_of body) (fields_for Cc) rs) (distinct (fields_for Cc)) (whole_lots (target_of body) (fields_for Cc) rs)
          (all (one_by_record (target_of body) rs) (canceled_lots (details body)))
          (marks_for true).fine (even_for true) alike_lots l
          (cc_fine (target_of body) f (length rs) order once small place (details body) formed each)
          (λ e. ap (λ (b : Bool). even_for true && b) lots_alike
          ∙ cc_even (target_of body) f (length rs) order once small place (details body) formed each its
          (recorded rs place) e target_run.start target_run.stop inside bound (even_for true) (even_out (marks_for true)) (even_in (marks_for true))
          ∙ ap (λ (xs : List Pool). whole_lots (target_of body) (fields_for Cc) xs && all (one_by_record (target_of body) xs) (canceled_lots (details body)))
          (sym records_tab)),
      λ e i h. cc_taken (target_of body) f (length rs) order once small place (details body) formed each its (recorded rs place) e i h,
    )
      where
        formed : formed_for true (details body) ≡ true
        formed = given.formed (ap is_cc t)

        each : (d : Detail) → d ∈ keep is_canceled (details body) → Stands (target_of body) f (length rs) place d
        each d m =
            let (a, b) = keep_in is_canceled (details body) m in
            stands d a (ap (λ (u : MessageType). lists u d) t ∙ b)

        lots_alike : alike_lots ≡ all (lot_alike its) (lots (details body))
        lots_alike = alike_pass its true (details body) formed

    shown : (t : MessageType) → type_of body ≡ t → lists_lots t ≡ true → live_for t → Shown t
    shown On e c l = absurd (false≢true c)
    shown Cc e c l = shown_cc e l
    shown Dk e c l = shown_dk e l
    shown Cx e c l = absurd (false≢true c)
    shown Other e c l = absurd (false≢true c)

    all_live_law : live_for (type_of body)
    unfolding listed
    all_live_law = sym (found_live body rs given.ordered (Some cells) finds)

    -- ---- the judgment of the code: m the marks, e whether they are even, a whether the lots are alike
    module _ (c : lists_lots (type_of body) ≡ true) (m : Marked) (em : m ≡ marks_for (is_cc (type_of body))) (e a : Bool)
        (ee : e ≡ marks_even rs m.marks target_run.start target_run.stop) (ea : a ≡ (not (is_cc (type_of body)) || alike_lots)) where
      same_marks : e ≡ even_for (is_cc (type_of body))
      same_marks = ee ∙ ap (λ (s : Marked). marks_even rs s.marks target_run.start target_run.stop) em

      judged : ((m.fine && e) && a) ≡ listed_fine body rs
      unfolding listed
      judged =
          and_assoc m.fine e a ∙ ap (λ (s : Marked). s.fine && (e && a)) em ∙ ap (λ (b : Bool). (marks_for (is_cc (type_of body))).fine && (b && a)) same_marks
          ∙ ap (λ (b : Bool). (marks_for (is_cc (type_of body))).fine && (even_for (is_cc (type_of body)) && b)) ea
          ∙ (shown (type_of body) refl c all_live_law).0 ∙ sym by_record

      fine_is : (r : Bool) → ((m.fine && e) && a) ≡ r → r ≡ (not (lists_lots (type_of body)) || listed_fine body rs)
      fine_is r n = rw c (sym n ∙ judged)

      takes_not : ((m.fine && e) && a) ≡ false → Takes body rs None
      takes_not n = record { fine = fine_is false n; taken = tt }

      takes_some : length m.marks ≡ records_max → ((m.fine && e) && a) ≡ true → Takes body rs (Some m.marks)
      unfolding listed marks_in marks_taken
      takes_some l n =
          let f : (marks_for (is_cc (type_of body))).fine ≡ true = sym (ap (λ (s : Marked). s.fine) em) ∙ and_left m.fine e (and_left (m.fine && e) a n) in
          record {
            fine = fine_is true n;
            taken =
                record {
                  size = l;
                  marked = λ i h. ap (λ (s : Marked). eqb (mark_at s i) 0) em ∙ (shown (type_of body) refl c all_live_law).1 f i h;
                  whole = rw c (ap (λ (s : Marked). s.marks) em);
                };
          }

  -- ---- the code's run
  module _ (its : Run) (is : its ≡ target_run) where
    pub run_fits : (its.start ≤ its.stop) × (its.stop ≤ length rs) × (its.stop ≤ records_max)
    run_fits =
        let b = run_bound body rs given.ordered given.once in
        let e = ap (λ (x : Run). x.stop) is in
        let s = ap (λ (x : Run). x.start) is in
        (omega (arith, run_rises (target_of body) rs, e, s), omega (arith, b, e), omega (arith, b, e, given.few))

    module _ (cells : List ℕ) (placed : Placed body rs its cells) where
      -- each cell is a place of the table, or 0
      pub cells_fit : (i : ℕ) → i < pool_count body → get_or cells i 0 < records_max
      cells_fit i h = cell (lists (type_of body) (pool_of body i)) refl
        where
          cell : (b : Bool) → lists (type_of body) (pool_of body i) ≡ b → get_or cells i 0 < records_max
          cell true l = omega (arith, (placed.places i h l).1, run_fits.2)
          cell false l = omega (arith, placed.others i h l)

      pub canceled_fit : is_cc (type_of body) ≡ true → (i : ℕ) → i < pool_count body → is_canceled (pool_of body i) ≡ true → get_or cells i 0 < length rs
      canceled_fit c i h d = omega (arith, (placed.places i h its_listed).1, run_fits.1)
        where
          its_listed : lists (type_of body) (pool_of body i) ≡ true
          its_listed = rw (cc_lists (type_of body) c, d) (or-true (lists_all (type_of body)))

  -- what the code finds of a CC or DK: its marks and whether none was there before, whether they are even, and whether a CC's lots are alike
  module _ (its : Run) (is : its ≡ target_run) (cells : List ℕ) (found : Finds body rs its (Some cells)) (c : lists_lots (type_of body) ≡ true) (cc : Bool)
      (ec : cc ≡ is_cc (type_of body)) (fine : Bool) (ms : List ℕ)
      (em : (place : Detail → ℕ) → Places place body cells
      → ◌≡◌ {A = Marked} (record { fine = fine; marks = ms }) (mark_all (record { fine = true; marks = no_marks }) (entries_from cc place 1 (details body))))
      (e a : Bool) (ee : e ≡ marks_even rs ms its.start its.stop)
      (ea : (place : Detail → ℕ) → Places place body cells → a ≡ (not cc || (alike_all (λ (d : Detail). record_of rs (place d) d) (details body)).fine)) where
    there : Finds body rs target_run (Some cells)
    there = rw is at found

    abbrev m : Marked
    m = record { fine = fine; marks = ms }

    marks_are : m ≡ marks_for cells there (is_cc (type_of body))
    unfolding unmarked
    marks_are = rw ec at (em (place cells there) (cells_there cells there))

    even_is : e ≡ marks_even rs ms target_run.start target_run.stop
    even_is = rw is at ee

    alike_is : a ≡ (not (is_cc (type_of body)) || alike_lots cells there)
    alike_is = rw ec at (ea (place cells there) (cells_there cells there))

    size : length ms ≡ records_max
    size =
        ap (λ (s : Marked). length s.marks) marks_are
        ∙ length_marks unmarked (entries_from (is_cc (type_of body)) (place cells there) 1 (details body)) ∙ unmarked_length

    pub judged_takes : Takes body rs (then_some ((fine && e) && a) ms)
    judged_takes = go ((fine && e) && a) refl
      where
        go : (b : Bool) → ((fine && e) && a) ≡ b → Takes body rs (then_some b ms)
        go true n = takes_some cells there c m marks_are e a even_is alike_is size n
        go false n = takes_not cells there c m marks_are e a even_is alike_is n
