-- The checks by what moves, 37, 38 and 40, and what an accepted message moves.
use Prim.Native.Nat.{ℕ, ◌+◌, ◌-◌, ◌≤◌}
use native.Mathlib.Omega.{arith}
use mathlib.Core.Path.{◌≡◌, refl, sym, ap, ◌∙◌}
use mathlib.Core.List.{List, [], ◌∷◌, map, ◌++◌}
use mathlib.Core.Bool.{Bool, true, false, cond, not, ◌&&◌, ◌||◌, true≢false}
use lib.ListN.{length, take, drop, length-map}
use lib.Dec.{eqb, leb, ltb}
use lib.Seq.{length-take-le}
use borrow.Author.Tests.{leb-true, lt-ltb, eq-eqb}
use Rattle.std.specs.Prelude.{Option, Some, None, is_some, unwrap_or, Result, Ok, Err}
use Rattle.lists.specs.Lists.{any, keep, part}
use Rattle.lists.proofs.Tests.{◌∈◌, and_left, and_right, keep_in}
use Rattle.layout.specs.Details.{details}
use Rattle.terminator.specs.Terminators.{is_canceled}
use Rattle.terminator.specs.Lots.{formed_for}
use Rattle.faces.specs.Faces.{new_pools}
use Rattle.message_type.specs.declared.MessageType.{MessageType}
use Rattle.message_type.specs.declared.MessageType.TheVariants.{On, Cc, Dk, Cx, Other}
use Rattle.message_type.specs.Questions.{is_on, is_cc, brings_lots, lists_lots}
use Rattle.book.specs.declared.Book.{Book}
use Rattle.book.specs.declared.Pool.{Pool}
use Rattle.book.specs.declared.Reason.{Reason}
use Rattle.book.specs.declared.Reason.TheVariants as by
use Rattle.book.specs.Reasons.{Verdict, told}
use Rattle.book.specs.Dues.{due_weight}
use Rattle.book.specs.Records.{fields_of, live_fields, has_fields, no_pool, trade_weight}
use Rattle.book.specs.Messages as messages
use Rattle.book.specs.Messages.{type_of, target_of, under, listed, listed_of}
use Rattle.book.specs.Trades.{trades_of, open_pars, brought_weight, trade_of_on}
use Rattle.book.specs.Opening.{records_max}
use Rattle.book.specs.Soundness.{live_of, record_fine, in_order, held_in, Sound}
use Rattle.book.specs.Checks.{Call, call, Asked, first_under, target_trade, trade_at, trade_due, dues_by, is_taken, listed_fine, par_fine, table_fine}
use Rattle.book.specs.Checks.{terms_checks, moves_checks, trader_checks, first_failing}
use Rattle.book.proofs.ListLaws.{all_keep, or_right}
use Rattle.book.proofs.Dues.{dues_fit_law, dues_weight}
use Rattle.book.proofs.Pools.{some_lot, listed_none}
use Rattle.book.proofs.Targets.{under_trade}
use Rattle.book.proofs.Ordered.{ordered_keep}
use Rattle.book.proofs.Reached.{is_sound_law}
use Rattle.book.proofs.Firsts.{fails_not, first_late, first_early}
use Rattle.rows.specs.Runs.{run_sum, weight_share}
use Rattle.rows.proofs.Runs.{weight_one}
use Rattle.rows_find.specs.declared.Run.{Run}
use Rattle.rows_find.specs.Runs.{run_of}
use Rattle.rows_find.specs.Finding.{run_records}
use Rattle.rows_find.specs.Marks.{marked, Weighable}
use Rattle.rows_find.proofs.Ascending.{run_rises, run_within}
use Rattle.rows_find.proofs.Seeking.{run_records_law}
use Rattle.rows_find.proofs.Weighing.{marked_keep}
use Rattle.check_listed.specs.Listing.{Findable, Taken, Takes}
use Rattle.check_soundness.proofs.Whole.{few_trades, light}
use Rattle.check_trader.specs.declared.Decision.{Decision}
use Rattle.check_trader.specs.Decisions.{Ready, Targets, DecidedBy}
use Rattle.check_trader.specs.Parts.{target_checks, new_checks}

-- ---- a check by what its test says
same_reason : (r q : Reason) → ◌≡◌ {A = Verdict} (Err r) (Err q) → r ≡ q
same_reason r q e = cc

failing : (b : Bool) (r q : Reason) (v : Verdict) → v ≡ cond b (Err r) (Ok tt) → v ≡ Err q → (b ≡ true) × (r ≡ q)
failing true r q v e f = (refl, same_reason r q (sym e ∙ f))
failing false r q v e f = fails_not (sym f ∙ e)

passing : (b : Bool) (r : Reason) (v : Verdict) → v ≡ cond b (Err r) (Ok tt) → v ≡ Ok tt → b ≡ false
passing true r v e f = fails_not (sym e ∙ f)
passing false r v e f = refl

-- a test that is asked of some types, by the code's own answers
same_test : (o fine q : Bool) → (o ≡ true → q ≡ fine) → (o && not fine) ≡ (o && not q)
same_test true fine q k = ap not (sym (k refl))
same_test false fine q k = refl

any_keep : {A : Type 0} (p : A → Bool) (xs : List A) → any p xs ≡ ltb 0 (length (keep p xs))
any_keep p [] = refl
any_keep p (x ∷ xs) = go (p x) (any_keep p xs)
  where
    go : (b : Bool) → any p xs ≡ ltb 0 (length (keep p xs)) → (b || any p xs) ≡ ltb 0 (length (cond b (x ∷ keep p xs) (keep p xs)))
    go true e = sym (lt-ltb 0 (length (x ∷ keep p xs)) (omega arith))
    go false e = e

-- ---- the target's run
module _ (body : List ℕ) (rs : List Pool) (run : Run) (er : run ≡ run_of (target_of body) rs) where
  pub run_fits : (run.start ≤ run.stop) × (run.stop ≤ length rs)
  run_fits = rw er (run_rises (target_of body) rs, run_within (target_of body) rs)

  pub targets_law : in_order rs ≡ true → (t : Option ℕ) → is_some t ≡ ltb 0 (length (take (run.stop - run.start) (drop run.start rs)))
      → unwrap_or t 0 ≡ first_under (take (run.stop - run.start) (drop run.start rs))
      → Targets body rs t
  unfolding target_trade part
  targets_law o t es et =
      let k : take (run.stop - run.start) (drop run.start rs) ≡ keep (under (target_of body)) rs = ap (run_records rs) er ∙ run_records_law body rs o in
      record {
        there = es ∙ ap (λ (xs : List Pool). ltb 0 (length xs)) k ∙ sym (any_keep (under (target_of body)) rs);
        trade = et ∙ ap first_under k;
      }

-- ---- what soundness gives
module _ (book : Book) (ps : List Pool) (body : List ℕ) (y : Ready book ps body) where
  sure : Sound book ps
  sure = is_sound_law book ps y.sound

  abbrev rs : List Pool
  rs = live_of book ps

  pub within : book.live ≤ length ps
  within = leb-true book.live (length ps) sure.live_within

  pub few : length ps ≤ records_max
  few = leb-true (length ps) records_max sure.table_short

  formed_cc : is_cc (type_of body) ≡ true → formed_for true (details body) ≡ true
  formed_cc e = rw e at (y.formed (or_right (is_on (type_of body)) (is_cc (type_of body)) e))

  pub size : length rs ≡ book.live
  size = length-take-le book.live ps within

  pub live_few : length rs ≤ records_max
  live_few = omega (arith, size, within, few)

  pub ordered : in_order rs ≡ true
  ordered = sure.ordered

  pub findable : Findable body rs
  findable = record { few = live_few; ordered = sure.ordered; once = sure.once; formed = formed_cc }

  pub weighable : (ms : List ℕ) → length ms ≡ records_max → Weighable rs ms
  weighable ms e =
      let l = light book.values (few_trades book.values sure.values) rs sure.records in
      record { marks = omega (arith, live_few, e); few = live_few; faces = λ i h. (l i no_pool h).1; millions = λ i h. (l i no_pool h).2 }

  -- ---- 37, 38 and 40
  module _ (asked : Asked) where
    abbrev c : Call
    c = call book ps body asked

    pub listed_fails : Takes body rs None → DecidedBy moves_checks c (Err (by.Trader 37 told))
    unfolding moves_checks
    listed_fails t = record { verdict = rw (takes_not (lists_lots (type_of body)) (listed_fine body rs) t.fine); moves = tt }
      where
        takes_not : (a b : Bool) → false ≡ (not a || b) → (a && not b) ≡ true
        takes_not true true e = absurd (true≢false (sym e))
        takes_not true false e = refl
        takes_not false b e = absurd (true≢false (sym e))

    module _ (target : ℕ) (et : target_trade body rs ≡ target) (ms : List ℕ) (tk : Takes body rs (Some ms)) (off brought trade : ℕ)
        (ef : off ≡ run_sum weight_share 0 0 (marked ms rs)) (eb : brought ≡ brought_weight body)
        (er : trade ≡ cond (is_on (type_of body)) (trade_of_on body (trades_of book.values) (open_pars (trades_of book.values))) target) where
      taking : Taken body rs ms
      taking = tk.taken

      listed_test : (lists_lots (type_of body) && not (listed_fine body rs)) ≡ false
      listed_test = takes_all (lists_lots (type_of body)) (listed_fine body rs) tk.fine
        where
          takes_all : (a b : Bool) → true ≡ (not a || b) → (a && not b) ≡ false
          takes_all true true e = refl
          takes_all true false e = absurd (true≢false e)
          takes_all false b e = refl

      -- the one trade of its lots
      trade_is : trade ≡ trade_due body (trades_of book.values) rs
      trade_is = er ∙ ap (cond (is_on (type_of body)) (trade_of_on body (trades_of book.values) (open_pars (trades_of book.values)))) (sym et)

      abbrev gone : List Pool
      gone = keep (is_taken (target_of body) (listed body)) rs

      -- all that goes is of that trade: an ON lists nothing, and a target's records have one trade
      gone_there : (r : Pool) → r ∈ gone → r.trade ≡ trade
      gone_there r m = go (is_on (type_of body)) refl
        where
          kept : (r ∈ rs) × (is_taken (target_of body) (listed body) r ≡ true)
          kept = keep_in (is_taken (target_of body) (listed body)) rs m

          on_lists : (j : MessageType) → is_on j ≡ true → lists_lots j ≡ false
          on_lists On e = refl
          on_lists Cc e = absurd (true≢false (sym e))
          on_lists Dk e = absurd (true≢false (sym e))
          on_lists Cx e = refl
          on_lists Other e = refl

          go : (o : Bool) → is_on (type_of body) ≡ o → r.trade ≡ trade
          go true e =
              let z : has_fields (live_fields r) [] ≡ true =
              rw (listed_none body (on_lists (type_of body) e)) at (and_right (under (target_of body) r) (has_fields (live_fields r) (listed body)) kept.1) in
              absurd (true≢false (sym z))
          go false e =
              under_trade body rs sure.ordered r kept.0 (and_left (under (target_of body) r) (has_fields (live_fields r) (listed body)) kept.1)
              ∙ sym (trade_is ∙ rw e)

      off_is : (u : ℕ) → trade_weight u gone ≡ cond (eqb trade u) off 0
      off_is u =
          weight_one book.values gone (ordered_keep (is_taken (target_of body) (listed body)) rs sure.ordered)
          (all_keep (record_fine book.values) (is_taken (target_of body) (listed body)) rs sure.records) trade gone_there u
          ∙ ap (λ (n : ℕ). cond (eqb trade u) n 0)
          (sym (ef ∙ ap (run_sum weight_share 0 0)
          (marked_keep (is_taken (target_of body) (listed body)) ms rs (omega (arith, size, within, few, taking.size), taking.marked))))

      brought_is : (u : ℕ) → due_weight u (dues_by body (trades_of book.values) rs) ≡ cond (eqb trade u) brought 0
      brought_is u = rw (trade_is, eb) (dues_weight body (trades_of book.values) rs u)

      module _ (p : Bool) (ep : p ≡ (ltb trade (length (trades_of book.values)) && leb brought ((trade_at (trades_of book.values) trade).open_par + off))) where
        par_is : brings_lots (type_of body) ≡ true → p ≡ par_fine book.values rs body
        par_is o =
            let (l, (ls, e)) = some_lot (messages.brought body) (y.some o) in
            let w : trade_weight trade gone ≡ off = off_is trade ∙ rw (eq-eqb trade trade refl) in
            ep ∙ rw (sym w, trade_is, eb) (sym (dues_fit_law body (trades_of book.values) rs gone l ls e))

        par_test : (brings_lots (type_of body) && not (par_fine book.values rs body)) ≡ (brings_lots (type_of body) && not p)
        par_test = same_test (brings_lots (type_of body)) (par_fine book.values rs body) p par_is

        module _ (v : Verdict) (ev : v ≡ cond (brings_lots (type_of body) && not p) (Err (by.Trader 38 told)) (Ok tt)) where
          pub par_fails : (q : Reason) → v ≡ Err q → (r : Result Decision Reason) → r ≡ Err q → DecidedBy moves_checks c r
          unfolding moves_checks
          par_fails q e r er' =
              let f = failing (brings_lots (type_of body) && not p) (by.Trader 38 told) q v ev e in
              rw er' (record { verdict = rw (listed_test, par_test ∙ f.0, f.1); moves = tt })

          module _ (passes : v ≡ Ok tt) (q : Bool)
              (eq : formed_for (is_cc (type_of body)) (details body) ≡ true
              → q ≡ leb (book.live + length (new_pools (details body))) (length ps + cond (is_cc (type_of body)) (length (keep is_canceled (details body))) 0))
              (w : Verdict) (ew : w ≡ cond (brings_lots (type_of body) && not q) (Err (by.Operator 40 told)) (Ok tt)) where
            par_passes : (brings_lots (type_of body) && not (par_fine book.values rs body)) ≡ false
            par_passes = par_test ∙ passing (brings_lots (type_of body) && not p) (by.Trader 38 told) v ev passes

            fits_is : brings_lots (type_of body) ≡ true → q ≡ table_fine book (held_in book ps) body
            unfolding listed
            fits_is o = eq (y.formed o) ∙ rw size (ap (λ (n : ℕ). leb (book.live + length (new_pools (details body))) (length ps + n)) (go (type_of body) o))
              where
                go : (j : MessageType) → brings_lots j ≡ true
                    → cond (is_cc j) (length (keep is_canceled (details body))) 0 ≡ length (map fields_of (listed_of j (details body)))
                go On o = refl
                go Cc o = sym (length-map (keep is_canceled (details body)) fields_of)
                go Dk o = absurd (true≢false (sym o))
                go Cx o = absurd (true≢false (sym o))
                go Other o = absurd (true≢false (sym o))

            table_test : (brings_lots (type_of body) && not (table_fine book (held_in book ps) body)) ≡ (brings_lots (type_of body) && not q)
            table_test = same_test (brings_lots (type_of body)) (table_fine book (held_in book ps) body) q fits_is

            pub table_fails : (n : Reason) → w ≡ Err n → (r : Result Decision Reason) → r ≡ Err n → DecidedBy moves_checks c r
            unfolding moves_checks
            table_fails n e r er' =
                let f = failing (brings_lots (type_of body) && not q) (by.Operator 40 told) n w ew e in
                rw er' (record { verdict = rw (listed_test, par_passes, table_test ∙ f.0, f.1); moves = tt })

            pub all_pass : w ≡ Ok tt → DecidedBy moves_checks c (Ok (record { trade = trade; off = off; brought = brought; marks = ms }))
            unfolding moves_checks
            all_pass e =
                record {
                  verdict = rw (listed_test, par_passes, table_test ∙ passing (brings_lots (type_of body) && not q) (by.Operator 40 told) w ew e);
                  moves = record { trade = trade_is; off = off_is; brought = brought_is; marks = taking.whole; marked = taking.marked };
                }

-- ---- all ten
module _ (x : Call) where
  parted : first_failing (target_checks ++ (new_checks ++ moves_checks)) x ≡ first_failing trader_checks x
  unfolding terms_checks
  parted = refl

  module _ (v : Verdict) (ev : v ≡ first_failing target_checks x) where
    pub target_decides : (q : Reason) → v ≡ Err q → (r : Result Decision Reason) → r ≡ Err q → DecidedBy trader_checks x r
    target_decides q e r er =
        rw er (record { verdict = sym (first_early x target_checks (new_checks ++ moves_checks) q (sym ev ∙ e)) ∙ parted; moves = tt })

    module _ (passes : v ≡ Ok tt) (w : Verdict) (ew : w ≡ first_failing new_checks x) where
      late : first_failing trader_checks x ≡ first_failing (new_checks ++ moves_checks) x
      late = sym parted ∙ first_late x target_checks (new_checks ++ moves_checks) (sym ev ∙ passes)

      pub new_decides : (q : Reason) → w ≡ Err q → (r : Result Decision Reason) → r ≡ Err q → DecidedBy trader_checks x r
      new_decides q e r er = rw er (record { verdict = sym (late ∙ first_early x new_checks moves_checks q (sym ew ∙ e)); moves = tt })

      pub moves_decide : w ≡ Ok tt → (r : Result Decision Reason) → DecidedBy moves_checks x r → DecidedBy trader_checks x r
      moves_decide e r d = record { verdict = d.verdict ∙ sym (late ∙ first_late x new_checks moves_checks (sym ew ∙ e)); moves = d.moves }
