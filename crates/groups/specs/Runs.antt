-- The pass of checks 20 and 21 over a message's pools: what the private functions promise. The checks themselves are in terminator's Groups.
use Rattle.std.specs.Prelude.{ℕ, ◌+◌, ◌*◌, ◌≤◌, Bool, true, cond, ◌&&◌, ◌||◌, eqb, leb, ltb}
use Rattle.layout.specs.declared.Detail.{Detail}
use Rattle.terminator.specs.declared.Kind.{Kind}
use Rattle.terminator.specs.declared.Kind.TheVariants.{Good, Odd, Bad}
use Rattle.terminator.specs.declared.Groups.{Groups}
use Rattle.terminator.specs.Terminators.{millions_most, is_end, is_canceled, kind_of, millions_of, term}
use Rattle.terminator.specs.Groups.{same_kind}
use Rattle.groups.specs.declared.Run.{Run}

-- 20 of the group at hand
abbrev pub run_formed : Run → Bool
run_formed g =
    (leb 1 g.canceled && leb 1 g.replacement)
    && (g.good || ((eqb g.canceled 1 && eqb g.replacement 1) && (g.odd || g.bad)))

-- 21 of the group at hand
abbrev pub run_balanced : Run → Bool
run_balanced g = eqb g.taken g.brought

-- 20 and 21 of the groups before and of the one at hand
abbrev pub judged : Run → Groups
judged g = record { formed = g.before.formed && run_formed g; balanced = g.before.balanced && run_balanced g }

-- a new group after those before it
abbrev pub empty_run : Groups → Run
empty_run before =
    record {
      before = before;
      canceled = 0;
      replacement = 0;
      taken = 0;
      brought = 0;
      good = true;
      odd = true;
      bad = true;
    }

-- the kinds with one more lot
abbrev pub with_kind : Run → Kind → Run
with_kind g k =
    record g {
      good = g.good && same_kind Good k;
      odd = g.odd && same_kind Odd k;
      bad = g.bad && same_kind Bad k;
    }

-- the group at hand with the canceled lot, or with the replacement lot, that a pool ends
abbrev pub with_canceled : Run → Detail → Run
with_canceled g d = record (with_kind g (kind_of (term d))) { canceled = g.canceled + 1; taken = g.taken + millions_of (term d) }

abbrev pub with_replacement : Run → Detail → Run
with_replacement g d = record (with_kind g (kind_of (term d))) { replacement = g.replacement + 1; brought = g.brought + millions_of (term d) }

-- the groups after one more pool: only an end counts, and a 6 lot after a 7 lot closes the group at hand
abbrev pub run_on : Run → Detail → Run
run_on g d =
    cond (is_end (term d))
    (cond (is_canceled d) (with_canceled (cond (ltb 0 g.replacement) (empty_run (judged g)) g) d) (with_replacement g d))
    g

-- the sizes of the group at hand after so many pools: no lot without a pool, and no more millions than a good lot has
pub record Small (n : ℕ) (g : Run) : Type 0 where
  pub lots_canceled : g.canceled ≤ n
  pub lots_replacement : g.replacement ≤ n
  pub canceled_sum : g.taken ≤ millions_most * n
  pub replacement_sum : g.brought ≤ millions_most * n
