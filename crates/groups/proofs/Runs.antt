-- Checks 20 and 21 by one pass: the group at hand is known by its counts, kinds and sums, and a pool that ends a lot adds to them.
use Rattle.std.proofs.Common.{◌≡◌, refl, sym, ap, ◌∙◌, ℕ, suc, ◌+◌, ◌-◌, ◌<◌, Bool, true, false, cond, ◌&&◌, List, [], ◌∷◌, ◌++◌, length, ltb, arith, length-append}
use mathlib.Core.Bool.{and_assoc, and-true}
use borrow.Author.Tests.{tests, lt-ltb}
use Rattle.lists.specs.Lists.{sum_of, all, fold}
use Rattle.lists.proofs.Tests.{sum_append, all_append}
use Rattle.layout.specs.declared.Detail.{Detail}
use Rattle.layout.specs.Details.{pools_max}
use Rattle.terminator.specs.declared.Groups.{Groups}
use Rattle.terminator.specs.declared.Kind.{Kind}
use Rattle.terminator.specs.declared.Kind.TheVariants.{Good, Odd, Bad}
use Rattle.terminator.specs.Terminators.{is_end, is_canceled, term}
use Rattle.terminator.specs.Reading.{groups_judged}
use Rattle.terminator.specs.Lots.{Lot, lot_kind, lot_millions, lots_from, lots}
use Rattle.terminator.specs.Groups.{Group, groups_from, groups, same_kind, of_kind, group_formed, group_balanced, groups_formed, groups_balanced}
use Rattle.terminator.proofs.Marks.{millions_small}
use Rattle.groups.specs.declared.Run.{Run}
use Rattle.groups.specs.Runs.{judged, empty_run, with_canceled, with_replacement, run_on, Small}

-- ---- the sizes
-- one pool more, of those that are left
pub small_more : (left : ℕ) (g : Run) (d : Detail) → left < pools_max → Small (pools_max - suc left) g → Small (pools_max - left) (run_on g d)
small_more left g d h s =
    record {
      lots_canceled = grind (arith, tests, s.lots_canceled);
      lots_replacement = grind (arith, tests, s.lots_replacement);
      canceled_sum = grind (arith, tests, s.canceled_sum, millions_small d);
      replacement_sum = grind (arith, tests, s.replacement_sum, millions_small d);
    }

-- ---- the group at hand by its lots
abbrev run_of : Groups → List Lot → List Lot → Run
run_of before os ns =
    record {
      before = before;
      canceled = length os;
      replacement = length ns;
      taken = sum_of lot_millions os;
      brought = sum_of lot_millions ns;
      good = of_kind Good os && of_kind Good ns;
      odd = of_kind Odd os && of_kind Odd ns;
      bad = of_kind Bad os && of_kind Bad ns;
    }

one_more_canceled : (k : Kind) (os ns : List Lot) (l : Lot)
    → (of_kind k (os ++ (l ∷ [])) && of_kind k ns) ≡ ((of_kind k os && of_kind k ns) && same_kind k (lot_kind l))
one_more_canceled k os ns l = grind (arith, tests, all_append (λ (x : Lot). same_kind k (lot_kind x)) os (l ∷ []))

one_more_replacement : (k : Kind) (os ns : List Lot) (l : Lot)
    → (of_kind k os && of_kind k (ns ++ (l ∷ []))) ≡ ((of_kind k os && of_kind k ns) && same_kind k (lot_kind l))
one_more_replacement k os ns l = grind (arith, tests, all_append (λ (x : Lot). same_kind k (lot_kind x)) ns (l ∷ []))

millions_more : (xs : List Lot) (l : Lot) → sum_of lot_millions (xs ++ (l ∷ [])) ≡ sum_of lot_millions xs + lot_millions l
millions_more xs l = omega (arith, sum_append lot_millions xs (l ∷ []))

module _ (before : Groups) (os ns : List Lot) (l : Lot) where
  canceled_more : run_of before (os ++ (l ∷ [])) ns ≡ with_canceled (run_of before os ns) l.last
  canceled_more =
      rw (length-append os (l ∷ []), one_more_canceled Good os ns l, one_more_canceled Odd os ns l, one_more_canceled Bad os ns l, millions_more os l)

  replacement_more : run_of before os (ns ++ (l ∷ [])) ≡ with_replacement (run_of before os ns) l.last
  replacement_more =
      rw (length-append ns (l ∷ []), one_more_replacement Good os ns l, one_more_replacement Odd os ns l, one_more_replacement Bad os ns l, millions_more ns l)

-- ---- the pass: what is judged at the end are the groups before, the one at hand and those to come
abbrev verdict : Groups → List Group → Groups
verdict before gs = record { formed = before.formed && all group_formed gs; balanced = before.balanced && all group_balanced gs }

closed : (before : Groups) (os ns : List Lot) (gs : List Group)
    → verdict before (record { canceled = os; replacement = ns } ∷ gs) ≡ verdict (judged (run_of before os ns)) gs
closed before os ns gs =
    let g : Group = record { canceled = os; replacement = ns } in
    rw (and_assoc before.formed (group_formed g) (all group_formed gs), and_assoc before.balanced (group_balanced g) (all group_balanced gs))

chosen : (t : Bool) → t ≡ true → (x y : Run) → cond t x y ≡ x
chosen t e x y = rw e

-- an end: the pool's lot joins the group at hand, or closes it and begins the next
module _ (os : List Lot) (l : Lot) (ds : List Detail)
    (rest : (before : Groups) (os ns : List Lot) → judged (fold run_on (run_of before os ns) ds) ≡ verdict before (groups_from os ns (lots_from [] ds))) where
  joins : (g h : Run) → g ≡ h → (v : Groups) → judged (fold run_on g ds) ≡ v → judged (fold run_on h ds) ≡ v
  joins g h e v p = rw e at p

  end_pass : (before : Groups) (ns : List Lot) (c : Bool) → is_canceled l.last ≡ c
      → judged (fold run_on (cond c
      (with_canceled (cond (ltb 0 (length ns)) (empty_run (judged (run_of before os ns))) (run_of before os ns)) l.last)
      (with_replacement (run_of before os ns) l.last)) ds)
      ≡ verdict before (groups_from os ns (l ∷ lots_from [] ds))
  end_pass before [] true e = rw e (joins _ _ (canceled_more before os [] l) _ (rest before (os ++ (l ∷ [])) []))
  end_pass before [] false e = rw e (joins _ _ (replacement_more before os [] l) _ (rest before os (l ∷ [])))
  end_pass before (n ∷ ns) true e =
      let j = judged (run_of before os (n ∷ ns)) in
      let q : ltb 0 (length (n ∷ ns)) ≡ true = lt-ltb 0 (length (n ∷ ns)) (omega arith) in
      rw e
      (ap (λ (h : Run). judged (fold run_on (with_canceled h l.last) ds)) (chosen (ltb 0 (length (n ∷ ns))) q (empty_run j) (run_of before os (n ∷ ns)))
      ∙ joins _ _ (canceled_more j [] [] l) _ (rest j (l ∷ []) [])
      ∙ sym (closed before os (n ∷ ns) (groups_from (l ∷ []) [] (lots_from [] ds))))
  end_pass before (n ∷ ns) false e = rw e (joins _ _ (replacement_more before os (n ∷ ns) l) _ (rest before os ((n ∷ ns) ++ (l ∷ []))))

run_pass : (before : Groups) (os ns : List Lot) (ms ds : List Detail)
    → judged (fold run_on (run_of before os ns) ds) ≡ verdict before (groups_from os ns (lots_from ms ds))
run_pass before os ns ms [] =
    let g : Group = record { canceled = os; replacement = ns } in
    rw (and-true (group_formed g), and-true (group_balanced g))
run_pass before os ns ms (d ∷ ds) =
    go (is_end (term d)) (run_pass before os ns (ms ++ (d ∷ [])) ds)
    (end_pass os (record { middles = ms; last = d }) ds (λ b (xs ys : List Lot). run_pass b xs ys [] ds) before ns (is_canceled d) refl)
  where
    next : Run
    next =
        cond (is_canceled d)
        (with_canceled (cond (ltb 0 (length ns)) (empty_run (judged (run_of before os ns))) (run_of before os ns)) d)
        (with_replacement (run_of before os ns) d)

    go : (e : Bool) → judged (fold run_on (run_of before os ns) ds) ≡ verdict before (groups_from os ns (lots_from (ms ++ (d ∷ [])) ds))
        → judged (fold run_on next ds) ≡ verdict before (groups_from os ns (record { middles = ms; last = d } ∷ lots_from [] ds))
        → judged (fold run_on (cond e next (run_of before os ns)) ds)
        ≡ verdict before (groups_from os ns (cond e (record { middles = ms; last = d } ∷ lots_from [] ds) (lots_from (ms ++ (d ∷ [])) ds)))
    go true p q = q
    go false p q = p

-- before the first pool there is no group, and at the end nothing is left
abbrev pub no_groups : Run
no_groups = empty_run (record { formed = true; balanced = true })

pub groups_end : (g : Run) (left ds : List Detail) → left ≡ [] → fold run_on g left ≡ fold run_on no_groups ds → judged g ≡ groups_judged ds
unfolding groups_formed groups_balanced groups lots
groups_end g left ds e inv = ap judged (rw e at inv) ∙ run_pass (record { formed = true; balanced = true }) [] [] [] ds
