-- A pool that ends a lot brings the lot's records, where it is not canceled; another goes on with its lot.
use mathlib.Core.Path.{◌≡◌, refl, sym, ◌∙◌}
use Prim.Native.Nat.{ℕ, ◌≤◌, ◌<◌}
use native.Mathlib.Omega.{arith}
use mathlib.Core.List.{List}
use lib.ListN.{length, get_or, take, length-take}
use lib.Seq.{get_or-take}
use Rattle.layout.specs.Details.{pool_count, detail_at, place_of}
use Rattle.layout.proofs.Lengths.{count_max}
use Rattle.rows_bring.specs.Staged.{terminator_number, AreStaged}
use Rattle.rows_bring.proofs.Turns.{storing_none, place_after_law, table_after_law, storing_on, storing_canceled, room, storing_new}
use Rattle.rows_bring.proofs.put_lots.Goals as goal
use Rattle.rows_bring.proofs.put_lots.Goals.{then-is_end, then-number-from, else-number-from, else-is_end}

-- the number that is read is that of the pool
number_there : (body ts : List ℕ) (n i : ℕ) → AreStaged terminator_number body ts → n ≡ pool_count body → i < length (take n ts)
    → (i < pool_count body) × (get_or (take n ts) i 0 ≡ terminator_number (detail_at body (place_of i)))
number_there body ts n i s e h =
    let l : i < pool_count body = omega (arith, e, h, length-take n ts) in
    let m : i < n = omega (arith, e, l) in
    (l, rw get_or-take (s i l))

pub loop-last-init : goal.loop-last-init
loop-last-init c = let a = c.args in storing_none a.message a.trade a.at a.body.now a.pools.now

pub slice_bounds-own-end : goal.slice_bounds-own-end
slice_bounds-own-end c =
    let a = c.args in
    let l = c.loop-last in
    let s = number_there a.body.now _ _ l.last c.requires.are_staged.1 c.pool_count.ensures c.loop-last-test.true in
    let r = room l.invariant s.0 s.1 c.staged_term-end.ensures (sym c.is_end.ensures ∙ c.if-is_end.true)
    (λ q. c.if-number-from.true (q ∙ sym c.from.ensures)) c.of-lot.ensures in
    omega (arith, r, c.requires.room, l.auto.pools)

pub loop-last-preserved : goal.loop-last-preserved
loop-last-preserved c =
    let a = c.args in
    let l = c.loop-last in
    let s = number_there a.body.now _ _ l.last c.requires.are_staged.1 c.pool_count.ensures c.loop-last-test.true in
    elim c.if-is_end.branch [
      | then-is_end w ↦ elim w.if-number-from.branch [
        | then-number-from v ↦
            rw (w.pools-is, w.place-is, w.ordinal-is, w.first-is, v.pools-is, v.place-is, v.ordinal-is)
            (storing_new l.invariant s.0 s.1 c.staged_term-end.ensures (sym c.is_end.ensures ∙ w.if-is_end.true)
            (λ q. v.if-number-from.true (q ∙ sym w.from.ensures)) v.of-lot.ensures (omega arith) v.put_lot.ensures refl
            (omega (arith, c.requires.room, l.auto.pools)))
        | else-number-from v ↦
            rw (w.pools-is, w.place-is, w.ordinal-is, w.first-is, v.pools-is, v.place-is, v.ordinal-is)
            (storing_canceled l.invariant s.0 s.1 c.staged_term-end.ensures (sym c.is_end.ensures ∙ w.if-is_end.true)
            (v.if-number-from.false ∙ w.from.ensures))
      ]
      | else-is_end w ↦
          rw (w.pools-is, w.place-is, w.ordinal-is, w.first-is)
          (storing_on l.invariant s.0 s.1 c.staged_term-end.ensures (sym c.is_end.ensures ∙ w.if-is_end.false))
    ]

pub returns : goal.returns
returns c =
    let a = c.args in
    let l = c.loop-last in
    let h : pool_count a.body.now ≤ l.last =
    omega (arith, c.pool_count.ensures, count_max a.body.now, length-take c.pool_count.result a.staged.now.terminators, c.loop-last-test.false) in (
      place_after_law l.invariant h,
      table_after_law l.invariant h,
    )
