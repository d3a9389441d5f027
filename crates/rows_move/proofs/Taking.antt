-- Records taken off and brought: the unmarked ones stay, zeros follow, and new records stand in the place of the first zeros.
use Prim.Native.Nat.{ℕ, ◌+◌, ◌-◌, ◌≤◌}
use native.Mathlib.Omega.{arith}
use mathlib.Core.Path.{◌≡◌, sym, ap, ◌∙◌}
use mathlib.Core.List.{List, [], ◌++◌, map, append_assoc, append-nil}
use mathlib.Core.Bool.{Bool, true, false, not, and-false}
use lib.ListN.{length, take, drop, replicate, length-append, length-replicate, replicate-append-replicate, take-append-drop}
use lib.Seq.{length-take-le, take-append_seam, drop-append-add}
use Rattle.std.proofs.lemmas.List.{drop-replicate}
use Rattle.lists.specs.Lists.{keep, pasted, within}
use Rattle.lists.proofs.Parts.{in_within}
use Rattle.lists.proofs.Pasting.{paste_in}
use Rattle.lists.proofs.Tests.{keep_all}
use Rattle.layout.specs.Details.{details}
use Rattle.message_type.specs.declared.MessageType.{MessageType}
use Rattle.book.specs.declared.Pool.{Pool}
use Rattle.book.specs.Dues.{due}
use Rattle.book.specs.Records.{no_pool, records_of}
use Rattle.faces.specs.Faces.{new_lots}
use Rattle.book.specs.Messages.{type_of, target_of, listed}
use Rattle.book.specs.Checks.{is_taken}
use Rattle.message_type.specs.Questions.{brings_lots, lists_lots}
use Rattle.book.proofs.ListLaws.{length_keep}
use Rattle.book.proofs.Pools.{listed_none, brought_new, brought_none}
use Rattle.rows.specs.Closed.{unmarked}
use Rattle.rows_find.proofs.Weighing.{unmarked_keep}
use Rattle.rows_move.specs.Moves.{remaining, bringing, filled, Movable}

-- at most as many stay as there were
pub keep_most : {A : Type 0} (p : A → Bool) (xs : List A) → length (keep p xs) ≤ length xs
keep_most p xs = omega (arith, length_keep p xs)

-- zeros after zeros
pub closed_filled : (rs t : List Pool) (live n : ℕ) → length rs ≤ live → live ≤ n → drop live t ≡ replicate (n - live) no_pool
    → rs ++ (replicate (live - length rs) no_pool ++ drop live t) ≡ filled n rs
closed_filled rs t live n h l z =
    let e : (live - length rs) + (n - live) ≡ n - length rs = omega arith in
    let f : replicate (live - length rs) no_pool ++ drop live t ≡ replicate (n - length rs) no_pool =
    rw z (replicate-append-replicate (live - length rs) (n - live) no_pool ∙ ap (λ (k : ℕ). replicate k no_pool) e) in
    ap (λ (zs : List Pool). rs ++ zs) f

-- a message that lists nothing leaves every record
nothing_taken : (body : List ℕ) (rs : List Pool) → listed body ≡ [] → remaining body rs ≡ rs
nothing_taken body rs e = keep_all (λ (r : Pool). not (is_taken (target_of body) (listed body) r)) rs (λ r m. rw (e, and-false))

module _ (body : List ℕ) (ps : List Pool) (live : ℕ) (ms : List ℕ) (m : Movable body ps live ms) where
  size : length (take live ps) ≡ live
  size = length-take-le live ps m.within

  stays : unmarked ms (take live ps) ≡ remaining body (take live ps)
  stays =
      unmarked_keep (is_taken (target_of body) (listed body)) ms (take live ps) (omega (arith, size, m.marks), λ (i : ℕ) h. m.told i (omega (arith, size, h)))

  -- closed up by the marks
  pub taken_off : (r : ℕ) (after : List Pool) → r ≡ length (unmarked ms (take live ps))
      → after ≡ unmarked ms (take live ps) ++ (replicate (live - length (unmarked ms (take live ps))) no_pool ++ drop live ps)
      → (r ≡ length (remaining body (take live ps))) × (after ≡ filled (length ps) (remaining body (take live ps)))
  taken_off r after er ea =
      let h : length (remaining body (take live ps)) ≤ length (take live ps) = keep_most _ (take live ps) in
      let f = closed_filled (remaining body (take live ps)) ps live (length ps) (omega (arith, h, size)) m.within m.zeros in
      (er ∙ ap length stays, rw stays at ea ∙ f)

  -- left as it is, where nothing is listed
  pub left_all : (k : MessageType) (b : Bool) → k ≡ type_of body → b ≡ lists_lots k → b ≡ false
      → (live ≡ length (remaining body (take live ps))) × (ps ≡ filled (length ps) (remaining body (take live ps)))
  left_all k b ek eb e =
      let n = nothing_taken body (take live ps) (listed_none body (ap lists_lots (sym ek) ∙ sym eb ∙ e)) in
      let split : take live ps ++ drop live ps ≡ ps = take-append-drop live ps in
      (rw n (sym size), sym split ∙ rw (n, size, m.zeros))

-- ---- bringing
module _ (body : List ℕ) (message trade : ℕ) (k : MessageType) (b : Bool) (ek : k ≡ type_of body) (eb : b ≡ brings_lots k) where
  -- what an ON or a CC brings is its new lots
  pub brings : b ≡ true → bringing body message trade ≡ records_of message 1 (map (due trade) (new_lots (details body)))
  brings e = ap (records_of message 1) (ap (map (due trade)) (brought_new body (ap brings_lots (sym ek) ∙ sym eb ∙ e)))

  pub brings_room : (at n : ℕ) → b ≡ true → at + length (bringing body message trade) ≤ n
      → at + length (records_of message 1 (map (due trade) (new_lots (details body)))) ≤ n
  brings_room at n e h = rw (sym (brings e)) h

  pub brings_all : (at r : ℕ) (t u : List Pool) → b ≡ true → r ≡ at + length (records_of message 1 (map (due trade) (new_lots (details body))))
      → u ≡ pasted t at (records_of message 1 (map (due trade) (new_lots (details body))))
      → (r ≡ at + length (bringing body message trade)) × (u ≡ pasted t at (bringing body message trade))
  brings_all at r t u e er eu = rw (brings e) (er, eu)

  -- another brings nothing
  pub brings_none : (n r : ℕ) (rs u : List Pool) → b ≡ false → r ≡ length rs → u ≡ filled n rs
      → (r ≡ length (rs ++ bringing body message trade)) × (u ≡ filled n (rs ++ bringing body message trade))
  brings_none n r rs u e er eu =
      let q : bringing body message trade ≡ [] = ap (records_of message 1) (ap (map (due trade)) (brought_none body (ap brings_lots (sym ek) ∙ sym eb ∙ e))) in
      rw (q, append-nil) (er, eu)

-- new records in the place of the first zeros
pub filled_more : (n : ℕ) (rs new : List Pool) → length (rs ++ new) ≤ n → pasted (filled n rs) (length rs) new ≡ filled n (rs ++ new)
filled_more n rs new h =
    let z = replicate (n - length rs) no_pool in
    let s : length (rs ++ new) ≡ length rs + length new = length-append rs new in
    let a : length (filled n rs) ≡ length rs + length z = length-append rs z in
    let b : length z ≡ n - length rs = length-replicate (n - length rs) no_pool in
    let w : within (filled n rs) (length rs) (length new) ≡ true =
    in_within (filled n rs) (length rs) (length new) (omega (arith, s, a, b)) (omega (arith, s, a, b)) in
    let q : (n - length rs) - length new ≡ n - length (rs ++ new) = omega (arith, s) in
    let c : drop (length new) z ≡ replicate (n - length (rs ++ new)) no_pool =
    drop-replicate (length new) (n - length rs) no_pool ∙ ap (λ (m : ℕ). replicate m no_pool) q in
    paste_in (filled n rs) (length rs) new w
    ∙ rw (take-append_seam rs z, drop-append-add rs z (length new), c) (sym (append_assoc rs new (replicate (n - length (rs ++ new)) no_pool)))

-- a move: taken off, then brought
pub moved : (n left after : ℕ) (rs new t u : List Pool) → length (rs ++ new) ≤ n → left ≡ length rs → t ≡ filled n rs → after ≡ left + length new
    → u ≡ pasted t left new
    → (after ≡ length (rs ++ new)) × (u ≡ filled n (rs ++ new))
moved n left after rs new t u h el et ea eu = (ea ∙ rw el (sym (length-append rs new)), eu ∙ rw (et, el) (filled_more n rs new h))
