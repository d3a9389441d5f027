-- The target's run says what the checks ask of the target: whether some record is under it, its trade and, in an ordered table, all its records.
use Rattle.std.specs.Prelude.{Option, Some, is_some, unwrap_or}
use mathlib.Core.Path.{◌≡◌, refl, sym, ap, ◌∙◌}
use mathlib.Core.List.{List, [], ◌∷◌}
use mathlib.Core.Bool.{Bool, true, false, not, cond}
use Prim.Native.Nat.{ℕ, zero, suc, ◌+◌, ◌-◌, ◌≤◌, ◌<◌}
use native.Mathlib.Numerals.{one-add}
use native.Mathlib.Omega.{arith}
use native.Mathlib.Decide.{dec_lt}
use lib.ListN.{length, get_or, take, drop, length-drop}
use lib.Seq.{get_or-drop}
use lib.Dec.{eqb, leb}
use borrow.Author.Tests.{leb-true, eqb-true, eqb-false, eq-eqb, ne_eqb, le-leb}
use Rattle.std.specs.List.{position_or_len, prefix_len}
use Rattle.std.proofs.lemmas.List.Sums.{prefix_len-le-length, prefix_len_passes, fails_before_first}
use Rattle.lists.specs.Lists.{part, keep, all}
use Rattle.lists.proofs.Tests.{and_left, and_right, both, clash, all_out, keep_none}
use Rattle.fields.proofs.Cases.{number_is_law}
use Rattle.book.specs.declared.Pool.{Pool}
use Rattle.book.specs.Records.{no_pool}
use Rattle.book.specs.Messages.{under}
use Rattle.book.specs.Soundness.{follows, in_order}
use Rattle.book.proofs.ListLaws.{all_implied}
use Rattle.book.proofs.Ordered.{follows_message}
use Rattle.rows_find.specs.Runs.{run_of}

-- ---- any list
module _ {A : Type 0} (p : A → Bool) where
  pub keep_ahead : (xs : List A) → keep p xs ≡ keep p (drop (position_or_len p xs) xs)
  keep_ahead [] = refl
  keep_ahead (x ∷ xs) = go (p x) refl (keep_ahead xs)
    where
      go : (b : Bool) → p x ≡ b → keep p xs ≡ keep p (drop (position_or_len p xs) xs)
          → cond b (x ∷ keep p xs) (keep p xs) ≡ keep p (drop (cond (not b) (1 + position_or_len p xs) 0) (x ∷ xs))
      go true e h = rw e
      go false e h = rw one-add h

-- ---- ordered records
order_tail : (q : Pool) (rs : List Pool) → in_order (q ∷ rs) ≡ true → in_order rs ≡ true
order_tail q [] e = refl
order_tail q (r ∷ rs) e = and_right (follows q r) (in_order (r ∷ rs)) e

abbrev at_least : ℕ → Pool → Bool
at_least id s = leb id s.message

order_rises : (q : Pool) (rs : List Pool) → in_order (q ∷ rs) ≡ true → all (at_least q.message) rs ≡ true
order_rises q [] e = refl
order_rises q (r ∷ rs) e =
    let near : q.message ≤ r.message = follows_message q r (and_left (follows q r) (in_order (r ∷ rs)) e) in
    both (at_least q.message r) (all (at_least q.message) rs) (le-leb q.message r.message near)
    (all_implied (at_least r.message) (at_least q.message) (λ (s : Pool) h. le-leb q.message s.message (omega (arith, near, leb-true r.message s.message h))) rs
    (order_rises r rs (and_right (follows q r) (in_order (r ∷ rs)) e)))

-- after a higher message ID no record is under a lower one
order_past : (id : ℕ) (r : Pool) (rs : List Pool) → id < r.message → all (at_least r.message) rs ≡ true → keep (under (Some id)) rs ≡ []
order_past id r rs h a =
    keep_none (under (Some id)) rs
    (λ (s : Pool) m. ne_eqb s.message id (λ e. omega (arith, h, leb-true r.message s.message (all_out (at_least r.message) m a))))

-- in an ordered list without lower message IDs, the records under one come first
order_leads : (id : ℕ) (rs : List Pool) → in_order rs ≡ true → all (at_least id) rs ≡ true
    → keep (under (Some id)) rs ≡ take (prefix_len (under (Some id)) rs) rs
order_leads id [] o a = refl
order_leads id (r ∷ rs) o a =
    go (eqb r.message id) refl (order_leads id rs (order_tail r rs o) (and_right (at_least id r) (all (at_least id) rs) a))
  where
    go : (b : Bool) → eqb r.message id ≡ b → keep (under (Some id)) rs ≡ take (prefix_len (under (Some id)) rs) rs
        → cond b (r ∷ keep (under (Some id)) rs) (keep (under (Some id)) rs) ≡ take (cond b (1 + prefix_len (under (Some id)) rs) 0) (r ∷ rs)
    go true e h = rw one-add (ap (λ (l : List Pool). r ∷ l) h)
    go false e h =
        let l : id ≤ r.message = leb-true id r.message (and_left (at_least id r) (all (at_least id) rs) a) in
        order_past id r rs (omega (arith, l, eqb-false r.message id e)) (order_rises r rs o)

-- from the first record under a message ID on, no message ID is lower
order_from : (id : ℕ) (rs : List Pool) → in_order rs ≡ true
    → (in_order (drop (position_or_len (under (Some id)) rs) rs) ≡ true) × (all (at_least id) (drop (position_or_len (under (Some id)) rs) rs) ≡ true)
order_from id [] o = (refl, refl)
order_from id (r ∷ rs) o = go (eqb r.message id) refl (order_from id rs (order_tail r rs o))
  where
    go : (b : Bool) → eqb r.message id ≡ b
        → (in_order (drop (position_or_len (under (Some id)) rs) rs) ≡ true) × (all (at_least id) (drop (position_or_len (under (Some id)) rs) rs) ≡ true)
        → (in_order (drop (cond (not b) (1 + position_or_len (under (Some id)) rs) 0) (r ∷ rs)) ≡ true)
        × (all (at_least id) (drop (cond (not b) (1 + position_or_len (under (Some id)) rs) 0) (r ∷ rs)) ≡ true)
    go true e h =
        let q : r.message ≡ id = eqb-true r.message id e in (
          o,
          both (at_least id r) (all (at_least id) rs) (le-leb id r.message (omega (arith, q)))
              (ap (λ (n : ℕ). all (at_least n) rs) (sym q) ∙ order_rises r rs o),
        )
    go false e h = rw one-add h

all_at : {A : Type 0} (p : A → Bool) (d : A) (xs : List A) (i : ℕ) → all p xs ≡ true → i < length xs → p (get_or xs i d) ≡ true
all_at p d [] i a h = absurd (omega arith)
all_at p d (x ∷ xs) zero a h = and_left (p x) (all p xs) a
all_at p d (x ∷ xs) (suc i) a h = all_at p d xs i (and_right (p x) (all p xs) a) (omega arith)

-- and none of those that come after them is under it
leads_only : (id : ℕ) (rs : List Pool) (i : ℕ) → in_order rs ≡ true → all (at_least id) rs ≡ true → i < length rs
    → under (Some id) (get_or rs i no_pool) ≡ true
    → i < prefix_len (under (Some id)) rs
leads_only id [] i o a h u = absurd (omega arith)
leads_only id (r ∷ rs) zero o a h u = rw u (omega arith)
leads_only id (r ∷ rs) (suc i) o a h u =
    let l : id ≤ r.message = leb-true id r.message (and_left (at_least id r) (all (at_least id) rs) a) in
    let k : r.message ≤ (get_or rs i no_pool).message =
    leb-true r.message (get_or rs i no_pool).message (all_at (at_least r.message) no_pool rs i (order_rises r rs o) (omega arith)) in
    let m : r.message ≡ id = omega (arith, eqb-true (get_or rs i no_pool).message id u) in
    rw (eq-eqb r.message id m) (omega (arith, leads_only id rs i (order_tail r rs o) (and_right (at_least id r) (all (at_least id) rs) a) (omega arith) u))

-- ---- the run
module _ (tgt : Option ℕ) (rs : List Pool) where
  pub run_rises : (run_of tgt rs).start ≤ (run_of tgt rs).stop
  unfolding run_of
  run_rises = omega arith

  pub run_within : (run_of tgt rs).stop ≤ length rs
  unfolding run_of
  run_within =
      let n : ℕ = position_or_len (under tgt) rs in
      omega (arith, prefix_len-le-length (λ (r : Pool). not (under tgt r)) rs, prefix_len-le-length (under tgt) (drop n rs), length-drop n rs)

  -- every record of the run is under the target
  pub run_under : (i : ℕ) → (run_of tgt rs).start ≤ i → i < (run_of tgt rs).stop → under tgt (get_or rs i no_pool) ≡ true
  unfolding run_of
  run_under i h l =
      let n : ℕ = position_or_len (under tgt) rs in
      let e : n + (i - n) ≡ i = omega arith in
      ap (λ (k : ℕ). under tgt (get_or rs k no_pool)) (sym e) ∙ ap (under tgt) (sym (get_or-drop n rs (i - n) no_pool))
      ∙ prefix_len_passes (under tgt) (drop n rs) (i - n) no_pool (omega arith)

not_before : (id : ℕ) (rs : List Pool) (i : ℕ) → under (Some id) (get_or rs i no_pool) ≡ true → position_or_len (under (Some id)) rs ≤ i
not_before id rs i u = go (dec_lt i (position_or_len (under (Some id)) rs))
  where
    go : Dec (i < position_or_len (under (Some id)) rs) → position_or_len (under (Some id)) rs ≤ i
    go (yes h) = clash u (fails_before_first (under (Some id)) rs i no_pool h)
    go (no k) = omega (arith, k)

none_leads : (tgt : Option ℕ) → is_some tgt ≡ false → (rs : List Pool) → keep (under tgt) rs ≡ take (prefix_len (under tgt) rs) rs
none_leads tgt e [] = refl
none_leads tgt e (r ∷ rs) = rw e (keep_none (under tgt) rs (λ (s : Pool) m. rw e))

run_leads : (tgt : Option ℕ) (rs : List Pool) → in_order rs ≡ true
    → keep (under tgt) (drop (position_or_len (under tgt) rs) rs)
    ≡ take (prefix_len (under tgt) (drop (position_or_len (under tgt) rs) rs)) (drop (position_or_len (under tgt) rs) rs)
run_leads tgt rs o = go (is_some tgt) refl
  where
    go : (b : Bool) → is_some tgt ≡ b
        → keep (under tgt) (drop (position_or_len (under tgt) rs) rs)
        ≡ take (prefix_len (under tgt) (drop (position_or_len (under tgt) rs) rs)) (drop (position_or_len (under tgt) rs) rs)
    go true e =
        rw (number_is_law tgt e) (let w = order_from (unwrap_or tgt 0) rs o in order_leads (unwrap_or tgt 0)
        (drop (position_or_len (under (Some (unwrap_or tgt 0))) rs) rs) w.0 w.1)
    go false e = none_leads tgt e (drop (position_or_len (under tgt) rs) rs)

number_only : (id : ℕ) (rs : List Pool) → in_order rs ≡ true → (i : ℕ) → i < length rs → under (Some id) (get_or rs i no_pool) ≡ true
    → ((run_of (Some id) rs).start ≤ i) × (i < (run_of (Some id) rs).stop)
unfolding run_of
number_only id rs o i h u =
    let n : ℕ = position_or_len (under (Some id)) rs in
    let w = order_from id rs o in
    let a : n ≤ i = not_before id rs i u in
    let e : n + (i - n) ≡ i = omega arith in
    let v : under (Some id) (get_or (drop n rs) (i - n) no_pool) ≡ true =
    ap (under (Some id)) (get_or-drop n rs (i - n) no_pool) ∙ ap (λ (k : ℕ). under (Some id) (get_or rs k no_pool)) e ∙ u in
    let l : i - n < prefix_len (under (Some id)) (drop n rs) = leads_only id (drop n rs) (i - n) w.0 w.1 (omega (arith, length-drop n rs)) v in
    (a, omega (arith, l, a))

module _ (tgt : Option ℕ) (rs : List Pool) (o : in_order rs ≡ true) where
  -- every record under the target stands in the run, in an ordered list
  pub run_only : (i : ℕ) → i < length rs → under tgt (get_or rs i no_pool) ≡ true → ((run_of tgt rs).start ≤ i) × (i < (run_of tgt rs).stop)
  run_only i h u =
      let e : tgt ≡ Some (unwrap_or tgt 0) = number_is_law tgt (and_left (is_some tgt) _ u) in
      rw e (number_only (unwrap_or tgt 0) rs o i h (rw e at u))

  -- so the records under the target are those of the run
  pub run_keep : keep (under tgt) rs ≡ part rs (run_of tgt rs).start ((run_of tgt rs).stop - (run_of tgt rs).start)
  unfolding run_of part
  run_keep =
      let n : ℕ = position_or_len (under tgt) rs in
      let e : n + prefix_len (under tgt) (drop n rs) - n ≡ prefix_len (under tgt) (drop n rs) = omega arith in
      keep_ahead (under tgt) rs ∙ run_leads tgt rs o ∙ ap (λ (k : ℕ). take k (drop n rs)) (sym e)
