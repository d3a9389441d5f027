-- The loop that closes up: the records that were kept stand first, and those not looked at are as they were.
use Rattle.std.proofs.Common.{◌≡◌, ◌≢◌, ℕ, zero, suc, ◌+◌, ◌-◌, ◌<◌, ◌≤◌, Bool, true, false, cond, eqb, List, [], ◌∷◌, ◌++◌, length, get_or, take, drop, set, replicate, sym, refl, ap, ◌∙◌, arith, eq-eqb, ne_eqb, add-one, append-nil}
use Rattle.std.proofs.lemmas.List.{get_or_default}
use borrow.Rule.Slice.PartMut.{put_mid}
use lib.Seq.{drop-set-lt, take-suc-set, length-take-le, drop-drop, get_or-drop}
use Rattle.book.specs.declared.Pool.{Pool}
use Rattle.book.specs.Records.{no_pool}
use Rattle.rows.specs.Closed.{unmarked, closed_up}

unmarked_none : (ms : List ℕ) → unmarked ms [] ≡ []
unmarked_none [] = refl
unmarked_none (m ∷ ms) = refl

-- one more record is looked at
unmarked_more : (ms : List ℕ) (ps : List Pool) (i : ℕ) → i < length ms → i < length ps
    → unmarked ms (take (suc i) ps) ≡ unmarked ms (take i ps) ++ cond (eqb (get_or ms i 0) 0) (get_or ps i no_pool ∷ []) []
unmarked_more [] ps i h l = absurd (omega arith)
unmarked_more (m ∷ ms) [] i h l = absurd (omega arith)
unmarked_more (m ∷ ms) (p ∷ ps) zero h l = rw (unmarked_none ms)
unmarked_more (m ∷ ms) (p ∷ ps) (suc i) h l = go (eqb m 0) (unmarked_more ms ps i (omega arith) (omega arith))
  where
    last : List Pool
    last = cond (eqb (get_or ms i 0) 0) (get_or ps i no_pool ∷ []) []

    go : (b : Bool) → unmarked ms (take (suc i) ps) ≡ unmarked ms (take i ps) ++ cond (eqb (get_or ms i 0) 0) (get_or ps i no_pool ∷ []) []
        → cond b (p ∷ unmarked ms (take (suc i) ps)) (unmarked ms (take (suc i) ps))
        ≡ cond b (p ∷ unmarked ms (take i ps)) (unmarked ms (take i ps)) ++ cond (eqb (get_or ms i 0) 0) (get_or ps i no_pool ∷ []) []
    go true e = ap (λ (l : List Pool). p ∷ l) e
    go false e = e

module _ (ms : List ℕ) (t₀ : List Pool) where
  -- r records of a table are looked at and w are kept; the table was t₀
  pub record Closing (t : List Pool) (r w : ℕ) : Type 0 where
    pub within : w ≤ r
    pub kept : take w t ≡ unmarked ms (take r t₀)
    pub rest : drop r t ≡ drop r t₀

  pub closing_none : Closing t₀ 0 0
  closing_none = record { within = omega arith; kept = sym (unmarked_none ms); rest = refl }

  module _ (t : List Pool) (r w : ℕ) (inv : Closing t r w) (h : r < length ms) (l : r < length t₀) (n : length t ≡ length t₀) where
    next : (u : List Pool) → drop (r + 1) u ≡ drop (r + 1) t → drop (r + 1) u ≡ drop (r + 1) t₀
    next u e =
        e ∙ sym (drop-drop 1 r t) ∙ ap (drop 1) inv.rest ∙ drop-drop 1 r t₀

    same : get_or t r no_pool ≡ get_or t₀ r no_pool
    same =
        let z : r + 0 ≡ r = omega arith in
        rw (← z) (sym (get_or-drop r t 0 no_pool) ∙ ap (λ (xs : List Pool). get_or xs 0 no_pool) inv.rest ∙ get_or-drop r t₀ 0 no_pool)

    more : unmarked ms (take (r + 1) t₀) ≡ take w t ++ cond (eqb (get_or ms r 0) 0) (get_or t r no_pool ∷ []) []
    more = rw (add-one r, same) (unmarked_more ms t₀ r h l ∙ ap (λ (xs : List Pool). xs ++ cond (eqb (get_or ms r 0) 0) (get_or t₀ r no_pool ∷ []) []) (sym inv.kept))

    pub closing_gone : get_or ms r 0 ≢ 0 → Closing t (r + 1) w
    closing_gone e =
        record {
          within = omega (arith, inv.within);
          kept = sym (more ∙ rw (ne_eqb (get_or ms r 0) 0 e) (append-nil (take w t)));
          rest = next t refl;
        }

    -- the record is put into the place after those that were kept
    pub closing_moved : (u : List Pool) (d : Pool) → u ≡ set t w (get_or t r d) → get_or ms r 0 ≡ 0 → Closing u (r + 1) (w + 1)
    closing_moved u d q e =
        let p : u ≡ set t w (get_or t r no_pool) = q ∙ ap (set t w) (get_or_default t r d no_pool (omega arith)) in
        record {
          within = omega (arith, inv.within);
          kept = ap (take (w + 1)) p ∙ ap (λ (k : ℕ). take k (set t w (get_or t r no_pool))) (add-one w) ∙ take-suc-set t w (get_or t r no_pool) (omega (arith, inv.within)) ∙ sym (more ∙ rw (eq-eqb (get_or ms r 0) 0 e));
          rest = next u (rw p (drop-set-lt (r + 1) t w (get_or t r no_pool) (omega (arith, inv.within))));
        }

  pub closed : (t : List Pool) (live w : ℕ) (zs : List Pool) → Closing t live w → w ≤ length t → zs ≡ replicate (live - w) no_pool
      → (w ≡ length (unmarked ms (take live t₀))) × (put_mid w (live - w) t zs ≡ closed_up ms live t₀)
  closed t live w zs inv h e =
      let n : w ≡ length (unmarked ms (take live t₀)) = sym (ap length (sym inv.kept) ∙ length-take-le w t h) in
      let s : w + (live - w) ≡ live = omega (arith, inv.within) in
      (n, rw (← n, ← inv.kept, e, drop-drop (live - w) w t, s, inv.rest))
