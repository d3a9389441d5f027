-- What a detail reader has still to give: turn by turn, and at the start, where it is all details of a body.
use Rattle.std.proofs.Common.{◌≡◌, refl, ap, subst, inl, inr, ℕ, zero, suc, ◌+◌, ◌-◌, ◌/◌, ◌≢◌, List, [], ◌∷◌, length, Some, None, MatchOption, arith}
use Rattle.std.proofs.lemmas.Bool.{cases_lt}
use Rattle.std.proofs.lemmas.Iterator.{YieldsList}
use Rattle.std.proofs.lemmas.Iterator.Consumers.{YieldsList-from_shown}
use borrow.Author.Tests.{tests}
use Rattle.lists.specs.Lists.{tab}
use Rattle.layout.specs.declared.Detail.{Detail}
use Rattle.layout.specs.declared.Step.{Step}
use Rattle.layout.specs.Columns.{header_width, detail_width}
use Rattle.layout.specs.Details.{next_detail, details, pools, pool_count, place_of}
use Rattle.layout.proofs.Passes.{pool_of}
use Rattle.layout.proofs.Lengths.{count_max}
use Rattle.layout.proofs.Reader.{at_end, at_detail, length_details}
use Rattle.detail_reader.specs.Left.{details_at, details_from, details_left, gives}
use Rattle.detail_reader.specs.declared.Details.{Details}

module _ (body : List ℕ) where
  -- the reader gives the first of what is left, and leaves the others
  left_law : (at : ℕ)
      → MatchOption (next_detail body at) (details_from body at ≡ []) (λ (step : Step). details_from body at ≡ step.detail ∷ details_from body step.next)
  unfolding details_from
  left_law at = elim (cases_lt (length body - at) detail_width) [
    | inl short ↦
        let n : (length body - at) / detail_width ≡ 0 = omega arith in
        rw (← at_end body at short) (rw n)
    | inr long ↦
        let n : (length body - at) / detail_width ≡ suc ((length body - (at + detail_width)) / detail_width) = omega arith in
        rw (← at_detail body at long) (rw n)
  ]

  pub left_end : (at : ℕ) → next_detail body at ≡ None → details_from body at ≡ []
  left_end at e = rw e at (left_law at)

  pub left_more : (at : ℕ) (step : Step) → next_detail body at ≡ Some step → details_from body at ≡ step.detail ∷ details_from body step.next
  left_more at step e = rw e at (left_law at)

  details_tab : (n i : ℕ) → details_at body (place_of i) n ≡ tab (pool_of body) n i
  details_tab zero i = refl
  details_tab (suc n) i =
      let e : place_of i + detail_width ≡ place_of (i + 1) = omega arith in
      rw e (ap (λ l. pool_of body i ∷ l) (details_tab n (i + 1)))

  counted_all : pool_count body ≢ 0 → pool_count body ≡ pools body
  unfolding pool_count
  counted_all h = grind (arith, tests)

  pub left_all : pool_count body ≢ 0 → details_from body header_width ≡ details body
  unfolding details_from details
  left_all h = rw (counted_all h) (details_tab (pools body) 0)

  pub left_none : pool_count body ≡ 0 → details_from body (length body) ≡ details body
  unfolding details_from details
  left_none h = let e : (length body - length body) / detail_width ≡ 0 = omega arith in rw (h, e)

-- what the reader's turns, and a reader of a body's pools, need
pub ruleset turns_left = (left_end, left_more)

pub ruleset pools_left = (left_all, left_none, length_details, count_max)

-- a pass over a reader takes what it has still to give
pub reads : {s : Details} (ds : List Detail) → details_left s ≡ ds → YieldsList gives (λ d. d) s ds
reads {s} ds e = subst (YieldsList gives (λ d. d) s) e (YieldsList-from_shown gives (λ d. d) details_left (λ t u h. ap length h.0.0) (λ t d u h. h.0) s)
