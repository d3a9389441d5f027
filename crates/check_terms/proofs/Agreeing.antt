-- Terms agree: the two that are numbers are looked at first, and a trade past the end agrees with no message.
use mathlib.Core.Path.{◌≡◌, refl, sym, ◌∙◌}
use mathlib.Core.List.{List, []}
use mathlib.Core.Bool.{Bool, true, false, cond, ◌&&◌, and-false, and-true}
use Prim.Native.Nat.{ℕ, ◌<◌}
use native.Mathlib.Omega.{arith}
use lib.ListN.{length}
use lib.Dec.{leb}
use borrow.Author.Tests.{leb-true, leb-false}
use Rattle.std.specs.Prelude.{is_some}
use Rattle.lists.specs.Lists.{part, same}
use Rattle.lists.proofs.Parts.{out_past, out_short, length_part}
use Rattle.lists.proofs.Tests.{same_unlike}
use Rattle.fields.specs.Fields.{read_number}
use Rattle.layout.specs.Columns as columns
use Rattle.layout.specs.Columns.{bytes_in, number_in}
use Rattle.message_type.specs.Questions.{buyer_submits}
use Rattle.book.specs.Messages.{type_of}
use Rattle.book.specs.Trades.{agrees}
use Rattle.book.specs.Checks.{no_trade}

-- five tests, of which the last two are looked at first
pub last_fail : (x y z a b : Bool) → (a && b) ≡ false → false ≡ (x && (y && (z && (a && b))))
last_fail x y z a b e = rw (e, and-false z, and-false y, and-false x)

pub last_pass : (x y z a b : Bool) → (a && b) ≡ true → (x && (y && z)) ≡ (x && (y && (z && (a && b))))
last_pass x y z a b e = rw (e, and-true z)

-- ---- a trade past the end has no bytes: a body that is long enough for a settlement has a submitter
side_none : (buyer : Bool) → cond buyer no_trade.buyer no_trade.seller ≡ []
side_none true = refl
side_none false = refl

no_date : (body : List ℕ) → length body < 90 → is_some (number_in body columns.settlement) ≡ false
unfolding read_number
no_date body h = go (leb 82 (length body)) refl
  where
    go : (b : Bool) → leb 82 (length body) ≡ b → is_some (number_in body columns.settlement) ≡ false
    go true p = rw (out_short body 82 8 (omega (arith, leb-true 82 (length body) p)))
    go false p = rw (out_past body 82 8 (leb-false 82 (length body) p))

pub agrees_none : (body : List ℕ) → agrees body no_trade ≡ false
unfolding agrees
agrees_none body = go (leb 90 (length body)) refl
  where
    go : (b : Bool) → leb 90 (length body) ≡ b → agrees body no_trade ≡ false
    go true p =
        let h = leb-true 90 (length body) p in
        let l : length (part body 19 4) ≡ 4 = length_part body 19 4 (omega arith) in
        let u : same (part body 19 4) [] ≡ false = sym (same_unlike (part body 19 4) [] (λ k. let z : 4 ≡ 0 = sym l ∙ k in omega arith)) in
        rw (side_none (buyer_submits (type_of body)), u)
    go false p =
        let d : is_some (number_in body columns.settlement) ≡ false = no_date body (leb-false 90 (length body) p) in
        rw d (simp and-false)
