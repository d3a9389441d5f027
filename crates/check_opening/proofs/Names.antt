-- Whether an ID stands twice among the trades from a place on: where the ID of the trade there stands again, or among the trades after it.
use mathlib.Core.Path.{◌≡◌, refl, ap, ◌∙◌}
use mathlib.Core.List.{List, [], ◌∷◌, map}
use mathlib.Core.Bool.{Bool, true, false, ◌||◌}
use Prim.Native.Nat.{ℕ, ◌+◌, ◌-◌, ◌<◌}
use lib.ListN.{length, get_or, take, drop}
use lib.Dec.{eqb}
use Rattle.std.proofs.lemmas.List.{take_rest}
use Rattle.lists.specs.Lists.{same, any}
use Rattle.lists.proofs.Parts.{drop_turn}
use Rattle.book.specs.declared.Trade.{Trade}
use Rattle.book.specs.Trades.{trade_name}
use Rattle.book.specs.Opening.{names_repeat}
use Rattle.check_opening.specs.Marks.{mark_of}
use Rattle.check_opening.proofs.Marked.{unmarked_later}

-- a test of what a function makes of some elements is a test of the elements
pub any_map : {A B : Type 0} (p : B → Bool) (f : A → B) (xs : List A) → any p (map f xs) ≡ any (λ (x : A). p (f x)) xs
any_map p f [] = refl
any_map p f (x ∷ xs) = ap (λ (b : Bool). p (f x) || b) (any_map p f xs)

module _ (ts : List Trade) (i : ℕ) (d : Trade) (h : i < length ts) where
  -- some later trade has the ID of the trade there
  abbrev Again : Bool → Type 0
  Again b = any (λ (t : Trade). same (trade_name (get_or ts i d)) (trade_name t)) (take (length ts - (i + 1)) (drop (i + 1) ts)) ≡ b

  names_turn : (b : Bool) → any (same (trade_name (get_or ts i d))) (map trade_name (drop (i + 1) ts)) ≡ b
      → names_repeat (map trade_name (drop i ts)) ≡ (b || names_repeat (map trade_name (drop (i + 1) ts)))
  names_turn b e =
      ap (λ (l : List Trade). names_repeat (map trade_name l)) (drop_turn ts i d h) ∙ ap (λ (c : Bool). c || names_repeat (map trade_name (drop (i + 1) ts))) e

  names_again : (b : Bool) → Again b → names_repeat (map trade_name (drop i ts)) ≡ (b || names_repeat (map trade_name (drop (i + 1) ts)))
  names_again b e = names_turn b (any_map (same (trade_name (get_or ts i d))) trade_name (drop (i + 1) ts) ∙ (rw take_rest at e))

  pub names_stop : Again true → names_repeat (map trade_name (drop i ts)) ≡ true
  names_stop e = names_again true e

  pub names_more : Again false → names_repeat (map trade_name (drop i ts)) ≡ names_repeat (map trade_name (drop (i + 1) ts))
  names_more e = names_again false e

  -- its mark does not stand among those of the later trades
  pub marks_more : (marks : List ℕ) → take (length ts) marks ≡ map mark_of (map trade_name ts)
      → any (eqb (get_or marks i 0)) (take (length ts - (i + 1)) (drop (i + 1) marks)) ≡ false
      → names_repeat (map trade_name (drop i ts)) ≡ names_repeat (map trade_name (drop (i + 1) ts))
  marks_more marks whole e = names_turn false (unmarked_later trade_name ts marks whole i d h e)
