-- The trade ID in special instructions (01, "The book"): the mark "TRID=", 1 to 16 characters other than "=", and "=".
use Rattle.std.specs.Prelude.{ℕ, ◌+◌, Option, Some, None, List, [], ◌∷◌, Bool, cond, ◌&&◌, length, drop, nat_eq, ◌==◌, leb}
use Rattle.std.specs.List.{starts_with, position_from}
use Rattle.trade_id.specs.declared.TradeId.{TradeId}
use Rattle.trade_id.specs.declared.TradeId.TheVariants.{Whole, Broken, Absent}

-- the code of "="
abbrev pub equals_sign : ℕ
equals_sign = 61

-- "TRID="
abbrev pub mark : List ℕ
mark = 84 ∷ 82 ∷ 73 ∷ 68 ∷ equals_sign ∷ []

-- the most characters of an ID
abbrev pub id_length_max : ℕ
id_length_max = 16

-- whether the mark stands at the front; case counts
unfoldable pub begins_with_mark : List ℕ → Bool
begins_with_mark s = starts_with nat_eq s mark

-- where the mark first stands in bytes of which the first is at a place
abbrev pub mark_from : ℕ → List ℕ → Option ℕ
mark_from place [] = None
mark_from place (b ∷ bs) = cond (begins_with_mark (b ∷ bs)) (Some place) (mark_from (place + 1) bs)

-- only the first mark counts
unfoldable pub mark_in : List ℕ → Option ℕ
mark_in s = mark_from 0 s

-- how many bytes stand before the first "=", where there is one
abbrev pub until_equals : List ℕ → Option ℕ
until_equals s = position_from (λ b. b == equals_sign) 0 s

-- the ID at a place, where "=" follows a run of so many bytes, or follows none
abbrev pub whole_or : ℕ → Option ℕ → TradeId
whole_or place (Some n) = cond (leb 1 n && leb n id_length_max) (Whole place n) Broken
whole_or place None = Broken

-- the ID that starts at a place: whole where its run has 1 to 16 bytes and "=" follows
unfoldable pub id_at : List ℕ → ℕ → TradeId
id_at s place = whole_or place (until_equals (drop place s))

-- the ID after a mark
abbrev pub id_after : List ℕ → Option ℕ → TradeId
id_after s (Some place) = id_at s (place + length mark)
id_after s None = Absent

-- the trade ID of special instructions: whole, begun but not whole, or absent
unfoldable pub trade_id_of : List ℕ → TradeId
trade_id_of s = id_after s (mark_in s)
