-- The words of a trade say that trade.
use mathlib.Core.Path.{◌≡◌, sym, ap, ◌∙◌}
use mathlib.Core.List.{List, [], ◌∷◌, ◌++◌}
use mathlib.Core.Bool.{true}
use Prim.Native.Nat.{ℕ, ◌+◌, ◌≤◌}
use native.Mathlib.Omega.{arith}
use lib.ListN.{length, get_or, length-append}
use Rattle.lists.specs.Lists.{part, all}
use Rattle.lists.proofs.Parts.{length_part}
use Rattle.lists.proofs.Tests.{both}
use Rattle.book.specs.declared.Trade.{Trade}
use Rattle.book.proofs.ListLaws.{all_both}
use Rattle.image.specs.Images.{is_byte, trade_image, trade_fits, trade_in}
use Rattle.image.specs.Formed.{FormedTrade}
use Rattle.image.proofs.Looking.{part_table}
use Rattle.image.proofs.Cutting.{part_next, part_whole, two, six}

-- ---- a row of 42 words
module _ (row : List ℕ) (l : length row ≡ 42) where
  -- its parts end to end
  cut : part row 0 16 ++ part row 16 1 ++ part row 17 4 ++ part row 21 4 ++ part row 25 4 ++ part row 29 9 ++ part row 38 4 ≡ row
  cut =
      let j1 : part row 0 16 ++ part row 16 1 ≡ part row 0 17 = part_next row 0 16 1 in
      let j2 = ap (λ (x : List ℕ). x ++ part row 17 4) j1 ∙ part_next row 0 17 4 in
      let j3 = ap (λ (x : List ℕ). x ++ part row 21 4) j2 ∙ part_next row 0 21 4 in
      let j4 = ap (λ (x : List ℕ). x ++ part row 25 4) j3 ∙ part_next row 0 25 4 in
      let j5 = ap (λ (x : List ℕ). x ++ part row 29 9) j4 ∙ part_next row 0 29 9 in
      let j6 = ap (λ (x : List ℕ). x ++ part row 38 4) j5 ∙ part_next row 0 38 4 in
      j6 ∙ part_whole row 42 l

  length_word : part row 16 1 ≡ get_or row 16 0 ∷ []
  length_word = part_table row 16 0 1 (omega arith)

  numbers : part row 38 4 ≡ get_or row 38 0 ∷ get_or row 39 0 ∷ get_or row 40 0 ∷ get_or row 41 0 ∷ []
  numbers = part_table row 38 0 4 (omega arith)

-- ---- a trade
pub length_trade : (t : Trade) → FormedTrade t → length (trade_image t) ≡ 42
unfolding trade_image
length_trade t h = simp length-append (omega (arith, h.id.0, h.seller.0, h.buyer.0, h.contra.0, h.cusip.0))

-- the parts of a trade's words are its fields
pub record TradeParts (t : Trade) : Type 0 where
  pub id : part (trade_image t) 0 16 ≡ t.id
  pub length : part (trade_image t) 16 1 ≡ t.length ∷ []
  pub seller : part (trade_image t) 17 4 ≡ t.seller
  pub buyer : part (trade_image t) 21 4 ≡ t.buyer
  pub contra : part (trade_image t) 25 4 ≡ t.contra
  pub cusip : part (trade_image t) 29 9 ≡ t.cusip
  pub numbers : part (trade_image t) 38 4 ≡ t.settlement ∷ t.price ∷ t.par ∷ t.open_par ∷ []

module _ (t : Trade) (h : FormedTrade t) where
  as_long : (k n : ℕ) → k + n ≤ 42 → length (part (trade_image t) k n) ≡ n
  as_long k n g = length_part (trade_image t) k n (omega (arith, length_trade t h))

  parts : TradeParts t
  unfolding trade_image
  parts =
      let r = trade_image t in
      let ns : List ℕ = t.settlement ∷ t.price ∷ t.par ∷ t.open_par ∷ [] in
      let q = two (part r 0 16 ++ part r 16 1 ++ part r 17 4 ++ part r 21 4 ++ part r 25 4 ++ part r 29 9) (part r 38 4)
      (t.id ++ (t.length ∷ []) ++ t.seller ++ t.buyer ++ t.contra ++ t.cusip) ns (as_long 38 4 (omega arith)) (cut r (length_trade t h)) in
      let p = six (part r 0 16) (part r 16 1) (part r 17 4) (part r 21 4) (part r 25 4) (part r 29 9)
      t.id (t.length ∷ []) t.seller t.buyer t.contra t.cusip
      (as_long 16 1 (omega arith))
      (as_long 17 4 (omega arith) ∙ sym h.seller.0)
      (as_long 21 4 (omega arith) ∙ sym h.buyer.0)
      (as_long 25 4 (omega arith) ∙ sym h.contra.0)
      (as_long 29 9 (omega arith) ∙ sym h.cusip.0)
      q.0 in
      record { id = p.0; length = p.1; seller = p.2; buyer = p.3; contra = p.4; cusip = p.5; numbers = q.1 }

  pub trade_back : trade_in (trade_image t) ≡ t
  unfolding trade_in
  trade_back =
      let e = sym (length_word (trade_image t) (length_trade t h)) ∙ parts.length in
      let q = sym (numbers (trade_image t) (length_trade t h)) ∙ parts.numbers in
      λ i.
      record {
        id = parts.id i;
        length = get_or (e i) 0 0;
        seller = parts.seller i;
        buyer = parts.buyer i;
        contra = parts.contra i;
        cusip = parts.cusip i;
        settlement = get_or (q i) 0 0;
        price = get_or (q i) 1 0;
        par = get_or (q i) 2 0;
        open_par = get_or (q i) 3 0;
      }

  pub trade_fits_law : trade_fits (trade_image t) ≡ true
  unfolding trade_fits
  trade_fits_law =
      let r = trade_image t in
      let j1 : part r 17 4 ++ part r 21 4 ≡ part r 17 8 = part_next r 17 4 4 in
      let j2 = ap (λ (x : List ℕ). x ++ part r 25 4) j1 ∙ part_next r 17 8 4 in
      let j3 = ap (λ (x : List ℕ). x ++ part r 29 9) j2 ∙ part_next r 17 12 9 in
      let a = ap (all is_byte) parts.seller ∙ h.seller.1 in
      let b = ap (all is_byte) parts.buyer ∙ h.buyer.1 in
      let c = ap (all is_byte) parts.contra ∙ h.contra.1 in
      let d = ap (all is_byte) parts.cusip ∙ h.cusip.1 in
      let n1 = all_both is_byte (part r 17 4) (part r 21 4) a b in
      let n2 = all_both is_byte (part r 17 4 ++ part r 21 4) (part r 25 4) n1 c in
      let n3 = all_both is_byte (part r 17 4 ++ part r 21 4 ++ part r 25 4) (part r 29 9) n2 d in
      both (all is_byte (part r 0 16)) (all is_byte (part r 17 21)) (ap (all is_byte) parts.id ∙ h.id.1) (sym (ap (all is_byte) j3) ∙ n3)
