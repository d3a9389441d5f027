-- The facts of number 42 in their order, and what they give to those after them.
use Rattle.std.proofs.Common.{◌≡◌, ℕ, suc, ◌+◌, ◌<◌, ◌≤◌, Bool, true, false, ◌&&◌, ◌||◌, eqb, leb, ltb, List, [], ◌∷◌, length, get_or, take, drop, refl, sym, ap, ap₂, ◌∙◌, arith, eqb-true, leb-true, ltb-true}
use mathlib.Core.Bool.{and_assoc}
use Rattle.std.specs.List.{zip}
use Rattle.std.proofs.lemmas.List.Elements.{All-nil, All-cons}
use Rattle.lists.specs.Lists.{all, between}
use Rattle.lists.proofs.Tests.{and_left, and_right}
use Rattle.sequence.specs.Sequence.{sound_line}
use Rattle.book.specs.declared.Trade.{Trade}
use Rattle.book.specs.declared.Pool.{Pool}
use Rattle.book.specs.declared.Values.{Values}
use Rattle.book.specs.declared.Book.{Book}
use Rattle.book.specs.Trades.{trades_of}
use Rattle.book.specs.Records.{kind_good, kind_odd, kind_bad, trade_weight}
use Rattle.book.specs.Opening.{trades_max, records_max, eleven_digits_max, values_fine}
use Rattle.book.specs.Soundness.{kind_fine, record_fine, in_order, fields_once, is_none, pars_from, is_sound}
use Rattle.check_soundness.specs.Parts.{light_one, Light, makes_up, book_fine}

few_millions : (r : Pool) → kind_fine r ≡ true → r.millions ≤ 99
few_millions r e = go (eqb r.kind kind_good && between 1 99 r.millions) refl e
  where
    go : (b : Bool) → (eqb r.kind kind_good && between 1 99 r.millions) ≡ b → (b || ((eqb r.kind kind_odd || eqb r.kind kind_bad) && eqb r.millions 0)) ≡ true → r.millions ≤ 99
    go true f g = leb-true r.millions 99 (and_right (leb 1 r.millions) (leb r.millions 99) (and_right (eqb r.kind kind_good) (between 1 99 r.millions) f))
    go false f g = omega (arith, eqb-true r.millions 0 (and_right (eqb r.kind kind_odd || eqb r.kind kind_bad) (eqb r.millions 0) g))

module _ (v : Values) where
  pub few_trades : values_fine v ≡ true → v.lent.trade_count ≤ trades_max
  unfolding values_fine
  few_trades e = leb-true v.lent.trade_count trades_max (and_left _ _ (and_left _ _ e))

  record_light : (r : Pool) → record_fine v r ≡ true → (r.trade < v.lent.trade_count) × (r.current ≤ eleven_digits_max) × (r.millions ≤ 99)
  record_light r e =
      let kind = kind_fine r in
      let face = leb r.current eleven_digits_max in
      let past = and_right (leb 1 r.ordinal) (face && kind) (and_right (between 1 v.last_message_id r.message) (leb 1 r.ordinal && (face && kind)) (and_right (ltb r.trade v.lent.trade_count) (between 1 v.last_message_id r.message && (leb 1 r.ordinal && (face && kind))) e)) in (
        ltb-true r.trade v.lent.trade_count (and_left (ltb r.trade v.lent.trade_count) (between 1 v.last_message_id r.message && (leb 1 r.ordinal && (face && kind))) e),
        leb-true r.current eleven_digits_max (and_left face kind past),
        few_millions r (and_right face kind past),
      )

  pub light : v.lent.trade_count ≤ trades_max → (rs : List Pool) → all (record_fine v) rs ≡ true → Light rs
  light few [] e = All-nil light_one
  light few (r ∷ rs) e =
      let w = record_light r (and_left (record_fine v r) (all (record_fine v) rs) e) in
      All-cons light_one r rs (omega (arith, w.0), w.1, w.2) (light few rs (and_right (record_fine v r) (all (record_fine v) rs) e))

-- each trade with its weight is each trade with the weight of its place
pub pars_zip : (ts : List Trade) (sums : List ℕ) (rs : List Pool) (i : ℕ) → length ts ≤ length sums → ((k : ℕ) → k < length ts → get_or sums k 0 ≡ trade_weight (i + k) rs)
    → all makes_up (zip ts sums) ≡ pars_from i ts rs
pars_zip [] sums rs i l h = refl
pars_zip (t ∷ ts) [] rs i l h = absurd (omega arith)
pars_zip (t ∷ ts) (s ∷ sums) rs i l h =
    let w : s ≡ trade_weight i rs = h 0 (omega arith) ∙ ap (λ (k : ℕ). trade_weight k rs) (omega arith) in
    ap₂ (λ (a b : Bool). a && b) (ap (λ (n : ℕ). eqb (t.open_par + n) t.par) w)
    (pars_zip ts sums rs (i + 1) (omega arith) (λ (k : ℕ) a. h (suc k) (omega arith) ∙ ap (λ (j : ℕ). trade_weight j rs) (omega arith)))

-- ---- the facts of 42 in their order: those of the book, those of the live records one after another, and the others
module _ (b : Book) (t : List Pool) where
  abbrev live : List Pool
  live = take b.live t

  abbrev records : Bool
  records = all (record_fine b.values) live && in_order live

  abbrev others : Bool
  others = fields_once live && (all is_none (drop b.live t) && pars_from 0 (trades_of b.values) live)

  sound_is : is_sound b t ≡ (book_fine b (length t) && (records && others))
  unfolding is_sound
  sound_is = simp and_assoc

  pub book_fails : book_fine b (length t) ≡ false → false ≡ is_sound b t
  book_fails e = sym (sound_is ∙ ap (λ (f : Bool). f && (records && others)) e)

  module _ (h : book_fine b (length t) ≡ true) where
    pub records_fail : records ≡ false → false ≡ is_sound b t
    records_fail e = sym (sound_is ∙ ap₂ (λ (f g : Bool). f && (g && others)) h e)

    pub few : b.values.lent.trade_count ≤ trades_max
    few = few_trades b.values (and_left (values_fine b.values) (leb (length t) records_max && (sound_line b.values.connection.line && leb b.live (length t))) h)

    pub short : length t ≤ records_max
    short =
        let rest = and_right (values_fine b.values) (leb (length t) records_max && (sound_line b.values.connection.line && leb b.live (length t))) h in
        leb-true (length t) records_max (and_left (leb (length t) records_max) (sound_line b.values.connection.line && leb b.live (length t)) rest)

    pub others_decide : records ≡ true → (r : Bool) → r ≡ others → r ≡ is_sound b t
    others_decide e r o = o ∙ sym (sound_is ∙ ap₂ (λ (f g : Bool). f && (g && others)) h e)
