-- The loop over the pools: the table with the records still to come pasted in is the answer; a canceled lot brings none, a new one its own before the others.
use mathlib.Core.Path.{◌≡◌, refl, sym, ap, ◌∙◌}
use mathlib.Core.List.{List, [], ◌∷◌, ◌++◌, map}
use mathlib.Core.Bool.{Bool, true, false}
use Prim.Native.Nat.{ℕ, suc, ◌+◌, ◌-◌, ◌≤◌, ◌<◌}
use native.Mathlib.Nat.{add-zero}
use native.Mathlib.Omega.{arith}
use lib.ListN.{length, take, drop, length-append, length-drop, take-append-drop}
use lib.Seq.{length-take-le, drop-drop}
use lib.Dec.{eqb}
use borrow.Author.Tests.{eq-eqb, ne_eqb}
use borrow.Rule.Slice.PartMut.{put_mid, mid_of, post_of}
use Rattle.lists.specs.Lists.{tab, keep, within, pasted}
use Rattle.lists.proofs.Parts.{in_within}
use Rattle.lists.proofs.Tables.{map_tab, tab_turn, tab_end}
use Rattle.lists.proofs.Pasting.{paste_in, paste_out, paste_more}
use Rattle.layout.specs.declared.Detail.{Detail}
use Rattle.layout.specs.Details.{details, pool_count}
use Rattle.layout.proofs.Passes as passes
use Rattle.layout.proofs.Reader.{details_left}
use Rattle.terminator.specs.declared.Terminator.{Terminator}
use Rattle.terminator.specs.Terminators.{digit_canceled, is_end, one, term}
use Rattle.terminator.specs.Lots.{Lot, pools_of, lots_from, lots}
use Rattle.faces.specs.Faces.{is_new_lot, new_lots}
use Rattle.book.specs.declared.Pool.{Pool}
use Rattle.book.specs.Dues.{due}
use Rattle.book.specs.Records.{pool_of, records_of}
use Rattle.rows_bring.specs.declared.Common.{Common}
use Rattle.rows_bring.specs.Staged.{terminator_number, number_one, number_term}
use Rattle.rows_bring.specs.Stored.{common_of, record_from, records_from}
use Rattle.rows_bring.proofs.Numbers.{number_one_law, number_term_law}
use Rattle.rows_bring.proofs.Pools.{tab_last, length_records}

paste_nil : {A : Type 0} (t : List A) (at : ℕ) → pasted t at [] ≡ t
paste_nil t at = go (within t at 0) refl
  where
    go : (b : Bool) → within t at 0 ≡ b → pasted t at [] ≡ t
    go true e = paste_in t at [] e ∙ rw (add-zero at) (take-append-drop at t)
    go false e = sym (paste_out t at [] e)

-- a list written over a part of another is pasted there
written : {A : Type 0} (t xs : List A) (at e : ℕ) → at + length xs ≡ e → e ≤ length t → take at t ++ (xs ++ drop e t) ≡ pasted t at xs
written {A} t xs at e q h =
    let w : within t at (length xs) ≡ true = in_within t at (length xs) (omega arith) (omega arith) in
    ap (λ (k : ℕ). take at t ++ (xs ++ drop k t)) (sym q) ∙ sym (paste_in t at xs w)

-- the middles that are passed of the lot whose first pool is given
abbrev middles : List ℕ → ℕ → ℕ → List Detail
middles body first i = tab (passes.pool_of body) (i - first) first

-- the records of the new ones among some lots
abbrev new_records : ℕ → ℕ → ℕ → List Lot → List Pool
new_records message trade ordinal ls = records_of message ordinal (map (due trade) (keep is_new_lot ls))

-- those of the lots that are left, from the one at hand on
abbrev left : ℕ → ℕ → List ℕ → ℕ → ℕ → ℕ → List Pool
left message trade body first i ordinal = new_records message trade ordinal (lots_from (middles body first i) (drop i (details body)))

-- all that are to be stored
abbrev whole : ℕ → ℕ → List ℕ → List Pool
whole message trade body = records_of message 1 (map (due trade) (new_lots (details body)))

-- before the i-th pool, in the lot that begins at first
pub record Storing (message trade at : ℕ) (body : List ℕ) (t₀ t : List Pool) (place ordinal first i : ℕ) : Type 0 where
  pub begun : first ≤ i
  pub few : ordinal ≤ first + 1
  pub table : pasted t place (left message trade body first i ordinal) ≡ pasted t₀ at (whole message trade body)
  pub end : place + length (left message trade body first i ordinal) ≡ at + length (whole message trade body)

pub storing_none : (message trade at : ℕ) (body : List ℕ) (t₀ : List Pool) → Storing message trade at body t₀ t₀ at 1 0 0
unfolding lots
storing_none message trade at body t₀ = record { begun = omega arith; few = omega arith; table = refl; end = refl }

module _ {message trade at : ℕ} {body : List ℕ} {t₀ t : List Pool} {place ordinal first i : ℕ}
    (inv : Storing message trade at body t₀ t place ordinal first i) where
  -- after the last pool
  module _ (h : pool_count body ≤ i) where
    ended : left message trade body first i ordinal ≡ []
    ended =
        ap (λ (ds : List Detail). new_records message trade ordinal (lots_from (middles body first i) ds))
        (details_left body i ∙ tab_end (passes.pool_of body) (pool_count body) i h)

    pub place_after_law : place ≡ at + length (whole message trade body)
    place_after_law = sym (add-zero place) ∙ ap (λ (l : List Pool). place + length l) (sym ended) ∙ inv.end

    pub table_after_law : t ≡ pasted t₀ at (whole message trade body)
    table_after_law = sym (paste_nil t place) ∙ ap (pasted t place) (sym ended) ∙ inv.table

  -- the staged terminator is that of the pool
  module _ (h : i < pool_count body) {number : ℕ} (en : number ≡ terminator_number (passes.pool_of body i)) {x : Terminator} (ex : x ≡ number_term number) where
    same_one : number_one number ≡ one (passes.pool_of body i)
    same_one = ap number_one en ∙ number_one_law (passes.pool_of body i)

    same_term : x ≡ term (passes.pool_of body i)
    same_term = ex ∙ ap number_term en ∙ number_term_law (passes.pool_of body i)

    -- its pools from the first up to this one
    upto : middles body first i ++ (passes.pool_of body i ∷ []) ≡ middles body first (i + 1)
    upto =
        let e : first + (i - first) ≡ i = omega (arith, inv.begun) in
        let k : suc (i - first) ≡ i + 1 - first = omega (arith, inv.begun) in
        ap (λ (j : ℕ). middles body first i ++ (passes.pool_of body j ∷ [])) (sym e)
        ∙ tab_last (passes.pool_of body) (i - first) first ∙ ap (λ (j : ℕ). tab (passes.pool_of body) j first) k

    turn : lots_from (middles body first i) (drop i (details body))
        ≡ lots_from (middles body first i) (passes.pool_of body i ∷ drop (i + 1) (details body))
    turn =
        ap (lots_from (middles body first i))
        (details_left body i ∙ tab_turn (passes.pool_of body) (pool_count body) i h
        ∙ ap (λ (ds : List Detail). passes.pool_of body i ∷ ds) (sym (details_left body (i + 1))))

    -- a pool that ends no lot
    pub storing_on : is_end x ≡ false → Storing message trade at body t₀ t place ordinal first (i + 1)
    storing_on e =
        let f : is_end (term (passes.pool_of body i)) ≡ false = ap is_end (sym same_term) ∙ e in
        let k : lots_from (middles body first i) (drop i (details body)) ≡ lots_from (middles body first (i + 1)) (drop (i + 1) (details body)) =
        turn ∙ rw f (ap (λ (ms : List Detail). lots_from ms (drop (i + 1) (details body))) upto) in
        let q : left message trade body first i ordinal ≡ left message trade body first (i + 1) ordinal = ap (new_records message trade ordinal) k in
        record {
          begun = omega (arith, inv.begun);
          few = inv.few;
          table = ap (pasted t place) (sym q) ∙ inv.table;
          end = ap (λ (l : List Pool). place + length l) (sym q) ∙ inv.end;
        }

    module _ (e : is_end x ≡ true) where
      abbrev lot : Lot
      lot = record { middles = middles body first i; last = passes.pool_of body i }

      closed : lots_from (middles body first i) (drop i (details body)) ≡ lot ∷ lots_from (middles body (i + 1) (i + 1)) (drop (i + 1) (details body))
      closed =
          let f : is_end (term (passes.pool_of body i)) ≡ true = ap is_end (sym same_term) ∙ e in
          let z : i + 1 - (i + 1) ≡ 0 = omega arith in
          turn ∙ rw (f, z)

      pub storing_canceled : number_one number ≡ digit_canceled → Storing message trade at body t₀ t place ordinal (i + 1) (i + 1)
      storing_canceled d =
          let c : eqb (one (passes.pool_of body i)) digit_canceled ≡ true = eq-eqb (one (passes.pool_of body i)) digit_canceled (sym same_one ∙ d) in
          let q : left message trade body first i ordinal ≡ left message trade body (i + 1) (i + 1) ordinal =
          ap (new_records message trade ordinal) closed ∙ rw c in
          record {
            begun = omega arith;
            few = omega (arith, inv.few, inv.begun);
            table = ap (pasted t place) (sym q) ∙ inv.table;
            end = ap (λ (l : List Pool). place + length l) (sym q) ∙ inv.end;
          }

      module _ (d : number_one number ≡ digit_canceled → ⊥) {s : Common} (es : s ≡ common_of x message ordinal trade) where
        -- the records of the lot
        abbrev own : List Pool
        own = records_from body s first (i + 1 - first)

        own_law : map (pool_of message ordinal trade lot) (pools_of lot) ≡ own
        unfolding records_from
        own_law =
            let k : s ≡ common_of (term (passes.pool_of body i)) message ordinal trade =
            es ∙ ap (λ (y : Terminator). common_of y message ordinal trade) same_term in
            ap (map (pool_of message ordinal trade lot)) upto
            ∙ map_tab (pool_of message ordinal trade lot) (passes.pool_of body) (i + 1 - first) first
            ∙ ap (λ (y : Common). tab (record_from body y) (i + 1 - first) first) (sym k)

        brought : left message trade body first i ordinal ≡ own ++ left message trade body (i + 1) (i + 1) (ordinal + 1)
        brought =
            let c : eqb (one (passes.pool_of body i)) digit_canceled ≡ false =
            ne_eqb (one (passes.pool_of body i)) digit_canceled (λ f. d (same_one ∙ f)) in
            ap (new_records message trade ordinal) closed
            ∙ rw c (ap (λ (l : List Pool). l ++ left message trade body (i + 1) (i + 1) (ordinal + 1)) own_law)

        length_own : length own ≡ i + 1 - first
        length_own = length_records body s first (i + 1 - first)

        counted : place + (i + 1 - first) + length (left message trade body (i + 1) (i + 1) (ordinal + 1)) ≡ at + length (whole message trade body)
        counted = omega (arith, sym inv.end, ap length brought, length-append own (left message trade body (i + 1) (i + 1) (ordinal + 1)), length_own)

        pub room : place + (i + 1 - first) ≤ at + length (whole message trade body)
        room = omega (arith, counted)

        -- written over the part of the table that begins at place
        pub storing_new : {u ys : List Pool} {k : ℕ} → k ≡ i + 1 - first → ys ≡ records_from body s first (length (mid_of place k t))
            → u ≡ put_mid place k t ys → at + length (whole message trade body) ≤ length t
            → Storing message trade at body t₀ u (place + (i + 1 - first)) (ordinal + 1) (i + 1) (i + 1)
        storing_new {u} {ys} {k} ek ey eu l =
            let r : i + 1 - first ≤ length (drop place t) = omega (arith, length-drop place t, room, l) in
            let m : length (mid_of place k t) ≡ i + 1 - first =
            ap (λ (j : ℕ). length (take j (drop place t))) ek ∙ length-take-le (i + 1 - first) (drop place t) r in
            let f : place + length own ≡ place + (i + 1 - first) = omega (arith, length_own) in
            let g : post_of place k t ≡ drop (place + (i + 1 - first)) t = ap (λ (j : ℕ). drop j (drop place t)) ek ∙ drop-drop (i + 1 - first) place t in
            let w : u ≡ pasted t place own =
            eu ∙ ap (put_mid place k t) (ey ∙ ap (records_from body s first) m) ∙ ap (λ (zs : List Pool). take place t ++ (own ++ zs)) g
            ∙ written t own place (place + (i + 1 - first)) f (omega (arith, room, l)) in
            record {
              begun = omega arith;
              few = omega (arith, inv.few, inv.begun);
              table =
                  ap (λ (y : List Pool). pasted y (place + (i + 1 - first)) (left message trade body (i + 1) (i + 1) (ordinal + 1))) w
                  ∙ paste_more t place own (left message trade body (i + 1) (i + 1) (ordinal + 1)) (place + (i + 1 - first)) f (omega (arith, counted, l))
                  ∙ ap (pasted t place) (sym brought) ∙ inv.table;
              end = counted;
            }
