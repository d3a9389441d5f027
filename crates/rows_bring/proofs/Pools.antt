-- The pools of one lot: their records written one after another, with the faces that are staged.
use mathlib.Core.Path.{◌≡◌, ap, ◌∙◌}
use mathlib.Core.List.{List, [], ◌∷◌, ◌++◌, map}
use Prim.Native.Nat.{ℕ, zero, suc, ◌+◌, ◌<◌}
use native.Mathlib.Nat.{zero-add}
use native.Mathlib.Numerals.{add-one}
use native.Mathlib.Omega.{arith}
use lib.ListN.{length, get_or, take, set, get_or-append, length-map}
use lib.Seq.{take-suc-set}
use Rattle.std.proofs.lemmas.List.{get_or-map}
use Rattle.lists.specs.Lists.{tab}
use Rattle.lists.proofs.Tables.{length_tab, get_d_tab}
use Rattle.layout.specs.declared.Detail.{Detail}
use Rattle.layout.specs.Details.{details, pool_count, detail_at, place_of}
use Rattle.layout.proofs.Passes as passes
use Rattle.layout.proofs.Reader.{length_details}
use Rattle.terminator.specs.Lots.{current_cents}
use Rattle.book.specs.declared.Pool.{Pool}
use Rattle.rows_bring.specs.declared.Common.{Common}
use Rattle.rows_bring.specs.declared.Staged.{Staged}
use Rattle.rows_bring.specs.Staged.{terminator_number, padded, staged, AreStaged}
use Rattle.rows_bring.specs.Stored.{record_with, record_from, records_from}

-- ---- the numbers staged
module _ (f : Detail → ℕ) (body : List ℕ) where
  padded_at : AreStaged f body (padded (map f (details body)))
  unfolding details
  padded_at i h =
      let l : i < length (details body) = rw (length_details body) h in
      let m : i < length (map f (details body)) = rw (length-map (details body) f) l in
      get_or-append (map f (details body)) _ 0 i m
      ∙ get_or-map f (details body) i (passes.pool_of body 0) 0 l
      ∙ ap f (get_d_tab (passes.pool_of body) (pool_count body) 0 i (passes.pool_of body 0) h ∙ ap (passes.pool_of body) (zero-add i))

module _ (body : List ℕ) (r : Staged) (e : r ≡ staged (details body)) where
  pub staged_faces : AreStaged current_cents body r.faces
  unfolding staged
  staged_faces i h = ap (λ (x : Staged). get_or x.faces i 0) e ∙ padded_at current_cents body i h

  pub staged_terminators : AreStaged terminator_number body r.terminators
  unfolding staged
  staged_terminators i h = ap (λ (x : Staged). get_or x.terminators i 0) e ∙ padded_at terminator_number body i h

-- one more at the end of a table
pub tab_last : {A : Type 0} (f : ℕ → A) (k i : ℕ) → tab f k i ++ (f (i + k) ∷ []) ≡ tab f (suc k) i
tab_last f zero i =
    let e : i + 0 ≡ i = omega arith in
    rw e
tab_last {A} f (suc k) i =
    let e : i + 1 + k ≡ i + suc k = omega arith in
    let t = tab_last f k (i + 1) in
    ap (λ (l : List A). f i ∷ l) (rw e at t)

-- ---- the loop: the records written so far
module _ (body : List ℕ) (s : Common) (first : ℕ) where
  pub length_records : (n : ℕ) → length (records_from body s first n) ≡ n
  unfolding records_from
  length_records n = length_tab (record_from body s) n first

  pub written_more : (t : List Pool) (k : ℕ) → take k t ≡ records_from body s first k → k < length t
      → (c : ℕ) → c ≡ current_cents (detail_at body (place_of (first + k)))
      → (p : Pool) → p ≡ record_with s (detail_at body (place_of (first + k))) c → take (k + 1) (set t k p) ≡ records_from body s first (k + 1)
  unfolding records_from
  written_more t k inv h c ec p ep =
      let q : p ≡ record_from body s (first + k) = rw ec at ep in
      rw add-one
      (take-suc-set t k p h ∙ ap (λ (l : List Pool). l ++ (p ∷ [])) inv
      ∙ ap (λ (x : Pool). tab (record_from body s) k first ++ (x ∷ [])) q ∙ tab_last (record_from body s) k first)
