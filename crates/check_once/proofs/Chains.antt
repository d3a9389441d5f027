-- The records of a bucket, from the last to the first: what seen and back hold as records are taken in, and one sought among those before it.
use mathlib.Core.Path.{◌≡◌, refl, sym, ap, ◌∙◌}
use mathlib.Core.List.{List}
use mathlib.Core.Bool.{true, false}
use Prim.Native.Nat.{ℕ, ◌+◌, ◌-◌, ◌≤◌, ◌<◌}
use native.Mathlib.Omega.{arith}
use native.Mathlib.Decide.{ℕ_discrete, dec_lt}
use lib.ListN.{length, get_or, set, replicate, get_or-replicate}
use lib.Seq.{get_or-set_same, get_or-set_other}
use Rattle.lists.specs.Lists.{tab, any}
use Rattle.lists.proofs.Tests.{un_true}
use Rattle.book.specs.declared.Pool.{Pool}
use Rattle.book.specs.Records.{same_fields}
use Rattle.book.proofs.Matched.{fields_equal}
use Rattle.rows_keys.specs.Keys.{bucket_of, bucket_count}
use Rattle.check_once.specs.Seen.{fields_at, LastIn, Linked, Seen}
use Rattle.check_once.proofs.Pairs.{none_of, some_of}

module _ (spread : List ℕ) (rs : List Pool) where
  abbrev bucket_at : ℕ → ℕ
  bucket_at k = bucket_of spread (fields_at rs k)

  -- ---- records taken in
  pub seen_none : Seen spread rs (replicate bucket_count 0) 0
  seen_none b h =
      let z : get_or {A = ℕ} (replicate bucket_count 0) b 0 ≡ 0 = get_or-replicate {A = ℕ} bucket_count b 0 0 h in
      rw z (record { before = omega arith; inside = λ (j : ℕ) e. absurd (omega (arith, e)); latest = λ (k : ℕ) a e. absurd (omega arith) })

  pub linked_none : (back : List ℕ) → Linked spread rs back 0
  linked_none back m h = absurd (omega arith)

  module _ (seen back : List ℕ) (i : ℕ) (s : Seen spread rs seen i) (l : Linked spread rs back i) where
    module _ (b : ℕ) (w : b ≡ bucket_at i) (lt : b < bucket_count) where
      pub seen_last : (x : ℕ) → x ≡ get_or seen b 0 → LastIn spread rs (bucket_at i) i x
      seen_last x e = rw (e, ← w) (s b lt)

      pub linked_more : i < length back → Linked spread rs (set back i (get_or seen b 0)) (i + 1)
      linked_more h m a = go (ℕ_discrete m i)
        where
          go : Dec (m ≡ i) → LastIn spread rs (bucket_at m) m (get_or (set back i (get_or seen b 0)) m 0)
          go (yes p) = rw (p, get_or-set_same back i (get_or seen b 0) 0 h) (seen_last (get_or seen b 0) refl)
          go (no p) = rw (get_or-set_other back i m (get_or seen b 0) 0 p) (l m (omega arith))

      pub seen_more : b < length seen → (y : ℕ) → y ≡ i + 1 → Seen spread rs (set seen b y) (i + 1)
      seen_more h y f d a = rw f (go (ℕ_discrete d b))
        where
          go : Dec (d ≡ b) → LastIn spread rs d (i + 1) (get_or (set seen b (i + 1)) d 0)
          go (yes p) =
              rw (p, get_or-set_same seen b (i + 1) 0 h)
              (record { before = omega arith; inside = λ (j : ℕ) e. ap bucket_at (omega (arith, e)) ∙ sym w; latest = λ (k : ℕ) c e. c })
          go (no p) =
              let o = s d a in
              rw (get_or-set_other seen b d (i + 1) 0 p)
              (record { before = omega (arith, o.before); inside = o.inside; latest = λ (k : ℕ) c e. late k c e (ℕ_discrete k i) })
            where
              late : (k : ℕ) → k < i + 1 → bucket_at k ≡ d → Dec (k ≡ i) → k < get_or seen d 0
              late k c e (yes q) = absurd (p (sym e ∙ ap bucket_at q ∙ sym w))
              late k c e (no q) = (s d a).latest k (omega arith) e

  -- ---- a record sought: none of those from j to it has its fields, and the one before j is in its bucket
  module _ (i : ℕ) where
    pub record Sought (j : ℕ) : Type 0 where
      pub before : j ≤ i
      pub inside : (k : ℕ) → j ≡ k + 1 → bucket_at k ≡ bucket_at i
      pub other : (k : ℕ) → j ≤ k → k < i → same_fields (fields_at rs i) (fields_at rs k) ≡ false

    other_bucket : (k : ℕ) → (bucket_at k ≡ bucket_at i → ⊥) → same_fields (fields_at rs i) (fields_at rs k) ≡ false
    other_bucket k n = un_true (same_fields (fields_at rs i) (fields_at rs k)) (λ e. n (sym (ap (bucket_of spread) (fields_equal (fields_at rs i) (fields_at rs k) e))))

    pub sought_none : (x : ℕ) → LastIn spread rs (bucket_at i) i x → Sought x
    sought_none x o = record {
      before = o.before;
      inside = o.inside;
      other = λ (k : ℕ) a b. other_bucket k (λ e. absurd (omega (arith, o.latest k b e)));
    }

    module _ (j : ℕ) (s : Sought j) (h : 0 < j) where
      last_in : (back : List ℕ) → Linked spread rs back i → LastIn spread rs (bucket_at i) (j - 1) (get_or back (j - 1) 0)
      last_in back l =
          let e : bucket_at (j - 1) ≡ bucket_at i = s.inside (j - 1) (omega arith) in
          rw e at (l (j - 1) (omega (arith, s.before)))

      pub sought_more : (back : List ℕ) → Linked spread rs back i → same_fields (fields_at rs i) (fields_at rs (j - 1)) ≡ false → (x : ℕ) → x ≡ get_or back (j - 1) 0 → Sought x
      sought_more back l n x e = rw e (record { before = omega (arith, o.before, s.before); inside = o.inside; other = λ (k : ℕ) a b. go k a b (ℕ_discrete k (j - 1)) })
        where
          o : LastIn spread rs (bucket_at i) (j - 1) (get_or back (j - 1) 0)
          o = last_in back l

          earlier : (k : ℕ) → get_or back (j - 1) 0 ≤ k → k < j - 1 → same_fields (fields_at rs i) (fields_at rs k) ≡ false
          earlier k a b = other_bucket k (λ e. absurd (omega (arith, o.latest k b e)))

          split : (k : ℕ) → get_or back (j - 1) 0 ≤ k → k < i → (k ≡ j - 1 → ⊥) → Dec (k < j) → same_fields (fields_at rs i) (fields_at rs k) ≡ false
          split k a b w (yes p) = earlier k a (omega arith)
          split k a b w (no p) = s.other k (omega arith) b

          go : (k : ℕ) → get_or back (j - 1) 0 ≤ k → k < i → Dec (k ≡ j - 1) → same_fields (fields_at rs i) (fields_at rs k) ≡ false
          go k a b (yes p) = ap (λ (m : ℕ). same_fields (fields_at rs i) (fields_at rs m)) p ∙ n
          go k a b (no p) = split k a b p (dec_lt k j)

      pub sought_less : (back : List ℕ) → Linked spread rs back i → (x : ℕ) → x ≡ get_or back (j - 1) 0 → x < j
      sought_less back l x e = omega (arith, (last_in back l).before, e)

      pub sought_stop : (start : ℕ) → start < j → same_fields (fields_at rs i) (fields_at rs (j - 1)) ≡ true → true ≡ any (same_fields (fields_at rs i)) (tab (fields_at rs) (i - start) start)
      sought_stop start a e = sym (some_of (same_fields (fields_at rs i)) (fields_at rs) (i - start) start (j - 1) (omega arith) (omega (arith, s.before)) e)

    pub sought_done : (j : ℕ) → Sought j → (start : ℕ) → start ≤ i → j ≤ start → false ≡ any (same_fields (fields_at rs i)) (tab (fields_at rs) (i - start) start)
    sought_done j s start b a = sym (none_of (same_fields (fields_at rs i)) (fields_at rs) (i - start) start (λ (k : ℕ) c d. s.other k (omega arith) (omega arith)))

-- a record sought along a chain, by the numbers of the chain
pub record Going (rs : List Pool) (back : List ℕ) (i j : ℕ) : Type 0 where
  pub spread : List ℕ
  pub sought : Sought spread rs i j
  pub links : Linked spread rs back i
