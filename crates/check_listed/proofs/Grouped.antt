-- The entries of a message by its lots: those of a DK are one list, those of a CC one list a lot.
use Prim.Native.Nat.{ℕ, ◌+◌}
use mathlib.Core.Path.{◌≡◌, refl, sym, ap, ◌∙◌}
use mathlib.Core.List.{List, [], ◌∷◌, ◌++◌, map, map-append, append_assoc, append-nil}
use mathlib.Core.Bool.{Bool, true, false, cond}
use Rattle.lists.specs.Lists.{keep}
use Rattle.lists.proofs.Tests.{keep_append}
use Rattle.layout.specs.declared.Detail.{Detail}
use Rattle.terminator.specs.Terminators.{is_end, term, is_canceled}
use Rattle.terminator.specs.Lots.{Lot, pools_of, lots_from, lots, lots_formed, first_on, first_cc, formed_for}
use Rattle.check_listed.specs.Marks.{Entry, is_listed, number_after, entries_from}
use Rattle.check_listed.proofs.Numbered.{entry, numbered}
use Rattle.check_listed.proofs.Formed.{formed_on, formed_below, some_left}

module _ (place : Detail → ℕ) where
  -- the places of the entries are those of the listed pools
  pub entries_places : (cc : Bool) (k : ℕ) (ds : List Detail) → map (λ (e : Entry). e.place) (entries_from cc place k ds) ≡ map place (keep (is_listed cc) ds)
  entries_places cc k [] = refl
  entries_places cc k (d ∷ ds) = go (is_listed cc d) (entries_places cc (number_after cc k d) ds)
    where
      go : (b : Bool) → map (λ (e : Entry). e.place) (entries_from cc place (number_after cc k d) ds) ≡ map place (keep (is_listed cc) ds)
          → map (λ (e : Entry). e.place) (cond b (entry k (place d) ∷ entries_from cc place (number_after cc k d) ds)
          (entries_from cc place (number_after cc k d) ds))
          ≡ map place (cond b (d ∷ keep (is_listed cc) ds) (keep (is_listed cc) ds))
      go true h = ap (λ (l : List ℕ). place d ∷ l) h
      go false h = h

  -- a DK
  dk_from : (k : ℕ) (ds : List Detail) → entries_from false place k ds ≡ map (entry k) (map place ds)
  dk_from k [] = refl
  dk_from k (d ∷ ds) = ap (λ (l : List Entry). entry k (place d) ∷ l) (dk_from k ds)

  pub entries_dk : (ds : List Detail) → entries_from false place 1 ds ≡ numbered 1 (map place ds ∷ [])
  entries_dk ds = dk_from 1 ds ∙ sym (append-nil (map (entry 1) (map place ds)))

  -- a CC
  abbrev pub canceled_places : Lot → List ℕ
  canceled_places l = map place (keep is_canceled (pools_of l))

  abbrev own : ℕ → List Detail → List Entry
  own k ms = map (entry k) (map place (keep is_canceled ms))

  own_append : (k : ℕ) (xs ys : List Detail) → own k (xs ++ ys) ≡ own k xs ++ own k ys
  own_append k xs ys =
      ap (λ (l : List Detail). map (entry k) (map place l)) (keep_append is_canceled xs ys)
      ∙ ap (map (entry k)) (map-append place (keep is_canceled xs) (keep is_canceled ys))
      ∙ map-append (entry k) (map place (keep is_canceled xs)) (map place (keep is_canceled ys))

  first_entry : (k : ℕ) (d : Detail) (ds : List Detail)
      → entries_from true place k (d ∷ ds) ≡ own k (d ∷ []) ++ entries_from true place (number_after true k d) ds
  first_entry k d ds = go (is_canceled d)
    where
      go : (b : Bool) → cond b (entry k (place d) ∷ entries_from true place (number_after true k d) ds) (entries_from true place (number_after true k d) ds)
          ≡ map (entry k) (map place (cond b (d ∷ []) [])) ++ entries_from true place (number_after true k d) ds
      go true = refl
      go false = refl

  cc_from : (first : ℕ → Bool) (k : ℕ) (ms ds : List Detail) → (ds ≡ [] → ms ≡ []) → lots_formed first ds ≡ true
      → own k ms ++ entries_from true place k ds ≡ numbered k (map canceled_places (lots_from ms ds))
  cc_from first k ms [] w f = rw (w refl)
  cc_from first k ms (d ∷ ds) w f =
      ap (λ (l : List Entry). own k ms ++ l) (first_entry k d ds)
      ∙ sym (append_assoc (own k ms) (own k (d ∷ [])) (entries_from true place (number_after true k d) ds))
      ∙ ap (λ (l : List Entry). l ++ entries_from true place (number_after true k d) ds) (sym (own_append k ms (d ∷ [])))
      ∙ go (is_end (term d)) refl (cc_from first (k + 1) [] ds (λ p. refl) (formed_below first d ds f))
      (λ e. cc_from first k (ms ++ (d ∷ [])) ds (some_left d ds e (formed_on first d ds f) (ms ++ (d ∷ []))) (formed_below first d ds f))
    where
      go : (b : Bool) → is_end (term d) ≡ b → entries_from true place (k + 1) ds ≡ numbered (k + 1) (map canceled_places (lots_from [] ds))
          → (is_end (term d) ≡ false
          → own k (ms ++ (d ∷ [])) ++ entries_from true place k ds ≡ numbered k (map canceled_places (lots_from (ms ++ (d ∷ [])) ds)))
          → own k (ms ++ (d ∷ [])) ++ entries_from true place (cond b (k + 1) k) ds
          ≡ numbered k (map canceled_places (cond b (record { middles = ms; last = d } ∷ lots_from [] ds) (lots_from (ms ++ (d ∷ [])) ds)))
      go true e h j = ap (λ (l : List Entry). own k (ms ++ (d ∷ [])) ++ l) h
      go false e h j = j e

  pub entries_cc : (cc : Bool) (ds : List Detail) → formed_for cc ds ≡ true → entries_from true place 1 ds ≡ numbered 1 (map canceled_places (lots ds))
  unfolding formed_for lots
  entries_cc cc ds f = cc_from (cond cc first_cc first_on) 1 [] ds (λ p. refl) f
