-- Details, lots and groups: where a message's pools are formed into lots (19), all pools of a lot have the position one of its last pool, and
-- every pool belongs to a lot; so the pools of the canceled lots are the canceled pools, and likewise the new ones. Groups lose no lot and reorder none.
use Prim.Native.Nat.{ℕ, ◌+◌, ◌*◌, ◌≤◌}
use native.Mathlib.Omega.{arith}
use mathlib.Core.Path.{◌≡◌, refl, sym, ap, ◌∙◌}
use mathlib.Core.List.{List, [], ◌∷◌, ◌++◌, map, map-append, append_assoc}
use mathlib.Core.Bool.{Bool, true, false, cond, not, ◌&&◌, ◌||◌, beq, false≢true, true≢false}
use lib.Dec.{eqb, leb}
use lib.ListN.{length, length-append, length-map}
use borrow.Author.Tests.{eqb-true, leb-true, not-true}
use Rattle.lists.specs.Lists.{keep, all}
use Rattle.lists.proofs.Tests.{and_left, and_right, keep_append}
use Rattle.layout.specs.declared.Detail.{Detail}
use Rattle.layout.specs.Columns.{header_width, detail_width}
use Rattle.layout.specs.Details.{pools, length_fits, pool_count, details}
use Rattle.layout.proofs.Reader.{length_details}
use Rattle.terminator.specs.Terminators.{digit_canceled, is_end, is_wrong, is_bad, one, term, is_canceled}
use Rattle.terminator.specs.Lots.{Lot, pools_of, lots_from, lots, goes_on, lots_formed, first_on, first_cc, formed_for}
use Rattle.terminator.specs.Groups.{Group, groups_from, groups, group_formed, groups_formed, lot_canceled}
use Rattle.faces.specs.Faces.{new_lots, new_pools, is_new_lot}
use Rattle.faces.proofs.NewPools.{on_new}
use Rattle.message_type.specs.declared.MessageType.{MessageType}
use Rattle.message_type.specs.Questions.{is_cc, brings_lots, lists_lots}
use Rattle.book.specs.Dues.{Due}
use Rattle.book.specs.Records.{fields_of, pool_of, records_of}
use Rattle.book.specs.Messages.{type_of, listed_of, listed, brought}
use Rattle.book.specs.Checks.{canceled_lots}
use Rattle.book.specs.History.{fields_of_lots}
use Rattle.book.proofs.Dues.{due_lots}

-- the pools of some lots, in order
abbrev pub flat_pools : List Lot → List Detail
flat_pools [] = []
flat_pools (l ∷ ls) = pools_of l ++ flat_pools ls

-- ---- lots and their pools
module _ (p : ℕ → Bool) where
  abbrev passes : Detail → Bool
  passes d = p (one d)

  abbrev lot_passes : Lot → Bool
  lot_passes l = passes l.last

  -- whether the pools go on with a lot that is begun at a position one
  abbrev goes_into : Bool → ℕ → List Detail → Bool
  goes_into begun o [] = not begun
  goes_into begun o (d ∷ ds) = not begun || eqb o (one d)

  free : (o : ℕ) (ds : List Detail) → goes_into false o ds ≡ true
  free o [] = refl
  free o (d ∷ ds) = refl

  none_either : (b : Bool) → ◌≡◌ {A = List Detail} [] (cond b [] [])
  none_either true = refl
  none_either false = refl

  goes_into_law : (d : Detail) (ds : List Detail) → is_end (term d) ≡ false → goes_on d ds ≡ true → goes_into true (one d) ds ≡ true
  goes_into_law d [] e g = absurd (false≢true (sym e ∙ g))
  goes_into_law d (x ∷ xs) e g = and_left (eqb (one d) (one x)) (beq (is_bad (term d)) (is_bad (term x))) (rw e at g)

  -- the pools at hand pass as the next one does
  alike : (begun : Bool) (o : ℕ) (ms : List Detail) (d : Detail) → (begun ≡ false → ms ≡ []) → keep passes ms ≡ cond (p o) ms []
      → (not begun || eqb o (one d)) ≡ true → keep passes ms ≡ cond (passes d) ms []
  alike true o ms d k h w = rw (eqb-true o (one d) w) at h
  alike false o ms d k h w = rw (k refl) (none_either (passes d))

  flat_from : (first : ℕ → Bool) (begun : Bool) (o : ℕ) (ms ds : List Detail) → (begun ≡ false → ms ≡ []) → keep passes ms ≡ cond (p o) ms []
      → goes_into begun o ds ≡ true → lots_formed first ds ≡ true → flat_pools (keep lot_passes (lots_from ms ds)) ≡ keep passes (ms ++ ds)
  flat_from first begun o ms [] k h w f = rw (k (not-true begun w))
  flat_from first begun o ms (d ∷ ds) k h w f =
      rw (keep_append passes ms (d ∷ ds), alike begun o ms d k h w)
      (go (is_end (term d)) refl (passes d) refl
      (flat_from first false o [] ds (λ e. refl) (none_either (p o)) (free o ds) below)
      (λ e. flat_from first true (one d) (ms ++ (d ∷ [])) ds (λ t. absurd (true≢false t)) (begins (passes d) refl) (goes_into_law d ds e on) below))
    where
      below : lots_formed first ds ≡ true
      below = and_right ((first (one d) && not (is_wrong (term d))) && goes_on d ds) (lots_formed first ds) f

      on : goes_on d ds ≡ true
      on = and_right (first (one d) && not (is_wrong (term d))) (goes_on d ds) (and_left ((first (one d) && not (is_wrong (term d))) && goes_on d ds) (lots_formed first ds) f)

      begins : (b : Bool) → passes d ≡ b → keep passes (ms ++ (d ∷ [])) ≡ cond (passes d) (ms ++ (d ∷ [])) []
      begins b e = rw (keep_append passes ms (d ∷ []), alike begun o ms d k h w, e)
          (elim b as (λ c. cond c ms [] ++ cond c (d ∷ []) [] ≡ cond c (ms ++ (d ∷ [])) []) [ true ↦ refl | false ↦ refl ])

      go : (ends : Bool) → is_end (term d) ≡ ends → (b : Bool) → passes d ≡ b
          → flat_pools (keep lot_passes (lots_from [] ds)) ≡ keep passes ds
          → (is_end (term d) ≡ false → flat_pools (keep lot_passes (lots_from (ms ++ (d ∷ [])) ds)) ≡ keep passes ((ms ++ (d ∷ [])) ++ ds))
          → flat_pools (keep lot_passes (cond ends (record { middles = ms; last = d } ∷ lots_from [] ds) (lots_from (ms ++ (d ∷ [])) ds)))
          ≡ cond (passes d) ms [] ++ cond (passes d) (d ∷ keep passes ds) (keep passes ds)
      go true e true q shut more = rw (q, shut) (append_assoc ms (d ∷ []) (keep passes ds))
      go true e false q shut more = rw (q, shut)
      go false e b q shut more =
          more e ∙ rw (append_assoc ms (d ∷ []) ds) (rw (keep_append passes ms (d ∷ ds), alike begun o ms d k h w))

  pub flat_all : (cc : Bool) (ds : List Detail) → formed_for cc ds ≡ true → flat_pools (keep lot_passes (lots ds)) ≡ keep passes ds
  unfolding formed_for lots
  flat_all cc ds f = flat_from (cond cc first_cc first_on) false 0 [] ds (λ e. refl)
      (none_either (p 0)) (free 0 ds) f

pub flat_new : (cc : Bool) (ds : List Detail) → formed_for cc ds ≡ true → flat_pools (new_lots ds) ≡ new_pools ds
flat_new cc ds f = flat_all (λ (n : ℕ). not (eqb n digit_canceled)) cc ds f

pub flat_canceled : (cc : Bool) (ds : List Detail) → formed_for cc ds ≡ true → flat_pools (canceled_lots ds) ≡ keep is_canceled ds
flat_canceled cc ds f = flat_all (λ (n : ℕ). eqb n digit_canceled) cc ds f

pub fields_flat : (ls : List Lot) → fields_of_lots ls ≡ map fields_of (flat_pools ls)
fields_flat [] = refl
fields_flat (l ∷ ls) = rw (fields_flat ls) (sym (map-append fields_of (pools_of l) (flat_pools ls)))

-- the matched fields of the new lots, and of the canceled ones
pub lots_formed_fields : (cc : Bool) (ds : List Detail) → formed_for cc ds ≡ true → fields_of_lots (new_lots ds) ≡ map fields_of (new_pools ds)
lots_formed_fields cc ds f = fields_flat (new_lots ds) ∙ ap (map fields_of) (flat_new cc ds f)

pub canceled_fields : (cc : Bool) (ds : List Detail) → formed_for cc ds ≡ true → fields_of_lots (canceled_lots ds) ≡ map fields_of (keep is_canceled ds)
canceled_fields cc ds f = fields_flat (canceled_lots ds) ∙ ap (map fields_of) (flat_canceled cc ds f)

-- new lots have as many records as pools
length_records : (id o : ℕ) (us : List Due) → length (records_of id o us) ≡ length (flat_pools (due_lots us))
length_records id o [] = refl
length_records id o (u ∷ us) =
    length-append (map (pool_of id o u.to u.lot) (pools_of u.lot)) (records_of id (o + 1) us)
    ∙ rw (length-map (pools_of u.lot) (pool_of id o u.to u.lot), length_records id (o + 1) us) (sym (length-append (pools_of u.lot) (flat_pools (due_lots us))))

pub records_new : (id o : ℕ) (us : List Due) (cc : Bool) (ds : List Detail) → due_lots us ≡ new_lots ds → formed_for cc ds ≡ true → length (records_of id o us) ≡ length (new_pools ds)
records_new id o us cc ds e f = length_records id o us ∙ ap (λ (ls : List Lot). length (flat_pools ls)) e ∙ ap length (flat_new cc ds f)

-- ---- the pools that a body lists and the lots that it brings
pub listed_as : (body : List ℕ) (k : MessageType) → type_of body ≡ k → listed body ≡ map fields_of (listed_of k (details body))
unfolding listed
listed_as body k e = ap (λ (x : MessageType). map fields_of (listed_of x (details body))) e

pub listed_none : (body : List ℕ) → lists_lots (type_of body) ≡ false → listed body ≡ []
unfolding listed
listed_none body e = rw e

pub brought_new : (body : List ℕ) → brings_lots (type_of body) ≡ true → brought body ≡ new_lots (details body)
unfolding brought
brought_new body e = rw e

pub brought_none : (body : List ℕ) → brings_lots (type_of body) ≡ false → brought body ≡ []
unfolding brought
brought_none body e = rw e

-- ---- groups
-- the canceled and the replacement lots of some groups, in order
abbrev pub canceled_of : List Group → List Lot
canceled_of [] = []
canceled_of (g ∷ gs) = g.canceled ++ canceled_of gs

abbrev pub replacement_of : List Group → List Lot
replacement_of [] = []
replacement_of (g ∷ gs) = g.replacement ++ replacement_of gs

canceled_from : (os ns ls : List Lot) → canceled_of (groups_from os ns ls) ≡ os ++ keep lot_canceled ls
canceled_from os ns [] = refl
canceled_from os [] (l ∷ ls) =
    elim (lot_canceled l) as (λ b. canceled_of (cond b (groups_from (os ++ (l ∷ [])) [] ls) (groups_from os (l ∷ []) ls)) ≡ os ++ cond b (l ∷ keep lot_canceled ls) (keep lot_canceled ls))
    [ true ↦ canceled_from (os ++ (l ∷ [])) [] ls ∙ append_assoc os (l ∷ []) (keep lot_canceled ls) | false ↦ canceled_from os (l ∷ []) ls ]
canceled_from os (n ∷ ns) (l ∷ ls) =
    elim (lot_canceled l) as (λ b. canceled_of (cond b (record { canceled = os; replacement = n ∷ ns } ∷ groups_from (l ∷ []) [] ls) (groups_from os ((n ∷ ns) ++ (l ∷ [])) ls))
    ≡ os ++ cond b (l ∷ keep lot_canceled ls) (keep lot_canceled ls))
    [ true ↦ ap (λ (xs : List Lot). os ++ xs) (canceled_from (l ∷ []) [] ls) | false ↦ canceled_from os ((n ∷ ns) ++ (l ∷ [])) ls ]

replacement_from : (os ns ls : List Lot) → replacement_of (groups_from os ns ls) ≡ ns ++ keep is_new_lot ls
replacement_from os ns [] = refl
replacement_from os [] (l ∷ ls) =
    elim (lot_canceled l) as (λ b. replacement_of (cond b (groups_from (os ++ (l ∷ [])) [] ls) (groups_from os (l ∷ []) ls)) ≡ cond (not b) (l ∷ keep is_new_lot ls) (keep is_new_lot ls))
    [ true ↦ replacement_from (os ++ (l ∷ [])) [] ls | false ↦ replacement_from os (l ∷ []) ls ]
replacement_from os (n ∷ ns) (l ∷ ls) =
    elim (lot_canceled l) as (λ b. replacement_of (cond b (record { canceled = os; replacement = n ∷ ns } ∷ groups_from (l ∷ []) [] ls) (groups_from os ((n ∷ ns) ++ (l ∷ [])) ls))
    ≡ (n ∷ ns) ++ cond (not b) (l ∷ keep is_new_lot ls) (keep is_new_lot ls)) [
      | true ↦ ap (λ (xs : List Lot). (n ∷ ns) ++ xs) (replacement_from (l ∷ []) [] ls)
      | false ↦ replacement_from os ((n ∷ ns) ++ (l ∷ [])) ls ∙ append_assoc (n ∷ ns) (l ∷ []) (keep is_new_lot ls)
    ]

pub groups_canceled : (ds : List Detail) → canceled_of (groups ds) ≡ canceled_lots ds
unfolding groups
groups_canceled ds = canceled_from [] [] (lots ds)

pub groups_new : (ds : List Detail) → replacement_of (groups ds) ≡ new_lots ds
unfolding groups
groups_new ds = replacement_from [] [] (lots ds)

-- ---- an ON or a CC brings some lot: 10 gives an ON a pool and 19 puts it into a lot, and a CC has a group (20) with a replacement
abbrev pub Some : List Lot → Type 0
Some ls = (l : Lot) × ((xs : List Lot) × (ls ≡ l ∷ xs))

pub some_lot : (ls : List Lot) → 1 ≤ length ls → Some ls
some_lot [] h = absurd (omega arith)
some_lot (l ∷ ls) h = (l, (ls, refl))

some_pools : (ls : List Lot) (d : Detail) (ds : List Detail) → flat_pools ls ≡ d ∷ ds → Some ls
some_pools [] d ds e = absurd (omega (arith, ap length e))
some_pools (l ∷ ls) d ds e = (l, (ls, refl))

some_details : (ds : List Detail) → 1 ≤ length ds → formed_for false ds ≡ true → Some (new_lots ds)
some_details [] h f = absurd (omega arith)
some_details (d ∷ ds) h f = some_pools (new_lots (d ∷ ds)) d ds (flat_new false (d ∷ ds) f ∙ on_new (d ∷ ds) f)

some_append : (ls ms : List Lot) → 1 ≤ length ls → Some (ls ++ ms)
some_append [] ms h = absurd (omega arith)
some_append (l ∷ ls) ms h = (l, (ls ++ ms, refl))

some_group : (gs : List Group) → 1 ≤ length gs → all group_formed gs ≡ true → Some (replacement_of gs)
some_group [] h f = absurd (omega arith)
some_group (g ∷ gs) h f =
    some_append g.replacement (replacement_of gs)
    (leb-true 1 (length g.replacement)
    (and_right (leb 1 (length g.canceled)) (leb 1 (length g.replacement)) (and_left (leb 1 (length g.canceled) && leb 1 (length g.replacement)) _ (and_left (group_formed g) (all group_formed gs) f))))

group_there : (os ns ls : List Lot) → 1 ≤ length (groups_from os ns ls)
group_there os ns [] = omega arith
group_there os [] (l ∷ ls) =
    elim (lot_canceled l) as (λ b. 1 ≤ length (cond b (groups_from (os ++ (l ∷ [])) [] ls) (groups_from os (l ∷ []) ls)))
    [ true ↦ group_there (os ++ (l ∷ [])) [] ls | false ↦ group_there os (l ∷ []) ls ]
group_there os (n ∷ ns) (l ∷ ls) =
    elim (lot_canceled l) as (λ b. 1 ≤ length (cond b (record { canceled = os; replacement = n ∷ ns } ∷ groups_from (l ∷ []) [] ls) (groups_from os ((n ∷ ns) ++ (l ∷ [])) ls)))
    [ true ↦ omega arith | false ↦ group_there os ((n ∷ ns) ++ (l ∷ [])) ls ]

pub brings_some : (body : List ℕ) → length_fits body ≡ true → (brings_lots (type_of body) ≡ true → formed_for (is_cc (type_of body)) (details body) ≡ true)
    → (is_cc (type_of body) ≡ true → groups_formed (details body) ≡ true) → brings_lots (type_of body) ≡ true → 1 ≤ length (brought body)
unfolding groups_formed groups length_fits pool_count
brings_some body le fo gr b = let (l, (ls, e)) = go (is_cc (type_of body)) refl in rw (brought_new body b, e) (omega arith)
  where
    go : (c : Bool) → is_cc (type_of body) ≡ c → Some (new_lots (details body))
    go true e = rw (groups_new (details body)) at (some_group (groups (details body)) (group_there [] [] (lots (details body))) (gr e))
    go false e =
        some_details (details body)
        (rw (length_details body, le) (leb-true 1 (pools body) (and_left (leb 1 (pools body)) _ (and_right (eqb (length body) (header_width + pools body * detail_width)) _ le))))
        (rw e at (fo b))
