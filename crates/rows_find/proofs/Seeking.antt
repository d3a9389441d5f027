-- The search for the records of the listed pools: what is filled when it has passed over all pools, and what a pool without a record says.
use mathlib.Core.Path.{◌≡◌, refl, sym, ap, ◌∙◌}
use mathlib.Core.List.{List, [], ◌∷◌}
use mathlib.Core.Bool.{Bool, true, false, cond, ◌&&◌, ◌||◌}
use Prim.Native.Nat.{ℕ, ◌+◌, ◌-◌, ◌≤◌, ◌<◌}
use native.Mathlib.Decide.{dec_lt, ℕ_discrete}
use native.Mathlib.Omega.{arith}
use lib.ListN.{length, get_or, take, drop, set, replicate}
use Rattle.std.specs.Prelude.{Option, Some, None, is_some}
use Rattle.std.proofs.lemmas.List.{get_or_default}
use Rattle.lists.specs.Lists.{part, tab, keep, any, all}
use Rattle.lists.proofs.Tables.{table_of_law, take_tab, drop_tab}
use Rattle.lists.proofs.Tests.{clash, keep_all, keep_none}
use Rattle.layout.specs.declared.Detail.{Detail}
use Rattle.layout.specs.Details.{pools_max, pool_count, details}
use Rattle.layout.proofs.Passes.{pool_of}
use Rattle.terminator.specs.Terminators.{is_canceled}
use Rattle.message_type.specs.declared.MessageType.{MessageType}
use Rattle.book.specs.declared.Pool.{Pool}
use Rattle.book.specs.Records.{Fields, fields_of, live_fields, same_fields, no_pool}
use Rattle.book.specs.Messages.{type_of, target_of, under, listed_of, listed}
use Rattle.book.specs.Soundness.{in_order}
use Rattle.message_type.specs.Questions.{lists_lots, lists_all}
use Rattle.book.proofs.ByRecord.{all_live}
use Rattle.book.proofs.ListLaws.{all_of_map}
use Rattle.rows_find.specs.declared.Run.{Run}
use Rattle.rows_find.specs.Runs.{run_of}
use Rattle.rows_find.specs.Finding.{lists, run_records, stands_in, Finds}
use Rattle.rows_find.proofs.Ascending.{run_keep}
use Rattle.rows_find.proofs.Cells.{Filled, filled_none, filled_more, any_tab_in, any_tab_out, all_kept_in, all_kept_out}

-- ---- what a message lists
lists_keep : (t : MessageType) (ds : List Detail) → listed_of t ds ≡ keep (lists t) ds
lists_keep t ds = go (lists_lots t) (lists_all t)
  where
    go : (some every : Bool) → cond some (cond every ds (keep is_canceled ds)) [] ≡ keep (λ (d : Detail). some && (every || is_canceled d)) ds
    go false every = sym (keep_none (λ (d : Detail). false) ds (λ (d : Detail) m. refl))
    go true false = refl
    go true true = sym (keep_all (λ (d : Detail). true) ds (λ (d : Detail) m. refl))

-- a test of all that a message lists, over the pools by their index
pub all_listed : (p : Fields → Bool) (body : List ℕ)
    → all p (listed body) ≡ all (λ (d : Detail). p (fields_of d)) (keep (lists (type_of body)) (tab (pool_of body) (pool_count body) 0))
unfolding listed details
all_listed p body =
    all_of_map p fields_of (listed_of (type_of body) (tab (pool_of body) (pool_count body) 0))
    ∙ ap (all (λ (d : Detail). p (fields_of d))) (lists_keep (type_of body) (tab (pool_of body) (pool_count body) 0))

-- ---- records that do not have some fields
-- a record by its place
abbrev pub record_at : List Pool → ℕ → Pool
record_at ps k = get_or ps k no_pool

-- whether the k-th record has them
abbrev pub has_at : List Pool → Fields → ℕ → Bool
has_at ps f k = same_fields (live_fields (record_at ps k)) f

abbrev pub Without : List Pool → Fields → ℕ → ℕ → Type 0
Without ps f a b = (k : ℕ) → a ≤ k → k < b → has_at ps f k ≡ false

module _ (ps : List Pool) (f : Fields) where
  pub without_none : (a : ℕ) → Without ps f a a
  without_none a k h l = absurd (omega (arith, h, l))

  pub without_more : (a b : ℕ) → Without ps f a b → has_at ps f b ≡ false → Without ps f a (b + 1)
  without_more a b w e k h l = go (ℕ_discrete k b)
    where
      go : Dec (k ≡ b) → has_at ps f k ≡ false
      go (yes p) = ap (has_at ps f) p ∙ e
      go (no p) = w k h (omega (arith, l, p))

  without_both : (a b c : ℕ) → Without ps f a b → Without ps f b c → Without ps f a c
  without_both a b c v w k h l = go (dec_lt k b)
    where
      go : Dec (k < b) → has_at ps f k ≡ false
      go (yes p) = v k h p
      go (no p) = w k (omega (arith, p)) l

-- ---- a walk over a run from a record on, and again from its start
module _ (ps : List Pool) (f : Fields) (start stop next : ℕ) where
  -- the walk stands at j and ends at end: no record that it has passed has the fields
  abbrev pub Round : Bool → ℕ → ℕ → Type 0
  Round false end j = (end ≡ stop) × (next ≤ j) × Without ps f next j
  Round true end j = (end ≡ next) × Without ps f next stop × Without ps f start j

  pub round_none : Round false stop next
  round_none = (refl, omega arith, without_none ps f next)

  pub round_more : (again : Bool) (end j : ℕ) → Round again end j → has_at ps f j ≡ false → Round again end (j + 1)
  round_more false end j r e = (r.0, omega (arith, r.1), without_more ps f next j r.2 e)
  round_more true end j r e = (r.0, r.1, without_more ps f start j r.2 e)

  pub round_again : (again : Bool) (end j : ℕ) → again ≡ false → Round again end j → end ≤ j → Round true next start
  round_again false end j b r h = (refl, λ k g l. r.2 k g (omega (arith, l, r.0, h)), without_none ps f start)
  round_again true end j b r h = clash refl b

  pub round_done : (again : Bool) (end j : ℕ) → again ≡ true → Round again end j → end ≤ j → Without ps f start stop
  round_done false end j b r h = clash b refl
  round_done true end j b r h = without_both ps f start next stop (λ k g l. r.2 k g (omega (arith, l, r.0, h))) r.1

-- the records of a run by their places
part_tab : (ps : List Pool) (a b : ℕ) → a ≤ b → b ≤ length ps → part ps a (b - a) ≡ tab (record_at ps) (b - a) a
unfolding part
part_tab ps a b h l =
    let e : 0 + a ≡ a = omega arith in
    ap (λ (xs : List Pool). take (b - a) (drop a xs)) (table_of_law no_pool ps (length ps) refl)
    ∙ ap (take (b - a)) (drop_tab (record_at ps) a (length ps) 0 ∙ ap (λ (k : ℕ). tab (record_at ps) (length ps - a) k) e)
    ∙ take_tab (record_at ps) (b - a) (length ps - a) a (omega (arith, h, l))

-- ---- the search over the pools of a body
-- the cells of the first d pools are filled
abbrev pub Sought : List ℕ → List Pool → Run → List ℕ → ℕ → Type 0
Sought body ps run at d =
    Filled (λ (e : ℕ). lists (type_of body) (pool_of body e)) (λ (e : ℕ). has_at ps (fields_of (pool_of body e))) run.start run.stop at d

module _ (body : List ℕ) (ps : List Pool) (run : Run) where
  pub sought_none : Sought body ps run (replicate pools_max 0) 0
  sought_none = filled_none (λ (e : ℕ). lists (type_of body) (pool_of body e)) (λ (e : ℕ). has_at ps (fields_of (pool_of body e))) run.start run.stop pools_max

  module _ (h : run.start ≤ run.stop) (l : run.stop ≤ length ps) where
    stands_law : (f : Fields)
        → stands_in (run_records ps run) f ≡ any (λ (r : Pool). same_fields (live_fields r) f) (tab (record_at ps) (run.stop - run.start) run.start)
    stands_law f = ap (any (λ (r : Pool). same_fields (live_fields r) f)) (part_tab ps run.start run.stop h l)

    stands : (f : Fields) (k : ℕ) → run.start ≤ k → k < run.stop → has_at ps f k ≡ true → stands_in (run_records ps run) f ≡ true
    stands f k a b t =
        stands_law f ∙ any_tab_in (λ (r : Pool). same_fields (live_fields r) f) (record_at ps) (run.stop - run.start) run.start k a (omega (arith, a, b)) t

    stands_not : (f : Fields) → Without ps f run.start run.stop → stands_in (run_records ps run) f ≡ false
    stands_not f w =
        stands_law f ∙ any_tab_out (λ (r : Pool). same_fields (live_fields r) f) (record_at ps) (run.stop - run.start) run.start
        (λ (k : ℕ) a b. w k a (omega (arith, b, h)))

    -- every pool is passed
    pub finds_all : (at : List ℕ) (d : ℕ) → Sought body ps run at d → d ≡ pool_count body → Finds body ps run (Some at)
    finds_all at d inv q =
        record {
          found = sym (all_listed (stands_in (run_records ps run)) body
              ∙ all_kept_in (λ (x : Detail). stands_in (run_records ps run) (fields_of x)) (pool_of body) (lists (type_of body)) (pool_count body) 0
              (λ (e : ℕ) a b o. let w = inv.rows e (omega (arith, q, b)) o in stands (fields_of (pool_of body e)) (get_or at e 0) w.0 w.1 w.2));
          placed =
              record {
                places = λ e k o. inv.rows e (omega (arith, q, k)) o;
                others = λ e k o. inv.others e (omega (arith, q, k)) o;
                past = λ e k. inv.past e (omega (arith, q, k));
              };
        }

    -- a listed pool has no record
    pub finds_not : (e : ℕ) → e < pool_count body → lists (type_of body) (pool_of body e) ≡ true
        → Without ps (fields_of (pool_of body e)) run.start run.stop → Finds body ps run None
    finds_not e k o w =
        record {
          found = sym (all_listed (stands_in (run_records ps run)) body
              ∙ all_kept_out (λ (x : Detail). stands_in (run_records ps run) (fields_of x)) (pool_of body) (lists (type_of body)) (pool_count body) 0 e
              (omega arith) (omega (arith, k)) o
              (stands_not (fields_of (pool_of body e)) w));
          placed = tt;
        }

-- ---- one pool, as the search reads it: t the type, p the pool, b whether it is listed
module _ (body : List ℕ) (ps : List Pool) (run : Run) (d : ℕ) (t : MessageType) (p : Detail) (b : Bool) (et : t ≡ type_of body) (ep : p ≡ pool_of body d)
    (eb : b ≡ lists t p) where
  asked : b ≡ lists (type_of body) (pool_of body d)
  asked = eb ∙ ap (λ (u : MessageType). lists u p) et ∙ ap (lists (type_of body)) ep

  pub sought_not : b ≡ true → d < pool_count body → run.start ≤ run.stop → run.stop ≤ length ps → Without ps (fields_of p) run.start run.stop
      → Finds body ps run None
  sought_not n h k l w =
      finds_not body ps run k l d h (sym asked ∙ n) (λ (j : ℕ) a e. ap (λ (x : Detail). has_at ps (fields_of x) j) (sym ep) ∙ w j a e)

  module _ (at : List ℕ) (inv : Sought body ps run at d) where
    -- as it is read: past the end of the table stands x
    pub sought_more : b ≡ true → d < length at → (j : ℕ) → run.start ≤ j → j < run.stop → j < length ps
        → (x : Pool) → same_fields (live_fields (get_or ps j x)) (fields_of p) ≡ true → Sought body ps run (set at d j) (d + 1)
    sought_more n w j a l h x e =
        filled_more (λ (e : ℕ). lists (type_of body) (pool_of body e)) (λ (e : ℕ). has_at ps (fields_of (pool_of body e))) run.start run.stop at d inv w
        (sym asked ∙ n) j a l
        (ap (λ (y : Detail). has_at ps (fields_of y) j) (sym ep)
        ∙ ap (λ (r : Pool). same_fields (live_fields r) (fields_of p)) (get_or_default ps j no_pool x h) ∙ e)

all_same : {A : Type 0} (p q : A → Bool) → ((x : A) → p x ≡ q x) → (xs : List A) → all p xs ≡ all q xs
all_same p q h [] = refl
all_same p q h (x ∷ xs) = rw (h x, all_same p q h xs)

-- ---- in a sound table: found exactly where each listed pool is live under the target
any_both : {A : Type 0} (u s : A → Bool) (xs : List A) → any (λ (x : A). u x && s x) xs ≡ any s (keep u xs)
any_both u s [] = refl
any_both {A} u s (x ∷ xs) = go (u x) (any_both u s xs)
  where
    go : (b : Bool) → any (λ (y : A). u y && s y) xs ≡ any s (keep u xs)
        → ((b && s x) || any (λ (y : A). u y && s y) xs) ≡ any s (cond b (x ∷ keep u xs) (keep u xs))
    go true h = ap (λ (c : Bool). s x || c) h
    go false h = h

module _ (body : List ℕ) (rs : List Pool) (o : in_order rs ≡ true) where
  abbrev run : Run
  run = run_of (target_of body) rs

  -- in an ordered table the records under the target are those of the run
  pub run_records_law : run_records rs run ≡ keep (under (target_of body)) rs
  run_records_law = sym (run_keep (target_of body) rs o)

  stands_live : (f : Fields) → stands_in (run_records rs run) f ≡ any (λ (r : Pool). under (target_of body) r && same_fields (live_fields r) f) rs
  stands_live f =
      ap (λ (xs : List Pool). stands_in xs f) run_records_law ∙ sym (any_both (under (target_of body)) (λ (r : Pool). same_fields (live_fields r) f) rs)

  pub found_live : (r : Option (List ℕ)) → Finds body rs run r → is_some r ≡ all_live (target_of body) (listed body) rs
  found_live r w =
      w.found ∙ all_same (stands_in (run_records rs run))
      (λ (f : Fields). any (λ (r : Pool). under (target_of body) r && same_fields (live_fields r) f) rs) stands_live (listed body)
