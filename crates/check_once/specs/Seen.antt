-- Records by their buckets: the last record of a bucket before a place, counted from 1.
use Rattle.std.specs.Prelude.{ℕ, ◌+◌, ◌≤◌, ◌<◌, List, [], ◌≡◌, get_or}
use Rattle.layout.specs.declared.Detail.{Detail}
use Rattle.book.specs.declared.Pool.{Pool}
use Rattle.book.specs.Records.{Fields, live_fields}
use Rattle.rows_keys.specs.Keys.{bucket_of, bucket_count}

-- what a place past the end of a table is read as
abbrev pub past : Pool
past = record { message = 0; ordinal = 0; trade = 0; matched = record { lot = []; pool = []; original = [] }; current = 0; kind = 0; millions = 0 }

-- the i-th record, and its matched fields
abbrev pub record_at : List Pool → ℕ → Pool
record_at rs i = get_or rs i past

abbrev pub fields_at : List Pool → ℕ → Fields
fields_at rs i = live_fields (record_at rs i)

-- x is one more than the last of the first i records that is in bucket b, or 0 where none is, by some spread numbers
pub record LastIn (spread : List ℕ) (rs : List Pool) (b i x : ℕ) : Type 0 where
  pub before : x ≤ i
  pub inside : (j : ℕ) → x ≡ j + 1 → bucket_of spread (fields_at rs j) ≡ b
  pub latest : (k : ℕ) → k < i → bucket_of spread (fields_at rs k) ≡ b → k < x

-- back has for each of the first i records the last one before it in its bucket
abbrev pub Linked : List ℕ → List Pool → List ℕ → ℕ → Type 0
Linked spread rs back i = (m : ℕ) → m < i → LastIn spread rs (bucket_of spread (fields_at rs m)) m (get_or back m 0)

-- seen has for each bucket the last of the first i records in it
abbrev pub Seen : List ℕ → List Pool → List ℕ → ℕ → Type 0
Seen spread rs seen i = (b : ℕ) → b < bucket_count → LastIn spread rs b i (get_or seen b 0)

-- the records before the i-th that share its bucket, from the last on, by numbers that only the search knows
pub record Chain (rs : List Pool) (back : List ℕ) (i x : ℕ) : Type 0 where
  pub spread : List ℕ
  pub last : LastIn spread rs (bucket_of spread (fields_at rs i)) i x
  pub links : Linked spread rs back i

-- a record of which only the matched fields are given: those of a detail
abbrev pub pool_with : Detail → Pool
pool_with d = record { message = 0; ordinal = 0; trade = 0; matched = d.matched; current = 0; kind = 0; millions = 0 }
