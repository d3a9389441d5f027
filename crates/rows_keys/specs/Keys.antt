-- Matched fields spread over buckets: by their three words, whose halves are each taken by a number of its own.
use Rattle.std.specs.Prelude.{ℕ, ◌+◌, ◌*◌, ◌/◌, ◌%◌, ◌<◌, List, slice_index}
use Rattle.layout.specs.declared.Matched.{Matched}
use Rattle.rows.specs.Words.{words_of}

-- every bucket is below this number
abbrev pub bucket_count : ℕ
bucket_count = 4096

-- every number that fields are spread by is below this one, 2^29
abbrev pub spread_most : ℕ
spread_most = 536870912

abbrev pub Spreads : List ℕ → Type 0
Spreads spread = (i : ℕ) → slice_index spread i < spread_most

-- a half of a word is below this number
abbrev pub half : ℕ
half = 4294967296

-- the halves of a word, each by its spread number
abbrev pub shares_of : List ℕ → ℕ → ℕ → ℕ
shares_of spread i word = slice_index spread i * (word % half) + slice_index spread (i + 1) * (word / half)

-- the bucket of some words, by a prime just over a half
abbrev pub bucket_by : List ℕ → List ℕ → ℕ
bucket_by spread words =
    (shares_of spread 0 (slice_index words 0) + shares_of spread 2 (slice_index words 1) + shares_of spread 4 (slice_index words 2)) % 4294967311 % bucket_count

-- the bucket of matched fields
unfoldable pub bucket_of : List ℕ → Matched → ℕ
bucket_of spread f = bucket_by spread (words_of f)
