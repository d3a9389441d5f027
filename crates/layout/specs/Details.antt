-- The pool details of a body, record by record (01, "Columns").
use Rattle.std.specs.Prelude.{ℕ, ◌+◌, ◌-◌, ◌*◌, ◌/◌, List, Bool, cond, ◌&&◌, length, leb, eqb, Option, Some, None}
use Rattle.lists.specs.Lists.{within, part, tab}
use Rattle.layout.specs.declared.Column.{Column}
use Rattle.layout.specs.declared.Detail.{Detail}
use Rattle.layout.specs.declared.Step.{Step}
use Rattle.layout.specs.Columns.{header_width, detail_width, lot_id, pool_number, original_face, current_face, terminator}

-- the most pools of a message
abbrev pub pools_max : ℕ
pools_max = 250

-- how many whole details fit after the header
abbrev pub pools : List ℕ → ℕ
pools body = (length body - header_width) / detail_width

-- 10: the length is 187 + n × D with n from 1 to 250
unfoldable pub length_fits : List ℕ → Bool
length_fits body = eqb (length body) (header_width + pools body * detail_width) && (leb 1 (pools body) && leb (pools body) pools_max)

-- the number of pools, 0 where the length fails 10
unfoldable pub pool_count : List ℕ → ℕ
pool_count body = cond (length_fits body) (pools body) 0

-- the bytes of a column of the detail that stands at a place
abbrev pub detail_bytes : List ℕ → ℕ → Column → List ℕ
detail_bytes body place c = part body (place + c.at) c.width

-- the detail that stands at a place
unfoldable pub detail_at : List ℕ → ℕ → Detail
detail_at body place =
    record {
      matched =
          record {
            lot = detail_bytes body place lot_id;
            pool = detail_bytes body place pool_number;
            original = detail_bytes body place original_face;
          };
      terminator = detail_bytes body place terminator;
      current = detail_bytes body place current_face;
    }

-- what the reader gives at a place: the detail and the next place, or nothing where no whole detail is left
unfoldable pub next_detail : List ℕ → ℕ → Option Step
next_detail body place = cond (within body place detail_width) (Some (record { detail = detail_at body place; next = place + detail_width })) None

-- the place of the i-th detail, counted from 0
abbrev pub place_of : ℕ → ℕ
place_of i = header_width + i * detail_width

-- the details of a body; none where its length fails 10
unfoldable pub details : List ℕ → List Detail
details body = tab (λ (i : ℕ). detail_at body (place_of i)) (pool_count body) 0
