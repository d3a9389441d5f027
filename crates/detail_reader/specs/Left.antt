-- What a detail reader has still to give.
use Rattle.std.specs.Prelude.{◌≡◌, ℕ, zero, suc, ◌+◌, ◌-◌, ◌/◌, Option, List, [], ◌∷◌, length}
use Rattle.std.specs.Option.{option_map_or}
use Rattle.std.specs.Iterator.{YieldsFirst}
use Rattle.layout.specs.declared.Detail.{Detail}
use Rattle.layout.specs.declared.Step.{Step}
use Rattle.layout.specs.Columns.{detail_width}
use Rattle.layout.specs.Details.{next_detail, detail_at}
use Rattle.detail_reader.specs.declared.Details.{Details}

-- so many details, one behind another, from a place on
abbrev pub details_at : List ℕ → ℕ → ℕ → List Detail
details_at body place zero = []
details_at body place (suc n) = detail_at body place ∷ details_at body (place + detail_width) n

-- all that stand whole from a place on
unfoldable pub details_from : List ℕ → ℕ → List Detail
details_from body place = details_at body place ((length body - place) / detail_width)

-- those from the reader's place on
abbrev pub details_left : Details → List Detail
details_left d = details_from d.body.now d.at

-- the place after the detail at a place, or that place itself where no whole detail is left
abbrev pub place_after : List ℕ → ℕ → ℕ
place_after body place = option_map_or (λ (step : Step). step.next) (next_detail body place) place

-- a call gives the first of them, and leaves the others: the reader stands in the same body, behind the detail that it gave
abbrev pub gives : Details → Option Detail → Details → Type 0
gives s r t = YieldsFirst details_left s r t × (t.body ≡ s.body) × (t.at ≡ place_after s.body.now s.at)
