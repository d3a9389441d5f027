-- What a body says to the book (01, "Columns" and "The book"): its type, sequence, target and trade ID, the pools that it lists and the lots that it brings.
use Rattle.std.specs.Prelude.{Option}
use Rattle.std.specs.Prelude.{ℕ, List, [], ◌∷◌, map, Bool, cond, eqb}
use Rattle.lists.specs.Lists.{same, keep}
use Rattle.fields.specs.Fields.{holds}
use Rattle.layout.specs.declared.Detail.{Detail}
use Rattle.layout.specs.Columns as columns
use Rattle.layout.specs.Columns.{bytes_in, number_in}
use Rattle.layout.specs.Details.{details}
use Rattle.terminator.specs.Terminators.{is_canceled}
use Rattle.terminator.specs.Lots.{Lot}
use Rattle.faces.specs.Faces.{new_lots}
use Rattle.message_type.specs.declared.MessageType.{MessageType}
use Rattle.message_type.specs.declared.MessageType.TheVariants.{On, Cc, Dk, Cx, Other}
use Rattle.message_type.specs.Questions.{brings_lots, lists_lots, lists_all}
use Rattle.trade_id.specs.declared.TradeId.{TradeId}
use Rattle.trade_id.specs.SpecialInstructions.{trade_id_of}
use Rattle.book.specs.declared.Pool.{Pool}
use Rattle.book.specs.Records.{Fields, fields_of}

-- "ON", "CC", "DK" and "CX"; anything else is another type
abbrev pub on : List ℕ
on = 79 ∷ 78 ∷ []

abbrev pub cc : List ℕ
cc = 67 ∷ 67 ∷ []

abbrev pub dk : List ℕ
dk = 68 ∷ 75 ∷ []

abbrev pub cx : List ℕ
cx = 67 ∷ 88 ∷ []

abbrev pub is_named : List ℕ → List ℕ → Bool
is_named body name = same (bytes_in body columns.message_type) name

unfoldable pub type_of : List ℕ → MessageType
type_of body =
    cond (is_named body on) On
    (cond (is_named body cc) Cc
    (cond (is_named body dk) Dk
    (cond (is_named body cx) Cx Other)))

-- "FTBA" and "FSTI", the two contras
abbrev pub ftba : List ℕ
ftba = 70 ∷ 84 ∷ 66 ∷ 65 ∷ []

abbrev pub fsti : List ℕ
fsti = 70 ∷ 83 ∷ 84 ∷ 73 ∷ []

abbrev pub is_stipulated : List ℕ → Bool
is_stipulated body = same (bytes_in body columns.contra) fsti

-- the trade ID in special instructions, and the bytes of one that is whole
abbrev pub id_in : List ℕ → TradeId
id_in body = trade_id_of (bytes_in body columns.special)

-- the target: eleven digits, or no message at all
abbrev pub target_of : List ℕ → Option ℕ
target_of body = number_in body columns.target

abbrev pub under : Option ℕ → Pool → Bool
under tgt r = holds (eqb r.message) tgt

-- the pools that a message takes off: all of a DK's, a CC's canceled ones
abbrev pub listed_of : MessageType → List Detail → List Detail
listed_of t ds = cond (lists_lots t) (cond (lists_all t) ds (keep is_canceled ds)) []

unfoldable pub listed : List ℕ → List Fields
listed body = map fields_of (listed_of (type_of body) (details body))

-- the lots that a message brings: all of an ON's, a CC's replacements
abbrev pub brought_by : MessageType → List Detail → List Lot
brought_by t ds = cond (brings_lots t) (new_lots ds) []

unfoldable pub brought : List ℕ → List Lot
brought body = brought_by (type_of body) (details body)
