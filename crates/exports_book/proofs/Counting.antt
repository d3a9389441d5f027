-- The rows after a frame call, as they are counted: what was heard raises them, and else they stay.
use Rattle.std.proofs.Common.{◌≡◌, ℕ, List, Bool, true, false, cond, eqb, Some, None, length, refl, ◌∙◌, eq-eqb, ne_eqb}
use Rattle.message_type.specs.declared.MessageType.{MessageType}
use Rattle.tally.specs.declared.Outcome.{Outcome}
use Rattle.tally.specs.Tally.{raised}
use Rattle.book.specs.Messages.{type_of}
use Rattle.exports_numbers.specs.Said.{heard_in}
use Rattle.calls_words.specs.Tally.{raised_by, rows_after}

module _ (body said : List ℕ) (rows : List (List ℕ)) where
  -- rows that are not four stay
  pub not_four_stay : (length rows ≡ 4 → ⊥) → rows ≡ rows_after body said rows
  unfolding rows_after
  not_four_stay h = rw (ne_eqb (length rows) 4 h)

  pub not_heard : heard_in said ≡ None → rows ≡ rows_after body said rows
  unfolding rows_after
  not_heard e = go (eqb (length rows) 4)
    where
      go : (b : Bool) → rows ≡ cond b (raised_by body rows (heard_in said)) rows
      go true = rw e
      go false = refl

  pub was_heard : (o : Outcome) → heard_in said ≡ Some o → (k : MessageType) (before after rows' : List (List ℕ)) → length rows ≡ 4
      → before ≡ rows → k ≡ type_of body → after ≡ raised before k o → rows' ≡ after → rows' ≡ rows_after body said rows
  unfolding rows_after
  was_heard o e k before after rows' l eb ek et er = rw (eq-eqb (length rows) 4 l, e) (er ∙ et ∙ rw (eb, ek))
