-- What an accepted call has passed: the first check that fails gives the answer, so where the answer is accepted none fails, whatever its key.
use Prim.Native.Nat.{ℕ}
use mathlib.Core.Path.{◌≡◌, refl, sym, ◌∙◌}
use mathlib.Core.List.{List, [], ◌∷◌, map}
use mathlib.Core.Bool.{Bool, true, false, cond, not, ◌&&◌, false≢true}
use lib.Dec.{eqb}
use borrow.Author.Tests.{not-false}
use Rattle.lists.specs.Lists.{any}
use Rattle.layout.specs.Details.{length_fits, details}
use Rattle.terminator.specs.Lots.{formed_for}
use Rattle.terminator.specs.Groups.{groups_formed, groups_balanced}
use Rattle.faces.specs.Faces.{new_pools}
use Rattle.message_type.specs.declared.MessageType.{MessageType}
use Rattle.book.specs.declared.Reason.{Reason}
use Rattle.book.specs.Reasons.{Verdict}
use Rattle.std.specs.Prelude.{Ok, Err}
use Rattle.book.specs.declared.Answer.TheVariants.{Rejected, Dked}
use Rattle.book.specs.Reasons.{is_traders, is_silent_for, refusal, is_accepted, is_silent}
use Rattle.book.specs.Records.{fields_of, distinct}
use Rattle.book.specs.Messages.{type_of, target_of, under}
use Rattle.book.specs.Soundness.{held_in, is_sound}
use Rattle.book.specs.Checks.{Call, live, numbers_spent, sequence_fails, sequence_repeats, type_unknown, trade_id_fails, terms_differ, listed_fine, par_fine, table_fine, Check, fails_in, soundness_checks, sender_checks, terms_checks, moves_checks, checks, first_failing, answer_to, answer_of}
use Rattle.book.proofs.Firsts.{fails_not}
use Rattle.message_type.specs.Questions.{is_cc, is_cx, brings_lots, lists_lots, answers_as_dk}

-- every check has a key of its own
abbrev unlike : List ℕ → Bool
unlike [] = true
unlike (k ∷ ks) = not (any (eqb k) ks) && unlike ks

pub keys_unlike : unlike (map (λ (k : Check). k.key) checks) ≡ true
unfolding soundness_checks sender_checks terms_checks moves_checks
keys_unlike = refl

-- whether the check with a key is for the type and fails
abbrev pub fails_for : ℕ → List Check → Call → Bool
fails_for n [] c = false
fails_for n (k ∷ ks) c = cond (eqb n k.key) (fails_in k c) (fails_for n ks c)

-- a refusal by any reason is not accepted, and as silent as its reason
pub refusal_refuses : (t : MessageType) (r : Reason) → is_accepted (refusal t r) ≡ false
refusal_refuses t r = elim (is_traders r && not (answers_as_dk t)) as (λ b. is_accepted (cond b (Dked r) (Rejected r)) ≡ false) [ true ↦ refl | false ↦ refl ]

pub refusal_silent : (t : MessageType) (r : Reason) → is_silent (refusal t r) ≡ is_silent_for r
refusal_silent t r = elim (is_traders r && not (answers_as_dk t)) as (λ b. is_silent (cond b (Dked r) (Rejected r)) ≡ is_silent_for r) [ true ↦ refl | false ↦ refl ]

pass : (v : Verdict) (c : Call) → is_accepted (answer_to c v) ≡ true → v ≡ Ok tt
pass (Ok u) c e = refl
pass (Err r) c e = absurd (false≢true (sym (refusal_refuses (type_of c.body) r) ∙ e))

-- where no check of a list fails, none with any key does
pub passes : (n : ℕ) (ks : List Check) (c : Call) → first_failing ks c ≡ Ok tt → fails_for n ks c ≡ false
passes n [] c e = refl
passes n (k ∷ ks) c e = go (fails_in k c) e (passes n ks c)
  where
    go : (f : Bool) → cond f (Err k.reason) (first_failing ks c) ≡ Ok tt
        → (first_failing ks c ≡ Ok tt → fails_for n ks c ≡ false)
        → cond (eqb n k.key) f (fails_for n ks c) ≡ false
    go true a below = fails_not a
    go false a below = elim (eqb n k.key) as (λ b. cond b false (fails_for n ks c) ≡ false) [ true ↦ refl | false ↦ below a ]

-- a check that an accepted call passed, by its key
pub passed : (n : ℕ) (c : Call) → is_accepted (answer_of c) ≡ true → fails_for n checks c ≡ false
unfolding answer_of
passed n c e = passes n checks c (pass (first_failing checks c) c e)

-- a check of one type that was passed, for a message of that type
pub for_type : (type fine : Bool) → (type && not fine) ≡ false → type ≡ true → fine ≡ true
for_type true fine e t = not-false fine e
for_type false fine e t = absurd (false≢true t)

and_true : (b : Bool) → (b && true) ≡ false → b ≡ false
and_true true e = e
and_true false e = refl

-- the facts that the promises use, by name
pub record Fine (c : Call) : Type 0 where
  -- 42, 43, 10, 11, 12
  pub sound : is_sound c.book c.table ≡ true
  pub not_spent : numbers_spent c.book.values c.body ≡ false
  pub length_fine : length_fits c.body ≡ true
  pub sequence_fine : sequence_fails c.body ≡ false
  pub not_duplicate : sequence_repeats c.book.values.connection.line c.body ≡ false
  -- 13, 18
  pub not_other : type_unknown c.body ≡ false
  pub not_cancel : is_cx (type_of c.body) ≡ false
  -- 19, 20, 21
  pub formed : brings_lots (type_of c.body) ≡ true → formed_for (is_cc (type_of c.body)) (details c.body) ≡ true
  pub grouped : is_cc (type_of c.body) ≡ true → groups_formed (details c.body) ≡ true
  pub balanced : is_cc (type_of c.body) ≡ true → groups_balanced (details c.body) ≡ true
  -- 30, 31, 32
  pub target_live : lists_lots (type_of c.body) ≡ true → any (under (target_of c.body)) (live c) ≡ true
  pub id_fine : trade_id_fails c.book.values (live c) c.body ≡ false
  pub terms_fine : terms_differ c.book.values (live c) c.body ≡ false
  -- 36, 37, 38, 40
  pub repeated : brings_lots (type_of c.body) ≡ true → distinct (map fields_of (new_pools (details c.body))) ≡ true
  pub listed_exact : lists_lots (type_of c.body) ≡ true → listed_fine c.body (live c) ≡ true
  pub par_enough : brings_lots (type_of c.body) ≡ true → par_fine c.book.values (live c) c.body ≡ true
  pub table_fits : brings_lots (type_of c.body) ≡ true → table_fine c.book (held_in c.book c.table) c.body ≡ true

pub fine : (c : Call) → is_accepted (answer_of c) ≡ true → Fine c
unfolding soundness_checks sender_checks terms_checks moves_checks is_sound
fine c e =
    record {
      sound = not-false (is_sound c.book c.table) (passed 42 c e);
      not_spent = passed 43 c e;
      length_fine = not-false (length_fits c.body) (passed 10 c e);
      sequence_fine = passed 11 c e;
      not_duplicate = passed 12 c e;
      not_other = passed 13 c e;
      not_cancel = and_true (is_cx (type_of c.body)) (passed 18 c e);
      formed = for_type (brings_lots (type_of c.body)) (formed_for (is_cc (type_of c.body)) (details c.body)) (passed 19 c e);
      grouped = for_type (is_cc (type_of c.body)) (groups_formed (details c.body)) (passed 20 c e);
      balanced = for_type (is_cc (type_of c.body)) (groups_balanced (details c.body)) (passed 21 c e);
      target_live = for_type (lists_lots (type_of c.body)) (any (under (target_of c.body)) (live c)) (passed 30 c e);
      id_fine = passed 31 c e;
      terms_fine = passed 32 c e;
      repeated = for_type (brings_lots (type_of c.body)) (distinct (map fields_of (new_pools (details c.body)))) (passed 36 c e);
      listed_exact = for_type (lists_lots (type_of c.body)) (listed_fine c.body (live c)) (passed 37 c e);
      par_enough = for_type (brings_lots (type_of c.body)) (par_fine c.book.values (live c) c.body) (passed 38 c e);
      table_fits = for_type (brings_lots (type_of c.body)) (table_fine c.book (held_in c.book c.table) c.body) (passed 40 c e);
    }
