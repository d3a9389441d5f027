-- Checks one part after another: a part whose check fails gives its reason, and after one that passes the others decide.
use Rattle.std.proofs.Common.{◌≡◌, ◌++◌, Ok, Err, refl, sym, ◌∙◌, List}
use Rattle.book.specs.declared.Reason.{Reason}
use Rattle.book.specs.Reasons.{Verdict}
use Rattle.book.specs.Checks.{Call, Check, first_failing, sender_checks}
use Rattle.book.proofs.Firsts.{first_late, first_early}
use Rattle.check_sender.specs.Parts.{line_checks, common_checks, cc_checks, dk_checks}

module _ (x : Call) where
  pub parted : first_failing (line_checks ++ (common_checks ++ (cc_checks ++ dk_checks))) x ≡ first_failing sender_checks x
  unfolding sender_checks
  parted = refl

  pub part_stops : (ks js : List Check) (q : Reason) (v w : Verdict) → v ≡ first_failing ks x → v ≡ Err q → w ≡ Err q → w ≡ first_failing (ks ++ js) x
  part_stops ks js q v w e f g = g ∙ sym (first_early x ks js q (sym e ∙ f))

  pub part_goes : (ks js : List Check) (v w : Verdict) → v ≡ first_failing ks x → v ≡ Ok tt → w ≡ first_failing js x → w ≡ first_failing (ks ++ js) x
  part_goes ks js v w e f g = g ∙ sym (first_late x ks js (sym e ∙ f))
